-- The authorizations that changes at a holder would exchange.
use Rattle.desk.proofs.Vocabulary.{◌≡◌, ℕ, Bool, true, false, not, ◌⊎◌, inl, inr, List, [], ◌∷◌, map, Err, refl, sym, ap, ◌∙◌, subst, length, Contains, arith, cases_Bool, false≢true, validation_state, Route, HypotheticalIsLegal, DifferAtMostAt, HypotheticalKeepsOthers, state_of, Validity, IsHypotheticalAnswer, IsVrpOn, History, HypotheticalHistory, not_kept, AllRows, HasRows, IsActive, IsLegal, Auth, Charter, Proposed, Refusal, Memory, union, Ghosts, OnCleanStore, StoreView, refused_with, AnswersWhatIf, EachHeld, AreStatesOver, IsDayOfHeld, WouldExchange, AreExchanged, auths_of_rows, KeptDay, day_of_history, in_filter, none_in_nil}
use Rattle.registry_laws.specs.SharedVrps.{NoSharedVrp}
use Rattle.payload.specs.VrpSet as set
use Rattle.registry.specs.declared.rule.Refusal.TheVariants.{Denied}
use Rattle.policy.specs.PartAnswer.{ExchangesAuths}
use Rattle.desk.proofs.ExportLemmas.{states_on}
use Rattle.daily_vrps.proofs.Exchanges.{exchanged_day}
use Rattle.daily_vrps.proofs.States.{states_such}
use Rattle.daily_vrps.specs.States.{states_after, states_now, HaveStates}
use Rattle.daily_vrps.proofs.Turns.{active_rows, has_active, in_force_then, is_active, EndsAndBegins}

-- ---- the exchange that changes would make

-- changes of which one would be denied are answered with it
pub hypothetical_refused : (charter : Charter) (history : History) (holder : List ℕ) (day : ℕ) (caller : List ℕ) (changes : List Proposed) (refusal : Refusal)
    → IsHypotheticalAnswer charter history holder day caller changes (Err refusal) → (routes : List Route)
    → AnswersWhatIf charter history day caller holder changes routes (refused_with refusal)
hypothetical_refused charter history holder day caller changes (Denied rule row) answer routes = answer
hypothetical_refused charter history holder day caller changes Memory answer routes = tt

-- no change exchanges nothing
pub exchanges_nothing : (charter : Charter) (history : History) (day : ℕ) (caller holder : List ℕ) (changes : List Proposed)
    → length changes ≡ 0 → WouldExchange charter history day caller holder changes [] []
exchanges_nothing charter history day caller holder (change ∷ changes) none = absurd (omega (arith, none))
exchanges_nothing charter history day caller holder [] none = (
  history,
  refl,
  record {
    vrps = λ v. (
      λ given. inl (given, λ giving. none_in_nil giving.0 giving.1),
      λ given. elim given [ inl kept ↦ kept.0 | inr giving ↦ absurd (none_in_nil giving.0 giving.1) ],
    );
    exceptions = refl;
  },
)

-- ---- the exchange that a what-if makes

-- the authorizations of a part end, and those that the changes leave of it begin
part_turns : (charter : Charter) (before after : History) (holder : List ℕ) (all : AllRows) → IsLegal charter before → IsLegal charter after → HasRows all before
    → DifferAtMostAt holder before after → (ended begun : List Auth) → ExchangesAuths before after holder ended begun
    → EndsAndBegins before after holder ended begun
part_turns charter before after holder all legal legal_after has differ ended begun exchanges = record {
  were = λ x gone. was x (ends x gone).0;
  own = λ x. (goes x, comes x);
  others = λ h x different.
      let rows = all.of_holder h in
      let auths = auths_of_rows rows in
      let were = active_rows charter before h rows legal (has.holders h) in
      let are = active_rows charter after h rows legal_after ((differ.others h rows different).0 (has.holders h)) in (
        λ active. is_active before h auths were x (has_active after h auths are x active),
        λ active. is_active after h auths are x (has_active before h auths were x active),
      );
}
  where
    keep : Auth → Bool
    keep = exchanges.keep

    earlier : List Auth
    earlier = exchanges.active_before

    later : List Auth
    later = exchanges.active_after

    was : (x : Auth) → Contains earlier x → IsActive before holder x
    was = is_active before holder earlier exchanges.are_before

    is : (x : Auth) → Contains later x → IsActive after holder x
    is = is_active after holder later exchanges.are_after

    ends : (x : Auth) → Contains ended x → Contains earlier x × (keep x ≡ true)
    ends x gone = (in_filter keep earlier x).0 (subst (λ (ys : List Auth). Contains ys x) exchanges.kept_before gone)

    begins : (x : Auth) → Contains later x → keep x ≡ true → Contains begun x
    begins x there kept = subst (λ (ys : List Auth). Contains ys x) (sym exchanges.kept_after) ((in_filter keep later x).1 (there, kept))

    stays : (xs ys : List Auth) → not_kept keep xs ≡ not_kept keep ys → (x : Auth) → Contains xs x → keep x ≡ false → Contains ys x
    stays xs ys same x there other =
        let beside = λ (y : Auth). not (keep y) in
        ((in_filter beside ys x).0 (subst (λ (zs : List Auth). Contains zs x) same ((in_filter beside xs x).1 (there, ap not other)))).0

    goes : (x : Auth) → IsActive after holder x → (IsActive before holder x × ¬ Contains ended x) ⊎ Contains begun x
    goes x active =
        let there = has_active after holder later exchanges.are_after x active in
        elim (cases_Bool (keep x)) [
          | inl kept ↦ inr (begins x there kept)
          | inr other ↦ inl (was x (stays later earlier exchanges.others x there other), λ gone. false≢true (sym other ∙ (ends x gone).1))
        ]

    comes : (x : Auth) → (IsActive before holder x × ¬ Contains ended x) ⊎ Contains begun x → IsActive after holder x
    comes x (inl left) =
        let there = has_active before holder earlier exchanges.are_before x left.0 in
        elim (cases_Bool (keep x)) [
          | inl kept ↦ absurd (left.1 (subst (λ (ys : List Auth). Contains ys x) (sym exchanges.kept_before) ((in_filter keep earlier x).1 (there, kept))))
          | inr other ↦ is x (stays earlier later (sym exchanges.others) x there other)
        ]
    comes x (inr new) = is x ((in_filter keep later x).0 (subst (λ (ys : List Auth). Contains ys x) exchanges.kept_after new)).0

-- the changes exchange the authorizations of a part of the holder's rows for those that they would leave of it
pub would_exchange : NoSharedVrp → HypotheticalIsLegal → HypotheticalKeepsOthers → (charter : Charter) (history after : History) (day : ℕ) (caller holder : List ℕ) (changes : List Proposed)
    (all : AllRows) → IsLegal charter history → HasRows all history → (ended begun : List Auth)
    → HypotheticalHistory charter day caller holder history changes after → ExchangesAuths history after holder ended begun
    → WouldExchange charter history day caller holder changes ended begun
would_exchange shared legally others_keep charter history after day caller holder changes all legal has ended begun would exchanges =
    let differ = others_keep charter day caller holder history changes after legal would in
    let legal_after = legally charter day caller holder history changes after legal would in
    let turns = part_turns charter history after holder all legal legal_after has differ ended begun exchanges in (
      after,
      would,
      record {
        vrps = in_force_then shared charter history all legal has after holder ended begun turns day;
        exceptions = ap union (sym differ.files);
      },
    )

-- ---- a day that is kept

-- the states over what is kept are those on the history, and those over an exchange of it are those on what it leaves
pub judged_over : {S : Type 0} (g : Ghosts S) (old new : StoreView S) (k : KeptDay) (day : ℕ) (ended begun : List Auth) (routes : List Route) (states : List (Validity × Validity))
    → k.day ≡ day → OnCleanStore g new (IsDayOfHeld g old k)
    → map state_of (states_now states) ≡ map (λ (r : Route). validation_state (set.items k.vrps) r) routes
    → HaveStates (AreExchanged k ended begun) routes (states_after states)
    → EachHeld g old new (λ history. AreStatesOver history day ended begun routes states)
judged_over g old new k day ended begun routes states on is now later clean history legal held =
    let of = is clean history legal held in (
      states_on history day (set.items k.vrps) (λ v. rw on at (day_of_history old.charter held.0 history legal held.1 k of v)) routes (states_now states) now,
      λ after exchanges.
          states_such (AreExchanged k ended begun) (IsVrpOn after day)
          (exchanged_day old.charter held.0 history after legal held.1 day ended begun k on of exchanges) routes (states_after states) later,
    )
