-- The changes of a what-if, one by one, on a part of the rows.
use Rattle.policy.proofs.Vocabulary.{◌≡◌, ℕ, zero, suc, ◌+◌, ◌<◌, Bool, false, List, [], ◌∷◌, length, take, get_or, Contains, inl, Some, Err, refl, sym, ap, ◌∙◌, subst, arith, false≢true, Contains-get_or, Charter, Auth, Proposed, Create, Alter, Refusal, Denied, Memory, Entry, History, is_registered, has_access, Rows, RowsIfAny, grant_terms, IsLegal, Verdict, IsHypotheticalAnswer, IsPartFor, not_kept, IsRefusedBy, refusal_at, IsHypotheticalChange, has_nothing}
use Rattle.registry.specs.declared.command.Proposed.TheVariants.{Withdraw}
use Rattle.registry.specs.declared.rule.Rule.TheVariants.{Grant as GrantRule}
use Rattle.registry.specs.HypotheticalHistory.{hypothetical_command, JudgesChange, HypotheticalHistory, IsChangeDenied}
use Rattle.policy.proofs.Growth.{Grows-more, Grows-denied}

-- The changes up to a place are done on a part of the rows of a history, which leaves a part of those of the history with
-- them; what the part does not keep stayed, and where the part is the whole, it stayed so.
pub record SoFar (charter : Charter) (history : History) (h : List ℕ) (day : ℕ) (caller : List ℕ) (changes : List Proposed) (place left_out : ℕ)
    (keep : Auth → Bool) (whole start left : Rows) : Type 0 where
  pub after : History
  pub grows : HypotheticalHistory charter day caller h history (take place changes) after
  pub legal : IsLegal charter after
  pub rows : Rows
  pub rows_are : RowsIfAny after h (Some rows)
  pub more : ℕ
  pub places : place + more ≡ length changes
  pub is_part : IsPartFor changes more left_out keep rows left
  pub others : not_kept keep rows.auths ≡ not_kept keep whole.auths
  pub alike : start ≡ whole → left ≡ rows

pub so_far-start : (charter : Charter) (history : History) (h : List ℕ) (day : ℕ) (caller : List ℕ) (changes : List Proposed) (left_out : ℕ)
    (keep : Auth → Bool) (whole start : Rows) → IsLegal charter history → RowsIfAny history h (Some whole)
    → IsPartFor changes (length changes) left_out keep whole start
    → SoFar charter history h day caller changes 0 left_out keep whole start start
so_far-start charter history h day caller changes left_out keep whole start legal are part = record {
  after = history;
  grows = refl;
  legal = legal;
  rows = whole;
  rows_are = are;
  more = length changes;
  places = omega arith;
  is_part = part;
  others = refl;
  alike = λ same. same;
}

-- at a place, the change is one of all, and what is left is a part for it and for those that come after it
at_place : {A : Type 0} (changes : List Proposed) (change : Proposed) (left_out : ℕ) (keep : Auth → Bool) (rows left : Rows) (place more : ℕ)
    → place < length changes → change ≡ get_or changes place change → place + more ≡ length changes → IsPartFor changes more left_out keep rows left
    → (Contains changes change → (later : ℕ) → place + 1 + later ≡ length changes → IsPartFor changes (later + 1) left_out keep rows left → A) → A
at_place changes change left_out keep rows left place zero within here places part judged = absurd (omega (arith, within, places))
at_place changes change left_out keep rows left place (suc more) within here places part judged =
    judged (subst (Contains changes) (sym here) (Contains-get_or changes place change within)) more (omega (arith, places))
    (subst (λ (k : ℕ). IsPartFor changes k left_out keep rows left) (omega arith) part)

module _ (charter : Charter) (history : History) (h : List ℕ) (day : ℕ) (caller : List ℕ) (changes : List Proposed) (i left_out : ℕ) (change : Proposed)
    (keep : Auth → Bool) (whole start before : Rows) (so_far : SoFar charter history h day caller changes i left_out keep whole start before)
    (within : i < length changes) (here : change ≡ get_or changes i change) where
  pub so_far-more : (after : Rows)
      → (Contains changes change → (more : ℕ) → IsPartFor changes (more + 1) left_out keep so_far.rows before
      → IsHypotheticalChange charter so_far.after h day caller changes more left_out change keep so_far.rows before after)
      → SoFar charter history h day caller changes (i + 1) left_out keep whole start after
  so_far-more after done =
      at_place changes change left_out keep so_far.rows before i so_far.more within here so_far.places so_far.is_part (λ has more places part.
      let one = done has more part in
      let e : Entry = record { day = day; caller = caller; command = hypothetical_command h change } in record {
        after = e ∷ so_far.after;
        grows = Grows-more (JudgesChange charter day caller h) day caller history changes i change so_far.after (Some (hypothetical_command h change)) within here so_far.grows (refl, one.verdict);
        legal = (one.verdict, so_far.legal);
        rows = one.rows;
        rows_are = one.rows_are;
        more = more;
        places = places;
        is_part = one.is_part;
        others = one.others ∙ so_far.others;
        alike = λ same. one.alike (so_far.alike same);
      })

  -- a change is denied, or memory was refused
  pub so_far-denied : (place : ℕ) → place ≡ i → (refusal : Refusal)
      → (Contains changes change → (more : ℕ) → IsPartFor changes (more + 1) left_out keep so_far.rows before
      → IsRefusedBy (λ rule. Verdict charter so_far.after day caller (hypothetical_command h change) (Some rule)) refusal)
      → IsHypotheticalAnswer charter history h day caller changes (Err (refusal_at (place + 1) refusal))
  so_far-denied place same (Denied rule _) denied =
      let of = at_place changes change left_out keep so_far.rows before i so_far.more within here so_far.places so_far.is_part (λ has more places part. denied has more part) in
      subst (λ (k : ℕ). IsChangeDenied charter day caller h history changes rule (k + 1)) (sym same)
      (Grows-denied (JudgesChange charter day caller h) day caller history changes i change so_far.after rule within here so_far.grows of)
  so_far-denied place same Memory denied = tt

-- without the access no change is done
denied-without_access : (charter : Charter) (history : History) (h : List ℕ) (day : ℕ) (caller : List ℕ) (change : Proposed)
    → has_access (grant_terms history h) day caller Alter ≡ false → Verdict charter history day caller (hypothetical_command h change) (Some GrantRule)
denied-without_access charter history h day caller (Create t) none = inl (λ has. false≢true (sym none ∙ has), refl)
denied-without_access charter history h day caller (Withdraw n) none = inl (λ has. false≢true (sym none ∙ has), refl)

-- a holder that is not registered has no grants, and the first change is denied
pub denied-unregistered : (charter : Charter) (history : History) (h : List ℕ) (day : ℕ) (caller : List ℕ) (changes : List Proposed)
    → 0 < length changes → IsLegal charter history → is_registered history h ≡ false → IsChangeDenied charter day caller h history changes GrantRule 1
denied-unregistered charter history h day caller [] some legal missing = absurd (omega arith)
denied-unregistered charter history h day caller (change ∷ rest) some legal missing =
    let none = (has_nothing charter history h legal missing).grants in
    let no_access : has_access (grant_terms history h) day caller Alter ≡ false = ap (λ gs. has_access gs day caller Alter) none in
    inl (denied-without_access charter history h day caller change no_access, refl)
