-- What an accepted command makes of the day that is kept, over the histories before it and after it.
use Rattle.desk.proofs.Vocabulary.{◌≡◌, ℕ, ◌+◌, ◌<◌, List, [], ◌∷◌, ◌++◌, Option, length, get_or, take, refl, subst, Vec, HasCleanDisk, Ghosts, GrowthFits, GrowthIsLegal, IsAccepted, HasEditsOf, History, changed_rows, EntryFits, IsLegal, Auth, Change, Holders, Exceptions, Command, GivenOnce, connection_state, HoldsAfter, IsRead, EachHeldRows, StoreView, AnswersRequest, IsAnswered, StaysOpen, DayAfter, DropsForGainAll, DropsForGain, charter_of, HoldsHistory, IsOnCleanDisk, HoldsRowsAndDay, day_of, Charter, Asked, AreAnswered, taken_more, Desk, Reply, AnswersAccepted, AreEnoughFor, FollowsDay}
use Rattle.registry.specs.declared.asked.Request.TheVariants.{Command as CommandRequest}
use Rattle.desk.proofs.RunLemmas.{Runs-append}
use Rattle.desk.proofs.CrashLemmas.{accepted_answer}
use Rattle.desk.proofs.DeskLemmas.{rows_carried}
use Rattle.desk.proofs.FollowLemmas.{drops_for_gain, drops_for_files}
use Rattle.desk.proofs.KeptLemmas.{exceptions_held, kept_of}

-- one request more
drop_more : (charter : Charter) (before middle after : History) (asked : List Asked) (replies : List Reply) (a : Asked) (reply : Reply) (old mid new : Option ℕ)
    → DropsForGainAll charter before asked replies middle old mid → AnswersRequest charter middle a.day a.caller a.request reply after
    → DayAfter a.day a.request reply mid new → DropsForGain a.request middle after mid new
    → DropsForGainAll charter before (asked ++ a ∷ []) (replies ++ reply ∷ []) after old new
drop_more charter before middle after [] [] a reply old mid new all answers day drops = (
  after,
  new,
  subst (λ (h : History). AnswersRequest charter h a.day a.caller a.request reply after) all.0 answers,
  subst (λ (d : Option ℕ). DayAfter a.day a.request reply d new) all.1 day,
  subst (λ (d : Option ℕ). DropsForGain a.request before after d new) all.1 (subst (λ (h : History). DropsForGain a.request h after mid new) all.0 drops),
  (refl, refl),
)
drop_more charter before middle after [] (r ∷ replies) a reply old mid new all answers day drops = absurd all
drop_more charter before middle after (x ∷ asked) [] a reply old mid new all answers day drops = absurd all
drop_more charter before middle after (x ∷ asked) (r ∷ replies) a reply old mid new all answers day drops =
    (all.0, all.1, all.2, all.3, all.4, drop_more charter all.0 middle after asked replies a reply all.1 mid new all.5 answers day drops)

module _ {S : Type 0} (g : Ghosts S) where
  -- the command was accepted and its change was made
  pub accepted_drops : GrowthIsLegal → GrowthFits → (history : History) (day : ℕ) (caller : List ℕ) (command : Command) (change : Change) (reply : Reply) (old : Desk S) (mid : StoreView S) (new : Desk S)
      (one other : Option (Vec Auth)) → EntryFits (record { day = day; caller = caller; command = command }) → IsRead g old.store mid → HasCleanDisk (connection_state g mid)
      → IsLegal (charter_of old) history → HoldsHistory g old history
      → IsAccepted (charter_of old) history day caller command change → AnswersAccepted command change reply
      → HoldsAfter g mid new.store (changed_rows change) → IsOnCleanDisk g new → StaysOpen g new → HoldsRowsAndDay g old.store old.kept
      → EachHeldRows g mid GivenOnce → EachHeldRows g old.store (AreEnoughFor change one other) → HasEditsOf command change
      → FollowsDay change one other old.kept new.kept
      → (is : IsAnswered g (charter_of old) history day caller (CommandRequest command) reply new)
      × DropsForGain (CommandRequest command) history is.after (day_of old.kept) (day_of new.kept)
  accepted_drops grown fits history day caller command (Holders first second) reply old mid new one other values read before legal was accepted answers applied clean opened keeps once enough edits follows =
      let change = Holders first second in
      let held = read.rows before was.0 was.2 in
      let is = accepted_answer g grown fits history day caller command change reply old mid new values legal (was.0, was.1, held) accepted answers applied clean opened in (
        is,
        drops_for_gain command change one other (charter_of old) was.0 history accepted.after old.kept new.kept is.legal
            (rows_carried (charter_of old) history day caller command change was.0 accepted was.1) (once was.0 held) (enough was.0 was.2) edits
            (kept_of g old history keeps (read.clean before) legal was)
            (exceptions_held g old.store mid new.store old.kept first second was.0 keeps read before clean (opened clean) applied held) follows,
      )
  accepted_drops grown fits history day caller command (Exceptions files) reply old mid new one other values read before legal was accepted answers applied clean opened keeps once enough edits follows = (
    accepted_answer g grown fits history day caller command (Exceptions files) reply old mid new values legal (was.0, was.1, read.rows before was.0 was.2) accepted answers applied clean opened,
    drops_for_files command files history accepted.after (day_of old.kept) (day_of new.kept) edits,
  )

  -- the request at an index was answered after those before it
  pub drop_next : (charter here : Charter) (history : History) (asked : List Asked) (index : ℕ) (a : Asked) (replies grown : List Reply) (reply : Reply) (start old new : Desk S)
      → here ≡ charter → index < length asked → a ≡ get_or asked index a → grown ≡ replies ++ reply ∷ []
      → (are : AreAnswered g charter history (take index asked) replies old) × DropsForGainAll charter history (take index asked) replies are.after (day_of start.kept) (day_of old.kept)
      → DayAfter a.day a.request reply (day_of old.kept) (day_of new.kept)
      → ((h : History) → IsLegal here h → HoldsHistory g old h
      → (is : IsAnswered g here h a.day a.caller a.request reply new) × DropsForGain a.request h is.after (day_of old.kept) (day_of new.kept))
      → (are : AreAnswered g charter history (take (index + 1) asked) grown new)
      × DropsForGainAll charter history (take (index + 1) asked) grown are.after (day_of start.kept) (day_of new.kept)
  drop_next charter here history asked index a replies grown reply start old new same below at pushed so_far day keeps =
      let were = so_far.0 in
      let one = subst (λ (k : Charter). IsLegal k were.after → (is : IsAnswered g k were.after a.day a.caller a.request reply new)
      × DropsForGain a.request were.after is.after (day_of old.kept) (day_of new.kept)) same
      (λ legal. keeps were.after legal were.rows_after) were.legal in
      let longer : take (index + 1) asked ≡ take index asked ++ a ∷ [] = taken_more asked index a below at in
      rw (pushed, longer) (
        record {
          after = one.0.after;
          legal = one.0.legal;
          values = λ fit. one.0.values (were.values fit);
          runs = Runs-append charter history were.after one.0.after (take index asked) replies a reply were.runs one.0.answers;
          rows_after = one.0.rows_after;
        },
        drop_more charter history were.after one.0.after (take index asked) replies a reply (day_of start.kept) (day_of old.kept) (day_of new.kept) so_far.1 one.0.answers day one.1,
      )
