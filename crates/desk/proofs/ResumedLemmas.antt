-- What a desk holds that was opened over what a stop left.
use Rattle.desk.proofs.Vocabulary.{All, ℕ, inl, inr, List, [], ◌∷◌, refl, subst, sym, All-cons, All-contains, All-head, All-nil, All-tail, State, IsLive, Ghosts, Trees, IsCharter, Charter, GrowthFits, GrowthIsLegal, History, AskedFits, HistoryFits, RequestFits, IsLegal, Asked, Request, IsOpened, AnswersRequest, pending_after, pending_after_all, HasNonePending, HoldDesk, LeavesAtMost, MayBeLeft, store_of, ContinuesHistories, Represents, Desk, Reply, Done, Imported, Denied, Unavailable}
use Rattle.sqlite.specs.Effect.{IsDatabase}
use Rattle.registry.specs.declared.asked.Request.TheVariants.{Command as CommandRequest, Query as QueryRequest}
use Rattle.store_open.specs.Opening.{IsOfAnotherSchema}
use Rattle.store_open.specs.Laws.{DeskTreesHaveTables, OldDeskTreesHaveSchema}
use Rattle.store.specs.Laws.{HistoriesRead, OldHistoriesRead, OldTablesThatReadAreOurs, TablesThatReadAreOurs}
use Rattle.desk.specs.Resumed.{FindsLeft, HoldHistory, HoldOldDesk, IsAtMostOneMore, MayBeFound, MayBeLeftInEitherSchema, PendingFits, ResumesHistories}
use Rattle.desk.proofs.HolderLemmas.{legal_after}

-- what a crash of a desk may leave may be found
pub left_found : (charter : Charter) (history : History) (pending : List Asked) (trees : Trees)
    → MayBeLeft charter history pending trees → MayBeFound charter history pending trees
left_found charter history pending trees (inl held) = (history, inl refl, (held.0, held.1, inl held.2))
left_found charter history pending trees (inr (asked, after, among, accepted, held)) =
    (after, inr (asked, among, accepted), (held.0, held.1, inl held.2))

-- a legal history is so with one of the pending requests
legal_more : GrowthIsLegal → (charter : Charter) (before : History) (pending : List Asked) (after : History) → IsLegal charter before
    → IsAtMostOneMore charter before pending after → IsLegal charter after
legal_more grown charter before pending after legal (inl same) = subst (λ (h : History). IsLegal charter h) (sym same) legal
legal_more grown charter before pending after legal (inr (asked, among, accepted)) =
    legal_after grown charter before asked.day asked.caller asked.request accepted.0 after legal accepted.2

-- ---- values

-- an answered request leaves values of their types
fits_after : GrowthFits → (charter : Charter) (before : History) (day : ℕ) (caller : List ℕ) (request : Request) (reply : Reply) (after : History)
    → HistoryFits before → RequestFits day caller request → AnswersRequest charter before day caller request reply after → HistoryFits after
fits_after grown charter before day caller (CommandRequest command) (Done number) after fits asked answers = grown charter before day caller command after asked fits answers.1
fits_after grown charter before day caller (CommandRequest command) (Imported made present) after fits asked answers = grown charter before day caller command after asked fits answers.0
fits_after grown charter before day caller (CommandRequest command) (Denied rule row) after fits asked answers = subst HistoryFits (sym answers.1) fits
fits_after grown charter before day caller (CommandRequest command) Unavailable after fits asked answers = subst HistoryFits (sym answers) fits
fits_after grown charter before day caller (CommandRequest command) reply after fits asked answers = absurd answers
fits_after grown charter before day caller (QueryRequest query) reply after fits asked answers = subst HistoryFits (sym answers.1) fits

-- so do a history and one of the pending requests
pub pending_fits : GrowthFits → PendingFits
pending_fits grown charter before pending after fits each (inl same) = subst HistoryFits (sym same) fits
pending_fits grown charter before pending after fits each (inr (asked, among, accepted)) =
    fits_after grown charter before asked.day asked.caller asked.request accepted.0 after fits
    (All-contains AskedFits pending asked each among) accepted.2

-- what is pending after a request fits where that request and what was pending did
pub pending_after_fits : (asked : Asked) (reply : Reply) (pending : List Asked) → AskedFits asked → All AskedFits pending
    → All AskedFits (pending_after asked reply pending)
pending_after_fits asked (Done number) pending one each = All-nil AskedFits
pending_after_fits asked (Imported made present) pending one each = All-nil AskedFits
pending_after_fits asked Unavailable pending one each = All-cons AskedFits asked pending one each
pending_after_fits asked other pending one each = each

-- and after some requests
pub pending_after_all_fits : (asked : List Asked) (replies : List Reply) (pending : List Asked) → All AskedFits asked → All AskedFits pending
    → All AskedFits (pending_after_all asked replies pending)
pending_after_all_fits (asked ∷ more) (reply ∷ replies) pending all each =
    pending_after_all_fits more replies (pending_after asked reply pending) (All-tail AskedFits asked more all)
    (pending_after_fits asked reply pending (All-head AskedFits asked more all) each)
pending_after_all_fits [] replies pending all each = each
pending_after_all_fits (asked ∷ more) [] pending all each = each

-- ---- histories

module _ {S : Type 0} (g : Ghosts S) where
  -- what an opened desk holds is all that a crash leaves
  pub opened_none_pending : (found : State) (desk : Desk S) → IsOpened g found (store_of desk) → HasNonePending g desk
  opened_none_pending found desk opened history held trees leaves =
      inl (held.0, held.1, opened.left held.0 held.2 trees leaves, opened.listed trees leaves)

  -- where the tables hold a legal history, the desk goes on with it alone
  continued : (found : State) (desk : Desk S) → ContinuesHistories g found desk → HasNonePending g desk
      → (charter : Charter) (history : History) → IsCharter charter → IsLegal charter history → HoldHistory charter history found.now.trees
      → Represents g charter desk history × LeavesAtMost g charter desk history []
  continued found desk continues alone charter history is legal held =
      let now = continues charter history held.0 is legal held.1 held.2 in
      (now, subst (λ (k : Charter). LeavesAtMost g k desk history []) now.chartered (alone history now.rows))

  -- the tables that were found hold the history before, or that with a pending request
  pub resumes : GrowthIsLegal → (found : State) (desk : Desk S) → ContinuesHistories g found desk → HasNonePending g desk
      → ResumesHistories g found desk
  resumes grown found desk continues alone charter before pending is legal (after, more, held) =
      let now = continued found desk continues alone charter after is (legal_more grown charter before pending after legal more) held in
      (after, more, now.0, now.1)

-- what may be left of a legal history is a database of this schema, or of schema 1
module _ (listed : DeskTreesHaveTables) (ours : TablesThatReadAreOurs) (reads : HistoriesRead)
    (old_listed : OldDeskTreesHaveSchema) (old_ours : OldTablesThatReadAreOurs) (old_reads : OldHistoriesRead) (grown : GrowthIsLegal) where
  pub left_is_ours : (found : State) → IsLive found → FindsLeft found → ¬ IsOfAnotherSchema found.now
  left_is_ours found live it = go it.left
    where
      obeyed : IsDatabase found.now
      obeyed = (live it.is_open).0

      legal : (after : History) → IsAtMostOneMore it.charter it.before it.pending after → IsLegal it.charter after
      legal after more = legal_more grown it.charter it.before it.pending after it.legal more

      now : (after : History) → IsAtMostOneMore it.charter it.before it.pending after → HoldDesk it.charter after found.now.trees → ¬ IsOfAnotherSchema found.now
      now after more held =
          ours found.now (listed found.now obeyed held.3)
          (reads it.charter after held.0 found.now.trees (legal after more) (it.fits after more) held.1 it.chartered it.named held.2)

      old : (after : History) → IsAtMostOneMore it.charter it.before it.pending after → HoldOldDesk it.charter after found.now.trees → ¬ IsOfAnotherSchema found.now
      old after more held =
          old_ours found.now (old_listed found.now obeyed held.3)
          (old_reads it.charter after held.0 found.now.trees (legal after more) (it.fits after more) held.1 it.chartered it.named held.2)

      go : MayBeLeftInEitherSchema it.charter it.before it.pending found.now.trees → ¬ IsOfAnotherSchema found.now
      go (inl (inl held)) = now it.before (inl refl) held
      go (inl (inr (asked, after, among, accepted, held))) = now after (inr (asked, among, accepted)) held
      go (inr (after, more, held)) = old after more held
