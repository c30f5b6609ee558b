-- What a desk replies is replied on each history that it represents, of which a crash leaves no more than the reply
-- allows.
use Rattle.web.proofs.Vocabulary.{refl, subst, Ghosts, History, AskedFits, HistoryFits, Asked, Charter, LeavesAlong, LeavesAtMost, pending_after, IsOnCleanDisk, Represents, Desk, Reply, RepliesAt, RepliesLeaving, RepliesOn, Standing}
use Rattle.std.proofs.Common.{All}
use Rattle.desk.proofs.ResumedLemmas.{pending_after_fits}

module _ {S : Type 0} (g : Ghosts S) where
  -- the desk represents a history that goes on from a first one
  abbrev pub RepresentsFrom : Charter → History → Desk S → History → Type 0
  RepresentsFrom charter first desk history = Represents g charter desk history × (HistoryFits first → HistoryFits history)

  -- and a crash leaves at most that with one of the pending requests
  abbrev pub StandsFrom : Charter → Standing → Desk S → Standing → Type 0
  StandsFrom charter first desk standing =
      RepresentsFrom charter first.history desk standing.history
      × (All AskedFits first.pending → All AskedFits standing.pending)
      × LeavesAtMost g charter desk standing.history standing.pending

  replied : (charter : Charter) (first : History) (old new : Desk S) (request : Asked) (reply : Reply) (before : History)
      → IsOnCleanDisk g new → RepresentsFrom charter first old before → RepliesAt g old request reply new
      → (after : History) × RepresentsFrom charter first new after × RepliesOn charter before request reply after
      × LeavesAlong g charter old before (pending_after request reply) new after
  replied charter first old new request reply before clean (represents, values) at =
      let P : Charter → Type 0 = λ k. Represents g k old before → (after : History) × Represents g k new after × (HistoryFits before → HistoryFits after) × (RepliesOn k before request reply after × LeavesAlong g k old before (pending_after request reply) new after) in
      let (after, represents_after, values_after, (answers, left)) = subst P represents.chartered (at.replies clean before) represents in
      (after, (represents_after, λ fits. values_after (values fits)), answers, left)

  pub replied_on : (charter : Charter) (first : History) (old new : Desk S) (request : Asked) (reply : Reply) (before : History)
      → IsOnCleanDisk g new → RepresentsFrom charter first old before → RepliesAt g old request reply new
      → (after : History) × RepresentsFrom charter first new after × RepliesOn charter before request reply after
  replied_on charter first old new request reply before clean stands at =
      let (after, stands_after, answers, left) = replied charter first old new request reply before clean stands at in
      (after, stands_after, answers)

  pub replied_leaving : (charter : Charter) (first : Standing) (old new : Desk S) (request : Asked) (reply : Reply) (before : Standing)
      → IsOnCleanDisk g new → StandsFrom charter first old before → RepliesAt g old request reply new
      → (after : Standing) × StandsFrom charter first new after × RepliesLeaving charter before request reply after
  replied_leaving charter first old new request reply before clean (stands, fitting, leaves) at =
      let (after, stands_after, answers, left) = replied charter first.history old new request reply before.history clean stands at in
      let pending = pending_after request reply before.pending in
      (record { history = after; pending = pending }, (stands_after, (λ fits. pending_after_fits request reply before.pending at.fits (fitting fits)), left before.pending leaves), (answers, refl))
