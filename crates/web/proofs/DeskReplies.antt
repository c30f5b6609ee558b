-- What the desk replies to a request.
use Rattle.web.proofs.Vocabulary.{◌≡◌, ◌↔◌, ℕ, false, IsTrue, Option, Some, None, refl, sym, ap, inl, inr, true≢false, Bor, false≢true, Ghosts, is_accepted, IsDurablyAnswered, charter_of, RowsStay, EachHistory, AskedFits, Asked, Desk, Reply, Payloads, Unavailable, IsLaterDesk, RepliesAt}
use Rattle.desk.specs.DayAfter.{DayAfter, MovesDay}
use Rattle.desk.specs.Lent.{HasLent}
use Rattle.desk.specs.Prepared.{day_of}
use Rattle.desk.proofs.CrashLemmas.{read_kept}
use Rattle.payload.specs.VrpSet as set
use Rattle.registry.specs.declared.asked.Request.TheVariants.{Query as QueryRequest}
use Rattle.registry.specs.declared.command.Query.TheVariants.{Payloads as PayloadsQuery}

-- what is so exactly if false is true, is not so
pub unless_so : {P : Type 0} → (IsTrue false ↔ P) → P → ⊥
unless_so so is = false≢true (so.1 is)

-- the reply that has the VRPs that were lent
abbrev pub lent_reply : Option (Bor set.VrpSet) → Reply
lent_reply None = Unavailable
lent_reply (Some vrps) = Payloads (set.items vrps.now)

module _ {S : Type 0} (g : Ghosts S) where
  -- the desk answered a request
  pub replies_at : (old new : Desk S) (request : Asked) (reply : Reply) → AskedFits request → IsLaterDesk g old new
      → EachHistory g old new (λ history. IsDurablyAnswered g (charter_of old) history request reply old new)
      → (is_accepted reply ≡ false → RowsStay g old new)
      → DayAfter request.day request.request reply (day_of old.kept) (day_of new.kept)
      → (request.request ≡ QueryRequest PayloadsQuery → reply ≡ Unavailable → day_of new.kept ≡ None)
      → RepliesAt g old request reply new
  replies_at old new request reply fits later left kept day unkept = record {
    fits = fits;
    later = later;
    replies = λ clean before represents.
        let is = left clean before represents.legal represents.rows in
        let goes_on = is.answered in
        (goes_on.after, record { chartered = later.charter; legal = goes_on.legal; rows = goes_on.rows_after }, goes_on.values, (goes_on.answers, is.left));
    kept = kept;
    day = day;
    unkept = unkept;
  }

  -- the day of the VRPs that were lent is kept
  lent_day : (old new : Desk S) (day : ℕ) (result : Option (Bor set.VrpSet)) → HasLent g day old result new
      → MovesDay day (lent_reply result) (day_of old.kept) (day_of new.kept)
  lent_day old new day None lent =
      inr (ap day_of (lent.prepared.none refl), refl, λ was. true≢false (sym (lent.prepared.same was).0))
  lent_day old new day (Some vrps) lent = inl (lent.prepared.kept refl)

  -- the desk lent the VRPs of the day
  pub lent_replies : (old new : Desk S) (request : Asked) (result : Option (Bor set.VrpSet)) → request.request ≡ QueryRequest PayloadsQuery
      → HasLent g request.day old result new → RepliesAt g old request (lent_reply result) new
  lent_replies old new request None payloads lent =
      let read = lent.prepared.read in
      replies_at old new request Unavailable (rw payloads tt) (record { charter = read.charter; limit = read.limit; clean = read.clean })
      (λ clean history legal held.
      read_kept g history request Unavailable old new refl read clean legal (rw payloads (tt, refl)) (lent.prepared.held clean history legal held))
      (λ _. read.rows) (rw payloads (lent_day old new request.day None lent)) (λ _ _. ap day_of (lent.prepared.none refl))
  lent_replies old new request (Some vrps) payloads lent =
      let read = lent.prepared.read in
      let reply = Payloads (set.items vrps.now) in
      replies_at old new request reply (rw payloads tt) (record { charter = read.charter; limit = read.limit; clean = read.clean })
      (λ clean history legal held.
      read_kept g history request reply old new refl read clean legal (rw payloads (lent.answered clean history legal held, refl)) (lent.prepared.held clean history legal held))
      (λ _. read.rows) (rw payloads (lent_day old new request.day (Some vrps) lent)) (λ _ is. cc)
