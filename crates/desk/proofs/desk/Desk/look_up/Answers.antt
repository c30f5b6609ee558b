use Rattle.desk.proofs.Vocabulary.{◌≡◌, ℕ, false, List, Option, Result, Ok, Err, IfOk, refl, KeptDay, Query, Ghosts, IsRead, StoreView, is_accepted, AnswersQuery, DayAfterQuery, charter_of, HoldsHistory, EachHistory, EachHeld, HoldsRowsAndDay, day_of, reply_of, Desk, Reply}
use Rattle.registry.specs.declared.command.Query.TheVariants.{Show, Content, List as ListQuery, Payloads, Validity, WhatIf}
use Rattle.desk.specs.steps.LookedUp.{IsLookedUp}
use Rattle.desk.proofs.DeskLemmas.{query_unavailable}
use Rattle.desk.proofs.KeptLemmas.{held_read, kept_read}
use Rattle.desk.proofs.desk.Desk.look_up.Goals as goal

module _ {S E : Type 0} (g : Ghosts S) (day : ℕ) (caller : List ℕ) (query : Query) where
  -- a fault is reported as Unavailable, which answers each query
  looked_up : (old new : Desk S) (r : Result Reply E) → IsRead g old.store new.store → EachHistory g old new (HoldsHistory g new)
      → DayAfterQuery day query (reply_of r) (day_of old.kept) (day_of new.kept) → IfOk r (λ reply. is_accepted reply ≡ false)
      → IfOk r (λ reply. EachHistory g old new (λ history. AnswersQuery (charter_of old) history day caller query reply))
      → IsLookedUp g day caller query (reply_of r) old new
  looked_up old new (Ok reply) read held moved not answered = record { read = read; held = held; answered = answered; kept_day = moved; never_done = not }
  looked_up old new (Err fault) read held moved not answered = record {
    read = read;
    held = held;
    answered = λ clean history legal was. query_unavailable (charter_of old) history day caller query;
    kept_day = moved;
    never_done = refl;
  }

  of_rows : (old new : Desk S) (r : Result Reply E) → IfOk r (λ reply. EachHeld g old.store new.store (λ history. AnswersQuery (charter_of old) history day caller query reply))
      → IfOk r (λ reply. EachHistory g old new (λ history. AnswersQuery (charter_of old) history day caller query reply))
  of_rows old new (Ok reply) found = λ clean history legal held. found clean history legal (held.0, held.1, held.2)
  of_rows old new (Err fault) found = tt

  -- the store was asked alone, and the kept day stays
  asked_alone : (inside asked : StoreView S) (kept : Option KeptDay) (r : Result Reply E) → DayAfterQuery day query (reply_of r) (day_of kept) (day_of kept)
      → HoldsRowsAndDay g inside kept → IsRead g inside asked → IfOk r (λ reply. is_accepted reply ≡ false)
      → IfOk r (λ reply. EachHeld g inside asked (λ history. AnswersQuery inside.charter history day caller query reply))
      → IsLookedUp g day caller query (reply_of r) (record { store = inside; kept = kept }) (record { store = asked; kept = kept })
  asked_alone inside asked kept r stays keeps read not answered =
      let old : Desk S = record { store = inside; kept = kept } in
      let new : Desk S = record { store = asked; kept = kept } in
      looked_up old new r read (held_read g old new keeps read refl) stays not (of_rows old new r answered)

pub returns-in-Show : goal.returns-in-Show
returns-in-Show g c =
    rw (← c.self.view_is, c.in-Show.is) (asked_alone g.S.Store c.args.day c.args.caller.now (Show c.in-Show.holder c.in-Show.number)
    c.self.inside.store c.show.new.store c.self.inside.kept c.show.result refl c.self.invariant c.show.ensures.read c.show.ensures.never_done c.show.ensures.answered)

pub returns-in-Content : goal.returns-in-Content
returns-in-Content g c =
    rw (← c.self.view_is, c.in-Content.is) (asked_alone g.S.Store c.args.day c.args.caller.now (Content c.in-Content.holder c.in-Content.number)
    c.self.inside.store c.content.new.store c.self.inside.kept c.content.result refl c.self.invariant c.content.ensures.read c.content.ensures.never_done c.content.ensures.answered)

pub returns-in-List : goal.returns-in-List
returns-in-List g c =
    rw (← c.self.view_is, c.in-List.is) (asked_alone g.S.Store c.args.day c.args.caller.now (ListQuery c.in-List.holder)
    c.self.inside.store c.list.new.store c.self.inside.kept c.list.result refl c.self.invariant c.list.ensures.read c.list.ensures.never_done c.list.ensures.answered)

pub returns-in-WhatIf : goal.returns-in-WhatIf
returns-in-WhatIf g c =
    rw (← c.self.view_is, c.in-WhatIf.is) (asked_alone g.S.Store c.args.day c.args.caller.now (WhatIf c.in-WhatIf.holder c.in-WhatIf.changes c.in-WhatIf.routes)
    c.self.inside.store c.what_if.new.store c.self.inside.kept c.what_if.result refl c.self.invariant c.what_if.ensures.read c.what_if.ensures.never_done
    (rw (c.deref-in-WhatIf.ensures.value, c.deref-in-WhatIf-2.ensures.value) at c.what_if.ensures.answered))

pub returns-in-Payloads : goal.returns-in-Payloads
returns-in-Payloads g c =
    rw c.in-Payloads.is (looked_up g.S.Store c.args.day c.args.caller.now Payloads c.args.self.now c.export.new.self c.export.result
    c.export.ensures.read c.export.ensures.held c.export.ensures.moved c.export.ensures.never_done c.export.ensures.answered)

pub returns-in-Validity : goal.returns-in-Validity
returns-in-Validity g c =
    rw c.in-Validity.is (looked_up g.S.Store c.args.day c.args.caller.now (Validity c.in-Validity.routes) c.args.self.now c.validity.new.self c.validity.result
    c.validity.ensures.read c.validity.ensures.held c.validity.ensures.moved c.validity.ensures.never_done (rw c.deref.ensures.value at c.validity.ensures.answered))

pub invariant_of-self : goal.invariant_of-self
invariant_of-self g c = kept_read g.S.Store c.self.inside.store c.show.new.store c.self.inside.kept c.self.invariant c.show.ensures.read

pub invariant_of-self-in-Content : goal.invariant_of-self-in-Content
invariant_of-self-in-Content g c = kept_read g.S.Store c.self.inside.store c.content.new.store c.self.inside.kept c.self.invariant c.content.ensures.read

pub invariant_of-self-in-List : goal.invariant_of-self-in-List
invariant_of-self-in-List g c = kept_read g.S.Store c.self.inside.store c.list.new.store c.self.inside.kept c.self.invariant c.list.ensures.read

pub invariant_of-self-in-WhatIf : goal.invariant_of-self-in-WhatIf
invariant_of-self-in-WhatIf g c = kept_read g.S.Store c.self.inside.store c.what_if.new.store c.self.inside.kept c.self.invariant c.what_if.ensures.read
