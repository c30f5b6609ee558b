use Rattle.desk.proofs.Vocabulary.{refl, sym, ap, ◌∙◌, false≢true, true≢false, asked_on, may_change, may_except, Desk, day_of}
use Rattle.registry.specs.declared.asked.Request.TheVariants.{Command as CommandRequest}
use Rattle.desk.proofs.CrashLemmas.{accepted_kept, failed_kept, read_kept}
use Rattle.desk.proofs.DeskLemmas.{accepted_acts, all_kept, changed_kept}
use Rattle.desk.proofs.DropLemmas.{accepted_drops}
use Rattle.desk.proofs.FollowLemmas.{apart_by, day_by, drops_nothing}
use Rattle.desk.proofs.KeptLemmas.{held_read, held_where, kept_followed, kept_read, kept_where}
use Rattle.desk.proofs.desk.Desk.carry_out.Goals as goal

pub invariant_of-self : goal.invariant_of-self
invariant_of-self g c = kept_read g.S.Store c.self.inside.store c.decide.new.store c.self.inside.kept c.self.invariant c.in-Err.ensures.read

pub returns-in-Err-clause-left : goal.returns-in-Err-clause-left
returns-in-Err-clause-left g c =
    let old : Desk _ = record { store = c.self.inside.store; kept = c.self.inside.kept } in
    let new : Desk _ = record { store = c.decide.new.store; kept = c.self.inside.kept } in
    let is = c.in-Err.ensures in
    rw (← c.self.view_is)
    (λ clean history legal held. read_kept g.S.Store history (asked_on c.args.day c.args.caller.now (CommandRequest c.args.command.now)) c.in-Err.refused old new
    is.decides.never_done is.read clean legal (is.decides.answer clean history legal (held.0, held.1, held.2))
    (held_read g.S.Store old new c.self.invariant is.read refl clean history legal held))

pub returns-in-Err-clause-kept : goal.returns-in-Err-clause-kept
returns-in-Err-clause-kept g c = rw (← c.self.view_is) (λ refused. c.in-Err.ensures.read.rows)

pub returns-in-Err-clause-others : goal.returns-in-Err-clause-others
returns-in-Err-clause-others g c clean history legal held =
    all_kept g.S.Store (may_change (CommandRequest c.args.command.now)) (may_except (CommandRequest c.args.command.now)) c.args.self.now
    (record { store = c.decide.new.store; kept = c.self.inside.kept }) (returns-in-Err-clause-kept g c c.in-Err.ensures.decides.never_done) clean

pub invariant_of-self-in-Ok-apply : goal.invariant_of-self-in-Ok-apply
invariant_of-self-in-Ok-apply g c =
    let decided = c.in-Ok.decided in
    let is = c.in-Ok.ensures in
    kept_followed g.S.Store c.self.inside.store c.decide.new.store c.apply.new.self c.self.inside.kept c.follow.new.kept decided.change decided.first decided.second
    c.self.invariant is.read c.in-Ok-apply.ensures.clean c.in-Ok-apply.ensures.ok is.decides.enough c.in-Ok-apply.ensures.once
    (c.follow.ensures.follows (apart_by c.args.command.now decided.change is.decides.shape))

pub returns-in-Ok-apply-clause-left : goal.returns-in-Ok-apply-clause-left
returns-in-Ok-apply-clause-left g c =
    let old : Desk _ = record { store = c.self.inside.store; kept = c.self.inside.kept } in
    let new : Desk _ = record { store = c.apply.new.self; kept = c.follow.new.kept } in
    let is = c.in-Ok.ensures in
    let made = c.in-Ok-apply.ensures in
    rw (← c.self.view_is)
    (λ clean history legal held.
    let before = made.clean clean in
    accepted_kept g.S.Store c.growth_is_legal.ensures c.growth_fits.ensures history c.args.day c.args.caller.now c.args.command.now c.in-Ok.decided.change c.accepted-reply.result
    old c.decide.new.store new c.entry_fits.ensures is.read legal (held.0, held.1, is.read.rows before held.0 held.2)
    (is.decides.answer before history legal (held.0, held.1, held.2)) c.accepted-reply.ensures.answers (made.ok clean) (made.left clean) clean made.is_open)

pub returns-in-Ok-apply-clause-read : goal.returns-in-Ok-apply-clause-read
returns-in-Ok-apply-clause-read g c reads =
    absurd (false≢true (sym (accepted_acts c.args.command.now c.accepted-reply.result c.accepted-reply.ensures.accepted) ∙ reads))

pub returns-in-Ok-apply-clause-kept_day : goal.returns-in-Ok-apply-clause-kept_day
returns-in-Ok-apply-clause-kept_day g c =
    let decided = c.in-Ok.decided in
    rw (← c.self.view_is) (
      λ _. day_by c.args.command.now decided.change c.accepted-reply.result decided.first decided.second c.self.inside.kept c.follow.new.kept
          c.in-Ok.ensures.decides.shape c.accepted-reply.ensures.made c.follow.ensures.day,
      λ not. absurd (true≢false (sym c.accepted-reply.ensures.accepted ∙ not)),
    )

pub returns-in-Ok-apply-clause-others : goal.returns-in-Ok-apply-clause-others
returns-in-Ok-apply-clause-others g c =
    let old : Desk _ = record { store = c.self.inside.store; kept = c.self.inside.kept } in
    let is = c.in-Ok.ensures in
    rw (← c.self.view_is)
    (λ clean history legal held.
    let before = c.in-Ok-apply.ensures.clean clean in
    changed_kept g.S.Store c.args.command.now c.in-Ok.decided.change old c.decide.new.store (record { store = c.apply.new.self; kept = c.follow.new.kept })
    (is.decides.answer before history legal (held.0, held.1, held.2)).of_command is.read before (c.in-Ok-apply.ensures.ok clean))

pub invariant_of-self-in-Err-apply : goal.invariant_of-self-in-Err-apply
invariant_of-self-in-Err-apply g c =
    kept_where g.S.Store c.decide.new.store c.apply.new.self c.self.inside.kept
    (kept_read g.S.Store c.self.inside.store c.decide.new.store c.self.inside.kept c.self.invariant c.in-Ok.ensures.read) c.in-Err-apply.ensures.clean c.in-Err-apply.ensures.err

pub returns-clause-kept : goal.returns-clause-kept
returns-clause-kept g c =
    let failed = c.in-Err-apply.ensures in
    rw (← c.self.view_is) (λ refused clean rows holds. failed.err clean rows (c.in-Ok.ensures.read.rows (failed.clean clean) rows holds))

pub returns-clause-left : goal.returns-clause-left
returns-clause-left g c =
    let old : Desk _ = record { store = c.self.inside.store; kept = c.self.inside.kept } in
    let new : Desk _ = record { store = c.apply.new.self; kept = c.self.inside.kept } in
    let is = c.in-Ok.ensures in
    let failed = c.in-Err-apply.ensures in
    let stay = rw (← c.self.view_is) at (returns-clause-kept g c refl) in
    rw (← c.self.view_is)
    (λ clean history legal held.
    let before = failed.clean clean in
    failed_kept g.S.Store history c.args.day c.args.caller.now c.args.command.now c.in-Ok.decided.change c.accepted-reply.result old c.decide.new.store new
    is.read before legal (held.0, held.1, is.read.rows before held.0 held.2)
    (held_where g.S.Store old new c.self.invariant (λ after. is.read.clean (failed.clean after)) stay refl clean history legal held)
    (is.decides.answer before history legal (held.0, held.1, held.2)) c.accepted-reply.ensures.answers c.accepted-reply.ensures.accepted (failed.crash clean))

pub returns-clause-others : goal.returns-clause-others
returns-clause-others g c clean history legal held =
    all_kept g.S.Store (may_change (CommandRequest c.args.command.now)) (may_except (CommandRequest c.args.command.now)) c.args.self.now
    (record { store = c.apply.new.self; kept = c.self.inside.kept }) (returns-clause-kept g c refl) clean

pub returns-in-Err-clause-dropped : goal.returns-in-Err-clause-dropped
returns-in-Err-clause-dropped g c clean history legal held =
    let is = (returns-in-Err-clause-left g c clean history legal held).answered in
    (is, drops_nothing c.args.command.now history is.after (day_of c.args.self.now.kept) (day_of c.self.inside.kept) (ap (λ (d : Desk _). day_of d.kept) c.self.view_is))

pub returns-clause-dropped : goal.returns-clause-dropped
returns-clause-dropped g c clean history legal held =
    let is = (returns-clause-left g c clean history legal held).answered in
    (is, drops_nothing c.args.command.now history is.after (day_of c.args.self.now.kept) (day_of c.self.inside.kept) (ap (λ (d : Desk _). day_of d.kept) c.self.view_is))

pub returns-in-Ok-apply-clause-dropped : goal.returns-in-Ok-apply-clause-dropped
returns-in-Ok-apply-clause-dropped g c =
    let old : Desk _ = record { store = c.self.inside.store; kept = c.self.inside.kept } in
    let new : Desk _ = record { store = c.apply.new.self; kept = c.follow.new.kept } in
    let decided = c.in-Ok.decided in
    let is = c.in-Ok.ensures in
    let made = c.in-Ok-apply.ensures in
    rw (← c.self.view_is)
    (λ clean history legal held.
    let before = made.clean clean in
    accepted_drops g.S.Store c.growth_is_legal.ensures c.growth_fits.ensures history c.args.day c.args.caller.now c.args.command.now decided.change c.accepted-reply.result
    old c.decide.new.store new decided.first decided.second c.entry_fits.ensures is.read before legal held (is.decides.answer before history legal (held.0, held.1, held.2))
    c.accepted-reply.ensures.answers (made.ok clean) clean made.is_open c.self.invariant (made.once clean) (is.decides.enough before) is.decides.shape c.follow.ensures.day)
