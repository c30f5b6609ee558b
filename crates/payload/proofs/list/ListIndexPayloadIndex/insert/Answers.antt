use Rattle.payload.proofs.Vocabulary.{not, sym, ap, ◌∙◌}
use Rattle.payload.proofs.Lengths.{no_shorter-inserted}
use Rattle.payload.proofs.Places.{contains-derived, inserted-defined, rise-defined}
use Rattle.payload.proofs.Sets.{members-insert}
use Rattle.payload.proofs.Visits.{on-err}
use Rattle.payload.proofs.list.ListIndexPayloadIndex.insert.Goals as goal

pub invariant_of-self-2 : goal.invariant_of-self-2
invariant_of-self-2 c = (
  rise-defined _ c.in_ok-is_new.ensures.rise,
  no_shorter-inserted _ _ _ _ c.args.vrp c.self.invariant.1 (inserted-defined _ _ c.args.vrp c.in_ok-is_new.ensures.members) c.with-self-inside.ensures.here c.with-self-inside.ensures.others,
)

pub returns-clause-new : goal.returns-clause-new
returns-clause-new c = c.in_ok-is_new.ensures.new ∙ ap not (contains-derived c.args.self.now c.self.inside.vrps.items c.args.vrp c.self.view_is)

pub returns-clause-ok : goal.returns-clause-ok
returns-clause-ok c = members-insert c.args.self.now c.self.inside.vrps.items c.insert.new.items.items c.args.vrp c.self.view_is (inserted-defined _ _ c.args.vrp c.in_ok-is_new.ensures.members)

pub returns-in_err-is_new-clause-absent : goal.returns-in_err-is_new-clause-absent
returns-in_err-is_new-clause-absent c = on-err c.from_residual.result _ (sym (contains-derived c.args.self.now c.self.inside.vrps.items c.args.vrp c.self.view_is) ∙ c.in_err-is_new.ensures.absent)
