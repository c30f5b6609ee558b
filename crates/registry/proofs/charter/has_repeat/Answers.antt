use Rattle.registry.proofs.Vocabulary.{refl, sym, ◌∙◌}
use Rattle.registry.proofs.Repeats.{repeat_passed, repeat_found}
use Rattle.registry.proofs.charter.has_repeat.Goals as goal

pub loop-rest-preserved : goal.loop-rest-preserved
loop-rest-preserved g c =
    repeat_passed g.T.PartialEq.eq g.met.T.PartialEq.laws.symm c.loop-rest.rest.now _ c.first-item.result c.in-len1-up.len_at_least c.first-item.is refl
    (sym c.contains.ensures.value ∙ c.if-contains.false) ∙ c.loop-rest.invariant

pub returns-then-contains : goal.returns-then-contains
returns-then-contains g c =
    sym (repeat_found g.T.PartialEq.eq g.met.T.PartialEq.laws.symm c.loop-rest.rest.now _ c.first-item.result c.in-len1-up.len_at_least c.first-item.is refl
    (sym c.contains.ensures.value ∙ c.if-contains.true)) ∙ c.loop-rest.invariant
