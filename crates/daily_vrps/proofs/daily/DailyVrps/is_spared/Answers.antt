use Rattle.daily_vrps.proofs.Vocabulary.{inl, inr, sym, ◌∙◌}
use Rattle.daily_vrps.proofs.VrpSets.{in_set, not_in_set}
use Rattle.daily_vrps.proofs.daily.DailyVrps.is_spared.Goals as goal

pub returns-then-is_asserted : goal.returns-then-is_asserted
returns-then-is_asserted c = (
  λ _. inr ((in_set c.args.self.now.asserted c.args.vrp.now).1 (sym c.is_asserted.ensures ∙ c.if-is_asserted.true)),
  λ _. c.if-is_asserted.true,
)

pub returns-else-is_asserted : goal.returns-else-is_asserted
returns-else-is_asserted c =
    let asserted = rw (← c.self.view_is) at c.is_asserted.ensures in
    rw (← c.self.view_is) (
      λ given. inl (c.is_given.ensures.0 given),
      λ spared. elim spared [
        | inl given ↦ c.is_given.ensures.1 given
        | inr is ↦ absurd (not_in_set c.self.inside.asserted c.args.vrp.now (sym asserted ∙ c.if-is_asserted.false) is)
      ],
    )
