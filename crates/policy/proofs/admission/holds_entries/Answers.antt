use Rattle.policy.proofs.Vocabulary.{sym, ◌∙◌, ap, resource_holder, is_held_by, held_by_itself, is_held_by-true}
use Rattle.policy.proofs.HeldEntries.{covered_have, have_covered}
use Rattle.policy.proofs.admission.holds_entries.Goals as goal

pub returns : goal.returns
returns c history h whole are held told =
    let a = c.args in
    let spans = a.rows.now.holdings in (
      λ is x has. is_held_by-true h (resource_holder history x)
          (sym (are.holdings x) ∙ held x (covered_have spans a.entries.now x (sym c.are_covered.ensures ∙ is) has)),
      λ holds. c.are_covered.ensures ∙ have_covered spans a.entries.now c.spans.ensures.maximal
          (told (λ x has. are.holdings x ∙ ap (is_held_by h) (holds x has) ∙ held_by_itself h)),
    )
