use Rattle.addr.proofs.Vocabulary.{◌∙◌, ◌++◌, ap, append_assoc, option_to_list}
use Rattle.addr.proofs.SpanSteps.{parts_of}
use Rattle.addr.proofs.holdings.push_parts.Goals as goal

pub returns : goal.returns
returns c =
    let before = c.before-2.ensures in
    let after = c.after.ensures in (
      option_to_list c.before-2.result ++ option_to_list c.after.result,
      c.in_ok-push_part-2.ensures ∙ ap (λ xs. xs ++ option_to_list c.after.result) c.in_ok-push_part.ensures ∙ append_assoc c.args.kept.now.items (option_to_list c.before-2.result) (option_to_list c.after.result),
      parts_of c.args.span.now c.args.gone.now c.before-2.result c.after.result before.some before.has after.some after.has,
    )
