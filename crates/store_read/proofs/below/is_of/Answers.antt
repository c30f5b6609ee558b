use Rattle.store_read.proofs.Vocabulary.{◌≡◌, sym, ap, ap₂, ◌∙◌, is_eq, Text, column, value_cmp, is_name_of}
use Rattle.store_read.proofs.RunsBelow.{holder_told}
use Rattle.store_read.proofs.below.is_of.Goals as goal

pub returns : goal.returns
returns c h s is =
    let row = c.args.run.now in
    let k = c.args.holder.now in
    let same : c.is_eq.result ≡ is_name_of k (column row 3) = c.is_eq.ensures ∙ ap is_eq (c.compare.ensures ∙ ap₂ value_cmp c.cell.ensures (c.to_sql.ensures ∙ ap Text c.as_str.ensures.text)) in
    let told = holder_told k row h s is in
    (λ yes. told.0 (sym same ∙ yes), λ named. same ∙ told.1 named)
