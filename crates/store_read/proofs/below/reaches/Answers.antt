use Rattle.store_read.proofs.Vocabulary.{◌≡◌, ◌<◌, ◌^◌, sym, ap, ap₂, ◌∙◌, arith, is_ge, Blob, column, value_cmp, address_bytes}
use Rattle.store_read.proofs.RunsBelow.{end_told}
use Rattle.store_read.proofs.below.reaches.Goals as goal

pub returns : goal.returns
returns c h s is =
    let row = c.args.run.now in
    let a = c.args.address in
    let fits : a < 2 ^ 128 = omega arith in
    let same : c.is_ge.result ≡ is_ge (value_cmp (column row 2) (Blob (address_bytes a))) =
    c.is_ge.ensures ∙ ap is_ge (c.compare.ensures ∙ ap₂ value_cmp c.cell.ensures (c.to_sql.ensures ∙ ap Blob (c.as_slice.ensures ∙ c.address_bytes-bytes.ensures))) in
    let told = end_told a row h s fits is in
    (λ yes. told.0 (sym same ∙ yes), λ ends. same ∙ told.1 ends)
