use Rattle.policy.proofs.Vocabulary.{◌≡◌, true, sym, ◌∙◌, ap, list_any, Alter, has_terms, are_permitted, rows_of, row_terms, grant_terms}
use Rattle.policy.proofs.RowsLemmas.{active-to, active-from}
use Rattle.policy.proofs.authorized.is_present.Goals as goal

pub returns-then-are_permitted : goal.returns-then-are_permitted
returns-then-are_permitted c history h are =
    let a = c.args in
    let row = a.row.now in
    let test = list_any (has_terms (row_terms row)) in
    let permitted = c.are_permitted.ensures ∙ ap (λ gs. are_permitted gs a.day a.caller.now Alter (row_terms row).entries) (c.deref.ensures.value ∙ are.grants) in
    let same = c.contains.ensures ∙ c.requires row in (
      λ is. (sym permitted ∙ c.if-are_permitted.true, active-to history h (rows_of a.rows.now) (λ active. test active ≡ true) are (sym same ∙ is)),
      λ present. same ∙ active-from history h (rows_of a.rows.now) (λ active. test active ≡ true) are present.1,
    )
