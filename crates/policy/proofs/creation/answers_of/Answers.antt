use Rattle.policy.proofs.Vocabulary.{◌≡◌, ◌+◌, nat_le, ◌∷◌, [], ◌<◌, List, false, length, sym, ◌∙◌, ap, refl, arith, list_any, Auth, Create, MOST_AUTHORIZATIONS, rows_of, gives_some}
use Rattle.policy.proofs.Parts.{part-full, part-gives}
use Rattle.policy.proofs.RowsLemmas.{active-to, active-from}
use Rattle.policy.proofs.creation.answers_of.Goals as goal

pub returns : goal.returns
returns c history h keep whole are part =
    let a = c.args in
    let terms = a.terms.now in
    let rows = rows_of a.rows.now in
    let entries = c.as_slice-entries.ensures.items in
    let none : List Auth → Type 0 = λ active. list_any (λ y. gives_some y terms.asn terms.entries) active ≡ false in
    let few : List Auth → Type 0 = λ active. length active < MOST_AUTHORIZATIONS in
    let gives = c.some_gives.ensures ∙ ap (λ es. list_any (λ y. gives_some y terms.asn es) c.deref.result.now) entries
    ∙ ap (list_any (λ y. gives_some y terms.asn terms.entries)) c.deref.ensures.value
    ∙ part-gives terms 0 a.left_out keep whole rows part in
    let many = c.is_full.ensures ∙ ap (λ (xs : List Auth). nat_le MOST_AUTHORIZATIONS (length xs + a.left_out)) c.deref-2.ensures.value in
    let full = part-full (Create terms ∷ []) 0 a.left_out keep whole rows part in
    record {
      grants = part.grants ∙ are.grants;
      created = part.created ∙ are.created;
      holds = rw (← entries) (c.holds_entries.ensures history h whole are part.held (rw entries (part.holds terms (0, omega arith, refl))));
      gives = λ _. (
        λ is. active-to history h whole none are (sym gives ∙ is),
        λ of. gives ∙ active-from history h whole none are of,
      );
      is_full = λ _ _. (
        λ is. active-to history h whole few are (full.0 (sym many ∙ is)),
        λ of. many ∙ full.1 (active-from history h whole few are of),
      );
    }
