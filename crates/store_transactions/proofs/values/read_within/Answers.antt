use Rattle.store_transactions.proofs.Vocabulary.{◌≡◌, ◌↔◌, ◌∙◌, List, Option, Some, None, Result, Err, Any, map, sym, subst, IsPermutation, IsPermutation-refl, Row, ShowsNone, DecodesAll, first_columns, StoreFault, Schema}
use Rattle.std.specs.Global.{Vec}
use Rattle.std.specs.Option.{ok_or}
use Rattle.store_tables.proofs.ReadLemmas.{all_show}
use Rattle.store_transactions.proofs.values.read_within.Goals as goal

refused_iff :
    {X : Type 0} (cells : X → Row) (fits : X → Type 0) (rows : List Row) (read : Option (Vec X)) (result : Result (Vec X) StoreFault)
    → result ≡ ok_or read Schema → DecodesAll cells fits rows read → result ≡ Err Schema ↔ Any (ShowsNone cells fits) rows
refused_iff cells fits rows None result is none = (λ _. none, λ _. is)
refused_iff cells fits rows (Some values) result is shown = (
  λ refused. absurd (let e : ok_or (Some values) Schema ≡ Err Schema = sym is ∙ refused in cc),
  λ none. absurd (all_show cells fits values.items rows shown.0 (subst (IsPermutation (map cells values.items)) (sym shown.1) (IsPermutation-refl _)) none),
)

pub returns-clause-schema : goal.returns-clause-schema
returns-clause-schema g c = refused_iff _ _ (map (first_columns g.T.FromRow.width) c.args.rows.now) c.in_rows.result c.ok_or.result c.ok_or.ensures.value c.in_rows.ensures
