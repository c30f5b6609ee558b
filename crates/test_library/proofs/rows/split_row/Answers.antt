use Rattle.std.proofs.Common.{◌≡◌, None, Some, codes, refl, false, ap, sym, ◌∙◌}
use Rattle.std.proofs.lemmas.Bool.{false≢true}
use Rattle.std.proofs.lemmas.Option.{MatchOption-at_none}
use Rattle.std.proofs.lemmas.Result.{MatchResult-from_err}
use Rattle.std.proofs.lemmas.Str.Pattern.{split_text_parts}
use Rattle.std.specs.Option.{is_some}
use Rattle.std.specs.Result.{is_ok}
use Rattle.test_library.proofs.rows.split_row.Goals as goal

pub returns-in_err-ok_or : goal.returns-in_err-ok_or
returns-in_err-ok_or c =
    let none : c.split_once.result ≡ None =
    elim c.split_once.result as (λ o. is_some o ≡ false → o ≡ None) [ None ↦ λ none. refl | Some parts ↦ λ none. absurd (false≢true (sym none)) ]
    (sym c.ok_or.ensures.variant ∙ ap is_ok c.in_err-ok_or.was) in
    let parts = split_text_parts (codes " => ") c.args.row.now c.split_once.result c.split_once.ensures.cases in
    MatchResult-from_err c.from_residual.result _ _ c.from_residual.ensures.0 (λ _. MatchOption-at_none _ _ none parts)
