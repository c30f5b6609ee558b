use Rattle.store_transactions.proofs.Vocabulary.{rules, ExceptionRow, place_cmp}
use Rattle.std.proofs.Common.{is_lt}
use Rattle.std.proofs.lemmas.Fn.{always_returns_same}
use Rattle.store_transactions.proofs.FilesIn.{rise_from_next}
use Rattle.store_transactions.proofs.files.rise.Goals as goal

pub returns : goal.returns
returns c is = rise_from_next c.args.exceptions.now (rw is at (c.is_sorted_by.ensures.cases (λ (r s : ExceptionRow). is_lt (place_cmp r s)) (always_returns_same _ _ _ (λ a r f k. search rules))))
