use Rattle.cli_texts.proofs.Vocabulary.{◌++◌, ◌∷◌, [], ◌∙◌, current, records_left}
use Rattle.std.proofs.lemmas.Result.{err_from_is_err_and}
use Rattle.cli_texts.proofs.CharterSteps.{rows_more, first_more, reported-first}
use Rattle.cli_texts.proofs.charter_file.read_rows.Goals as goal

pub loop-rows-preserved : goal.loop-rows-preserved
loop-rows-preserved c =
    let found = rw c.if-branch.true at c.in_ok-advance.ensures.found in
    let (rows, read, held, first) = c.loop-rows.invariant.read in
    let (r, same, more, none) = rw c.row.ensures at (c.in_ok-take.ensures.ok rows held) in
    record {
      reading = c.in_ok-advance.ensures.reading c.if-branch.true;
      read = (
        rows ++ r ∷ [],
        rows_more (records_left c.args.records.now) (records_left c.loop-rows.records) (records_left c.advance.new.self) (current c.advance.new.self) rows r read found same,
        more,
        first ∙ first_more (records_left c.loop-rows.records) (records_left c.advance.new.self) (current c.advance.new.self) rows r found same none,
      );
    }

pub returns-in_err-take-clause-err : goal.returns-in_err-take-clause-err
returns-in_err-take-clause-err c =
    let found = rw c.if-branch.true at c.in_ok-advance.ensures.found in
    let (rows, read, held, first) = c.loop-rows.invariant.read in
    let p = err_from_is_err_and c.from_residual-in_err-take.result c.from_residual-in_err-take.ensures.1 in
    rw (p.1, p.2) (reported-first c.in_err-take.field-0.0 (records_left c.args.records.now) (records_left c.loop-rows.records) (records_left c.advance.new.self) (current c.advance.new.self) rows first found
    (rw c.row.ensures at (c.in_err-take.ensures.err rows held)))
