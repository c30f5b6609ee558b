use Rattle.csv.specs.Records.{fields_of}
use Rattle.cli_texts.proofs.CharterSteps.{row_taken, row_repeated}
use Rattle.cli_texts.proofs.charter_file.CharterRows.take.Goals as goal

pub returns-then-not-is_new-clause-err : goal.returns-then-not-is_new-clause-err
returns-then-not-is_new-clause-err c = λ rows held.
    row_repeated c.args.self.now c.in-Ok.read (fields_of c.args.row.now) c.in-Some.kind.now c.in-Some.value.now c.fault-then-not-is_new.result
    c.in-Some.ensures c.in-Ok.ensures
    (rw c.if-not-is_new.true at c.in_ok-is_new.ensures.is_new)
    (rw (← c.note.ensures.operators, ← c.note.ensures.pool) c.fault-then-not-is_new.ensures) rows held

pub returns-clause-ok : goal.returns-clause-ok
returns-clause-ok c = λ rows held.
    row_taken c.args.self.now c.note.new.self c.keep.new.self c.in-Ok.read (fields_of c.args.row.now) c.in-Some.kind.now c.in-Some.value.now
    c.in-Some.ensures c.in-Ok.ensures
    (rw c.if-not-is_new.false at c.in_ok-is_new.ensures.is_new)
    c.in_ok-is_new.ensures.noted
    c.in_ok-keep.ensures.names c.in_ok-keep.ensures.prefixes
    (rw (← c.in_ok-is_new.ensures.operators) c.in_ok-keep.ensures.operators) (rw (← c.in_ok-is_new.ensures.pool) c.in_ok-keep.ensures.pool) rows held
