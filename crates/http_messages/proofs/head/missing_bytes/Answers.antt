use Rattle.std.proofs.Common.{sym}
use Rattle.http_messages.proofs.HeadEndLemmas.{missing-two, missing-three, missing-four}
use Rattle.http_messages.proofs.head.missing_bytes.Goals as goal

pub returns-then-ends_with-2-clause-enough : goal.returns-then-ends_with-2-clause-enough
returns-then-ends_with-2-clause-enough c = missing-two c.args.head.now (sym c.if-ends_with.ensures.value)

pub returns-then-ends_with-3-clause-enough : goal.returns-then-ends_with-3-clause-enough
returns-then-ends_with-3-clause-enough c =
    missing-three c.args.head.now (sym c.if-ends_with.ensures.value) (sym c.if-ends_with-2.ensures.value)

pub returns-else-ends_with-3-clause-enough : goal.returns-else-ends_with-3-clause-enough
returns-else-ends_with-3-clause-enough c =
    missing-four c.args.head.now (sym c.if-ends_with.ensures.value) (sym c.if-ends_with-2.ensures.value)
    (sym c.if-ends_with-3.ensures.value)
