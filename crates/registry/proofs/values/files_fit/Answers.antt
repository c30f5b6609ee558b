use Rattle.registry.proofs.Vocabulary.{arith, subst, take_all, All-more, FileFits}
use Rattle.registry.proofs.values.files_fit.Goals as goal

pub loop-named-preserved : goal.loop-named-preserved
loop-named-preserved c =
    let xs = c.args.files.now in
    All-more FileFits xs c.loop-named.named-index c.named-item.result (omega arith) c.loop-named.invariant
    (subst FileFits c.named-item.is (record { name = c.name_fits.ensures; file = c.exceptions_fit.ensures }))

pub returns : goal.returns
returns c = rw (take_all c.loop-named.named-index c.args.files.now (omega arith)) at c.loop-named.invariant
