use Rattle.addr.proofs.Vocabulary.{◌<◌, arith, number_more}
use Rattle.addr.proofs.PrefixTextLemmas.{group_fits, more_groups_fit}
use Rattle.addr.proofs.text.read.number_of.Goals as goal

pub overflow_mul-number : goal.overflow_mul-number
overflow_mul-number c = omega (arith, group_fits c.loop-group.number c.loop-group.group-index c.loop-group.invariant.1 c.loop-group-test.true)

pub overflow_add-number : goal.overflow_add-number
overflow_add-number c =
    let small = c.fits-groups c.loop-group.group-index in
    omega (arith, group_fits c.loop-group.number c.loop-group.group-index c.loop-group.invariant.1 c.loop-group-test.true)

pub loop-group-preserved : goal.loop-group-preserved
loop-group-preserved c =
    let i = c.loop-group.group-index in
    let small : c.from.result < 0x10000 = omega (arith, c.fits-groups c.loop-group.group-index) in
    let more = number_more 0x10000 c.args.groups.now c.loop-group.group-index (omega arith) in
    (omega (arith, more), more_groups_fit c.loop-group.number c.from.result c.loop-group.group-index c.loop-group.invariant.1 small)
