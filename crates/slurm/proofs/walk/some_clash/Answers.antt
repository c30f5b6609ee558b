use Rattle.slurm.proofs.WalkLemmas.{walk_all, walk_ended, walk_found, walk_inside, walk_outside}
use Rattle.slurm.proofs.walk.some_clash.Goals as goal
use Rattle.slurm.proofs.walk.some_clash.Goals.{then-not-contains, else-not-contains+else-not-is_of_file}

pub loop-next-init : goal.loop-next-init
loop-next-init c = walk_all c.args.prefixes.now c.first-item.result c.in-len1-up.len_at_least c.first-item.is c.requires

pub returns-then-not-is_of_file : goal.returns-then-not-is_of_file
returns-then-not-is_of_file c =
    walk_found c.loop-next.outer.now c.next-item.result _ c.loop-next.next-index _ _ _ c.loop-next-test.true c.next-item.is c.contains.ensures c.if-not-contains.false c.is_of_file.ensures c.if-not-is_of_file.true c.loop-next.invariant

pub loop-next-preserved : goal.loop-next-preserved
loop-next-preserved c =
    elim c.if-not-contains.branch [
      | then-not-contains w ↦
          rw w.outer-is (walk_outside c.loop-next.outer.now c.next-item.result _ c.loop-next.next-index _ _ c.loop-next-test.true c.next-item.is c.contains.ensures w.if-not-contains.true c.loop-next.invariant)
      | else-not-contains+else-not-is_of_file w ↦
          rw w.outer-is (walk_inside c.loop-next.outer.now c.next-item.result _ c.loop-next.next-index _ _ _ c.loop-next-test.true c.next-item.is c.contains.ensures w.if-not-contains.false w.is_of_file.ensures w.if-not-is_of_file.false c.loop-next.invariant)
    ]

pub returns : goal.returns
returns c = walk_ended c.loop-next.outer.now _ c.loop-next.next-index _ c.loop-next-test.false c.loop-next.invariant
