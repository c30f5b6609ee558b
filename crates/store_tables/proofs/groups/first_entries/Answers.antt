use Rattle.store_tables.proofs.Vocabulary.{arith, refl, sym, ◌∙◌}
use Rattle.store_tables.proofs.Grouping.{no_more_entries, no_more_rows, one_entry_more}
use Rattle.store_tables.proofs.groups.first_entries.Goals as goal
use Rattle.store_tables.proofs.groups.first_entries.Goals.{else-loop-row-test, then-loop-row-test+in_default}

pub loop-row-init : goal.loop-row-init
loop-row-init g c = rw c.new-entries.ensures.items refl

pub loop-row-preserved : goal.loop-row-preserved
loop-row-preserved g c =
    one_entry_more (g.C.HasEntries.entry_if c.args.claim.now) c.args.rows.now c.loop-row.row-index c.loop-row.entries.items c.loop-row.invariant
    c.row-item.result c.in-Some.entry c.push.new.self.items c.loop-row-test.true c.row-item.is (sym c.entry_if.ensures ∙ c.in-Some.is) c.in_ok-push.ensures.items

pub returns : goal.returns
returns g c =
    elim c.loop-row-test.branch [
      | else-loop-row-test w ↦ no_more_rows (g.C.HasEntries.entry_if c.args.claim.now) c.args.rows.now c.loop-row.row-index c.loop-row.entries.items c.loop-row.invariant (omega (arith, w.loop-row-test.false))
      | then-loop-row-test+in_default w ↦ no_more_entries (g.C.HasEntries.entry_if c.args.claim.now) c.args.rows.now c.loop-row.row-index c.loop-row.entries.items c.loop-row.invariant
          w.row-item.result w.loop-row-test.true w.row-item.is (sym w.entry_if.ensures ∙ w.in_default.is)
    ]
