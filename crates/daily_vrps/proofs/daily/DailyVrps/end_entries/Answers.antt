use Rattle.daily_vrps.proofs.Vocabulary.{◌≡◌, ◌+◌, ◌∷◌, ◌++◌, [], take, take_all, sym, ap, ◌∙◌, arith, refl, take_more}
use Rattle.daily_vrps.proofs.Follows.{entry_left, no_entry_left, same_then}
use Rattle.daily_vrps.proofs.daily.DailyVrps.end_entries.Goals as goal

pub loop-entry-init : goal.loop-entry-init
loop-entry-init c = record {
  same = record { day = refl; filters = refl; asserted = refl };
  left = no_entry_left c.args.self.now c.args.asn c.args.begun.now;
}

pub loop-entry-preserved : goal.loop-entry-preserved
loop-entry-preserved c =
    let entries = c.args.entries.now in
    let index = c.loop-entry.entry-index in
    let grown : take (index + 1) entries ≡ take index entries ++ c.entry-item.result ∷ [] =
    take_more entries index c.entry-item.result c.loop-entry-test.true ∙ ap (λ x. take index entries ++ x ∷ []) (sym c.entry-item.is) in
    record {
      same = same_then c.args.self.now c.loop-entry.self c.end_entry.new.self c.loop-entry.invariant.same c.end_entry.ensures.same;
      left = entry_left c.args.self.now c.loop-entry.self c.end_entry.new.self c.args.asn c.args.begun.now (take index entries) (take (index + 1) entries)
          c.entry-item.result grown c.loop-entry.invariant.same c.loop-entry.invariant.left c.end_entry.ensures.left;
    }

pub returns-clause-left : goal.returns-clause-left
returns-clause-left c = rw (take_all c.loop-entry.entry-index c.args.entries.now (omega (arith, c.loop-entry-test.false))) at c.loop-entry.invariant.left
