use Rattle.daily_vrps.proofs.Vocabulary.{◌≡◌, ◌+◌, ◌∷◌, ◌++◌, [], take, take_all, sym, ap, ◌∙◌, arith, take_more}
use Rattle.daily_vrps.proofs.GivenVrps.{entry_added, no_entry_added}
use Rattle.daily_vrps.proofs.giving.push_entries.Goals as goal

pub loop-entry-init : goal.loop-entry-init
loop-entry-init c = no_entry_added c.args.vrps.now.items c.args.asn

pub loop-entry-preserved : goal.loop-entry-preserved
loop-entry-preserved c =
    let entries = c.args.entries.now in
    let index = c.loop-entry.entry-index in
    let grown : take (index + 1) entries ≡ take index entries ++ c.entry-item.result ∷ [] =
    take_more entries index c.entry-item.result c.loop-entry-test.true ∙ ap (λ x. take index entries ++ x ∷ []) (sym c.entry-item.is) in
    entry_added c.args.vrps.now.items c.loop-entry.vrps.items c.push_entry.new.vrps.items c.args.asn (take index entries) (take (index + 1) entries)
    c.entry-item.result grown c.loop-entry.invariant c.in_ok-push_entry.ensures

pub returns : goal.returns
returns c = rw (take_all c.loop-entry.entry-index c.args.entries.now (omega (arith, c.loop-entry-test.false))) at c.loop-entry.invariant
