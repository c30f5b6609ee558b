use Rattle.daily_vrps.proofs.Vocabulary.{◌≡◌, ◌+◌, ◌∷◌, ◌++◌, [], inl, take, take_all, sym, ap, ◌∙◌, arith, refl, take_more, IsVrpOfEntry, IsVrpOfSome, on-err}
use Rattle.daily_vrps.proofs.Follows.{added_since, entry_joined, no_entry_joined, same_then}
use Rattle.daily_vrps.proofs.daily.DailyVrps.begin_entries.Goals as goal

pub loop-entry-init : goal.loop-entry-init
loop-entry-init c = record {
  same = record { day = refl; filters = refl; asserted = refl };
  joined = no_entry_joined c.args.self.now c.args.asn;
}

pub loop-entry-preserved : goal.loop-entry-preserved
loop-entry-preserved c =
    let entries = c.args.entries.now in
    let index = c.loop-entry.entry-index in
    let grown : take (index + 1) entries ≡ take index entries ++ c.entry-item.result ∷ [] =
    take_more entries index c.entry-item.result c.loop-entry-test.true ∙ ap (λ x. take index entries ++ x ∷ []) (sym c.entry-item.is) in
    record {
      same = same_then c.args.self.now c.loop-entry.self c.begin_entry.new.self c.loop-entry.invariant.same c.begin_entry.ensures.same;
      joined = entry_joined c.args.self.now c.loop-entry.self c.begin_entry.new.self c.args.asn (take index entries) (take (index + 1) entries)
          c.entry-item.result grown c.loop-entry.invariant.same c.loop-entry.invariant.joined c.in_ok-begin_entry.ensures.ok;
    }

pub returns-in_err-begin_entry-clause-err : goal.returns-in_err-begin_entry-clause-err
returns-in_err-begin_entry-clause-err c =
    let some = c.in_err-begin_entry.ensures.err in
    on-err c.from_residual.result _ (
      some.0,
      added_since c.args.self.now c.loop-entry.self (IsVrpOfEntry c.entry-item.result c.args.asn) (IsVrpOfSome c.args.entries.now c.args.asn) some.0 c.loop-entry.invariant.same
          (λ there. (c.loop-entry.invariant.joined some.0).1 (inl there))
          (λ is. (c.entry-item.result, (c.loop-entry.entry-index, c.loop-entry-test.true, sym c.entry-item.is), is)) some.1,
    )

pub returns-clause-ok : goal.returns-clause-ok
returns-clause-ok c = rw (take_all c.loop-entry.entry-index c.args.entries.now (omega (arith, c.loop-entry-test.false))) at c.loop-entry.invariant.joined
