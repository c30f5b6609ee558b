use Rattle.store_tables.proofs.Vocabulary.{arith, ap, length}
use Rattle.store_tables.proofs.Grouping.{claim_unfit, no_claim_left, no_more_than, one_claim_more, walked_none}
use Rattle.store_tables.proofs.groups.group_entries.Goals as goal

pub loop-claim-init : goal.loop-claim-init
loop-claim-init g c = rw c.new-groups.ensures.items (walked_none g.C.HasEntries.written g.C.HasEntries.entry_if g.met.C.HasEntries.found g.met.C.HasEntries.only c.args.claims.now c.args.rows.now)

pub split_at-requires : goal.split_at-requires
split_at-requires g c =
    let first = ap length c.in_ok-entries.ensures in
    let less = no_more_than (g.C.HasEntries.entry_if c.claim-item.result) c.loop-claim.rest.now in
    omega (arith, first, less, c.len.ensures, c.in_ok-entries.entries.ok.0)

pub returns-in_default : goal.returns-in_default
returns-in_default g c =
    claim_unfit g.C.HasEntries.written g.C.HasEntries.entry_if g.met.C.HasEntries.found g.met.C.HasEntries.only c.args.claims.now c.args.rows.now c.loop-claim.groups.items
    c.loop-claim.claim-index c.loop-claim.rest.now c.loop-claim.invariant c.claim-item.result c.loop-claim-test.true c.claim-item.is c.in_ok-entries.entries.items c.in_ok-entries.ensures c.in_default.ensures

pub loop-claim-preserved : goal.loop-claim-preserved
loop-claim-preserved g c =
    one_claim_more g.C.HasEntries.written g.C.HasEntries.entry_if g.met.C.HasEntries.found g.met.C.HasEntries.only c.args.claims.now c.args.rows.now c.loop-claim.groups.items
    c.loop-claim.claim-index c.loop-claim.rest.now c.loop-claim.invariant c.claim-item.result c.loop-claim-test.true c.claim-item.is c.in_ok-entries.entries.items c.in_ok-entries.ensures
    c.in-Some.entries c.push.new.self.items c.len.result c.split_at.result.1.now c.in-Some.ensures.0 c.in-Some.ensures.1
    (omega (arith, c.len.ensures, c.in_ok-entries.entries.ok.0)) c.split_at.ensures.back c.in_ok-push.ensures.items

pub returns : goal.returns
returns g c =
    rw c.then_some.ensures
    (no_claim_left g.C.HasEntries.written g.C.HasEntries.entry_if g.met.C.HasEntries.found g.met.C.HasEntries.only c.args.claims.now c.args.rows.now c.loop-claim.groups
    c.loop-claim.claim-index c.loop-claim.rest.now (omega (arith, c.loop-claim-test.false)) c.loop-claim.invariant c.is_empty.result c.is_empty.ensures)
