use Rattle.store_open.proofs.Vocabulary.{arith, ap, length, sym, ◌∙◌, no_more_than}
use Rattle.store_open.proofs.Grouped.{entries_unfit, named_entry_if, no_row_left, row_left, walks_from, walks_on}
use Rattle.store_open.proofs.reading.check_auths.Goals as goal

pub loop-claim-init : goal.loop-claim-init
loop-claim-init c = walks_from c.args.claims.now c.args.entries.now

pub split_at-requires : goal.split_at-requires
split_at-requires c =
    let first = ap length c.in_ok-found.ensures in
    let less = no_more_than (named_entry_if c.claim-item.result) c.loop-claim.rest.now in
    omega (arith, first, less, c.len.ensures, c.in_ok-found.found.ok.0)

pub returns-in_default-clause-schema : goal.returns-in_default-clause-schema
returns-in_default-clause-schema c is =
    entries_unfit c.args.claims.now c.args.entries.now c.loop-claim.claim-index c.loop-claim.rest.now c.loop-claim.invariant c.claim-item.result
    c.loop-claim-test.true c.claim-item.is c.in_ok-found.found.items c.in_ok-found.ensures c.in_default.ensures

pub loop-claim-preserved : goal.loop-claim-preserved
loop-claim-preserved c =
    walks_on c.args.claims.now c.args.entries.now c.loop-claim.claim-index c.loop-claim.rest.now c.loop-claim.invariant c.claim-item.result
    c.loop-claim-test.true c.claim-item.is c.in_ok-found.found.items c.in_ok-found.ensures
    c.in-Some.field-0 c.len.result c.split_at.result.1.now c.in-Some.ensures.0 c.in-Some.ensures.1
    (omega (arith, c.len.ensures, c.in_ok-found.found.ok.0)) c.split_at.ensures.back

pub returns-then-is_empty-clause-found : goal.returns-then-is_empty-clause-found
returns-then-is_empty-clause-found c =
    no_row_left c.args.claims.now c.args.entries.now c.loop-claim.claim-index c.loop-claim.rest.now c.loop-claim.invariant (omega (arith, c.loop-claim-test.false)) (sym c.is_empty.ensures ∙ c.if-is_empty.true)

pub returns-else-is_empty-clause-schema : goal.returns-else-is_empty-clause-schema
returns-else-is_empty-clause-schema c is =
    row_left c.args.claims.now c.args.entries.now c.loop-claim.claim-index c.loop-claim.rest.now c.loop-claim.invariant (omega (arith, c.loop-claim-test.false)) (sym c.is_empty.ensures ∙ c.if-is_empty.false)
