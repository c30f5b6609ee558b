use Rattle.store_read.proofs.Vocabulary.{ap, slice_get, sym, ◌∙◌, state, count_claims_is}
use Rattle.store_read.proofs.ClaimCount.{if-read, number-read, row-is}
use Rattle.store_read.proofs.InTurn.{earlier}
use Rattle.store_read.proofs.load.count_auths.Goals as goal

pub ask-requires-clause-plain : goal.ask-requires-clause-plain
ask-requires-clause-plain g c = count_claims_is.plain

pub returns-clause-found : goal.returns-clause-found
returns-clause-found g c clean =
    let old = state g.S.Store c.args.conn.now in
    let begun = earlier g.S.Store c.ask.ensures.asked clean in
    let answer = row-is c.args.holder.now old (state g.S.Store c.ask.new.conn) (c.requires.tables begun) _ c.name_values.ensures c.in_ok-found.found.items (c.in_ok-found.ensures.shown clean) in
    let first = sym (c.in-Some.ensures.value ∙ ap (λ l. slice_get l 0) c.deref.ensures.value) in
    rw c.ok_or.ensures.value (if-read c.count_in.result _ c.in-Some.row.now _ (λ m fits shown charter all holds. number-read _ m _ _ (answer charter all holds) first fits shown) c.count_in.ensures)
