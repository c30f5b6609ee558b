use Rattle.store_read.proofs.Vocabulary.{◌+◌, ◌||◌, drop, arith, ap, sym, ◌∙◌, drop_all, refused_by, auths_held, is_other, some_gives, asked_then}
use Rattle.store_read.proofs.GivenAuths.{gives_from, gives_none}
use Rattle.store_read.proofs.InTurn.{earlier, later, unfit_later}
use Rattle.store_read.proofs.answers.some_given.Goals as goal

pub returns-in_err-is_given-clause-schema : goal.returns-in_err-is_given-clause-schema
returns-in_err-is_given-clause-schema g c clean is =
    unfit_later g.S.Store c.loop-entry.invariant.asked (earlier g.S.Store c.is_given.ensures.asked clean)
    (c.is_given.ensures.schema clean (refused_by _ _ _ c.in_err-is_given.was c.from_residual.ensures.1 is))

pub returns-then-branch-clause-found : goal.returns-then-branch-clause-found
returns-then-branch-clause-found g c clean charter all holds =
    let a = c.args in
    let so_far = c.loop-entry.invariant in
    let before = earlier g.S.Store c.is_given.ensures.asked clean in
    let ys = auths_held (all.of_holder a.holder.now) in
    let one = c.in_ok-is_given.ensures.found clean charter all (later g.S.Store so_far.asked before charter all holds) in
    let others = some_gives a.but a.asn (drop (c.loop-entry.entry-index + 1) a.entries.now) ys in
    sym
    (so_far.found before charter all holds
    ∙ gives_from (is_other a.but) a.asn a.entries.now c.loop-entry.entry-index c.entry-item.result ys c.loop-entry-test.true c.entry-item.is ∙ ap (λ b. b || others) (sym one ∙ c.if-branch.true))

pub loop-entry-preserved : goal.loop-entry-preserved
loop-entry-preserved g c =
    let a = c.args in
    let so_far = c.loop-entry.invariant in
    let asked = asked_then g.S.Store tt _ a.conn.now c.loop-entry.conn c.is_given.new.conn so_far.asked c.in_ok-is_given.ensures.asked in
    record {
      asked = record { idle = asked.idle; same = asked.same; kept = asked.kept; survives = asked.survives };
      found = λ clean charter all holds.
          let before = earlier g.S.Store c.is_given.ensures.asked clean in
          let ys = auths_held (all.of_holder a.holder.now) in
          let one = c.in_ok-is_given.ensures.found clean charter all (later g.S.Store so_far.asked before charter all holds) in
          let others = some_gives a.but a.asn (drop (c.loop-entry.entry-index + 1) a.entries.now) ys in
          so_far.found before charter all holds
          ∙ gives_from (is_other a.but) a.asn a.entries.now c.loop-entry.entry-index c.entry-item.result ys c.loop-entry-test.true c.entry-item.is ∙ ap (λ b. b || others) (sym one ∙ c.if-branch.false);
    }

pub returns-clause-found : goal.returns-clause-found
returns-clause-found g c clean charter all holds =
    let a = c.args in
    let ys = auths_held (all.of_holder a.holder.now) in
    sym
    (c.loop-entry.invariant.found clean charter all holds
    ∙ ap (λ l. some_gives a.but a.asn l ys) (drop_all c.loop-entry.entry-index a.entries.now (omega (arith, c.loop-entry-test.false))) ∙ gives_none (is_other a.but) a.asn ys)
