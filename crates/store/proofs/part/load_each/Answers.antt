use Rattle.store.proofs.Vocabulary.{◌++◌, drop, get_or, refl, arith, drop_all, refused_by, auths_held, earlier, later, unfit_later}
use Rattle.store.proofs.InTurn.{asked_more}
use Rattle.store.proofs.PartFound.{none_later, numbers_more, numbers_then, rising_from}
use Rattle.store.proofs.part.load_each.Goals as goal

pub returns-in_err-numbered-clause-schema : goal.returns-in_err-numbered-clause-schema
returns-in_err-numbered-clause-schema g c clean is =
    unfit_later g.S.Store c.loop-number.invariant.asked (earlier g.S.Store c.load_auths_numbered.ensures.asked clean)
    (c.load_auths_numbered.ensures.schema clean (refused_by _ _ _ c.in_err-numbered.was c.from_residual.ensures.1 is))

pub loop-number-preserved : goal.loop-number-preserved
loop-number-preserved g c =
    let numbers = c.args.numbers.now in
    let so_far = c.loop-number.invariant in
    let i = c.loop-number.number-index in
    let n = get_or numbers i 0 in
    record {
      asked = asked_more g.S.Store so_far.asked c.in_ok-numbered.ensures.asked;
      rising = (rising_from numbers i n c.loop-number-test.true refl so_far.rising).1;
      found = λ clean charter all holds rest of.
          let before = earlier g.S.Store c.load_auths_numbered.ensures.asked clean in
          let ys = auths_held (all.of_holder c.args.holder.now) in
          let numbered = c.in_ok-numbered.numbered.items in
          let found = c.in_ok-numbered.ensures.found clean charter all (later g.S.Store so_far.asked before charter all holds) in
          numbers_then numbers ys c.loop-number.auths.items numbered rest c.append.new.self.items c.in_ok-append.ensures.items
          (so_far.found before charter all holds (numbered ++ rest) (numbers_more ys numbers i n numbered rest c.loop-number-test.true refl so_far.rising found.0 of));
    }

pub returns-clause-found : goal.returns-clause-found
returns-clause-found g c clean charter all holds =
    let numbers = c.args.numbers.now in
    let i = c.loop-number.number-index in
    none_later numbers (drop i numbers) (auths_held (all.of_holder c.args.holder.now)) c.loop-number.auths.items (drop_all i numbers (omega (arith, c.loop-number-test.false))) (c.loop-number.invariant.found clean charter all holds)
