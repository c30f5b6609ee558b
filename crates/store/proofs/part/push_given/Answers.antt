use Rattle.store.proofs.Vocabulary.{◌==◌, ◌||◌, ◌+◌, [], ◌∷◌, drop, arith, ap, ◌∙◌, drop_all, refused_by, auths_held, gives_from, gives_none, gives_out_of, earlier, later, unfit_later, gives_numbered, has_number}
use Rattle.store.proofs.InTurn.{asked_more}
use Rattle.store.proofs.PartFound.{all_found, has_pushed, one_found_more}
use Rattle.store.proofs.part.push_given.Goals as goal

pub returns-in_err-given-clause-schema : goal.returns-in_err-given-clause-schema
returns-in_err-given-clause-schema g c clean is =
    unfit_later g.S.Store c.loop-entry.invariant.asked (earlier g.S.Store c.load_given.ensures.asked clean)
    (c.load_given.ensures.schema clean (refused_by _ _ _ c.in_err-given.was c.from_residual.ensures.1 is))

pub loop-entry-preserved : goal.loop-entry-preserved
loop-entry-preserved g c =
    let a = c.args in
    let so_far = c.loop-entry.invariant in
    let given = c.in_ok-given.given.items in
    let numbers = c.loop-entry.numbers.items in
    let e = c.entry-item.result in
    let i = c.loop-entry.entry-index in
    record {
      asked = asked_more g.S.Store so_far.asked c.in_ok-given.ensures.asked;
      found = λ clean charter all holds n.
          let before = earlier g.S.Store c.load_given.ensures.asked clean in
          let o = all.of_holder a.holder.now in
          let found = c.in_ok-given.ensures.found clean charter all (later g.S.Store so_far.asked before charter all holds) in
          one_found_more (has_number numbers n) (gives_numbered a.asn (e ∷ []) (auths_held o) n) (has_number c.push_numbers.new.numbers.items n) (gives_numbered a.asn (drop i a.entries.now) (auths_held o) n) (gives_numbered a.asn (drop (i + 1) a.entries.now) (auths_held o) n) (has_number a.numbers.now.items n || gives_numbered a.asn a.entries.now (auths_held o) n)
          (so_far.found before charter all holds n)
          (ap (λ l. has_number l n) (rw c.deref.ensures.value at c.in_ok-push_numbers.ensures) ∙ has_pushed numbers given n ∙ ap (λ b. has_number numbers n || b) (gives_out_of (λ m. n == m) a.asn e o given found))
          (gives_from (λ m. n == m) a.asn a.entries.now i e (auths_held o) c.loop-entry-test.true c.entry-item.is);
    }

pub returns-clause-found : goal.returns-clause-found
returns-clause-found g c clean charter all holds n =
    let a = c.args in
    let ys = auths_held (all.of_holder a.holder.now) in
    let i = c.loop-entry.entry-index in
    all_found (has_number c.loop-entry.numbers.items n) (gives_numbered a.asn (drop i a.entries.now) ys n) (has_number a.numbers.now.items n || gives_numbered a.asn a.entries.now ys n)
    (ap (λ l. gives_numbered a.asn l ys n) (drop_all i a.entries.now (omega (arith, c.loop-entry-test.false))) ∙ gives_none (λ m. n == m) a.asn ys) (c.loop-entry.invariant.found clean charter all holds n)
