use Rattle.daily_vrps.proofs.Vocabulary.{List, subst, ◌++◌, Contains, IfOk-weaker, Vrp, IsAfterExceptions, Exceptions}
use Rattle.std.specs.List.Sorted.{IsPermutation}
use Rattle.std.proofs.lemmas.List.Sorted.{Contains-permutation, IsPermutation-sym}
use Rattle.daily_vrps.proofs.ExceptionLemmas.{after_exceptions}
use Rattle.daily_vrps.proofs.VrpSets.{items_such}
use Rattle.daily_vrps.proofs.exceptions.excepted.Goals as goal

pub returns : goal.returns
returns c =
    let exceptions : Exceptions = record { filters = c.args.filters.now; assertions = c.args.assertions.now } in
    let left = c.keep_unfiltered.new.vrps.items in
    let gathered = left ++ exceptions.assertions in
    let sorted = c.sort_unstable.new.self.items in
    let same = subst (λ (vrps : List Vrp). IsPermutation vrps sorted) c.in_ok-extend_from_slice.ensures.items c.sort_unstable.ensures.permutation in
    let after = after_exceptions exceptions c.args.given.items left c.keep_unfiltered.ensures in
    IfOk-weaker c.of.result _ _
    (λ vrps is.
    items_such (λ (v : Vrp). IsAfterExceptions exceptions (Contains c.args.given.items v) v) sorted c.deref.result.now vrps
    is c.deref.ensures.value
    (λ v. (
      λ there. (after v).0 (Contains-permutation sorted gathered v (IsPermutation-sym gathered sorted same) there),
      λ holds. Contains-permutation gathered sorted v same ((after v).1 holds),
    )))
    c.of.ensures
