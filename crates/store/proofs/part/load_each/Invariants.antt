use Rattle.store.proofs.Vocabulary.{List, ◌++◌, Ok, drop, nat_cmp, ⊤, state, Auth, StoreFault, IsAsked, IsClean, EachRowsOf, auths_held, AreOfNumbers}
use Rattle.std.specs.List.Sorted.{IsStrictlySortedBy}
use Rattle.store.proofs.part.load_each.Given as goal

abbrev pub invariant-loop-number : goal.invariant-loop-number
invariant-loop-number g l = record {
  asked : IsAsked {X = ⊤} {E = StoreFault} g.S.Store l.fn.conn l.conn (Ok tt);
  rising : IsStrictlySortedBy nat_cmp (drop l.number-index l.numbers);
  found :
      IsClean g.S.Store l.conn
      → EachRowsOf (λ rows. (later : List Auth) → AreOfNumbers (drop l.number-index l.numbers) (auths_held rows) later → AreOfNumbers l.numbers (auths_held rows) (l.auths.items ++ later)) l.holder (state g.S.Store l.fn.conn);
}
