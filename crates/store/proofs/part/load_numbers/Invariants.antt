use Rattle.store.proofs.Vocabulary.{◌≡◌, ◌||◌, ℕ, Ok, drop, ⊤, state, StoreFault, IsAsked, IsClean, EachRowsOf, auths_held, has_number, some_asks_for}
use Rattle.store.proofs.part.load_numbers.Given as goal

abbrev pub invariant-loop-change : goal.invariant-loop-change
invariant-loop-change g l = record {
  asked : IsAsked {X = ⊤} {E = StoreFault} g.S.Store l.fn.conn l.conn (Ok tt);
  found :
      IsClean g.S.Store l.conn
      → EachRowsOf (λ rows. (n : ℕ) → (has_number l.numbers.items n || some_asks_for (drop l.change-index l.changes) (auths_held rows) n) ≡ some_asks_for l.changes (auths_held rows) n) l.holder (state g.S.Store l.fn.conn);
}
