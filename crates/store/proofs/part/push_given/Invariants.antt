use Rattle.store.proofs.Vocabulary.{◌≡◌, ◌||◌, ℕ, Ok, drop, ⊤, state, StoreFault, IsAsked, IsClean, EachRowsOf, auths_held, gives_numbered, has_number}
use Rattle.store.proofs.part.push_given.Given as goal

abbrev pub invariant-loop-entry : goal.invariant-loop-entry
invariant-loop-entry g l = record {
  asked : IsAsked {X = ⊤} {E = StoreFault} g.S.Store l.fn.conn l.conn (Ok tt);
  found :
      IsClean g.S.Store l.conn
      → EachRowsOf (λ rows. (n : ℕ) → (has_number l.numbers.items n || gives_numbered l.asn (drop l.entry-index l.entries) (auths_held rows) n) ≡ (has_number l.fn.numbers.items n || gives_numbered l.asn l.entries (auths_held rows) n)) l.holder (state g.S.Store l.fn.conn);
}
