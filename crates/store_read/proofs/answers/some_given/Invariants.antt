use Rattle.store_read.proofs.Vocabulary.{◌≡◌, Ok, drop, ⊤, state, StoreFault, IsAsked, IsClean, EachRowsOf, auths_held, some_gives}
use Rattle.store_read.proofs.answers.some_given.Given as goal

abbrev pub invariant-loop-entry : goal.invariant-loop-entry
invariant-loop-entry g l = record {
  asked : IsAsked {X = ⊤} {E = StoreFault} g.S.Store l.fn.conn l.conn (Ok tt);
  found :
      IsClean g.S.Store l.conn
      → EachRowsOf (λ rows. some_gives l.but l.asn l.entries (auths_held rows) ≡ some_gives l.but l.asn (drop l.entry-index l.entries) (auths_held rows)) l.holder (state g.S.Store l.fn.conn);
}
