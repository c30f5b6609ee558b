use Rattle.store_read.proofs.Vocabulary.{◌↔◌, Ok, drop, ⊤, state, items_if_any, IsAsked, IsClean, AreHeld, EachRowsOf}
use Rattle.sqlite.specs.declared.error.Error.{Error}
use Rattle.store_read.proofs.answers.are_held.Given as goal

abbrev pub invariant-loop-entry : goal.invariant-loop-entry
invariant-loop-entry g l = record {
  asked : IsAsked {X = ⊤} {E = Error} g.S.Store l.fn.conn l.conn (Ok tt);
  found :
      IsClean g.S.Store l.conn
      → EachRowsOf (λ rows. let spans = items_if_any (λ r. r.holdings) rows in AreHeld spans l.entries ↔ AreHeld spans (drop l.entry-index l.entries)) l.holder (state g.S.Store l.fn.conn);
}
