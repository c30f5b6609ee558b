use Rattle.store_open.proofs.Vocabulary.{◌≡◌, true, List, [], ◌∷◌, ◌++◌, drop, Result, Ok, Err, IfOk, sym, ap, ◌∙◌, not-true, not-false, Vec, Row, EntryRow, OfHolder, entry_cells, named_cells, EntryRowFits, NamedFits, first_columns, StoreFault, Joined, ClaimKey, JoinsRows, WalkStands, WalkGoesOn, AreOfAll}
use Rattle.store_open.proofs.Joining.{joins_no_more, joins_on, joins_unread}
use Rattle.store_open.proofs.join.JoinedTakeRow.take.Goals as goal

abbrev Took : Joined → List Row → Joined → Type 0
Took start rows now = (now.claims ≡ start.claims) × AreOfAll (λ all. JoinsRows all rows now.passed now.found.items now.fits) start.claims.items

module _ (old : Joined) (row : Row) (so_far : old.fits ≡ true) (x : OfHolder EntryRow) (fit : NamedFits EntryRowFits x) (shown : first_columns 7 row ≡ named_cells entry_cells x) where
  one_more : (r : Result Joined StoreFault) → IfOk r (λ now. now.claims ≡ old.claims)
      → IfOk r (λ now. AreOfAll (λ all. (entries : List (OfHolder EntryRow)) → WalkStands all entries (drop old.passed all) old.found.items → WalkGoesOn all (entries ++ x ∷ []) now.passed now.found.items now.fits) old.claims.items)
      → IfOk r (λ now. (start : Joined) (rows : List Row) → Took start rows old → Took start (rows ++ row ∷ []) now)
  one_more (Ok now) same walks = λ start rows was. (
    same ∙ was.0,
    λ all keyed.
        let own = keyed ∙ sym (ap (λ (v : Vec ClaimKey). v.items) was.0) in
        joins_on all rows old.passed old.found.items old.fits (was.1 all keyed) row so_far x fit shown now.passed now.found.items now.fits (walks all own),
  )
  one_more (Err e) same walks = tt

pub returns-then-not-self-clause-took : goal.returns-then-not-self-clause-took
returns-then-not-self-clause-took c = λ start rows was.
    let a = c.args.self in (was.0, λ all keyed. joins_no_more all rows a.passed a.found.items a.fits (was.1 all keyed) c.args.row.now (not-true _ c.if-not-self.true))

pub returns-in_default-clause-took : goal.returns-in_default-clause-took
returns-in_default-clause-took c = λ start rows was.
    let a = c.args.self in (was.0, λ all keyed. joins_unread all rows a.passed a.found.items a.fits (was.1 all keyed) c.args.row.now _ _ c.in_default.ensures)

pub returns-clause-took : goal.returns-clause-took
returns-clause-took c = one_more c.args.self c.args.row.now (not-false _ c.if-not-self.false) _ c.in-Some.ensures.0 c.in-Some.ensures.1 c.pass.result c.pass.ensures.claims c.pass.ensures.walks
