use Rattle.store_open.proofs.Vocabulary.{◌≡◌, ℤ, true, List, [], ◌∷◌, ◌++◌, Some, Result, Ok, Err, IfOk, IfSome, MatchBool, SFits, w64, rules, to_z-of_z, Int, Row, StoreFault, Collects, ShowsKey, ShowsNoClaim, last_value}
use Rattle.std.specs.Ordering.{is_lt, int_cmp}
use Rattle.store_open.specs.declared.collect.Collected.{Collected}
use Rattle.store_open.proofs.Keys.{collects_more, collects_no_more}
use Rattle.store_open.proofs.collect.CollectedTakeRow.take.Goals as goal

module _ (row : Row) (old : Collected) (n : ℤ) (so_far : old.is_read ≡ true) (is : last_value row ≡ Int n) (above : IfSome old.last (λ l. is_lt (int_cmp l n) ≡ true)) where
  one_more : (r : Result Collected StoreFault) → IfOk r (λ now. now.last ≡ Some n) → IfOk r (λ now. MatchBool now.is_read (ShowsKey row old.keys.items now.keys.items) (ShowsNoClaim row))
      → IfOk r (λ now. Collected → (rows : List Row) → Collects rows old.keys.items old.last old.is_read → Collects (rows ++ row ∷ []) now.keys.items now.last now.is_read)
  one_more (Ok now) ends one = λ _ rows was. collects_more rows row old.keys.items now.keys.items old.last now.last n old.is_read now.is_read so_far was is above ends one
  one_more (Err e) ends one = tt

pub returns-then-not-is_read-clause-took : goal.returns-then-not-is_read-clause-took
returns-then-not-is_read-clause-took c = λ _ rows was. let a = c.args.self in collects_no_more rows c.args.row.now a.keys.items a.last a.is_read c.if-not-is_read.true was

pub returns-clause-took : goal.returns-clause-took
returns-clause-took c =
    let fits : SFits w64 c.in-Some.rowid = search rules in
    let ends = simp to_z-of_z at c.with_claim.ensures.last in
    one_more c.args.row.now c.args.self c.in-Some.rowid c.if-not-is_read.false c.in-Some.ensures.0 c.in-Some.ensures.1 c.with_claim.result ends c.with_claim.ensures.taken
