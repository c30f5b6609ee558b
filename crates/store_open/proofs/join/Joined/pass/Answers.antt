use Rattle.store_open.proofs.Vocabulary.{◌≡◌, true, Some, None, Result, Ok, Err, IfOk, List, ap, sym, ◌∙◌, ◌+◌, drop, arith, subst, ◌++◌, ◌∷◌, [], RoaPrefix, AreEntries, Claim, EntryRow, OfHolder, StoreFault, Joined, WalkGoesOn, WalkStands, AreOfAll, first_key_entry}
use Rattle.store_open.proofs.Joining.{of_next_claim, of_no_claim, one_entry, others_unfit, too_many, walk_ends, walk_goes_on}
use Rattle.store_open.proofs.Keys.{as_many, entry_by_key}
use Rattle.store_open.proofs.join.Joined.pass.Goals as goal

-- with one more entry the walk goes on, where it stood so
goes_on : (row : OfHolder EntryRow) (old : Joined) (so : List (OfHolder Claim) → List (OfHolder EntryRow) → Type 0) (more : List RoaPrefix) (r : Result Joined StoreFault) → old.fits ≡ true
    → IfOk r (λ now. (now.claims ≡ old.claims) × (now.passed ≡ old.passed) × (now.fits ≡ old.fits)) → IfOk r (λ now. now.found.items ≡ more)
    → AreOfAll (λ all. (entries : List (OfHolder EntryRow)) → so all entries → WalkStands all (entries ++ row ∷ []) (drop old.passed all) more) old.claims.items
    → IfOk r (λ now. AreOfAll (λ all. (entries : List (OfHolder EntryRow)) → so all entries → WalkGoesOn all (entries ++ row ∷ []) now.passed now.found.items now.fits) old.claims.items)
goes_on row old so more (Ok now) fits same is stands = λ all keyed entries was.
    rw (same.1, same.2 ∙ fits) (walk_goes_on all (entries ++ row ∷ []) old.passed more now.found.items is (stands all keyed entries was))
goes_on row old so more (Err e) fits same is stands = tt

pub returns-then-self-len-clause-walks : goal.returns-then-self-len-clause-walks
returns-then-self-len-clause-walks c all keyed entries stands =
    let a = c.args.self in
    rw c.unfit.ensures.3
    (walk_ends all _ _ _ (too_many all entries a.passed a.found.items c.args.row.now stands (omega (arith, as_many all a.claims.items keyed, c.len.ensures, c.if-self-len.true))))

pub returns-in-Some-clause-walks : goal.returns-in-Some-clause-walks
returns-in-Some-clause-walks c =
    let a = c.args.self in
    let row = c.args.row.now in
    let key : first_key_entry (drop a.passed a.claims.items) row ≡ Some c.in-Some.entry = ap (λ l. first_key_entry (drop a.passed l) row) (sym c.deref.ensures.value) ∙ sym c.in-Some.ensures in
    goes_on row a _ _ c.with.result c.requires c.with.ensures.place c.with.ensures.more
    (λ all keyed entries stands. one_entry all entries (drop a.passed all) a.found.items row c.in-Some.entry stands (entry_by_key all a.claims.items keyed a.passed row ∙ key))

pub returns-in_default-in_order-clause-walks : goal.returns-in_default-in_order-clause-walks
returns-in_default-in_order-clause-walks c all keyed entries stands =
    let a = c.args.self in
    let row = c.args.row.now in
    let key : first_key_entry (drop a.passed a.claims.items) row ≡ None = ap (λ l. first_key_entry (drop a.passed l) row) (sym c.deref.ensures.value) ∙ sym c.entry_at.ensures ∙ c.in_default.is in
    rw c.unfit-in_default-in_order.ensures.3
    (walk_ends all _ _ _ (others_unfit all entries a.passed a.found.items row stands (omega (arith, as_many all a.claims.items keyed, c.len.ensures, c.if-self-len.false)) (entry_by_key all a.claims.items keyed a.passed row ∙ key)
    (rw c.replace-found.ensures.value at c.in_default-in_order.ensures)))

pub returns-in_default-entry_at-clause-walks : goal.returns-in_default-entry_at-clause-walks
returns-in_default-entry_at-clause-walks c all keyed entries stands =
    let a = c.args.self in
    let row = c.args.row.now in
    let key : first_key_entry (drop a.passed a.claims.items) row ≡ None = ap (λ l. first_key_entry (drop a.passed l) row) (sym c.deref.ensures.value) ∙ sym c.entry_at.ensures ∙ c.in_default.is in
    let next : first_key_entry (drop (a.passed + 1) a.claims.items) row ≡ None = ap (λ l. first_key_entry (drop (a.passed + 1) l) row) (sym c.deref-2.ensures.value) ∙ sym c.in_default-entry_at.ensures in
    let fit : AreEntries a.found.items = rw c.replace-found.ensures.value at (subst AreEntries c.in-Some-in_order.ensures.1 c.in-Some-in_order.ensures.0) in
    let of = entry_by_key all a.claims.items keyed in
    rw c.unfit-in_default-entry_at.ensures.3
    (walk_ends all _ _ _ (of_no_claim all entries a.passed a.found.items row stands (omega (arith, as_many all a.claims.items keyed, c.len.ensures, c.if-self-len.false)) (of a.passed row ∙ key) fit (of (a.passed + 1) row ∙ next)))

pub returns-clause-walks : goal.returns-clause-walks
returns-clause-walks c =
    let a = c.args.self in
    let row = c.args.row.now in
    let e = c.in-Some-entry_at.entry in
    let key : first_key_entry (drop a.passed a.claims.items) row ≡ None = ap (λ l. first_key_entry (drop a.passed l) row) (sym c.deref.ensures.value) ∙ sym c.entry_at.ensures ∙ c.in_default.is in
    let next : first_key_entry (drop (a.passed + 1) a.claims.items) row ≡ Some e = ap (λ l. first_key_entry (drop (a.passed + 1) l) row) (sym c.deref-2.ensures.value) ∙ sym c.in-Some-entry_at.ensures in
    let fit : AreEntries a.found.items = rw c.replace-found.ensures.value at (subst AreEntries c.in-Some-in_order.ensures.1 c.in-Some-in_order.ensures.0) in
    goes_on row (record a { passed = a.passed + 1; found = c.replace-found.new.dest }) _ _ c.with-2.result c.requires c.with-2.ensures.place
    (rw (c.replace-found.ensures.after, c.new.ensures.items) at c.with-2.ensures.more)
    (λ all keyed entries stands.
    let of = entry_by_key all a.claims.items keyed in
    of_next_claim all entries a.passed a.found.items row stands (omega (arith, as_many all a.claims.items keyed, c.len.ensures, c.if-self-len.false)) (of a.passed row ∙ key) fit e (of (a.passed + 1) row ∙ next))
