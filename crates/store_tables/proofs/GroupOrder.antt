-- Claims with their entries in rising order: what two lists in order have that are, in some order, those of given claims
-- with entries.
use Rattle.store_tables.proofs.Vocabulary.{◌≡◌, List, [], ◌∷◌, ◌++◌, map, flat_map, append_assoc, false, Ordering, Less, Equal, Greater, nat_cmp, refl, sym, ap, subst, ◌∙◌, IsPermutation, IsSorted, IsTotalOrder, slice_cmp, AllByRecursion, ordering_reverse, ordering_then, true≢false, nat_cmp_total, nat_list_cmp_total, on_total, then_total, tied_itself, IsPermutation-append_comm, IsPermutation-append_left, IsPermutation-append_right, IsPermutation-cons, IsPermutation-map, IsPermutation-middle, IsPermutation-refl, IsPermutation-sym, IsPermutation-trans, IsAscending, all-append, all-permutation, all_weaker, along_permutation, ascending-append, ascending-map, ascending_weaker, prefix_cmp, AreEntries, Rise, RoaPrefix, Claim, EntryRow, Group, AllApart, ShareNoRow, AreGroups, claim_entry, group_rows, holder_entry}
use Rattle.std.specs.Ordering.{is_eq}
use Rattle.sqlite_keyed.proofs.SortLemmas.{sorted_unique}
use Rattle.addr.proofs.OrderLemmas.{prefix_order}
use Rattle.store_tables.specs.declared.groups.OfHolder.{OfHolder}

entries_rise : (es : List RoaPrefix) → Rise es → IsAscending (λ (d e : RoaPrefix). prefix_cmp d.prefix e.prefix ≡ Less) es
entries_rise [] rise = tt
entries_rise (d ∷ []) rise = (tt, tt)
entries_rise (d ∷ e ∷ es) rise =
    let more = entries_rise (e ∷ es) rise.1 in
    ((rise.0, all_weaker (λ (f : RoaPrefix). prefix_cmp e.prefix f.prefix ≡ Less) (λ (f : RoaPrefix). prefix_cmp d.prefix f.prefix ≡ Less) (λ f later. prefix_order.total.trans d.prefix e.prefix f.prefix rise.0 later) es more.0), more)

swapped : {X : Type 0} (xs ys zs : List X) → IsPermutation (xs ++ (ys ++ zs)) (ys ++ (xs ++ zs))
swapped xs ys zs =
    subst (λ l. IsPermutation l (ys ++ (xs ++ zs))) (append_assoc xs ys zs)
    (subst (IsPermutation (xs ++ ys ++ zs)) (append_assoc ys xs zs) (IsPermutation-append_left zs (xs ++ ys) (ys ++ xs) (IsPermutation-append_comm xs ys)))

flat_permutes : {X Y : Type 0} (f : X → List Y) (xs ys : List X) → IsPermutation xs ys → IsPermutation (flat_map f xs) (flat_map f ys)
flat_permutes f = along_permutation (λ xs ys. IsPermutation (flat_map f xs) (flat_map f ys)) (λ xs. IsPermutation-refl (flat_map f xs))
    (λ x xs ys same. IsPermutation-append_right (f x) (flat_map f xs) (flat_map f ys) same)
    (λ x y xs. swapped (f x) (f y) (flat_map f xs))
    (λ xs ys zs p q. IsPermutation-trans (flat_map f xs) (flat_map f ys) (flat_map f zs) p q)

-- Orders of claims and of the rows of entries: rows are in the order of their claims, and those of one claim in the order
-- of prefixes.
pub record AreOrders {C R : Type 0} (row : C → RoaPrefix → R) (of_claims : C → C → Ordering) (of_rows : R → R → Ordering) : Type 0 where
  pub claims_total : IsTotalOrder of_claims
  pub rows_total : IsTotalOrder of_rows
  pub across : (c d : C) (e f : RoaPrefix) → of_claims c d ≡ Less → of_rows (row c e) (row d f) ≡ Less
  pub within : (c : C) (e f : RoaPrefix) → prefix_cmp e.prefix f.prefix ≡ Less → of_rows (row c e) (row c f) ≡ Less

module _ {C R : Type 0} (row : C → RoaPrefix → R) (of_claims : C → C → Ordering) (of_rows : R → R → Ordering) (orders : AreOrders row of_claims of_rows) where
  abbrev pub IsBefore : Group C → Group C → Type 0
  IsBefore g h = of_claims g.claim h.claim ≡ Less

  abbrev pub AreUntied : Group C → Group C → Type 0
  AreUntied g h = is_eq (of_claims g.claim h.claim) ≡ false

  abbrev RowBefore : R → R → Type 0
  RowBefore r s = of_rows r s ≡ Less

  -- claims that rise are apart
  pub rising_apart : (claims : List C) → IsAscending (λ c d. of_claims c d ≡ Less) claims → AllApart row claims
  rising_apart = ascending_weaker (λ c d. of_claims c d ≡ Less) (ShareNoRow row) (λ c d less e f same. absurd (unlike (sym (tied_itself orders.rows_total (row d f)) ∙ ap (λ r. of_rows r (row d f)) (sym same) ∙ orders.across c d e f less)))
    where
      unlike : Equal ≡ Less → ⊥
      unlike is = absurd cc

  put : (g : Group C) (groups : List (Group C)) → AllByRecursion (AreUntied g) groups → IsAscending IsBefore groups
      → (all : List (Group C)) × IsPermutation (g ∷ groups) all × IsAscending IsBefore all
  put g [] untied up = (g ∷ [], IsPermutation-refl _, (tt, tt))
  put g (h ∷ groups) untied up = go (of_claims g.claim h.claim) refl (put g groups untied.1 up.1)
    where
      go : (o : Ordering) → of_claims g.claim h.claim ≡ o → (all : List (Group C)) × IsPermutation (g ∷ groups) all × IsAscending IsBefore all
          → (all : List (Group C)) × IsPermutation (g ∷ h ∷ groups) all × IsAscending IsBefore all
      go Less told more = (g ∷ h ∷ groups, IsPermutation-refl _, ((told, all_weaker (IsBefore h) (IsBefore g) (λ t later. orders.claims_total.trans g.claim h.claim t.claim told later) groups up.0), up))
      go Equal told more = absurd (true≢false (sym (ap is_eq told) ∙ untied.0))
      go Greater told more =
          let low = orders.claims_total.antisymm h.claim g.claim ∙ ap ordering_reverse told in
          (h ∷ more.0, IsPermutation-trans _ _ _ (IsPermutation-middle (g ∷ []) h groups) (IsPermutation-cons h _ _ more.1), (all-permutation (IsBefore h) _ _ more.1 (low, up.0), more.2))

  in_order : (held : List (Group C)) → IsAscending AreUntied held → (all : List (Group C)) × IsPermutation held all × IsAscending IsBefore all
  in_order [] untied = ([], IsPermutation-refl _, tt)
  in_order (g ∷ held) untied =
      let rest = in_order held untied.1 in
      let all = put g rest.0 (all-permutation (AreUntied g) _ _ rest.1 untied.0) rest.2 in
      (all.0, IsPermutation-trans _ _ _ (IsPermutation-cons g _ _ rest.1) all.1, all.2)

  before_rows : (c d : C) (e : RoaPrefix) (es : List RoaPrefix) → of_claims c d ≡ Less → AllByRecursion (RowBefore (row c e)) (map (row d) es)
  before_rows c d e [] less = tt
  before_rows c d e (f ∷ es) less = (orders.across c d e f less, before_rows c d e es less)

  before_later : (g : Group C) (e : RoaPrefix) (groups : List (Group C)) → AllByRecursion (IsBefore g) groups → AllByRecursion (RowBefore (row g.claim e)) (flat_map (group_rows row) groups)
  before_later g e [] up = tt
  before_later g e (h ∷ groups) up = all-append (RowBefore (row g.claim e)) (group_rows row h) (flat_map (group_rows row) groups) (before_rows g.claim h.claim e h.entries up.0) (before_later g e groups up.1)

  all_before : (g : Group C) (es : List RoaPrefix) (groups : List (Group C)) → AllByRecursion (IsBefore g) groups → AllByRecursion (λ r. AllByRecursion (RowBefore r) (flat_map (group_rows row) groups)) (map (row g.claim) es)
  all_before g [] groups up = tt
  all_before g (e ∷ es) groups up = (before_later g e groups up, all_before g es groups up)

  rows_rise : (groups : List (Group C)) → IsAscending IsBefore groups → AllByRecursion (λ (g : Group C). AreEntries g.entries) groups → IsAscending RowBefore (flat_map (group_rows row) groups)
  rows_rise [] up fit = tt
  rows_rise (g ∷ groups) up fit =
      let own = ascending_weaker (λ (d e : RoaPrefix). prefix_cmp d.prefix e.prefix ≡ Less) (λ d e. RowBefore (row g.claim d) (row g.claim e)) (orders.within g.claim) g.entries (entries_rise g.entries fit.0.rising) in
      ascending-append RowBefore (group_rows row g) (flat_map (group_rows row) groups) (ascending-map RowBefore (row g.claim) g.entries own) (rows_rise groups up.1 fit.1) (all_before g g.entries groups up.0)

  -- these claims with entries, in order, have the two lists
  pub record HaveInOrder (held : List (Group C)) (claims : List C) (rows : List R) : Type 0 where
    pub groups : List (Group C)
    pub same : IsPermutation held groups
    pub rise : IsAscending IsBefore groups
    pub are : AreGroups row claims rows groups

  -- Two lists in order that are, in some order, the claims and the rows of claims with entries have those in order.
  pub groups_in_order : (held : List (Group C)) (claims : List C) (rows : List R) → IsAscending AreUntied held → AllByRecursion (λ (g : Group C). AreEntries g.entries) held
      → IsPermutation (map (λ (g : Group C). g.claim) held) claims → IsSorted of_claims claims → IsPermutation (flat_map (group_rows row) held) rows → IsSorted of_rows rows → HaveInOrder held claims rows
  groups_in_order held claims rows untied fit same_claims claims_sorted same_rows rows_sorted =
      let all = in_order held untied in
      let back = IsPermutation-sym _ _ all.1 in
      let fits = all-permutation (λ (g : Group C). AreEntries g.entries) _ _ all.1 fit in
      let claims_are = sorted_unique of_claims orders.claims_total (map (λ (g : Group C). g.claim) all.0) claims (ascending-map (λ c d. of_claims c d ≡ Less) (λ (g : Group C). g.claim) all.0 all.2)
      (IsPermutation-trans _ _ _ (IsPermutation-map (λ (g : Group C). g.claim) _ _ back) same_claims) claims_sorted in
      let rows_are = sorted_unique of_rows orders.rows_total (flat_map (group_rows row) all.0) rows (rows_rise all.0 all.2 fits) (IsPermutation-trans _ _ _ (flat_permutes (group_rows row) _ _ back) same_rows) rows_sorted in
      record {
        groups = all.0;
        same = all.1;
        rise = all.2;
        are = record { same_claims = sym claims_are; same_rows = sym rows_are; are_entries = fits };
      }

-- ---- the orders of a holder's claims, by number, and of its entries

abbrev pub claim_cmp : Claim → Claim → Ordering
claim_cmp c d = nat_cmp c.number d.number

abbrev pub entry_row_cmp : EntryRow → EntryRow → Ordering
entry_row_cmp r s = ordering_then (nat_cmp r.number s.number) (prefix_cmp r.entry.prefix s.entry.prefix)

less_then : (o p : Ordering) → o ≡ Less → ordering_then o p ≡ Less
less_then o p less = rw less refl

tied_then : (o p : Ordering) → o ≡ Equal → p ≡ Less → ordering_then o p ≡ Less
tied_then o p tied less = rw tied less

pub claim_orders : AreOrders claim_entry claim_cmp entry_row_cmp
claim_orders = record {
  claims_total = on_total (λ (c : Claim). c.number) nat_cmp_total;
  rows_total = then_total (on_total (λ (r : EntryRow). r.number) nat_cmp_total) (on_total (λ (r : EntryRow). r.entry.prefix) prefix_order.total);
  across = λ c d e f less. less_then (nat_cmp c.number d.number) (prefix_cmp e.prefix f.prefix) less;
  within = λ c e f less. tied_then (nat_cmp c.number c.number) (prefix_cmp e.prefix f.prefix) (tied_itself nat_cmp_total c.number) less;
}

-- ---- the orders of the claims and the entries of all holders, by holder

abbrev pub of_holder_cmp : {X : Type 0} → (X → X → Ordering) → OfHolder X → OfHolder X → Ordering
of_holder_cmp cmp x y = ordering_then (slice_cmp nat_cmp x.holder y.holder) (cmp x.row y.row)

pub of_holder_total : {X : Type 0} (cmp : X → X → Ordering) → IsTotalOrder cmp → IsTotalOrder (of_holder_cmp cmp)
of_holder_total {X} cmp total = then_total (on_total (λ (x : OfHolder X). x.holder) nat_list_cmp_total) (on_total (λ (x : OfHolder X). x.row) total)

less_across : (o p q : Ordering) → (p ≡ Less → q ≡ Less) → ordering_then o p ≡ Less → ordering_then o q ≡ Less
less_across Less p q to less = refl
less_across Equal p q to less = to less
less_across Greater p q to less = less

pub holder_orders : {C R : Type 0} (row : C → RoaPrefix → R) (of_claims : C → C → Ordering) (of_rows : R → R → Ordering) → AreOrders row of_claims of_rows → AreOrders (holder_entry row) (of_holder_cmp of_claims) (of_holder_cmp of_rows)
holder_orders row of_claims of_rows orders = record {
  claims_total = of_holder_total of_claims orders.claims_total;
  rows_total = of_holder_total of_rows orders.rows_total;
  across = λ c d e f less. less_across (slice_cmp nat_cmp c.holder d.holder) (of_claims c.row d.row) (of_rows (row c.row e) (row d.row f)) (orders.across c.row d.row e f) less;
  within = λ c e f less. tied_then (slice_cmp nat_cmp c.holder c.holder) (of_rows (row c.row e) (row c.row f)) (tied_itself nat_list_cmp_total c.holder) (orders.within c.row e f less);
}
