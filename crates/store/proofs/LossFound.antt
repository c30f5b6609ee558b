-- What is loaded of a holder that loses a prefix.
use Rattle.store.proofs.Vocabulary.{◌≡◌, ℕ, ◌==◌, ◌&&◌, nat_le, Bool, true, false, List, [], map, filter, flat_map, IsPermutation, Option, Some, None, refl, sym, subst, ◌∙◌, list_any, false≢true, Contains-permutation, IsPermutation-refl, IsPermutation-sym, list_any-IsPermutation, all_from, has_contained, has_filtered, filter_same, last_of, overlaps, Prefix, Span, Auth, RoaPrefix, HolderRows, Rows, terms_overlap, claim_of, entry_rows_of, claim_entry, items_if_any, EntryRow, list_any-map, auths_held, begins_up_to, entries_up_to, AreHoldings, AreOverlapping, HaveSame, IsForLoss, any_and, any_each, any_kept, has_number, overlaps_numbered, AreOfNumbers}
use Rattle.addr.specs.Family.{family_eq}
use Rattle.store.proofs.PartFound.{in_order, passes_by_number, AreNumberedOnce}

-- ---- the numbers of those that share an address with the prefix

-- an entry that shares an address with the prefix begins at or before its last
begins_too : (a f l g : Bool) → ((a && (f && (l && g))) && (f && l)) ≡ (a && (f && (l && g)))
begins_too true true true true = refl
begins_too true true true false = refl
begins_too true true false g = refl
begins_too true false l g = refl
begins_too false f l g = refl

abbrev is_numbered : Prefix → ℕ → EntryRow → Bool
is_numbered p n r = (n == r.number) && overlaps r.entry.prefix p

-- an authorization shares one where a row of it does
row_overlaps : (p : Prefix) (n : ℕ) (x : Auth) → list_any (λ (r : EntryRow). is_numbered p n r && begins_up_to p r) (entry_rows_of x) ≡ ((n == x.number) && terms_overlap x p)
row_overlaps p n x =
    list_any-map (λ (r : EntryRow). is_numbered p n r && begins_up_to p r) (claim_entry (claim_of x)) x.entries
    ∙ (λ i. list_any (λ (e : RoaPrefix). begins_too (n == x.number) (family_eq e.prefix.family p.family) (nat_le e.prefix.first (last_of p)) (nat_le p.first (last_of e.prefix)) i) x.entries)
    ∙ any_and (n == x.number) (λ (e : RoaPrefix). overlaps e.prefix p) x.entries

pub overlaps_out_of : (p : Prefix) (o : Option Rows) (found : List EntryRow) (n : ℕ) → IsPermutation (items_if_any (entries_up_to p) o) found
    → has_number (map (λ (r : EntryRow). r.number) (filter (λ (r : EntryRow). overlaps r.entry.prefix p) found)) n ≡ overlaps_numbered p (auths_held o) n
overlaps_out_of p o found n same =
    list_any-map (λ m. n == m) (λ (r : EntryRow). r.number) (filter (λ (r : EntryRow). overlaps r.entry.prefix p) found)
    ∙ any_kept (λ (r : EntryRow). n == r.number) (λ (r : EntryRow). overlaps r.entry.prefix p) found
    ∙ sym (list_any-IsPermutation (is_numbered p n) (items_if_any (entries_up_to p) o) found same)
    ∙ go o
  where
    go : (o : Option Rows) → list_any (is_numbered p n) (items_if_any (entries_up_to p) o) ≡ overlaps_numbered p (auths_held o) n
    go None = refl
    go (Some r) =
        any_kept (is_numbered p n) (begins_up_to p) (flat_map entry_rows_of r.auths)
        ∙ any_each (λ (x : EntryRow). is_numbered p n x && begins_up_to p x) entry_rows_of r.auths
        ∙ (λ i. list_any (λ (x : Auth). row_overlaps p n x i) r.auths)

-- ---- the authorizations of these numbers

pub all_overlapping : (p : Prefix) (auths : List Auth) (numbers : List ℕ) (loaded : List Auth) → AreNumberedOnce auths → ((n : ℕ) → has_number numbers n ≡ overlaps_numbered p auths n) → AreOfNumbers numbers auths loaded
    → AreOverlapping p auths loaded
all_overlapping p auths numbers loaded apart asked of =
    let passes = λ (x : Auth). terms_overlap x p in
    let same = filter_same (λ (x : Auth). has_number numbers x.number) passes auths (all_from _ auths (λ x there. asked x.number ∙ passes_by_number auths apart x there passes)) in
    let found = subst (λ (l : List Auth). IsPermutation l loaded) same of.same in
    record {
      order = (found, in_order loaded of.rising);
      once = λ x y there in_loaded number.
          let kept = Contains-permutation loaded (filter passes auths) y (IsPermutation-sym (filter passes auths) loaded found) in_loaded in
          apart x y (has_contained auths x there) (has_filtered passes auths y (has_contained (filter passes auths) y kept)).0 number;
    }

-- ---- what is loaded of a holder

pub no_loss : (p : Prefix) (o : Option Rows) → AreHoldings o None → IsForLoss p o None
no_loss p None none = record {
  holdings = none;
  auths = record { order = (IsPermutation-refl [], in_order [] tt); once = λ x y there in_loaded number. absurd (has_contained [] x there) };
}
no_loss p (Some r) none = absurd (false≢true none.registered)

pub some_loss : (p : Prefix) (o : Option Rows) (held part : HolderRows) → part.holdings ≡ held.holdings → AreHoldings o (Some held) → AreOverlapping p (auths_held o) part.auths.items → IsForLoss p o (Some part)
some_loss p o held part same are auths = record {
  holdings = record {
    registered = are.registered;
    runs = subst (λ (spans : List Span). HaveSame (items_if_any (λ (r : Rows). r.holdings) o) spans) (sym same) are.runs;
  };
  auths = auths;
}
