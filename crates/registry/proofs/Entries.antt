-- Lists of entries: those of an authorization that is amended, and what two lists share.
use Rattle.registry.proofs.Vocabulary.{◌≡◌, ℕ, suc, ◌≤◌, Bool, true, false, ◌&&◌, ◌||◌, ◌==◌, List, [], ◌∷◌, length, inl, inr, refl, sym, ap, subst, ◌∙◌, arith, list_any, cases_Bool, false≢true, and_from, and_parts, eqb-true, or-true, prefix_eq, fits_max_length, equal_prefix, Prefix, ImportRow, RoaPrefix, is_entry, are_shared, row_terms, Rise, AreEntries, with_maxes, fit_lengths, maxes_fit}
use Rattle.registry.proofs.Repeats.{eqb-flips, prefix_eq-flips}
use Rattle.registry.specs.declared.roa_prefixes.TheConstants.{MOST_ENTRIES}

-- a row of an import asks for one entry
pub row-are : (r : ImportRow) → AreEntries (row_terms r).entries
row-are r = record { number = (omega arith, omega arith); rising = tt }

-- ---- maxLengths that are set

pub with_maxes-none : (es : List RoaPrefix) → with_maxes [] es ≡ es
with_maxes-none [] = refl
with_maxes-none (e ∷ es) = refl

pub with_maxes-length : (ms : List ℕ) (es : List RoaPrefix) → length (with_maxes ms es) ≡ length es
with_maxes-length ms [] = refl
with_maxes-length [] (e ∷ es) = refl
with_maxes-length (m ∷ ms) (e ∷ es) = ap suc (with_maxes-length ms es)

with_maxes-rising : (ms : List ℕ) (es : List RoaPrefix) → Rise es → Rise (with_maxes ms es)
with_maxes-rising ms [] rising = tt
with_maxes-rising [] (e ∷ es) rising = rising
with_maxes-rising (m ∷ ms) (d ∷ []) rising = tt
with_maxes-rising (m ∷ []) (d ∷ e ∷ es) rising = rising
with_maxes-rising (m ∷ n ∷ ms) (d ∷ e ∷ es) rising = (rising.0, with_maxes-rising (n ∷ ms) (e ∷ es) rising.1)

-- they leave entries of one authorization,
pub with_maxes-are : (ms : List ℕ) (es : List RoaPrefix) → AreEntries es → AreEntries (with_maxes ms es)
with_maxes-are ms es are = record {
  number = subst (λ n. (1 ≤ n) × (n ≤ MOST_ENTRIES)) (sym (with_maxes-length ms es)) are.number;
  rising = with_maxes-rising ms es are.rising;
}

-- which fit where these do,
pub with_maxes-fit : (ms : List ℕ) (es : List RoaPrefix) → maxes_fit ms es ≡ true → fit_lengths (with_maxes ms es) ≡ true
with_maxes-fit [] [] fit = refl
with_maxes-fit (m ∷ ms) [] fit = refl
with_maxes-fit [] (e ∷ es) fit = absurd (false≢true fit)
with_maxes-fit (m ∷ ms) (e ∷ es) fit =
    let parts = and_parts (fits_max_length e.prefix m) (maxes_fit ms es) fit in
    and_from _ _ parts.0 (with_maxes-fit ms es parts.1)

-- and the same once more change nothing
pub with_maxes-again : (ms : List ℕ) (es : List RoaPrefix) → with_maxes ms (with_maxes ms es) ≡ with_maxes ms es
with_maxes-again ms [] = refl
with_maxes-again [] (e ∷ es) = refl
with_maxes-again (m ∷ ms) (e ∷ es) = ap (λ l. record e { max = m } ∷ l) (with_maxes-again ms es)

-- ---- what two lists share

-- what is an entry of both, they share
pub both_share : (p : Prefix) (max : ℕ) (es ds : List RoaPrefix) → list_any (is_entry p max) es ≡ true → list_any (is_entry p max) ds ≡ true
    → are_shared es ds ≡ true
both_share p max es [] one other = absurd (false≢true other)
both_share p max es (d ∷ ds) one other =
    let has : ℕ → Prefix → Bool = λ m q. list_any (is_entry q m) es in
    elim (cases_Bool (is_entry p max d)) [
      | inl t ↦
          let parts = and_parts (prefix_eq d.prefix p) (d.max == max) t in
          let here : has d.max d.prefix ≡ true =
          ap (has d.max) (equal_prefix d.prefix p parts.0) ∙ ap (λ m. has m p) (eqb-true d.max max parts.1) ∙ one in
          ap (λ b. b || are_shared es ds) here
      | inr f ↦
          let rest = both_share p max es ds one (sym (ap (λ b. b || list_any (is_entry p max) ds) f) ∙ other) in
          ap (λ b. has d.max d.prefix || b) rest ∙ or-true (has d.max d.prefix)
    ]

is_entry-flips : (d e : RoaPrefix) → is_entry e.prefix e.max d ≡ is_entry d.prefix d.max e
is_entry-flips d e =
    ap (λ b. b && (d.max == e.max)) (prefix_eq-flips d.prefix e.prefix) ∙ ap (λ b. prefix_eq e.prefix d.prefix && b) (eqb-flips d.max e.max)

or-swap : (p q r s : Bool) → ((p || q) || (r || s)) ≡ ((p || r) || (q || s))
or-swap true q r s = refl
or-swap false true true s = refl
or-swap false true false s = refl
or-swap false false r s = refl

-- what a list shares with one entry and others, it shares with the entry or with the others
shared-cons : (d : RoaPrefix) (ds es : List RoaPrefix) → are_shared (d ∷ ds) es ≡ (list_any (is_entry d.prefix d.max) es || are_shared ds es)
shared-cons d ds [] = refl
shared-cons d ds (e ∷ es) =
    let others = list_any (is_entry e.prefix e.max) ds in
    ap (λ b. (b || others) || are_shared (d ∷ ds) es) (is_entry-flips d e)
    ∙ ap (λ b. (is_entry d.prefix d.max e || others) || b) (shared-cons d ds es)
    ∙ or-swap (is_entry d.prefix d.max e) others (list_any (is_entry d.prefix d.max) es) (are_shared ds es)

shared-nil : (es : List RoaPrefix) → are_shared [] es ≡ false
shared-nil [] = refl
shared-nil (e ∷ es) = shared-nil es

-- what two lists share, they share either way round
pub are_shared-flips : (es ds : List RoaPrefix) → are_shared es ds ≡ are_shared ds es
are_shared-flips es [] = sym (shared-nil es)
are_shared-flips es (d ∷ ds) =
    ap (λ b. list_any (is_entry d.prefix d.max) es || b) (are_shared-flips es ds) ∙ sym (shared-cons d ds es)
