-- Lists of VRPs whose prefixes are no shorter than some length.
use Rattle.payload.proofs.Vocabulary.{◌≡◌, ℕ, ◌+◌, ◌≤◌, ◌<◌, List, [], ◌++◌, take, length, get_or, true, not, ◌&&◌, ◌||◌, refl, ap, subst, arith, inl, inr, All, list_any, take_all, All-more, All-weaker, cases_Bool, contains, Prefix, is_at_most, HasAllEnclosing, contains-between, contains-ends, Family, Vrp, vrp_order, All-inserted, All-removed, shortest_in, AreNoShorter}
use Rattle.payload.proofs.Fronts.{All-front}
use Rattle.payload.proofs.Sets.{is_vrp}
use Rattle.payload.specs.declared.shortest.Shortest.{Shortest}

weaker : (s t : Shortest) (vrps : List Vrp) → ((f : Family) → shortest_in t f ≤ shortest_in s f) → AreNoShorter s vrps → AreNoShorter t vrps
weaker s t vrps less all =
    All-weaker (λ v. shortest_in s v.prefix.family ≤ v.prefix.length) (λ v. shortest_in t v.prefix.family ≤ v.prefix.length) (λ v h. omega (arith, less v.prefix.family)) vrps all

pub no_shorter-more : (s t : Shortest) (vrps : List Vrp) (i : ℕ) (v : Vrp) → AreNoShorter s (take i vrps) → i < length vrps → v ≡ get_or vrps i v → shortest_in t v.prefix.family ≤ v.prefix.length → ((f : Family) → shortest_in t f ≤ shortest_in s f) → AreNoShorter t (take (i + 1) vrps)
no_shorter-more s t vrps i v all within read here less =
    All-more (λ v. shortest_in t v.prefix.family ≤ v.prefix.length) vrps i v within (weaker s t (take i vrps) less all)
    (subst (λ w. shortest_in t w.prefix.family ≤ w.prefix.length) read here)

pub no_shorter-all : (s : Shortest) (vrps : List Vrp) (i : ℕ) → AreNoShorter s (take i vrps) → length vrps ≤ i → AreNoShorter s vrps
no_shorter-all s vrps i all past = subst (AreNoShorter s) (take_all i vrps past) all

pub no_shorter-inserted : (s t : Shortest) (vrps news : List Vrp) (v : Vrp) → AreNoShorter s vrps → ((w : Vrp) → list_any (is_vrp w) news ≡ (is_vrp w v || list_any (is_vrp w) vrps)) → shortest_in t v.prefix.family ≤ v.prefix.length → ((f : Family) → shortest_in t f ≤ shortest_in s f) → AreNoShorter t news
no_shorter-inserted s t vrps news v all members here less =
    All-inserted vrp_order.total vrp_order.exact (λ v. shortest_in t v.prefix.family ≤ v.prefix.length) vrps news v (weaker s t vrps less all) here members

pub no_shorter-removed : (s : Shortest) (vrps news : List Vrp) (v : Vrp) → AreNoShorter s vrps → ((w : Vrp) → list_any (is_vrp w) news ≡ (not (is_vrp w v) && list_any (is_vrp w) vrps)) → AreNoShorter s news
no_shorter-removed s vrps news v all members = All-removed vrp_order.total vrp_order.exact (λ v. shortest_in s v.prefix.family ≤ v.prefix.length) vrps news v all members

-- no prefix that contains two of one family is longer than the last round both
pub none-so_short : (s : Shortest) (low high : Prefix) (last : ℕ) (vrps : List Vrp) → AreNoShorter s vrps → All (λ v. is_at_most v.prefix low ≡ true) vrps → is_at_most low high ≡ true → ((p : Prefix) → contains p low ≡ true → contains p high ≡ true → p.length ≤ last) → last < shortest_in s low.family → HasAllEnclosing high vrps []
none-so_short s low high last vrps long before order round short = record {
  rest = vrps;
  parts = refl;
  others = λ k d within.
      let v = get_or vrps k d in
      elim (cases_Bool (contains v.prefix high)) [
        | inl both ↦
            let inside = contains-between v.prefix low high both (before k d within) order in
            let family : shortest_in s v.prefix.family ≡ shortest_in s low.family = ap (shortest_in s) (contains-ends v.prefix low inside).family in
            absurd (omega (arith, round v.prefix inside both, long k d within, family))
        | inr out ↦ out
      ];
}

pub no_shorter-front : (s : Shortest) (vrps front : List Vrp) (rest : List Vrp) → vrps ≡ front ++ rest → AreNoShorter s vrps → AreNoShorter s front
no_shorter-front s vrps front rest parts all = All-front (λ v. shortest_in s v.prefix.family ≤ v.prefix.length) front rest (subst (AreNoShorter s) parts all)
