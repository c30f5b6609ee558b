-- Sets of VRPs made from lists.
use Rattle.payload.proofs.Vocabulary.{T, zero, get_or, ◌<◌, ◌≡◌, ℕ, suc, Bool, true, false, cond, not, ◌&&◌, ◌||◌, Option, Some, None, is_some, List, [], ◌∷◌, map, length, refl, sym, ap, ◌∙◌, arith, Ordering, lit<, Equal-is, list_any, eq_by_cmp, is_lt, Less, Equal, Greater, Vrp, AreRising, vrp_cmp, vrp_order}
use Rattle.std.specs.FinMap as maps
use Rattle.std.specs.FinMap.Entries.{below_all, by_order, is_sorted, put}
use Rattle.payload.specs.VrpSet as set

-- two VRPs are one
abbrev pub is_vrp : Vrp → Vrp → Bool
is_vrp v w = eq_by_cmp vrp_cmp v w

some-or : (b : Bool) (x : Option (Unit {0})) → is_some (cond b (Some tt) x) ≡ (b || is_some x)
some-or true x = refl
some-or false x = refl

none-and : (b : Bool) (x : Option (Unit {0})) → is_some (cond b None x) ≡ (not b && is_some x)
none-and true x = refl
none-and false x = refl

abbrev marked : Bool → Option (Unit {0})
marked b = cond b (Some tt) None

marks : (x : Option (Unit {0})) → x ≡ marked (is_some x)
marks None = refl
marks (Some u) = refl

-- sets with the same VRPs are equal
same_set : (s t : set.VrpSet) → ((v : Vrp) → set.has_vrp s v ≡ set.has_vrp t v) → s ≡ t
same_set s t each = maps.same_map vrp_order.total vrp_order.exact s t (λ v. marks _ ∙ ap marked (each v) ∙ sym (marks _))

pub contains-insert : (s : set.VrpSet) (v w : Vrp) → set.has_vrp (set.insert s v) w ≡ (is_vrp w v || set.has_vrp s w)
contains-insert s v w = ap is_some (maps.get-insert vrp_order.total s v tt w) ∙ some-or (is_vrp w v) _

pub contains-remove : (s : set.VrpSet) (v w : Vrp) → set.has_vrp (set.remove s v) w ≡ (not (is_vrp w v) && set.has_vrp s w)
contains-remove s v w = ap is_some (maps.get-remove vrp_order.total s v w) ∙ none-and (is_vrp w v) _

pub contains-from_list : (vrps : List Vrp) (v : Vrp) → set.has_vrp (set.from_list vrps) v ≡ list_any (is_vrp v) vrps
contains-from_list [] v = ap is_some (maps.get-empty vrp_cmp v)
contains-from_list (w ∷ vrps) v = contains-insert (set.from_list vrps) w v ∙ ap (λ b. is_vrp v w || b) (contains-from_list vrps v)

-- lists that contain the same VRPs make one set
pub same_from_list : (xs ys : List Vrp) → ((v : Vrp) → list_any (is_vrp v) xs ≡ list_any (is_vrp v) ys) → set.from_list xs ≡ set.from_list ys
same_from_list xs ys each = same_set _ _ (λ v. contains-from_list xs v ∙ each v ∙ sym (contains-from_list ys v))

pub contains-items : (s : set.VrpSet) (v : Vrp) → set.has_vrp s v ≡ list_any (is_vrp v) (set.items s)
contains-items s v = maps.contains_key-keys s v

pub same_vrp-equal : (v w : Vrp) → is_vrp v w ≡ true → v ≡ w
same_vrp-equal v w h = vrp_order.exact v w ((Equal-is (vrp_cmp v w)).0 h)

-- a list with one VRP more makes the set with it inserted
pub members-insert : (s : set.VrpSet) (xs zs : List Vrp) (v : Vrp) → set.from_list xs ≡ s → ((w : Vrp) → list_any (is_vrp w) zs ≡ (is_vrp w v || list_any (is_vrp w) xs)) → set.from_list zs ≡ set.insert s v
members-insert s xs zs v view members = same_set _ _ (λ w.
    contains-from_list zs w ∙ members w
    ∙ ap (λ b. is_vrp w v || b) (sym (contains-from_list xs w) ∙ ap (λ t. set.has_vrp t w) view)
    ∙ sym (contains-insert s v w))

-- and one with one VRP less the set with it removed
pub members-remove : (s : set.VrpSet) (xs zs : List Vrp) (v : Vrp) → set.from_list xs ≡ s → ((w : Vrp) → list_any (is_vrp w) zs ≡ (not (is_vrp w v) && list_any (is_vrp w) xs)) → set.from_list zs ≡ set.remove s v
members-remove s xs zs v view members = same_set _ _ (λ w.
    contains-from_list zs w ∙ members w
    ∙ ap (λ b. not (is_vrp w v) && b) (sym (contains-from_list xs w) ∙ ap (λ t. set.has_vrp t w) view)
    ∙ sym (contains-remove s v w))

abbrev mark : Vrp → Vrp × Unit {0}
mark v = (v, tt)

names-marked : (vrps : List Vrp) → map (λ e. e.0) (map mark vrps) ≡ vrps
names-marked [] = refl
names-marked (v ∷ vrps) = ap (λ vs. v ∷ vs) (names-marked vrps)

rising-tail : (v : Vrp) (vrps : List Vrp) → AreRising (v ∷ vrps) → AreRising vrps
rising-tail v vrps rising i j d less within = rising (suc i) (suc j) d (omega arith) (omega arith)

put-first : (v w : Vrp) (es : List (Vrp × Unit {0})) → vrp_cmp v w ≡ Less → put vrp_cmp v tt ((w, tt) ∷ es) ≡ (v, tt) ∷ (w, tt) ∷ es
put-first v w es less = ap (λ o. by_order o ((v, tt) ∷ (w, tt) ∷ es) ((w, tt) ∷ es) ((w, tt) ∷ put vrp_cmp v tt es)) less

no-entries : (es : List (Vrp × Unit {0})) → length es ≡ 0 → es ≡ []
no-entries [] none = refl
no-entries (e ∷ es) none = absurd (omega arith)

entries-from_list : (vrps : List Vrp) → AreRising vrps → maps.entries (set.from_list vrps) ≡ map mark vrps
entries-from_list [] rising = no-entries _ (sym (maps.len-entries _) ∙ maps.len-empty vrp_cmp (Unit {0}))
entries-from_list (v ∷ []) rising = maps.entries-insert vrp_order.total (set.from_list []) v tt ∙ ap (put vrp_cmp v tt) (entries-from_list [] (λ i j d less within. absurd (omega arith)))
entries-from_list (v ∷ w ∷ vrps) rising =
    maps.entries-insert vrp_order.total (set.from_list (w ∷ vrps)) v tt
    ∙ ap (put vrp_cmp v tt) (entries-from_list (w ∷ vrps) (rising-tail v (w ∷ vrps) rising))
    ∙ put-first v w (map mark vrps) (rising 0 1 v (lit< tt) (omega arith))

-- the set of a list that rises gives that list
pub items-from_list : (vrps : List Vrp) → AreRising vrps → set.items (set.from_list vrps) ≡ vrps
items-from_list vrps rising = ap (map (λ e. e.0)) (entries-from_list vrps rising) ∙ names-marked vrps

-- ---- the VRPs of a set rise

both : (a b : Bool) → T (a && b) → T a × T b
both true b h = (tt, h)
both false b h = absurd h

is-less : (o : Ordering) → T (is_lt o) → o ≡ Less
is-less Less h = refl
is-less Equal h = absurd h
is-less Greater h = absurd h

below-at : (v : Vrp) (es : List (Vrp × Unit {0})) → T (below_all vrp_cmp v es) → (k : ℕ) (d : Vrp) → k < length (map (λ e. e.0) es) → vrp_cmp v (get_or (map (λ e. e.0) es) k d) ≡ Less
below-at v [] below k d within = absurd (omega arith)
below-at v (e ∷ es) below zero d within = is-less _ (both _ _ below).0
below-at v (e ∷ es) below (suc k) d within = below-at v es (both _ _ below).1 k d (omega arith)

rising-keys : (es : List (Vrp × Unit {0})) → T (is_sorted vrp_cmp es) → AreRising (map (λ e. e.0) es)
rising-keys [] sorted i j d less within = absurd (omega arith)
rising-keys (e ∷ es) sorted i zero d less within = absurd (omega arith)
rising-keys (e ∷ es) sorted zero (suc j) d less within = below-at e.0 es (both _ _ sorted).0 j d (omega arith)
rising-keys (e ∷ es) sorted (suc i) (suc j) d less within = rising-keys es (both _ _ sorted).1 i j d (omega arith) (omega arith)

pub items_rise : (s : set.VrpSet) → AreRising (set.items s)
items_rise s = rising-keys (maps.entries s) (maps.entries_sorted s)
