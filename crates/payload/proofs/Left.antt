-- A search that has looked at the VRPs from some place on.
use Rattle.payload.proofs.Vocabulary.{lit<, ◌≡◌, Bool, true, false, ◌&&◌, ◌||◌, nat_le, List, [], ◌∷◌, ◌++◌, get_or, sym, ap, ◌∙◌, subst, All, list_any, and_left, or-false, or-true, and-false, list_any-append, list_any_none, covers, matches, is_from, Route, Vrp, vrp_cmp, Less, AreRising, is_at_most, IsFrontUpTo, HasAllEnclosing, HasAllMatching}
use Rattle.payload.proofs.Fronts.{All-front, All-back, rising-before, rising-last, rising-front, enclosing-up_to}

-- what is left to look at decides the state: of the VRPs already passed none matches the route, and some cover it or none
pub record IsLeft (vrps rest : List Vrp) (route : Route) (is_covered : Bool) : Type 0 where
  pub rising : AreRising rest
  pub before : All (λ v. is_at_most v.prefix route.prefix ≡ true) rest
  pub matched : list_any (λ v. matches v route) vrps ≡ list_any (λ v. matches v route) rest
  pub covered : list_any (λ v. covers v route) vrps ≡ (list_any (λ v. covers v route) rest || is_covered)

any-front : (p : Vrp → Bool) (front rest : List Vrp) → All (λ v. p v ≡ false) rest → list_any p (front ++ rest) ≡ list_any p front
any-front p front rest none = list_any-append p front rest ∙ ap (λ b. list_any p front || b) (list_any_none p rest none) ∙ or-false _

any-last : (p : Vrp → Bool) (before : List Vrp) (v : Vrp) → list_any p (before ++ v ∷ []) ≡ (list_any p before || p v)
any-last p before v = list_any-append p before (v ∷ []) ∙ ap (λ b. list_any p before || b) (or-false (p v))

any-enclosing_covers : (route : Route) (vrps front : List Vrp) → HasAllEnclosing route.prefix vrps front → list_any (λ v. covers v route) vrps ≡ list_any (λ v. covers v route) front
any-enclosing_covers route vrps front is = ap (list_any (λ v. covers v route)) is.parts ∙ any-front _ front is.rest is.others

any-enclosing_matches : (route : Route) (vrps front : List Vrp) → HasAllEnclosing route.prefix vrps front → list_any (λ v. matches v route) vrps ≡ list_any (λ v. matches v route) front
any-enclosing_matches route vrps front is =
    ap (list_any (λ v. matches v route)) is.parts
    ∙ any-front _ front is.rest (λ k d within. and_left _ (nat_le route.prefix.length (get_or is.rest k d).max && is_from route.origin (get_or is.rest k d).asn) (is.others k d within))

pub left-start : (vrps rest : List Vrp) (route : Route) → AreRising vrps → IsFrontUpTo route.prefix vrps rest → IsLeft vrps rest route false
left-start vrps rest route rising is =
    let enclosing = enclosing-up_to route.prefix vrps rest is in
    record {
      rising = rising-front rest is.rest (subst AreRising is.parts rising);
      before = is.at_most;
      matched = any-enclosing_matches route vrps rest enclosing;
      covered = any-enclosing_covers route vrps rest enclosing ∙ sym (or-false _);
    }

-- the last VRP does not cover the route, and all that may cover it are in a front of the others
pub left-skip : (vrps rest before front : List Vrp) (v : Vrp) (route : Route) (is_covered : Bool) → IsLeft vrps rest route is_covered → rest ≡ before ++ v ∷ [] → covers v route ≡ false → HasAllEnclosing route.prefix before front → IsLeft vrps front route is_covered
left-skip vrps rest before front v route is_covered left split apart is =
    let rising = rising-front before (v ∷ []) (subst AreRising split left.rising) in
    let at_most = All-front (λ v. is_at_most v.prefix route.prefix ≡ true) before (v ∷ []) (subst (All (λ v. is_at_most v.prefix route.prefix ≡ true)) split left.before) in
    record {
      rising = rising-front front is.rest (subst AreRising is.parts rising);
      before = All-front (λ v. is_at_most v.prefix route.prefix ≡ true) front is.rest (subst (All (λ v. is_at_most v.prefix route.prefix ≡ true)) is.parts at_most);
      matched = left.matched ∙ ap (list_any (λ v. matches v route)) split ∙ any-last _ before v
          ∙ ap (λ b. list_any (λ v. matches v route) before || b) (and_left _ (nat_le route.prefix.length v.max && is_from route.origin v.asn) apart) ∙ or-false _ ∙ any-enclosing_matches route before front is;
      covered = left.covered ∙ ap (λ b. b || is_covered) (ap (list_any (λ v. covers v route)) split ∙ any-last _ before v
          ∙ ap (λ b. list_any (λ v. covers v route) before || b) apart ∙ or-false _ ∙ any-enclosing_covers route before front is);
    }

any-matching : (route : Route) (vrps front : List Vrp) → HasAllMatching route vrps front → list_any (λ v. matches v route) vrps ≡ list_any (λ v. matches v route) front
any-matching route vrps front is = ap (list_any (λ v. matches v route)) is.parts ∙ any-front _ front is.rest is.others

-- the last VRP covers the route and does not match it, nor do those that are skipped before it
pub left-covering : (vrps rest before front : List Vrp) (v : Vrp) (route : Route) (is_covered : Bool) → IsLeft vrps rest route is_covered → rest ≡ before ++ v ∷ [] → covers v route ≡ true → nat_le route.prefix.length v.max && is_from route.origin v.asn ≡ false → HasAllMatching route before front → IsLeft vrps front route true
left-covering vrps rest before front v route is_covered left split inside unlike is =
    let rising = rising-front before (v ∷ []) (subst AreRising split left.rising) in
    let at_most = All-front (λ v. is_at_most v.prefix route.prefix ≡ true) before (v ∷ []) (subst (All (λ v. is_at_most v.prefix route.prefix ≡ true)) split left.before) in
    record {
      rising = rising-front front is.rest (subst AreRising is.parts rising);
      before = All-front (λ v. is_at_most v.prefix route.prefix ≡ true) front is.rest (subst (All (λ v. is_at_most v.prefix route.prefix ≡ true)) is.parts at_most);
      matched = left.matched ∙ ap (list_any (λ v. matches v route)) split ∙ any-last _ before v
          ∙ ap (λ b. list_any (λ v. matches v route) before || b) (ap (λ b. covers v route && b) unlike ∙ and-false _) ∙ or-false _ ∙ any-matching route before front is;
      covered = left.covered ∙ ap (λ b. b || is_covered) (ap (list_any (λ v. covers v route)) split ∙ any-last _ before v
          ∙ ap (λ b. list_any (λ v. covers v route) before || b) inside ∙ or-true _) ∙ sym (or-true _);
    }

-- the VRPs before the last one rise, and their prefixes sort at or before its own, and that at or before the route
pub left-rising : (vrps rest before : List Vrp) (v : Vrp) (route : Route) (is_covered : Bool) → IsLeft vrps rest route is_covered → rest ≡ before ++ v ∷ [] → AreRising before
left-rising vrps rest before v route is_covered left split = rising-front before (v ∷ []) (subst AreRising split left.rising)

pub left-before : (vrps rest before : List Vrp) (v : Vrp) (route : Route) (is_covered : Bool) → IsLeft vrps rest route is_covered → rest ≡ before ++ v ∷ [] → All (λ w. is_at_most w.prefix v.prefix ≡ true) before
left-before vrps rest before v route is_covered left split = rising-last before v (subst AreRising split left.rising)

pub left-last : (vrps rest before : List Vrp) (v : Vrp) (route : Route) (is_covered : Bool) → IsLeft vrps rest route is_covered → rest ≡ before ++ v ∷ [] → is_at_most v.prefix route.prefix ≡ true
left-last vrps rest before v route is_covered left split =
    All-back (λ w. is_at_most w.prefix route.prefix ≡ true) before (v ∷ []) (subst (All (λ w. is_at_most w.prefix route.prefix ≡ true)) split left.before) 0 v (lit< tt)

pub left-less : (vrps rest before : List Vrp) (v : Vrp) (route : Route) (is_covered : Bool) → IsLeft vrps rest route is_covered → rest ≡ before ++ v ∷ [] → All (λ w. vrp_cmp w v ≡ Less) before
left-less vrps rest before v route is_covered left split = rising-before before v (subst AreRising split left.rising)
