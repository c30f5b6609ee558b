-- Numbers as octets, the most significant one first.
use Rattle.roa.proofs.Vocabulary.{◌≡◌, ℕ, zero, suc, ◌+◌, ◌-◌, ◌*◌, ◌/◌, ◌%◌, ◌^◌, ◌<◌, ◌≤◌, List, [], ◌∷◌, ◌++◌, length, get_or, take, drop, refl, sym, ap, ◌∙◌, append_assoc, arith, pow-le-pow_right, take_more, length-append, length-take, pow_pos, pow-add, div-mul-add, mod-mul-add, mod_below, div_below, div-add-mod', mul-add-lt, one_shl, be_octets, be_value, AreOctets}

pub AreOctets-from_index : (bs : List ℕ) → ((i : ℕ) → get_or bs i 0 < 256) → AreOctets bs
AreOctets-from_index [] h = tt
AreOctets-from_index (b ∷ bs) h = (h 0, AreOctets-from_index bs (λ i. h (suc i)))

pub AreOctets-take : (n : ℕ) (bs : List ℕ) → AreOctets bs → AreOctets (take n bs)
AreOctets-take zero bs h = tt
AreOctets-take (suc n) [] h = tt
AreOctets-take (suc n) (b ∷ bs) h = (h.0, AreOctets-take n bs h.1)

pub AreOctets-drop : (n : ℕ) (bs : List ℕ) → AreOctets bs → AreOctets (drop n bs)
AreOctets-drop zero bs h = h
AreOctets-drop (suc n) [] h = tt
AreOctets-drop (suc n) (b ∷ bs) h = AreOctets-drop n bs h.1

pub pow_step : (k : ℕ) → 2 ^ (8 * suc k) ≡ 256 * 2 ^ (8 * k)
pow_step k = let e : 8 * suc k ≡ 8 + 8 * k = omega arith in ap (λ (n : ℕ). 2 ^ n) e ∙ pow-add 2 8 (8 * k)

pub length-be_octets : (k n : ℕ) → length (be_octets k n) ≡ k
length-be_octets zero n = refl
length-be_octets (suc k) n = ap suc (length-be_octets k (n % 2 ^ (8 * k)))

pub be_value-be_octets : (k n : ℕ) → n < 2 ^ (8 * k) → be_value (be_octets k n) ≡ n
be_value-be_octets zero n h = omega (arith, h)
be_value-be_octets (suc k) n h =
    let rest : be_value (be_octets k (n % 2 ^ (8 * k))) ≡ n % 2 ^ (8 * k) = be_value-be_octets k (n % 2 ^ (8 * k)) (mod_below n (2 ^ (8 * k)) (pow_pos (8 * k))) in
    let len : length (be_octets k (n % 2 ^ (8 * k))) ≡ k = length-be_octets k (n % 2 ^ (8 * k)) in
    rw (rest, len) (div-add-mod' n (2 ^ (8 * k)))

pub be_value_below : (bs : List ℕ) → AreOctets bs → be_value bs < 2 ^ (8 * length bs)
be_value_below [] h = omega arith
be_value_below (b ∷ bs) h =
    let below : b * 2 ^ (8 * length bs) + be_value bs < 2 ^ (8 * length bs) * 256 = mul-add-lt b (2 ^ (8 * length bs)) (be_value bs) 256 h.0 (be_value_below bs h.1) in
    omega (arith, below, pow_step (length bs))

pub be_octets-be_value : (bs : List ℕ) → AreOctets bs → be_octets (length bs) (be_value bs) ≡ bs
be_octets-be_value [] h = refl
be_octets-be_value (b ∷ bs) h =
    let low = be_value_below bs h.1 in
    rw (div-mul-add b (2 ^ (8 * length bs)) (be_value bs) low, mod-mul-add b (2 ^ (8 * length bs)) (be_value bs) low, be_octets-be_value bs h.1) refl

be_value-push : (bs : List ℕ) (b : ℕ) → be_value (bs ++ b ∷ []) ≡ 256 * be_value bs + b
be_value-push [] b = omega arith
be_value-push (a ∷ bs) b =
    let len : length (bs ++ b ∷ []) ≡ suc (length bs) = omega (arith, length-append bs (b ∷ [])) in
    let step : 2 ^ (8 * length (bs ++ b ∷ [])) ≡ 256 * 2 ^ (8 * length bs) = ap (λ (k : ℕ). 2 ^ (8 * k)) len ∙ pow_step (length bs) in
    let turned : a * (256 * 2 ^ (8 * length bs)) ≡ 256 * (a * 2 ^ (8 * length bs)) = grind arith in
    rw (step, be_value-push bs b) (omega (arith, turned))

-- a loop's step over the octets
pub be_value_more : (bs : List ℕ) (i b : ℕ) → i < length bs → b ≡ get_or bs i 0 → be_value (take (i + 1) bs) ≡ 256 * be_value (take i bs) + b
be_value_more bs i b lt is = ap be_value (take_more bs i 0 lt) ∙ be_value-push (take i bs) (get_or bs i 0) ∙ ap (λ (x : ℕ). 256 * be_value (take i bs) + x) (sym is)

pub be_value_short : (bs : List ℕ) (i : ℕ) → AreOctets bs → i ≤ 15 → be_value (take i bs) < 2 ^ 120
be_value_short bs i are le =
    let below : be_value (take i bs) < 2 ^ (8 * length (take i bs)) = be_value_below (take i bs) (AreOctets-take i bs are) in
    let short : 8 * length (take i bs) ≤ 120 = omega (arith, length-take i bs) in
    let two : 0 < 2 = omega arith in
    let bigger : 2 ^ (8 * length (take i bs)) ≤ 2 ^ 120 = pow-le-pow_right two short in
    omega (arith, below, bigger)

-- ---- writing a number octet by octet

pub unit_is : (place : ℕ) → 0 < place → place ≤ 16 → (1 * 2 ^ (8 * (place - 1))) % 2 ^ 128 ≡ 2 ^ (8 * (place - 1))
unit_is place some few = one_shl (8 * (place - 1)) 128 (omega arith)

pub octet_below : (place rest : ℕ) → 0 < place → rest < 2 ^ (8 * place) → rest / 2 ^ (8 * (place - 1)) < 256
octet_below place rest some below =
    let k : place ≡ suc (place - 1) = omega arith in
    let step : 2 ^ (8 * place) ≡ 256 * 2 ^ (8 * (place - 1)) = ap (λ (n : ℕ). 2 ^ (8 * n)) k ∙ pow_step (place - 1) in
    div_below rest (2 ^ (8 * (place - 1))) 256 (pow_pos (8 * (place - 1))) (omega (arith, below, step))

octets_step : (place k rest : ℕ) → place ≡ suc k → be_octets place rest ≡ rest / 2 ^ (8 * k) ∷ be_octets k (rest % 2 ^ (8 * k))
octets_step place k rest e = ap (λ (n : ℕ). be_octets n rest) e

pub octet_written : (old out : List ℕ) (place rest count number : ℕ) → 0 < place → out ++ be_octets place rest ≡ old ++ be_octets count number
    → (out ++ rest / 2 ^ (8 * (place - 1)) ∷ []) ++ be_octets (place - 1) (rest % 2 ^ (8 * (place - 1))) ≡ old ++ be_octets count number
octet_written old out place rest count number some so_far =
    append_assoc out (rest / 2 ^ (8 * (place - 1)) ∷ []) (be_octets (place - 1) (rest % 2 ^ (8 * (place - 1))))
    ∙ ap (λ (x : List ℕ). out ++ x) (sym (octets_step place (place - 1) rest (omega arith)))
    ∙ so_far

pub rest_below : (place rest : ℕ) → rest % 2 ^ (8 * (place - 1)) < 2 ^ (8 * (place - 1))
rest_below place rest = mod_below rest (2 ^ (8 * (place - 1))) (pow_pos (8 * (place - 1)))

pub AreOctets-be_octets : (k n : ℕ) → n < 2 ^ (8 * k) → AreOctets (be_octets k n)
AreOctets-be_octets zero n h = tt
AreOctets-be_octets (suc k) n h =
    let first : n / 2 ^ (8 * k) < 256 = div_below n (2 ^ (8 * k)) 256 (pow_pos (8 * k)) (omega (arith, h, pow_step k)) in
    (first, AreOctets-be_octets k (n % 2 ^ (8 * k)) (mod_below n (2 ^ (8 * k)) (pow_pos (8 * k))))
