-- The lengths of CSV lines, counted until they are over what a `u64` counts.
use Rattle.std.specs.Prelude.{◌≡◌, ◌⊎◌, ◌≤◌, ◌<◌, ◌+◌, ◌^◌, ℕ, Bool, true, false, List, [], ◌++◌, length}
use Rattle.std.proofs.Common.{arith, inl, inr, ap, refl, ◌∙◌}
use Rattle.std.proofs.Math.Nat.{add_assoc}
use Rattle.addr.specs.declared.vrp.Vrp.{Vrp}
use Rattle.csv_records.proofs.LineLemmas.{length-rows}
use Rattle.csv_records.specs.Lines.{payload_rows}

-- the count grew by so many bytes, unless it is over
abbrev pub HasGrown : Bool → Bool → ℕ → ℕ → ℕ → Type 0
HasGrown was_over is_over before bytes after =
    (is_over ≡ false → (was_over ≡ false) × (after ≡ before + bytes) × (before < 2 ^ 64 → after < 2 ^ 64))
    × (is_over ≡ true → (was_over ≡ true) ⊎ (2 ^ 64 ≤ before + bytes))

-- the count grew by the lines of these VRPs, unless it is over
abbrev pub HasCounted : Bool → Bool → ℕ → List Vrp → ℕ → Type 0
HasCounted was_over is_over before vrps after = HasGrown was_over is_over before (length (payload_rows vrps)) after

pub counted_none : (over : Bool) (count : ℕ) → HasCounted over over count [] count
counted_none over count = (λ well. (well, omega arith, λ below. below), λ is. inl is)

longer : (one : Bool) (x m n : ℕ) → (one ≡ true) ⊎ (2 ^ 64 ≤ x + m) → (one ≡ true) ⊎ (2 ^ 64 ≤ x + (m + n))
longer one x m n (inl is) = inl is
longer one x m n (inr large) = inr (omega arith)

over_then : (one two : Bool) (x y m n : ℕ) → HasGrown one two x m y
    → (two ≡ true) ⊎ (2 ^ 64 ≤ y + n) → (one ≡ true) ⊎ (2 ^ 64 ≤ x + (m + n))
over_then one true x y m n first second = longer one x m n (first.1 refl)
over_then one false x y m n first (inl is) = longer one x m n (first.1 is)
over_then one false x y m n first (inr large) = let grown = (first.0 refl).1 in inr (omega arith)

grown_then : (one two three : Bool) (x y z m n : ℕ)
    → HasGrown one two x m y → HasGrown two three y n z → HasGrown one three x (m + n) z
grown_then one two three x y z m n first second = (
  λ well.
      let later = second.0 well in
      let earlier = first.0 later.0 in
      (earlier.0, later.1 ∙ ap (λ k. k + n) earlier.1 ∙ add_assoc x m n, λ below. later.2 (earlier.2 below)),
  λ is. over_then one two x y m n first (second.1 is),
)

pub counted_then : (one two three : Bool) (x y z : ℕ) (vs ws : List Vrp)
    → HasCounted one two x vs y → HasCounted two three y ws z → HasCounted one three x (vs ++ ws) z
counted_then one two three x y z vs ws first second =
    rw (length-rows vs ws) (grown_then one two three x y z (length (payload_rows vs)) (length (payload_rows ws)) first second)
