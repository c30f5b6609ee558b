-- What is read of the parts of a value, combinator by combinator: a value where they have no fault, and else the lowest
-- of their faults.
use Rattle.std.proofs.Common.{◌≡◌, ℕ, List, [], ◌∷◌, ◌++◌, Option, Some, None, is_some, Result, Ok, Err, refl}
use Rattle.std.proofs.lemmas.List.{append-nil}
use Rattle.std.specs.Prelude.{IfOk}
use Rattle.std.specs.List.{AllZip, flat_map}
use Rattle.std.specs.Option.{ok_or}
use Rattle.json_values.proofs.FaultLemmas.{Reported, reported-both, reported-mapped, reported-ok_or}
use Rattle.json_values.specs.Faults.{fault_unless, lower_of, lowest}
use Rattle.json_values.specs.Parts.{both, each, mapped, unless}

-- a list without a lowest fault has none
lower_of-Some : {F : Type 0} (number : F → ℕ) (n : F) (other : Option F) → lower_of number (Some n) other ≡ None → ⊥
lower_of-Some number n None none = cc
lower_of-Some number n (Some m) none = cc

pub lowest-none : {F : Type 0} (number : F → ℕ) (faults : List F) → lowest number faults ≡ None → faults ≡ []
lowest-none number [] none = refl
lowest-none number (n ∷ faults) none = absurd (lower_of-Some number n (lowest number faults) none)

pub record Reads {A F : Type 0} (number : F → ℕ) (r : Result A F) (faults : List F) (Says : A → Type 0) : Type 0 where
  pub reported : Reported number r faults
  pub value : IfOk r Says

value-both : {A B F : Type 0} (number : F → ℕ) (P : A → Type 0) (Q : B → Type 0) (a : Result A F) (b : Result B F) → IfOk a P → IfOk b Q → IfOk (both number a b) (λ p. P p.0 × Q p.1)
value-both number P Q (Ok a) (Ok b) one other = (one, other)
value-both number P Q (Ok a) (Err n) one other = tt
value-both number P Q (Err m) (Ok b) one other = tt
value-both number P Q (Err m) (Err n) one other = tt

pub reads-both : {A B F : Type 0} {number : F → ℕ} {a : Result A F} {b : Result B F} {xs ys : List F} {P : A → Type 0} {Q : B → Type 0}
    → Reads number a xs P → Reads number b ys Q → Reads number (both number a b) (xs ++ ys) (λ p. P p.0 × Q p.1)
reads-both {number = number} {a = a} {b = b} {P = P} {Q = Q} one other =
    record {
      reported = reported-both one.reported other.reported;
      value = value-both number P Q a b one.value other.value;
    }

value-says : {A F : Type 0} (P Q : A → Type 0) (r : Result A F) → ((a : A) → P a → Q a) → IfOk r P → IfOk r Q
value-says P Q (Ok a) step value = step a value
value-says P Q (Err n) step value = tt

pub reads-says : {A F : Type 0} {number : F → ℕ} {r : Result A F} {xs : List F} {P Q : A → Type 0}
    → ((a : A) → P a → Q a) → Reads number r xs P → Reads number r xs Q
reads-says {r = r} {P = P} {Q = Q} step read = record { reported = read.reported; value = value-says P Q r step read.value }

value-mapped : {A B F : Type 0} (f : A → B) (Q : B → Type 0) (r : Result A F) → IfOk r (λ a. Q (f a)) → IfOk (mapped f r) Q
value-mapped f Q (Ok a) value = value
value-mapped f Q (Err n) value = tt

pub reads-mapped : {A B F : Type 0} {number : F → ℕ} (f : A → B) {r : Result A F} {xs : List F} {P : A → Type 0} {Q : B → Type 0}
    → ((a : A) → P a → Q (f a)) → Reads number r xs P → Reads number (mapped f r) xs Q
reads-mapped f {r = r} {P = P} {Q = Q} step read = record {
  reported = reported-mapped f read.reported;
  value = value-mapped f Q r (value-says P (λ a. Q (f a)) r step read.value);
}

value-unless : {A B F : Type 0} (number : F → ℕ) (P : A → Type 0) (a : Result A F) (b : Result B F) → IfOk a P → IfOk (unless number a b) P
value-unless number P (Ok a) (Ok b) value = value
value-unless number P (Ok a) (Err n) value = tt
value-unless number P (Err m) (Ok b) value = tt
value-unless number P (Err m) (Err n) value = tt

pub reads-unless : {A B F : Type 0} {number : F → ℕ} {a : Result A F} {b : Result B F} {xs ys : List F} {P : A → Type 0}
    → Reads number a xs P → Reported number b ys → Reads number (unless number a b) (xs ++ ys) P
reads-unless {number = number} {a = a} {b = b} {P = P} read other =
    record {
      reported = reported-mapped (λ p. p.0) (reported-both read.reported other);
      value = value-unless number P a b read.value;
    }

pub reads-last : {A F : Type 0} {number : F → ℕ} {r : Result A F} {xs : List F} {P : A → Type 0} → Reads number r xs P → Reads number r (xs ++ []) P
reads-last {xs = xs} read = record { reported = record { is = rw (append-nil xs) read.reported.is }; value = read.value }

pub value-ok_or : {A F : Type 0} (o : Option A) (n : F) → IfOk (ok_or o n) (λ a. o ≡ Some a)
value-ok_or None n = tt
value-ok_or (Some a) n = refl

-- a value that may be missing
pub reads-ok_or : {A F : Type 0} {number : F → ℕ} (o : Option A) (n : F) → Reads number (ok_or o n) (fault_unless (is_some o) n) (λ a. o ≡ Some a)
reads-ok_or {number = number} o n = record { reported = reported-ok_or number o n; value = value-ok_or o n }

pub reads-each : {A D F : Type 0} {number : F → ℕ} (reading : D → Result A F) (faults : D → List F) (Says : D → A → Type 0) (ds : List D)
    → ((d : D) → Reads number (reading d) (faults d) (Says d)) → Reads number (each number reading ds) (flat_map faults ds) (AllZip Says ds)
reads-each reading faults Says [] each_reads = record { reported = record { is = refl }; value = tt }
reads-each reading faults Says (d ∷ ds) each_reads =
    reads-mapped (λ p. p.0 ∷ p.1) (λ p value. (value.0, value.1))
    (reads-both (each_reads d) (reads-each reading faults Says ds each_reads))
