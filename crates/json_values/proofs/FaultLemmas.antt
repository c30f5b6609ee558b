-- A reading reports the lowest of all faults, combinator by combinator.
use Rattle.std.proofs.Common.{◌≡◌, ℕ, Bool, true, false, if◌then◌else◌, List, [], ◌∷◌, ◌++◌, Option, Some, None, is_some, Result, Ok, Err, refl, ap, sym, ◌∙◌}
use Rattle.std.proofs.lemmas.Bool.{and_parts}
use Rattle.std.proofs.lemmas.List.Folds.{list_all-append}
use Rattle.std.specs.List.{flat_map, list_all}
use Rattle.std.specs.Option.{ok_or}
use Rattle.std.specs.Result.{result_err}
use Rattle.serde_json.specs.Data.{Data, Members}
use Rattle.serde_json.specs.Find.{as_object}
use Rattle.json_values.specs.Faults.{fault_unless, is_object_of, lower_of, lowest, name_faults, optional_faults, required_faults}
use Rattle.json_values.specs.Parts.{both, each, lower, mapped, unless}
use Rattle.json_values.specs.Tree.{has_only, only, only_of, optional, required}
use Rattle.json_values.proofs.PartsLemmas.{lower-each, lower_assoc}

lower_of-assoc : {F : Type 0} (number : F → ℕ) (a b c : Option F) → lower_of number (lower_of number a b) c ≡ lower_of number a (lower_of number b c)
lower_of-assoc number None b c = refl
lower_of-assoc number (Some a) None c = refl
lower_of-assoc number (Some a) (Some b) None = refl
lower_of-assoc number (Some a) (Some b) (Some c) = ap Some (lower_assoc number a b c)

pub lowest-append : {F : Type 0} (number : F → ℕ) (xs ys : List F) → lowest number (xs ++ ys) ≡ lower_of number (lowest number xs) (lowest number ys)
lowest-append number [] ys = refl
lowest-append number (n ∷ xs) ys =
    ap (lower_of number (Some n)) (lowest-append number xs ys) ∙ sym (lower_of-assoc number (Some n) (lowest number xs) (lowest number ys))

-- the reading reports the lowest of these faults, and a value where there are none
pub record Reported {A F : Type 0} (number : F → ℕ) (r : Result A F) (faults : List F) : Type 0 where
  pub is : result_err r ≡ lowest number faults

pub err-both : {A B F : Type 0} (number : F → ℕ) (a : Result A F) (b : Result B F) → result_err (both number a b) ≡ lower_of number (result_err a) (result_err b)
err-both number (Ok a) (Ok b) = refl
err-both number (Ok a) (Err n) = refl
err-both number (Err m) (Ok b) = refl
err-both number (Err m) (Err n) = refl

pub err-mapped : {A B F : Type 0} (f : A → B) (r : Result A F) → result_err (mapped f r) ≡ result_err r
err-mapped f (Ok a) = refl
err-mapped f (Err n) = refl

pub reported-both : {A B F : Type 0} {number : F → ℕ} {a : Result A F} {b : Result B F} {xs ys : List F} → Reported number a xs → Reported number b ys → Reported number (both number a b) (xs ++ ys)
reported-both {number = number} {a = a} {b = b} {xs = xs} {ys = ys} h k = record { is = rw (err-both number a b, h.is, k.is) (sym (lowest-append number xs ys)) }

pub reported-mapped : {A B F : Type 0} {number : F → ℕ} (f : A → B) {r : Result A F} {xs : List F} → Reported number r xs → Reported number (mapped f r) xs
reported-mapped f {r = r} h = record { is = err-mapped f r ∙ h.is }

pub reported-unless : {A B F : Type 0} {number : F → ℕ} {a : Result A F} {b : Result B F} {xs ys : List F} → Reported number a xs → Reported number b ys → Reported number (unless number a b) (xs ++ ys)
reported-unless h k = reported-mapped (λ p. p.0) (reported-both h k)

pub reported-if : {A F : Type 0} (number : F → ℕ) (b : Bool) (a : A) (n : F) → Reported number (if b then Ok a else Err n) (fault_unless b n)
reported-if number true a n = record { is = refl }
reported-if number false a n = record { is = refl }

pub reported-ok_or : {A F : Type 0} (number : F → ℕ) (o : Option A) (n : F) → Reported number (ok_or o n) (fault_unless (is_some o) n)
reported-ok_or number None n = record { is = refl }
reported-ok_or number (Some a) n = record { is = refl }

reported-only_of : {F : Type 0} (number : F → ℕ) (fault : F) (names : List (List ℕ)) (members : Option Members) → Reported number (only_of fault names members) (fault_unless (is_object_of names members) fault)
reported-only_of number fault names None = record { is = refl }
reported-only_of number fault names (Some ms) = reported-if number (has_only names ms) tt fault

pub reported-only : {F : Type 0} (number : F → ℕ) (fault : F) (names : List (List ℕ)) (d : Data) → Reported number (only fault names d) (name_faults fault names d)
reported-only number fault names d = reported-only_of number fault names (as_object d)

pub reported-required : {A F : Type 0} (number : F → ℕ) (missing : F) (reading : Data → Result A F) (faults : Data → List F) (o : Option Data) → ((d : Data) → Reported number (reading d) (faults d)) → Reported number (required missing reading o) (required_faults missing faults o)
reported-required number missing reading faults None h = record { is = refl }
reported-required number missing reading faults (Some d) h = h d

pub reported-optional : {A F : Type 0} (number : F → ℕ) (reading : Data → Result A F) (faults : Data → List F) (o : Option Data) → ((d : Data) → Reported number (reading d) (faults d)) → Reported number (optional reading o) (optional_faults faults o)
reported-optional number reading faults None h = record { is = refl }
reported-optional number reading faults (Some d) h = reported-mapped Some (h d)

pub reported-each : {A D F : Type 0} (number : F → ℕ) (reading : D → Result A F) (faults : D → List F) (ds : List D) → ((d : D) → Reported number (reading d) (faults d)) → Reported number (each number reading ds) (flat_map faults ds)
reported-each number reading faults [] h = record { is = refl }
reported-each number reading faults (d ∷ ds) h = reported-mapped (λ p. p.0 ∷ p.1) (reported-both (h d) (reported-each number reading faults ds h))

-- ---- a test that all faults of a list pass

pub record Pass {F : Type 0} (p : F → Bool) (faults : List F) : Type 0 where
  pub each : list_all p faults ≡ true

pub pass-append : {F : Type 0} {p : F → Bool} {xs ys : List F} → Pass p xs → Pass p ys → Pass p (xs ++ ys)
pass-append {p = p} {xs = xs} {ys = ys} h k = record { each = rw (list_all-append p xs ys, h.each, k.each) refl }

pub pass-unless : {F : Type 0} {p : F → Bool} (b : Bool) (n : F) → p n ≡ true → Pass p (fault_unless b n)
pass-unless true n h = record { each = refl }
pass-unless false n h = record { each = rw h refl }

pub pass-required : {F : Type 0} {p : F → Bool} (missing : F) (faults : Data → List F) (o : Option Data) → p missing ≡ true → ((d : Data) → Pass p (faults d)) → Pass p (required_faults missing faults o)
pass-required missing faults None h k = record { each = rw h refl }
pass-required missing faults (Some d) h k = k d

pub pass-optional : {F : Type 0} {p : F → Bool} (faults : Data → List F) (o : Option Data) → ((d : Data) → Pass p (faults d)) → Pass p (optional_faults faults o)
pass-optional faults None k = record { each = refl }
pass-optional faults (Some d) k = k d

pub pass-flat_map : {F : Type 0} {p : F → Bool} (faults : Data → List F) (ds : List Data) → ((d : Data) → Pass p (faults d)) → Pass p (flat_map faults ds)
pass-flat_map faults [] k = record { each = refl }
pass-flat_map faults (d ∷ ds) k = pass-append (k d) (pass-flat_map faults ds k)

lower_of-passes : {F : Type 0} (number : F → ℕ) (p : F → Bool) (m : F) (o : Option F) (n : F) → p m ≡ true → ((k : F) → o ≡ Some k → p k ≡ true) → lower_of number (Some m) o ≡ Some n → p n ≡ true
lower_of-passes number p m None n first others reported = let same : m ≡ n = cc in rw (← same) first
lower_of-passes number p m (Some k) n first others reported =
    let same : lower number m k ≡ n = cc in
    rw (← same) (lower-each number (λ f. p f ≡ true) m k first (others k refl))

-- then the lowest passes it
pub lowest-passes : {F : Type 0} (number : F → ℕ) (p : F → Bool) (faults : List F) (n : F) → Pass p faults → lowest number faults ≡ Some n → p n ≡ true
lowest-passes number p [] n h reported = cc
lowest-passes number p (m ∷ faults) n h reported =
    let both = and_parts (p m) (list_all p faults) h.each in
    lower_of-passes number p m (lowest number faults) n both.0 (λ k is. lowest-passes number p faults k (record { each = both.1 }) is) reported
