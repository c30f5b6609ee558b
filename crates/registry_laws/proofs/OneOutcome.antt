-- A command is judged in one way alone, and so is each part of a request of several.
use Rattle.registry_laws.proofs.Vocabulary.{◌≡◌, ℕ, ◌+◌, List, [], ◌∷◌, Option, Some, None, IsSomeAnd, Result, Ok, Err, inl, inr, refl, sym, ap, ◌∙◌, subst, same_Some, none-some, ImportRow, Charter, Command, Register, Delegate, Transfer, Reclaim, Grant, Revoke, Create, Amend, Withdraw, Import, Slurm, Proposed, Rule, Grows, IsDeniedAt, grown_by, History, JudgesChange, hypothetical_command, JudgesRow, row_command, check, accept, Verdict}
use Rattle.registry_laws.specs.OneOutcome.{HasOneOutcome, OneOutcome, OneHypotheticalOutcome}
use Rattle.registry_laws.proofs.Growth.{Judging}

-- there is one verdict
pub record One (verdict : Option Rule → Type 0) : Type 0 where
  pub same : (a b : Option Rule) → verdict a → verdict b → a ≡ b

pub checked : {rule : Rule} {P : Type 0} {rest : Option Rule → Type 0} → One rest → One (check rule P rest)
checked {rule} {P} {rest} one = record { same = both }
  where
    both : (a b : Option Rule) → check rule P rest a → check rule P rest b → a ≡ b
    both None None x y = refl
    both None (Some s) x (inl fails) = absurd (fails.0 x.0)
    both None (Some s) x (inr holds) = one.same None (Some s) x.1 holds.1
    both (Some r) None (inl fails) y = absurd (fails.0 y.0)
    both (Some r) None (inr holds) y = one.same (Some r) None holds.1 y.1
    both (Some r) (Some s) (inl fails) (inl also) = ap Some (fails.1 ∙ sym also.1)
    both (Some r) (Some s) (inl fails) (inr holds) = absurd (fails.0 holds.0)
    both (Some r) (Some s) (inr holds) (inl fails) = absurd (fails.0 holds.0)
    both (Some r) (Some s) (inr holds) (inr also) = one.same (Some r) (Some s) holds.1 also.1

pub accepted : One accept
accepted = record { same = both }
  where
    both : (a b : Option Rule) → accept a → accept b → a ≡ b
    both None None x y = refl
    both None (Some s) x y = absurd y
    both (Some r) b x y = absurd x

pub one_verdict : (charter : Charter) (history : History) (day : ℕ) (caller : List ℕ) (c : Command) → One (Verdict charter history day caller c)
one_verdict charter history day caller (Register holder) = checked (checked accepted)
one_verdict charter history day caller (Delegate holder p) = checked (checked (checked (checked accepted)))
one_verdict charter history day caller (Transfer p giver taker) = checked (checked (checked (checked accepted)))
one_verdict charter history day caller (Reclaim holder p) = checked (checked (checked accepted))
one_verdict charter history day caller (Grant holder terms) = checked (checked (checked (checked accepted)))
one_verdict charter history day caller (Revoke holder n) = checked (checked accepted)
one_verdict charter history day caller (Create holder terms) = checked (checked (checked (checked (checked (checked (checked accepted))))))
one_verdict charter history day caller (Amend holder n maxes until) = checked (checked (checked (checked (checked accepted))))
one_verdict charter history day caller (Withdraw holder n) = checked (checked accepted)
one_verdict charter history day caller (Import holder rows) = record { same = λ a b x y. absurd x }
one_verdict charter history day caller (Slurm files) = checked (checked accepted)

-- what is accepted is denied by no rule
not_denied : {verdict : Option Rule → Type 0} {rule : Rule} → One verdict → verdict None → verdict (Some rule) → ⊥
not_denied {verdict} {rule} one has fails = none-some _ (one.same None (Some rule) has fails)

-- a part is judged in one way alone
pub record JudgesOnce {X : Type 0} (judges : Judging X) : Type 0 where
  pub same : (history : History) (x : X) (a b : Result (Option Command) Rule) → judges history x a → judges history x b → a ≡ b

-- and so it does not both make and fail
pub makes_or_fails : {X : Type 0} {judges : Judging X} → JudgesOnce judges → (history : History) (x : X) (made : Option Command) (rule : Rule)
    → judges history x (Ok made) → judges history x (Err rule) → ⊥
makes_or_fails once history x made rule makes fails = let no : Ok made ≡ Err rule = once.same history x (Ok made) (Err rule) makes fails in cc

same_made : {X : Type 0} {judges : Judging X} → JudgesOnce judges → (history : History) (x : X) (made other : Option Command)
    → judges history x (Ok made) → judges history x (Ok other) → made ≡ other
same_made once history x made other makes also = let same : Ok made ≡ Ok other = once.same history x (Ok made) (Ok other) makes also in cc

-- the parts leave one history
pub one_growth : {X : Type 0} {judges : Judging X} → JudgesOnce judges → (day : ℕ) (caller : List ℕ) (before : History) (xs : List X) (a b : History)
    → Grows judges day caller before xs a → Grows judges day caller before xs b → a ≡ b
one_growth once day caller before [] a b one other = one ∙ sym other
one_growth {X} {judges} once day caller before (x ∷ xs) a b one other =
    let same = same_made once before x other.0 one.0 other.1 one.1 in
    one_growth once day caller (grown_by day caller one.0 before) xs a b one.2
    (subst (λ (made : Option Command). Grows judges day caller (grown_by day caller made before) xs b) same other.2)

-- which leave none where one is denied
pub growth_or_denial : {X : Type 0} {judges : Judging X} → JudgesOnce judges → (day : ℕ) (caller : List ℕ) (before : History) (xs : List X) (after : History)
    → (rule : Rule) (place : ℕ) → Grows judges day caller before xs after → IsDeniedAt judges day caller before xs rule place → ⊥
growth_or_denial once day caller before [] after rule place grows denied = denied
growth_or_denial once day caller before (x ∷ xs) after rule place grows (inl denied) =
    makes_or_fails once before x grows.0 rule grows.1 denied.0
growth_or_denial {X} {judges} once day caller before (x ∷ xs) after rule place grows (inr denied) =
    let same = same_made once before x denied.0 grows.0 denied.1 grows.1 in
    growth_or_denial once day caller (grown_by day caller grows.0 before) xs after rule denied.2 grows.2
    (subst (λ (made : Option Command). IsDeniedAt judges day caller (grown_by day caller made before) xs rule denied.2) same denied.4)

-- and one part is denied, by one rule
pub one_denial : {X : Type 0} {judges : Judging X} → JudgesOnce judges → (day : ℕ) (caller : List ℕ) (before : History) (xs : List X)
    → (r s : Rule) (m n : ℕ) → IsDeniedAt judges day caller before xs r m → IsDeniedAt judges day caller before xs s n → (r ≡ s) × (m ≡ n)
one_denial once day caller before [] r s m n one other = absurd one
one_denial once day caller before (x ∷ xs) r s m n (inl one) (inl other) =
    let same : Err r ≡ Err s = once.same before x (Err r) (Err s) one.0 other.0 in
    let rule : r ≡ s = cc in
    (rule, one.1 ∙ sym other.1)
one_denial once day caller before (x ∷ xs) r s m n (inl one) (inr other) = absurd (makes_or_fails once before x other.0 r other.1 one.0)
one_denial once day caller before (x ∷ xs) r s m n (inr one) (inl other) = absurd (makes_or_fails once before x one.0 s one.1 other.0)
one_denial {X} {judges} once day caller before (x ∷ xs) r s m n (inr one) (inr other) =
    let same = same_made once before x other.0 one.0 other.1 one.1 in
    let rest = one_denial once day caller (grown_by day caller one.0 before) xs r s one.2 other.2 one.4
    (subst (λ (made : Option Command). IsDeniedAt judges day caller (grown_by day caller made before) xs s other.2) same other.4) in
    (rest.0, one.3 ∙ ap (λ k. k + 1) rest.1 ∙ sym other.3)

pub import_once : (charter : Charter) (day : ℕ) (caller holder : List ℕ) → JudgesOnce (JudgesRow charter day caller holder)
import_once charter day caller holder = record { same = both }
  where
    one : (history : History) (t : ImportRow) (rule : Rule) → Verdict charter history day caller (row_command holder t) None
        → Verdict charter history day caller (row_command holder t) (Some rule) → ⊥
    one history t rule = not_denied (one_verdict charter history day caller (row_command holder t))

    both : (history : History) (t : ImportRow) (a b : Result (Option Command) Rule) → JudgesRow charter day caller holder history t a
        → JudgesRow charter day caller holder history t b → a ≡ b
    both history t (Ok None) (Ok None) x y = refl
    both history t (Ok None) (Ok (Some d)) x y = absurd (y.0 x)
    both history t (Ok None) (Err s) x y = absurd (y.0 x)
    both history t (Ok (Some c)) (Ok None) x y = absurd (x.0 y)
    both history t (Ok (Some c)) (Ok (Some d)) x y = ap (λ command. Ok (Some command)) (x.1 ∙ sym y.1)
    both history t (Ok (Some c)) (Err s) x y =
        absurd (one history t s (subst (λ (d : Command). Verdict charter history day caller d None) x.1 x.2) y.1)
    both history t (Err r) (Ok None) x y = absurd (x.0 y)
    both history t (Err r) (Ok (Some d)) x y =
        absurd (one history t r (subst (λ (c : Command). Verdict charter history day caller c None) y.1 y.2) x.1)
    both history t (Err r) (Err s) x y =
        ap Err (same_Some r s ((one_verdict charter history day caller (row_command holder t)).same (Some r) (Some s) x.1 y.1))

pub changes_once : (charter : Charter) (day : ℕ) (caller holder : List ℕ) → JudgesOnce (JudgesChange charter day caller holder)
changes_once charter day caller holder = record { same = both }
  where
    one : (history : History) (change : Proposed) (rule : Rule) → Verdict charter history day caller (hypothetical_command holder change) None
        → Verdict charter history day caller (hypothetical_command holder change) (Some rule) → ⊥
    one history change rule = not_denied (one_verdict charter history day caller (hypothetical_command holder change))

    both : (history : History) (change : Proposed) (a b : Result (Option Command) Rule) → JudgesChange charter day caller holder history change a
        → JudgesChange charter day caller holder history change b → a ≡ b
    both history change (Ok None) b x y = absurd x
    both history change a (Ok None) x y = absurd y
    both history change (Ok (Some c)) (Ok (Some d)) x y = ap (λ command. Ok (Some command)) (x.0 ∙ sym y.0)
    both history change (Ok (Some c)) (Err s) x y =
        absurd (one history change s (subst (λ (d : Command). Verdict charter history day caller d None) x.0 x.1) y)
    both history change (Err r) (Ok (Some d)) x y =
        absurd (one history change r (subst (λ (c : Command). Verdict charter history day caller c None) y.0 y.1) x)
    both history change (Err r) (Err s) x y =
        ap Err (same_Some r s ((one_verdict charter history day caller (hypothetical_command holder change)).same (Some r) (Some s) x y))

one_of_parts : {X : Type 0} {judges : Judging X} → JudgesOnce judges → (day : ℕ) (caller : List ℕ) (history : History) (xs : List X)
    → HasOneOutcome (Grows judges day caller history xs) (IsDeniedAt judges day caller history xs)
one_of_parts once day caller history xs = record {
  left = one_growth once day caller history xs;
  denied = one_denial once day caller history xs;
  either = growth_or_denial once day caller history xs;
}

pub one_hypothetical_outcome : OneHypotheticalOutcome
one_hypothetical_outcome charter day caller holder history changes =
    one_of_parts (changes_once charter day caller holder) day caller history changes

-- where a denial has a row
one_row : {denied : Rule → ℕ → Type 0} → ((r s : Rule) (m n : ℕ) → denied r m → denied s n → (r ≡ s) × (m ≡ n))
    → (r s : Rule) (m n : Option ℕ) → IsSomeAnd m (denied r) → IsSomeAnd n (denied s) → (r ≡ s) × (m ≡ n)
one_row one r s None n first second = absurd first
one_row one r s (Some m) None first second = absurd second
one_row one r s (Some m) (Some n) first second = let same = one r s m n first second in (same.0, ap Some same.1)

no_row : {denied : Rule → ℕ → Type 0} → ((r : Rule) (m : ℕ) → denied r m → ⊥) → (r : Rule) (m : Option ℕ) → IsSomeAnd m (denied r) → ⊥
no_row none r None is = is
no_row none r (Some m) is = none r m is

one_entry : (charter : Charter) (history : History) (day : ℕ) (caller : List ℕ) (c : Command)
    → HasOneOutcome {Place = Option ℕ} (λ after. Verdict charter history day caller c None × (after ≡ record { day = day; caller = caller; command = c } ∷ history))
    (λ rule row. Verdict charter history day caller c (Some rule) × (row ≡ None))
one_entry charter history day caller c =
    let one = one_verdict charter history day caller c in
    record {
      left = λ a b x y. x.1 ∙ sym y.1;
      denied = λ r s m n x y. (same_Some r s (one.same (Some r) (Some s) x.0 y.0), x.1 ∙ sym y.1);
      either = λ a r m x y. not_denied one x.0 y.0;
    }

pub one_outcome : OneOutcome
one_outcome charter history day caller (Import holder rows) =
    let one = one_of_parts (import_once charter day caller holder) day caller history rows.items in
    record {
      left = one.left;
      denied = one_row one.denied;
      either = λ after r m leaves. no_row (λ s n. one.either after s n leaves) r m;
    }
one_outcome charter history day caller c = one_entry charter history day caller c
