-- What requests of several parts keep, from what the entry of each part keeps.
use Rattle.registry_laws.proofs.Vocabulary.{◌≡◌, ℕ, false, List, [], ◌∷◌, Option, Some, None, Result, Ok, refl, sym, subst, All, All-nil, All-cons, All-head, All-tail, Charter, Command, Import, Proposed, Rule, holder_of, taker_of, brings_exceptions, Grows, grown_by, History, JudgesChange, hypothetical_command, JudgesRow, row_command, ImportRowFits, CommandFits, HistoryFits, Verdict, IsLegal}
use Rattle.registry.specs.declared.command.Proposed.TheVariants.{Create as ProposedCreate, Withdraw as ProposedWithdraw}
use Rattle.registry_laws.specs.Growth.{GrowthIsLegal, GrowthFits, HypotheticalIsLegal}

-- how the parts of a request are judged
abbrev pub Judging : Type 0 → Type 1
Judging X = History → X → Result (Option Command) Rule → Type 0

-- where a part has the one fact, the entry that it makes keeps the other
abbrev pub EntriesKeep : {X : Type 0} → Judging X → ℕ → List ℕ → (X → Type 0) → (History → Type 0) → Type 0
EntriesKeep {X} judges day caller Q P =
    (before : History) (x : X) (command : Command) → Q x → judges before x (Ok (Some command)) → P before
    → P (record { day = day; caller = caller; command = command } ∷ before)

pub grown-keeps : {X : Type 0} (judges : Judging X) (day : ℕ) (caller : List ℕ) (Q : X → Type 0) (P : History → Type 0) → EntriesKeep judges day caller Q P
    → (before : History) (xs : List X) (after : History) → All Q xs → P before → Grows judges day caller before xs after → P after
grown-keeps judges day caller Q P step before [] after all kept same = subst P (sym same) kept
grown-keeps {X} judges day caller Q P step before (x ∷ xs) after all kept grows =
    grown-keeps judges day caller Q P step (grown_by day caller grows.0 before) xs after (All-tail Q x xs all) (one grows.0 grows.1) grows.2
  where
    one : (made : Option Command) → judges before x (Ok made) → P (grown_by day caller made before)
    one None is = kept
    one (Some command) is = step before x command (All-head Q x xs all) is kept

-- what holds of every value
pub All-every : {X : Type 0} (P : X → Type 0) → ((x : X) → P x) → (xs : List X) → All P xs
All-every P every [] = All-nil P
All-every P every (x ∷ xs) = All-cons P x xs (every x) (All-every P every xs)

-- an accepted command at one holder
pub record IsMadeAt (charter : Charter) (holder : List ℕ) (before : History) (day : ℕ) (caller : List ℕ) (command : Command) : Type 0 where
  pub accepted : Verdict charter before day caller command None
  pub named : holder_of command ≡ Some holder
  pub taker : taker_of command ≡ Some holder
  pub file : brings_exceptions command ≡ false

-- parts that make accepted commands at one holder
abbrev pub MakeAt : {X : Type 0} → Charter → List ℕ → ℕ → List ℕ → Judging X → Type 0
MakeAt {X} charter holder day caller judges =
    (before : History) (x : X) (command : Command) → judges before x (Ok (Some command)) → IsMadeAt charter holder before day caller command

pub rows-make : (charter : Charter) (day : ℕ) (caller holder : List ℕ) → MakeAt charter holder day caller (JudgesRow charter day caller holder)
rows-make charter day caller holder before t command is =
    let same = sym is.1 in
    record {
      accepted = is.2;
      named = subst (λ (c : Command). holder_of c ≡ Some holder) same refl;
      taker = subst (λ (c : Command). taker_of c ≡ Some holder) same refl;
      file = subst (λ (c : Command). brings_exceptions c ≡ false) same refl;
    }

pub changes-make : (charter : Charter) (day : ℕ) (caller holder : List ℕ) → MakeAt charter holder day caller (JudgesChange charter day caller holder)
changes-make charter day caller holder before change command is =
    let same = sym is.0 in
    record {
      accepted = is.1;
      named = subst (λ (c : Command). holder_of c ≡ Some holder) same (named change);
      taker = subst (λ (c : Command). taker_of c ≡ Some holder) same (taker change);
      file = subst (λ (c : Command). brings_exceptions c ≡ false) same (file change);
    }
  where
    named : (p : Proposed) → holder_of (hypothetical_command holder p) ≡ Some holder
    named (ProposedCreate t) = refl
    named (ProposedWithdraw n) = refl

    taker : (p : Proposed) → taker_of (hypothetical_command holder p) ≡ Some holder
    taker (ProposedCreate t) = refl
    taker (ProposedWithdraw n) = refl

    file : (p : Proposed) → brings_exceptions (hypothetical_command holder p) ≡ false
    file (ProposedCreate t) = refl
    file (ProposedWithdraw n) = refl

pub grown-legal : {X : Type 0} (charter : Charter) (holder : List ℕ) (day : ℕ) (caller : List ℕ) (judges : Judging X) → MakeAt charter holder day caller judges
    → (before : History) (xs : List X) (after : History) → IsLegal charter before → Grows judges day caller before xs after → IsLegal charter after
grown-legal {X} charter holder day caller judges make before xs after legal grows =
    grown-keeps judges day caller (λ x. Unit {0}) (IsLegal charter) (λ history x command some is kept. ((make history x command is).accepted, kept))
    before xs after (All-every (λ (x : X). Unit {0}) (λ x. tt) xs) legal grows

pub growth_is_legal : GrowthIsLegal
growth_is_legal charter before day caller (Import holder rows) after legal leaves =
    grown-legal charter holder day caller (JudgesRow charter day caller holder) (rows-make charter day caller holder) before rows.items after legal leaves
growth_is_legal charter before day caller command after legal leaves = subst (IsLegal charter) (sym leaves.1) (leaves.0, legal)

pub hypothetical_is_legal : HypotheticalIsLegal
hypothetical_is_legal charter day caller holder before changes after legal would =
    grown-legal charter holder day caller (JudgesChange charter day caller holder) (changes-make charter day caller holder) before changes after legal would

pub growth_fits : GrowthFits
growth_fits charter before day caller (Import holder rows) after entry fits leaves =
    grown-keeps (JudgesRow charter day caller holder) day caller ImportRowFits HistoryFits step before rows.items after entry.command.1 fits leaves
  where
    step : EntriesKeep (JudgesRow charter day caller holder) day caller ImportRowFits HistoryFits
    step history t command terms is kept =
        let values : CommandFits (row_command holder t) = (entry.command.0, terms) in
        (record { day = entry.day; caller = entry.caller; command = subst CommandFits (sym is.1) values }, kept)
growth_fits charter before day caller command after entry fits leaves = subst HistoryFits (sym leaves.1) (entry, fits)
