-- Parts that are judged at a holder come out alike where histories agree on what it has.
use Rattle.registry_laws.proofs.Vocabulary.{◌≡◌, ℕ, ◌+◌, ◌||◌, List, [], ◌∷◌, Option, Some, None, Result, Ok, Err, inl, inr, refl, sym, ap, ◌∙◌, subst, cond-true, ImportRow, Charter, Command, Proposed, Alter, Rule, Grows, IsDeniedAt, grown_by, Entry, History, entries_naming, JudgesChange, hypothetical_command, IsPresent, JudgesRow, row_command, are_permitted, row_terms, Verdict, IsLegal, same_name-same, AreJudgedAlike, GrowAlike, ImportsByEntries, HypotheticalByEntries}
use Rattle.registry.specs.declared.command.Proposed.TheVariants.{Create as ProposedCreate, Withdraw as ProposedWithdraw}
use Rattle.registry_laws.proofs.Growth.{Judging, MakeAt, grown-legal, rows-make, changes-make}
use Rattle.registry_laws.proofs.Agree.{Agree, agree-sym, agree-after}
use Rattle.registry_laws.proofs.Parts.{agree-entries}
use Rattle.registry_laws.proofs.Grown.{names_made}
use Rattle.registry_laws.proofs.Judged.{active_alike, judged_alike}

-- each outcome of a part on a history is one on every history that agrees with it on the holder
abbrev AreAlike : {X : Type 0} → Judging X → List ℕ → Type 0
AreAlike {X} judges holder =
    (one other : History) (x : X) (outcome : Result (Option Command) Rule) → Agree one other holder → judges one x outcome → judges other x outcome

-- parts that are judged at a holder
record JudgesAt {X : Type 0} (charter : Charter) (holder : List ℕ) (day : ℕ) (caller : List ℕ) (judges : Judging X) : Type 0 where
  make : MakeAt charter holder day caller judges
  alike : AreAlike judges holder

-- the first agrees on the holder with the second, which has its entries that name the holder
record HasPart (holder : List ℕ) (one other : History) : Type 0 where
  agree : Agree one other holder
  entries : other ≡ entries_naming holder one

agree-grown : {one other : History} {holder : List ℕ} (day : ℕ) (caller : List ℕ) (made : Option Command)
    → Agree one other holder → Agree (grown_by day caller made one) (grown_by day caller made other) holder
agree-grown day caller None same = same
agree-grown day caller (Some c) same = agree-after (record { day = day; caller = caller; command = c }) same

part-grown : {X : Type 0} {judges : Judging X} {charter : Charter} {holder : List ℕ} {day : ℕ} {caller : List ℕ} → JudgesAt charter holder day caller judges
    → (one other history : History) (x : X) (made : Option Command) → judges history x (Ok made)
    → HasPart holder one other → HasPart holder (grown_by day caller made one) (grown_by day caller made other)
part-grown at one other history x None is part = part
part-grown {holder = holder} {day = day} {caller = caller} at one other history x (Some c) is part =
    let e : Entry = record { day = day; caller = caller; command = c } in
    let itself = names_made (at.make history x c is) holder ∙ ap (λ b. b || b) (same_name-same holder) in
    record {
      agree = agree-after e part.agree;
      entries = ap (λ entries. e ∷ entries) part.entries ∙ sym (cond-true _ _ _ itself);
    }

grows-alike : {X : Type 0} {judges : Judging X} {charter : Charter} {holder : List ℕ} {day : ℕ} {caller : List ℕ} → JudgesAt charter holder day caller judges
    → (one other : History) (xs : List X) (after : History) → HasPart holder one other
    → Grows judges day caller one xs after → Grows judges day caller other xs (entries_naming holder after)
grows-alike {holder = holder} at one other [] after part same = ap (entries_naming holder) same ∙ sym part.entries
grows-alike {day = day} {caller = caller} at one other (x ∷ xs) after part grows = (
  grows.0,
  at.alike one other x (Ok grows.0) part.agree grows.1,
  grows-alike at (grown_by day caller grows.0 one) (grown_by day caller grows.0 other) xs after
      (part-grown at one other one x grows.0 grows.1 part) grows.2,
)

grows-back : {X : Type 0} {judges : Judging X} {charter : Charter} {holder : List ℕ} {day : ℕ} {caller : List ℕ} → JudgesAt charter holder day caller judges
    → (one other : History) (xs : List X) (left : History) → HasPart holder one other → Grows judges day caller other xs left
    → (after : History) × Grows judges day caller one xs after × (left ≡ entries_naming holder after)
grows-back at one other [] left part same = (one, refl, same ∙ part.entries)
grows-back {day = day} {caller = caller} at one other (x ∷ xs) left part grows =
    let rest = grows-back at (grown_by day caller grows.0 one) (grown_by day caller grows.0 other) xs left
    (part-grown at one other other x grows.0 grows.1 part) grows.2 in
    (rest.0, (grows.0, at.alike other one x (Ok grows.0) (agree-sym part.agree) grows.1, rest.1), rest.2)

denied-alike : {X : Type 0} {judges : Judging X} {charter : Charter} {holder : List ℕ} {day : ℕ} {caller : List ℕ} → JudgesAt charter holder day caller judges
    → (one other : History) (xs : List X) (rule : Rule) (place : ℕ) → Agree one other holder
    → IsDeniedAt judges day caller one xs rule place → IsDeniedAt judges day caller other xs rule place
denied-alike at one other [] rule place same denied = denied
denied-alike at one other (x ∷ xs) rule place same (inl denied) = inl (at.alike one other x (Err rule) same denied.0, denied.1)
denied-alike {day = day} {caller = caller} at one other (x ∷ xs) rule place same (inr denied) = inr (
  denied.0,
  at.alike one other x (Ok denied.0) same denied.1,
  denied.2,
  denied.3,
  denied-alike at (grown_by day caller denied.0 one) (grown_by day caller denied.0 other) xs rule denied.2 (agree-grown day caller denied.0 same) denied.4,
)

grow_alike : {X : Type 0} {judges : Judging X} {charter : Charter} {holder : List ℕ} {day : ℕ} {caller : List ℕ} → JudgesAt charter holder day caller judges
    → (history : History) (xs : List X) → IsLegal charter history → GrowAlike judges day caller holder history xs
grow_alike {judges = judges} {charter = charter} {holder = holder} {day = day} {caller = caller} at history xs legal =
    let entries = entries_naming holder history in
    let same = agree-entries charter history holder legal in
    let part : HasPart holder history entries = record { agree = same; entries = refl } in
    record {
      grows = λ after. grows-alike at history entries xs after part;
      only = λ left. grows-back at history entries xs left part;
      made = λ after n grows.
          let later = agree-entries charter after holder (grown-legal charter holder day caller judges at.make history xs after legal grows) in
          (λ is. sym later.created ∙ is ∙ ap (λ k. k + n) same.created, λ is. later.created ∙ is ∙ ap (λ k. k + n) (sym same.created));
      denied = λ rule place. (denied-alike at history entries xs rule place same, denied-alike at entries history xs rule place (agree-sym same));
    }

pub present_alike : {one other : History} {holder : List ℕ} (day : ℕ) (caller : List ℕ) (t : ImportRow)
    → Agree one other holder → IsPresent day caller holder one t → IsPresent day caller holder other t
present_alike day caller t same present =
    (ap (λ grants. are_permitted grants day caller Alter (row_terms t).entries) (sym same.grants) ∙ present.0, (active_alike same _).0 present.1)

rows_alike : (charter : Charter) (day : ℕ) (caller holder : List ℕ) → AreAlike (JudgesRow charter day caller holder) holder
rows_alike charter day caller holder one other t outcome same is = by_outcome outcome is
  where
    alike : AreJudgedAlike charter one other day caller (row_command holder t)
    alike = judged_alike charter one other day caller (row_command holder t) same same refl

    by_outcome : (o : Result (Option Command) Rule) → JudgesRow charter day caller holder one t o → JudgesRow charter day caller holder other t o
    by_outcome (Ok None) judged = present_alike day caller t same judged
    by_outcome (Ok (Some c)) judged = (
      λ present. judged.0 (present_alike day caller t (agree-sym same) present),
      judged.1,
      subst (λ (d : Command). Verdict charter other day caller d None) (sym judged.1)
          ((alike.verdict None).0 (subst (λ (d : Command). Verdict charter one day caller d None) judged.1 judged.2)),
    )
    by_outcome (Err rule) judged =
        (λ present. judged.0 (present_alike day caller t (agree-sym same) present), (alike.verdict (Some rule)).0 judged.1)

changes_alike : (charter : Charter) (day : ℕ) (caller holder : List ℕ) → AreAlike (JudgesChange charter day caller holder) holder
changes_alike charter day caller holder one other change outcome same is = by_outcome outcome is
  where
    alike : (p : Proposed) → AreJudgedAlike charter one other day caller (hypothetical_command holder p)
    alike (ProposedCreate t) = judged_alike charter one other day caller (hypothetical_command holder (ProposedCreate t)) same same refl
    alike (ProposedWithdraw n) = judged_alike charter one other day caller (hypothetical_command holder (ProposedWithdraw n)) same same refl

    by_outcome : (o : Result (Option Command) Rule) → JudgesChange charter day caller holder one change o → JudgesChange charter day caller holder other change o
    by_outcome (Ok None) judged = judged
    by_outcome (Ok (Some c)) judged = (
      judged.0,
      subst (λ (d : Command). Verdict charter other day caller d None) (sym judged.0)
          (((alike change).verdict None).0 (subst (λ (d : Command). Verdict charter one day caller d None) judged.0 judged.1)),
    )
    by_outcome (Err rule) judged = ((alike change).verdict (Some rule)).0 judged

pub imports_by_entries : ImportsByEntries
imports_by_entries charter history day caller holder rows legal =
    let at : JudgesAt charter holder day caller (JudgesRow charter day caller holder) =
    record { make = rows-make charter day caller holder; alike = rows_alike charter day caller holder } in
    grow_alike at history rows legal

pub hypothetical_by_entries : HypotheticalByEntries
hypothetical_by_entries charter history day caller holder changes legal =
    let at : JudgesAt charter holder day caller (JudgesChange charter day caller holder) =
    record { make = changes-make charter day caller holder; alike = changes_alike charter day caller holder } in
    grow_alike at history changes legal
