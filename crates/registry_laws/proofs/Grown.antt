-- What accepted commands and the parts of requests leave of the holders that they do not name.
use Rattle.registry_laws.proofs.Vocabulary.{◌≡◌, ℕ, false, ◌||◌, List, ◌∷◌, Option, Some, Ok, ◌↔◌, refl, sym, ap, ◌∙◌, subst, or_parts, NamedSlurm, Charter, Command, Import, Slurm, taker_of, brings_exceptions, files_after, files_in_force, Grows, Entry, History, same_name, is_this, names_holder, JudgesChange, JudgesRow, Rows, RowsIfAny, IsLegal, OthersKeepRows, HypotheticalKeepsOthers}
use Rattle.registry_laws.proofs.Growth.{Judging, IsMadeAt, MakeAt, All-every, grown-keeps, rows-make, changes-make}
use Rattle.registry_laws.proofs.Agree.{Agree, agree-same, agree-sym, agree-trans, agree-rows}
use Rattle.registry_laws.proofs.Parts.{agree-unnamed}

-- a command that brings no file leaves the files
pub files_stay : (c : Command) (files : List NamedSlurm) → brings_exceptions c ≡ false → files_after c files ≡ files
files_stay (Slurm brought) files none = cc
files_stay _ files none = refl

-- what parts make names their holder alone
pub names_made : {charter : Charter} {holder : List ℕ} {before : History} {day : ℕ} {caller : List ℕ} {c : Command}
    → IsMadeAt charter holder before day caller c → (h : List ℕ) → names_holder h c ≡ same_name holder h || same_name holder h
names_made {holder = holder} {c = c} made h =
    ap (λ o. is_this h o || is_this h (taker_of c)) made.named ∙ ap (λ o. same_name holder h || is_this h o) made.taker

-- a legal history that agrees with one before it on a holder
record StillAgrees (charter : Charter) (h : List ℕ) (before after : History) : Type 0 where
  legal : IsLegal charter after
  agree : Agree after before h

grown-agrees : {X : Type 0} (charter : Charter) (holder : List ℕ) (day : ℕ) (caller : List ℕ) (judges : Judging X) → MakeAt charter holder day caller judges
    → (h : List ℕ) → same_name holder h ≡ false → (before : History) (xs : List X) (after : History) → IsLegal charter before
    → Grows judges day caller before xs after → StillAgrees charter h before after
grown-agrees {X} charter holder day caller judges make h other before xs after legal grows =
    grown-keeps judges day caller (λ x. Unit {0}) (StillAgrees charter h before) step before xs after (All-every (λ (x : X). Unit {0}) (λ x. tt) xs)
    (record { legal = legal; agree = agree-same before h }) grows
  where
    step : (history : History) (x : X) (c : Command) → Unit {0} → judges history x (Ok (Some c)) → StillAgrees charter h before history
        → StillAgrees charter h before (record { day = day; caller = caller; command = c } ∷ history)
    step history x c some is still =
        let e : Entry = record { day = day; caller = caller; command = c } in
        let made = make history x c is in
        let unnamed : names_holder h c ≡ false = names_made made h ∙ ap (λ b. b || b) other in
        record {
          legal = (made.accepted, still.legal);
          agree = agree-trans (agree-unnamed charter e history h made.accepted unnamed) still.agree;
        }

-- parts bring no file
grown-files : {X : Type 0} (charter : Charter) (holder : List ℕ) (day : ℕ) (caller : List ℕ) (judges : Judging X) → MakeAt charter holder day caller judges
    → (before : History) (xs : List X) (after : History) → Grows judges day caller before xs after → files_in_force before ≡ files_in_force after
grown-files {X} charter holder day caller judges make before xs after grows =
    let P : History → Type 0 = λ history. files_in_force before ≡ files_in_force history in
    grown-keeps judges day caller (λ x. Unit {0}) P
    (λ history x c some is same. same ∙ sym (files_stay c (files_in_force history) (make history x c is).file))
    before xs after (All-every (λ (x : X). Unit {0}) (λ x. tt) xs) refl grows

rows_alike : {one other : History} {h : List ℕ} → Agree other one h → (rows : Option Rows) → RowsIfAny one h rows ↔ RowsIfAny other h rows
rows_alike same rows = (agree-rows (agree-sym same) rows, agree-rows same rows)

pub others_keep_rows : OthersKeepRows
others_keep_rows charter before day caller (Import holder rows) after h held legal leaves unnamed =
    let other = (or_parts (same_name holder h) (same_name holder h) unnamed).0 in
    let still = grown-agrees charter holder day caller (JudgesRow charter day caller holder) (rows-make charter day caller holder)
    h other before rows.items after legal leaves in
    rows_alike still.agree held
others_keep_rows charter before day caller c after h held legal leaves unnamed =
    let e : Entry = record { day = day; caller = caller; command = c } in
    subst (λ (later : History). RowsIfAny before h held ↔ RowsIfAny later h held) (sym leaves.1)
    (rows_alike (agree-unnamed charter e before h leaves.0 unnamed) held)

pub hypothetical_keeps_others : HypotheticalKeepsOthers
hypothetical_keeps_others charter day caller holder before changes after legal would =
    let judges = JudgesChange charter day caller holder in
    let make = changes-make charter day caller holder in
    record {
      others = λ h rows other. rows_alike (grown-agrees charter holder day caller judges make h other before changes after legal would).agree rows;
      files = grown-files charter holder day caller judges make before changes after would;
    }
