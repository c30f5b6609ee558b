-- The edit of an import, row by row.
use Rattle.policy.proofs.Vocabulary.{◌≡◌, ℕ, ◌+◌, ◌<◌, Bool, true, false, cond, List, [], ◌∷◌, ◌++◌, length, take, get_or, inl, inr, Option, Some, None, Err, IsSomeAnd, refl, sym, ap, ◌∙◌, subst, append_assoc, append-nil, arith, length-append, Contains, Vec, length-take-le, cases_Bool, false≢true, cond-true, Auth, ImportRow, RoaPrefix, Holders, Charter, Alter, Refusal, Denied, Memory, Import, IsAnswer, AreOfRows, Entry, History, same_name, is_registered, row_command, JudgesRow, IsImportDenied, has_access, are_permitted, Rows, RowsIfAny, edited, edited_if_any, changed, Carries, grant_terms, authorizations_made, row_terms, IsLegal, IsRefusedBy, refusal_at, carried, row-are, same_name-same, same_name-true, has_nothing}
use Rattle.registry.specs.declared.change.Edit.TheVariants.{Create as CreateEdit, Import as ImportEdit}
use Rattle.registry.specs.declared.rule.Rule.TheVariants.{Grant as GrantRule}
use Rattle.policy.specs.steps.Import.{IsImport, AnswersImport, FindsRow, MakesRow, IsRowDone, MakesOfRow}
use Rattle.policy.proofs.Growth.{Grows-more, Grows-denied}

-- an edit that puts nothing and leaves the counter as it was
adds_nothing : (made : Vec Auth) (created : ℕ) (rows : Rows) → made.items ≡ [] → rows.created ≡ created → rows ≡ edited (ImportEdit made created) rows
adds_nothing made created rows none is =
    let auths : rows.auths ≡ rows.auths ++ made.items = sym (append-nil rows.auths) ∙ ap (λ ys. rows.auths ++ ys) (sym none) in
    let with_auths = λ (xs : List Auth). let r : Rows = record rows { auths = xs } in r in
    let with_created = λ (k : ℕ). let r : Rows = record rows { auths = rows.auths ++ made.items; created = k } in r in
    ap with_auths auths ∙ ap with_created is

pub carries-nothing : (history : History) (h : List ℕ) (made : Vec Auth) (created : ℕ) → made.items ≡ []
    → ((rows : Rows) → RowsIfAny history h (Some rows) → rows.created ≡ created)
    → Carries (Holders (record { holder = h; edit = ImportEdit made created }) None) history history
carries-nothing history h made created none counter = record { holders = same; files = refl }
  where
    same : (g : List ℕ) (rows : Option Rows) → RowsIfAny history g rows
        → RowsIfAny history g (changed (Holders (record { holder = h; edit = ImportEdit made created }) None) g rows)
    same g rows are =
        let edit = ImportEdit made created in
        elim (cases_Bool (same_name h g)) [
          | inl t ↦
              let P : Bool → Type 0 = λ b. RowsIfAny history g (cond b (edited_if_any edit rows) rows) in
              let Q : List ℕ → Type 0 = λ k. RowsIfAny history k rows → RowsIfAny history k (edited_if_any edit rows) in
              subst P (sym t) (subst Q (same_name-true h g t) (at_holder rows) are)
          | inr f ↦ subst (λ (b : Bool). RowsIfAny history g (cond b (edited_if_any edit rows) rows)) (sym f) are
        ]
      where
        at_holder : (r : Option Rows) → RowsIfAny history h r → RowsIfAny history h (edited_if_any (ImportEdit made created) r)
        at_holder None missing = missing
        at_holder (Some r) had = subst (λ (x : Rows). RowsIfAny history h (Some x)) (adds_nothing made created r none (counter r had)) had

-- the edit of an import, and then that of one more create
edit-more : (made more : Vec Auth) (created : ℕ) (x : Auth) (rows : Option Rows) → more.items ≡ made.items ++ x ∷ []
    → edited_if_any (CreateEdit x) (edited_if_any (ImportEdit made created) rows) ≡ edited_if_any (ImportEdit more x.number) rows
edit-more made more created x None is = refl
edit-more made more created x (Some r) is =
    let auths : (r.auths ++ made.items) ++ x ∷ [] ≡ r.auths ++ more.items =
    append_assoc r.auths made.items (x ∷ []) ∙ ap (λ ys. r.auths ++ ys) (sym is) in
    ap (λ (xs : List Auth). Some (let s : Rows = record r { auths = xs; created = x.number } in s)) auths

carries-more : (before mid after : History) (h : List ℕ) (made more : Vec Auth) (created : ℕ) (x : Auth) → more.items ≡ made.items ++ x ∷ []
    → Carries (Holders (record { holder = h; edit = ImportEdit made created }) None) before mid
    → Carries (Holders (record { holder = h; edit = CreateEdit x }) None) mid after
    → Carries (Holders (record { holder = h; edit = ImportEdit more x.number }) None) before after
carries-more before mid after h made more created x is first second = record {
  holders = λ g rows are. subst (λ (r : Option Rows). RowsIfAny after g r) (both g rows) (second.holders g _ (first.holders g rows are));
  files = second.files ∙ first.files;
}
  where
    both : (g : List ℕ) (rows : Option Rows)
        → changed (Holders (record { holder = h; edit = CreateEdit x }) None) g (changed (Holders (record { holder = h; edit = ImportEdit made created }) None) g rows)
        ≡ changed (Holders (record { holder = h; edit = ImportEdit more x.number }) None) g rows
    both g rows =
        let one = edited_if_any (ImportEdit made created) rows in
        elim (same_name h g) as (λ b. cond b (edited_if_any (CreateEdit x) (cond b one rows)) (cond b one rows) ≡ cond b (edited_if_any (ImportEdit more x.number) rows) rows)
        [ true ↦ edit-more made more created x rows is | false ↦ refl ]

-- the rows up to a place are judged: the edit is that of them, and the rows of the holder have grown with it
pub record SoFar (charter : Charter) (history : History) (h : List ℕ) (day : ℕ) (caller : List ℕ) (rows : List ImportRow)
    (made : Vec Auth) (grown : Rows) : Type 0 where
  pub edit : IsImport charter history h day caller rows (ImportEdit made grown.created)
  pub legal : IsLegal charter edit.after
  pub rows_are : RowsIfAny edit.after h (Some grown)

pub so_far-start : (charter : Charter) (history : History) (h : List ℕ) (day : ℕ) (caller : List ℕ) (made : Vec Auth) (start : Rows)
    → made.items ≡ [] → IsLegal charter history → RowsIfAny history h (Some start) → SoFar charter history h day caller [] made start
so_far-start charter history h day caller made start none legal are =
    let none_made : length made.items ≡ 0 = ap length none in record {
      edit = record {
        after = history;
        grows = refl;
        carries = carries-nothing history h made start.created none (λ rows had. had.1.created ∙ sym are.1.created);
        made = omega (arith, none_made);
        present = 0;
        rest = omega (arith, none_made);
        sparing = tt;
      };
      legal = legal;
      rows_are = are;
    }

finds : (charter : Charter) (history : History) (h : List ℕ) (day : ℕ) (caller : List ℕ) (rows : List ImportRow) (i : ℕ) (t : ImportRow)
    (made more : Vec Auth) (before after : Rows) (so_far : SoFar charter history h day caller (take i rows) made before)
    → i < length rows → t ≡ get_or rows i t
    → FindsRow charter so_far.edit.after h day caller t made more before after → SoFar charter history h day caller (take (i + 1) rows) more after
finds charter history h day caller rows i t made more before after so_far within here found =
    let edit = so_far.edit in
    let same : SoFar charter history h day caller (take (i + 1) rows) made before = record {
      edit = record {
        after = edit.after;
        grows = Grows-more (JudgesRow charter day caller h) day caller history rows i t edit.after None within here edit.grows found.present;
        carries = edit.carries;
        made = edit.made;
        present = edit.present + 1;
        rest = omega (arith, edit.rest, length-take-le i rows (omega arith), length-take-le (i + 1) rows (omega arith));
        sparing = tt;
      };
      legal = so_far.legal;
      rows_are = so_far.rows_are;
    } in
    subst (λ (m : Vec Auth). SoFar charter history h day caller (take (i + 1) rows) m after) (sym found.made_none)
    (subst (λ (r : Rows). SoFar charter history h day caller (take (i + 1) rows) made r) (sym found.stays) same)

makes : (charter : Charter) (history : History) (h : List ℕ) (day : ℕ) (caller : List ℕ) (rows : List ImportRow) (i : ℕ) (t : ImportRow)
    (made more : Vec Auth) (before after : Rows) (so_far : SoFar charter history h day caller (take i rows) made before)
    → i < length rows → t ≡ get_or rows i t
    → MakesRow charter so_far.edit.after h day caller t made more before after → SoFar charter history h day caller (take (i + 1) rows) more after
makes charter history h day caller rows i t made more before after so_far within here row =
    let edit = so_far.edit in
    let x = row.auth in
    let e : Entry = record { day = day; caller = caller; command = row_command h t } in
    let one_more : length more.items ≡ length made.items + 1 = ap length row.made_one ∙ length-append made.items (x ∷ []) in
    let counted : authorizations_made (e ∷ edit.after) h ≡ authorizations_made edit.after h + 1 = cond-true _ _ _ (same_name-same h) in
    let same : SoFar charter history h day caller (take (i + 1) rows) more (edited (CreateEdit x) before) = record {
      edit = record {
        after = e ∷ edit.after;
        grows = Grows-more (JudgesRow charter day caller h) day caller history rows i t edit.after (Some (row_command h t)) within here edit.grows (row.absent, refl, row.created.verdict);
        carries = carries-more history edit.after (e ∷ edit.after) h made more before.created x row.made_one edit.carries row.created.carries;
        made = omega (arith, edit.made, one_more, counted);
        present = edit.present;
        rest = omega (arith, edit.rest, one_more, length-take-le i rows (omega arith), length-take-le (i + 1) rows (omega arith));
        sparing = tt;
      };
      legal = (row.created.verdict, so_far.legal);
      rows_are = carried edit.after (e ∷ edit.after) h (CreateEdit x) before row.created.carries so_far.rows_are;
    } in
    subst (λ (r : Rows). SoFar charter history h day caller (take (i + 1) rows) more r) (sym row.put) same

-- one row more
pub so_far-more : (charter : Charter) (history : History) (h : List ℕ) (day : ℕ) (caller : List ℕ) (rows : List ImportRow) (i : ℕ) (t : ImportRow)
    (made more : Vec Auth) (before after : Rows) (so_far : SoFar charter history h day caller (take i rows) made before)
    → i < length rows → t ≡ get_or rows i t
    → IsRowDone charter so_far.edit.after h day caller t made more before after → SoFar charter history h day caller (take (i + 1) rows) more after
so_far-more charter history h day caller rows i t made more before after so_far within here (inl found) =
    finds charter history h day caller rows i t made more before after so_far within here found
so_far-more charter history h day caller rows i t made more before after so_far within here (inr row) =
    makes charter history h day caller rows i t made more before after so_far within here row

-- a row is denied, or memory was refused
pub so_far-denied : (charter : Charter) (history : History) (h : List ℕ) (day : ℕ) (caller : List ℕ) (rows : List ImportRow) (i : ℕ) (t : ImportRow)
    (made : Vec Auth) (before : Rows) (so_far : SoFar charter history h day caller (take i rows) made before)
    → i < length rows → t ≡ get_or rows i t → (place : ℕ) → place ≡ i
    → (refusal : Refusal)
    → IsRefusedBy (λ rule. JudgesRow charter day caller h so_far.edit.after t (Err rule)) refusal
    → AnswersImport charter history h day caller rows (Err (refusal_at (place + 1) refusal))
so_far-denied charter history h day caller rows i t made before so_far within here place same (Denied rule _) denied =
    subst (λ (k : ℕ). IsImportDenied charter day caller h history rows rule (k + 1)) (sym same)
    (Grows-denied (JudgesRow charter day caller h) day caller history rows i t so_far.edit.after rule within here so_far.edit.grows denied)
so_far-denied charter history h day caller rows i t made before so_far within here place same Memory denied = tt

-- without grants nobody is permitted any entry
none_permitted : (day : ℕ) (caller : List ℕ) (es : List RoaPrefix) → 0 < length es → are_permitted [] day caller Alter es ≡ false
none_permitted day caller [] some = absurd (omega (arith, some))
none_permitted day caller (e ∷ es) some = refl

-- without a registered holder there are no grants, and the first row is denied
pub denied-unregistered : (charter : Charter) (history : History) (h : List ℕ) (day : ℕ) (caller : List ℕ) (rows : List ImportRow)
    → 0 < length rows → IsLegal charter history → is_registered history h ≡ false → IsImportDenied charter day caller h history rows GrantRule 1
denied-unregistered charter history h day caller [] some legal missing = absurd (omega arith)
denied-unregistered charter history h day caller (t ∷ rest) some legal missing =
    let none = (has_nothing charter history h legal missing).grants in
    let no_access : has_access (grant_terms history h) day caller Alter ≡ false = ap (λ gs. has_access gs day caller Alter) none in
    let not_permitted : are_permitted (grant_terms history h) day caller Alter (row_terms t).entries ≡ false =
    ap (λ gs. are_permitted gs day caller Alter (row_terms t).entries) none
    ∙ none_permitted day caller (row_terms t).entries (omega (arith, (row-are t).number.0)) in
    inl ((λ present. false≢true (sym not_permitted ∙ present.0), inl (λ has. false≢true (sym no_access ∙ has), refl)), refl)

-- and an import without rows makes nothing
pub import-none : (charter : Charter) (history : History) (h : List ℕ) (day : ℕ) (caller : List ℕ) (rows : List ImportRow) (made : Vec Auth) (created : ℕ) → length rows ≡ 0
    → made.items ≡ [] → is_registered history h ≡ false → IsImport charter history h day caller rows (ImportEdit made created)
import-none charter history h day caller (t ∷ rest) made created empty none missing = absurd (omega arith)
import-none charter history h day caller [] made created empty none missing =
    let none_made : length made.items ≡ 0 = ap length none in record {
      after = history;
      grows = refl;
      carries = carries-nothing history h made created none (λ rows had. absurd (false≢true (sym missing ∙ had.0)));
      made = omega (arith, none_made);
      present = 0;
      rest = omega (arith, none_made);
      sparing = tt;
    }

-- the answer to the command is that to its rows
pub answers-denied : (charter : Charter) (history : History) (h : List ℕ) (day : ℕ) (caller : List ℕ) (rows : Vec ImportRow) (listed : List ImportRow) (refusal : Refusal)
    → rows.items ≡ listed → AnswersImport charter history h day caller listed (Err refusal) → IsAnswer charter history day caller (Import h rows) (Err refusal)
answers-denied charter history h day caller rows listed (Denied rule place) same denied =
    subst (λ xs. IsSomeAnd place (λ n. IsImportDenied charter day caller h history xs rule n)) (sym same) denied
answers-denied charter history h day caller rows listed Memory same denied = tt

-- before the first row no authorization was made
pub of_rows-none : (rows : List ImportRow) (made : List Auth) → made ≡ [] → AreOfRows rows made
of_rows-none rows made none x has =
    let among_none = subst (λ (xs : List Auth). Contains xs x) none has in
    absurd (omega (arith, among_none.1))

-- those that one more row leaves are of the rows too
pub of_rows-more : (rows : List ImportRow) (i : ℕ) (t : ImportRow) (made more : List Auth) → i < length rows → t ≡ get_or rows i t
    → AreOfRows rows made → MakesOfRow t made more → AreOfRows rows more
of_rows-more rows i t made more below at are makes x has =
    elim (makes x has) [
      | inl before ↦ are x before
      | inr of ↦ (t, (i, below, sym at), of)
    ]
