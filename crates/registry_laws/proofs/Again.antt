-- A command that is accepted again leaves the rows and the files: only an amendment and a SLURM file
-- are, since what another command gave, took or made the first time is still so.
use Rattle.registry_laws.proofs.Vocabulary.{◌≡◌, ℕ, Bool, true, false, not, ◌||◌, cond, eqb, List, [], ◌∷◌, ◌++◌, inl, inr, Option, Some, None, IsSomeAnd, refl, sym, ap, ◌∙◌, subst, arith, map, filter, list_any, IfSome_then, cases_Bool, cond-true, cond-false, false≢true, or_parts, Address, has_address, Prefix, between_at, first-last, last_of, Auth, Charter, Command, Register, Delegate, Transfer, Reclaim, Grant, Revoke, Create, Amend, Withdraw, Import, Slurm, Alter, Granted, holder_of, Leaves, brings_exceptions, files_after, files_in_force, Entry, History, same_name, is_registered, names_holder, is_permitted_terms, resource_holder, is_held_by, with_terms, grant_terms, authorization_terms, amended, HeldSinceMade, Keeps, CommandFits, Verdict, HasAccessTo, IsLegal, auth_of_number, with_maxes-again, same_name-same, same_name-true, same_name-false, is_grant, has_slurm_file, NoneNames, HaveSameRows, RepeatsLeaveRows}
use Rattle.std.specs.Global.{Vec}
use Rattle.registry_laws.proofs.Agree.{Agree, AgreeIfNamed, agree-sym, agree-active, agree-rows}
use Rattle.registry_laws.proofs.Grown.{files_stay}
use Rattle.registry_laws.proofs.Judged.{active_alike}
use Rattle.registry_laws.proofs.Present.{created_has, not_made_again, imports_repeat}
use Rattle.registry_laws.proofs.Parts.{since_unchanged, agree-unnamed, agree-later}

-- a prefix has an address
first_address : (p : Prefix) → (a : Address) × (has_address p a ≡ true)
first_address p = (record { family = p.family; number = p.first }, between_at p.family p.first (last_of p) p.first (omega arith) (first-last p))

-- what does not pass has none that passes
any_filtered : {A : Type 0} (test : A → Bool) (xs : List A) → list_any test (filter (λ x. not (test x)) xs) ≡ false
any_filtered test [] = refl
any_filtered {A} test (x ∷ xs) =
    let rest = any_filtered test xs in
    let kept = filter (λ y. not (test y)) xs in
    let P : Bool → Type 0 = λ b. list_any test (cond (not b) (x ∷ kept) kept) ≡ false in
    elim (cases_Bool (test x)) [
      | inl t ↦ subst P (sym t) rest
      | inr f ↦ subst P (sym f) (ap (λ b. b || list_any test kept) f ∙ rest)
    ]

-- nor have those that are kept of it
any_kept : (P : Auth → Type 0) (test : Auth → Bool) (xs ys : List Auth) → Keeps P xs ys → list_any test xs ≡ false → list_any test ys ≡ false
any_kept P test xs [] k none = refl
any_kept P test [] (y ∷ ys) k none = absurd k
any_kept P test (x ∷ xs) (y ∷ ys) (inl k) none =
    let parts = or_parts (test x) (list_any test xs) none in
    ap (λ z. test z || list_any test ys) k.1 ∙ ap (λ b. b || list_any test ys) parts.0 ∙ any_kept P test xs ys k.2 parts.1
any_kept P test (x ∷ xs) (y ∷ ys) (inr k) none = any_kept P test xs (y ∷ ys) k.1 (or_parts (test x) (list_any test xs) none).1

none_numbered : (n : ℕ) (xs : List Auth) (P : Auth → Type 0) → list_any (λ x. eqb x.number n) xs ≡ false → IsSomeAnd (auth_of_number n xs) P → ⊥
none_numbered n [] P none some = some
none_numbered n (x ∷ xs) P none some =
    let parts = or_parts (eqb x.number n) (list_any (λ y. eqb y.number n) xs) none in
    none_numbered n xs P parts.1 (subst (λ (o : Option Auth). IsSomeAnd o P) (cond-false _ _ _ parts.0) some)

-- an address of the prefix that is held again, or by nobody, as the rule requires, while the first time left it to another
still_held : (history other : History) (h : List ℕ) (p : Prefix) (to : Option (List ℕ)) (required : Option (List ℕ)) → Agree history other h
    → ((a : Address) → has_address p a ≡ true → resource_holder other a ≡ to)
    → ((a : Address) → has_address p a ≡ true → resource_holder history a ≡ required)
    → is_held_by h required ≡ is_held_by h to
still_held history other h p to required same left rule =
    let a = first_address p in
    ap (is_held_by h) (sym (rule a.0 a.1)) ∙ same.holders a.0 ∙ ap (is_held_by h) (left a.0 a.1)

-- the same maxLengths and last day set twice are set once
with_terms-twice : (maxes : List ℕ) (until : ℕ) (x : Auth) → with_terms maxes until (with_terms maxes until x) ≡ with_terms maxes until x
with_terms-twice maxes until x =
    ap (λ es. let y : Auth = record x { entries = es; until = until } in y) (with_maxes-again maxes x.entries)

-- an amendment made twice is made once
amended_twice : (n : ℕ) (maxes : List ℕ) (until : ℕ) (x : Auth) → amended n maxes until (amended n maxes until x) ≡ amended n maxes until x
amended_twice n maxes until x =
    elim (cases_Bool (eqb x.number n)) [
      | inl t ↦
          let new = with_terms maxes until x in
          let once : amended n maxes until x ≡ new = cond-true _ _ _ t in
          let twice : amended n maxes until new ≡ new = cond-true _ _ _ t ∙ with_terms-twice maxes until x in
          ap (amended n maxes until) once ∙ twice ∙ sym once
      | inr f ↦ ap (amended n maxes until) (cond-false _ _ _ f)
    ]

map_twice : (f : Auth → Auth) → ((x : Auth) → f (f x) ≡ f x) → (xs : List Auth) → map f (map f xs) ≡ map f xs
map_twice f twice [] = refl
map_twice f twice (x ∷ xs) = ap (λ y. y ∷ map f (map f xs)) (twice x) ∙ ap (λ ys. f x ∷ ys) (map_twice f twice xs)

or_itself : (b : Bool) → b || b ≡ true → b ≡ true
or_itself true t = refl
or_itself false t = t

abbrev entry : ℕ → List ℕ → Command → Entry
entry day caller c = record { day = day; caller = caller; command = c }

-- the holder has the same after the amendment is made again
amended_again : (history before : History) (then day : ℕ) (by caller holder : List ℕ) (n : ℕ) (maxes : Vec ℕ) (until : ℕ)
    → Agree history (entry then by (Amend holder n maxes until) ∷ before) holder
    → Agree (entry day caller (Amend holder n maxes until) ∷ history) history holder
amended_again history before then day by caller holder n maxes until same =
    let f = amended n maxes.items until in
    let itself = same_name-same holder in
    let made : authorization_terms history holder ≡ map f (authorization_terms before holder) = same.terms ∙ cond-true _ _ _ itself in
    record {
      registered = refl;
      holders = λ a. refl;
      grants = refl;
      granted = refl;
      terms = cond-true _ _ _ itself ∙ ap (map f) made ∙ map_twice f (amended_twice n maxes.items until) (authorization_terms before holder) ∙ sym made;
      created = refl;
      since = since_unchanged (entry day caller (Amend holder n maxes until)) history holder (λ a. refl) refl;
    }

-- the authorization that was withdrawn is not active
withdrawn_again : (history before : History) (then day : ℕ) (by caller holder : List ℕ) (n : ℕ)
    → Agree history (entry then by (Withdraw holder n) ∷ before) holder → HasAccessTo history holder day caller Alter n → ⊥
withdrawn_again history before then day by caller holder n same has =
    let made = entry then by (Withdraw holder n) ∷ before in
    let test : Auth → Bool = λ x. eqb x.number n in
    let kept : Keeps (HeldSinceMade made holder) (filter (λ x. not (test x)) (authorization_terms before holder)) has.0 =
    subst (λ (xs : List Auth). Keeps (HeldSinceMade made holder) xs has.0) (cond-true _ _ _ (same_name-same holder)) (agree-active same has.0 has.1) in
    none_numbered n has.0 (λ x. is_permitted_terms (grant_terms history holder) day caller Alter x ≡ true)
    (any_kept (HeldSinceMade made holder) test _ has.0 kept (any_filtered test (authorization_terms before holder))) has.2

agree-again : (charter : Charter) (history before : History) (then day : ℕ) (by caller : List ℕ) (c : Command)
    → CommandFits c → Verdict charter before then by c None → AgreeIfNamed history (entry then by c ∷ before) (holder_of c) → is_grant c ≡ false
    → Verdict charter history day caller c None → (h : List ℕ) → Agree (entry day caller c ∷ history) history h
agree-again charter history before then day by caller (Register holder) fits first same other accepted h =
    let registered : is_registered (entry then by (Register holder) ∷ before) holder ≡ true = ap (λ b. b || is_registered before holder) (same_name-same holder) in
    absurd (false≢true (sym accepted.1.0 ∙ same.registered ∙ registered))
agree-again charter history before then day by caller (Delegate holder p) fits first same other accepted h =
    absurd (false≢true (still_held history _ holder p (Some holder) None same (λ a has. cond-true _ _ _ has) accepted.1.1.1.0 ∙ same_name-same holder))
agree-again charter history before then day by caller (Transfer p giver taker) fits first same other accepted h =
    absurd (false≢true (sym (same_name-false giver taker first.1.1.0) ∙ sym (still_held history _ giver p (Some taker) (Some giver) same (λ a has. cond-true _ _ _ has) accepted.1.1.1.0) ∙ same_name-same giver))
agree-again charter history before then day by caller (Reclaim holder p) fits first same other accepted h =
    absurd (false≢true (sym (still_held history _ holder p None (Some holder) same (λ a has. cond-true _ _ _ has) accepted.1.1.0) ∙ same_name-same holder))
agree-again charter history before then day by caller (Grant holder terms) fits first same other accepted h = cc
agree-again charter history before then day by caller (Revoke holder n) fits first same other accepted h =
    let test = list_any (λ (g : Granted). eqb g.number n) in
    absurd (false≢true (sym (any_filtered (λ g. eqb g.number n) (grant_terms before holder)) ∙ sym (ap test (same.grants ∙ cond-true _ _ _ (same_name-same holder))) ∙ accepted.1.0))
agree-again charter history before then day by caller (Create holder t) fits first same other accepted h =
    let has = (active_alike (agree-sym same) _).0 (created_has charter before then by holder t first) in
    absurd (not_made_again charter history day caller holder t fits.1.entries has accepted)
agree-again charter history before then day by caller (Amend holder n maxes until) fits first same other accepted h =
    let e = entry day caller (Amend holder n maxes until) in
    elim (cases_Bool (names_holder h e.command)) [
      | inl t ↦ subst (λ (g : List ℕ). Agree (e ∷ history) history g) (same_name-true holder h (or_itself (same_name holder h) t))
          (amended_again history before then day by caller holder n maxes until same)
      | inr f ↦ agree-unnamed charter e history h accepted f
    ]
agree-again charter history before then day by caller (Withdraw holder n) fits first same other accepted h =
    absurd (withdrawn_again history before then day by caller holder n same accepted.1.0)
agree-again charter history before then day by caller (Import holder rows) fits first same other accepted h = absurd accepted
agree-again charter history before then day by caller (Slurm files) fits first same other accepted h =
    agree-unnamed charter (entry day caller (Slurm files)) history h accepted refl

files_later : (later before : History) → has_slurm_file later ≡ false
    → files_in_force (later ++ before) ≡ files_in_force before
files_later [] before none = refl
files_later (e ∷ later) before none =
    let parts = or_parts (brings_exceptions e.command) (has_slurm_file later) none in
    files_stay e.command (files_in_force (later ++ before)) parts.0 ∙ files_later later before parts.1

-- and so does the command when it comes again, where no other file came since its own
files_again : (c : Command) (later before : History) (then : ℕ) (by : List ℕ)
    → (brings_exceptions c ≡ true → has_slurm_file later ≡ false)
    → files_in_force (later ++ entry then by c ∷ before) ≡ files_after c (files_in_force (later ++ entry then by c ∷ before))
files_again (Slurm files) later before then by none = files_later later (entry then by (Slurm files) ∷ before) (none refl)
files_again _ later before then by none = refl

-- of a command that makes an entry
entries_again : (charter : Charter) (before : History) (first : Entry) (later : History) (day : ℕ) (caller : List ℕ)
    → CommandFits first.command → Verdict charter before first.day first.caller first.command None → IsLegal charter (later ++ first ∷ before)
    → is_grant first.command ≡ false → NoneNames first.command later
    → Verdict charter (later ++ first ∷ before) day caller first.command None
    → HaveSameRows (later ++ first ∷ before) (entry day caller first.command ∷ later ++ first ∷ before)
entries_again charter before first later day caller fits accepted_first legal other none accepted =
    let c = first.command in
    let history = later ++ first ∷ before in
    let same : AgreeIfNamed history (first ∷ before) (holder_of c) =
    IfSome_then (holder_of c) none.holder (λ h unnamed. agree-later charter h later (first ∷ before) legal unnamed) in
    let again = agree-again charter history before first.day day first.caller caller c fits accepted_first same other accepted in
    record {
      holders = λ h rows. (agree-rows (agree-sym (again h)) rows, agree-rows (again h) rows);
      files = files_again c later before first.day first.caller none.file;
    }

same_rows : (history : History) → HaveSameRows history history
same_rows history = record { holders = λ h rows. (λ are. are, λ are. are); files = refl }

pub repeats_leave_rows : RepeatsLeaveRows
repeats_leave_rows charter before then by (Import holder rows) left later day caller again fits leaves legal other none accepted =
    let repeats = imports_repeat charter before then by holder rows.items left later leaves legal none.holder in
    subst (HaveSameRows (later ++ left)) (sym (repeats.nothing day caller again accepted)) (same_rows (later ++ left))
repeats_leave_rows charter before then by c left later day caller again fits leaves legal other none accepted =
    let first = entry then by c in
    let P : History → Type 0 = λ from. IsLegal charter (later ++ from) → Leaves charter (later ++ from) day caller c again → HaveSameRows (later ++ from) again in
    let made : P (first ∷ before) = λ legal accepted.
    subst (HaveSameRows (later ++ first ∷ before)) (sym accepted.1) (entries_again charter before first later day caller fits leaves.0 legal other none accepted.0) in
    subst P (sym leaves.1) made legal accepted
