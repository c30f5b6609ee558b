-- What is kept of a day follows a change of the rows.
use Rattle.desk.proofs.Vocabulary.{◌≡◌, ◌⊎◌, inl, inr, ◌↔◌, ℕ, Bool, true, false, ◌||◌, List, [], ◌∷◌, Option, Some, None, Result, Ok, Err, refl, sym, ap, arith, ◌∙◌, ◌==◌, ◌≤◌, if◌then◌else◌, filter, length, subst, Contains, Vec, Any, IfSome, IsSomeAnd, OnErr, OnOk, IsPermutation, is_ok, is_err, option_map, false_from_ne_true, false≢true, true≢false, Vrp, has_same, rows_stay, after_alike, follow_keeps, none_given, none_joined, head_or_tail, none_in_nil, AreJoined, IsSpared, IsWithSame, IsDayOf, IsDayOfRows, Charter, IsVrpOn, History, IsLegal, Request, Query, Filter, NamedSlurm, AreGivingOn, kept_exceptions, HasExceptions, KeptDay, edit_imported, holder_of, imported, begun, ended, AreRuled, HasEditsOf, IsEditOf, IsHold, IsHoldEndingNone, Rows, AllRows, HasRows, IsGivenOn, changed_rows, Auth, RoaPrefix, AreInNumber, entries_have, items_if_any, Change, Holders, Exceptions, Edit, Command, HolderChange, HolderRows, union, GivenOnce, auths_held, AreCounted, AreHeld, AreLoaded, AreNumbered, IsLoadedFor, has_made_none, DayAfterCommand, DropsForGain, PutsOn, StaysUnless, day_of, Reply, auths_of, begun_if_any, ended_if_any, AreEnough, listed, AddsSome, AreEnoughFor, BeginsOn, EditsTwoApart, Follows, FollowsChange, FollowsDay, FollowsEdit, MayDrop}
use Rattle.addr.specs.Address.{last_of, Address}
use Rattle.addr.proofs.AddressLemmas.{between_at, first-last}
use Rattle.daily_vrps.proofs.VrpsOfDay.{given_on}
use Rattle.registry.specs.declared.asked.Request.TheVariants.{Command as CommandRequest, Query as QueryRequest}
use Rattle.slurm.specs.Filter.{FilterMatches}
use Rattle.payload.specs.VrpSet as set
use Rattle.registry.specs.declared.authorization.AuthTerms.{AuthTerms}
use Rattle.registry.specs.declared.change.Edit.TheVariants.{Hold, Grant as GrantEdit, Create as CreateEdit, Import as ImportEdit, Amend as AmendEdit, Revoke as RevokeEdit, Withdraw as WithdrawEdit}
use Rattle.registry.specs.declared.command.Command.TheVariants.{Register, Delegate, Transfer, Reclaim, Grant, Revoke, Create, Amend, Withdraw, Import, Slurm as SlurmCommand}
use Rattle.store_read.specs.declared.answers.Loaded.{Loaded}
use Rattle.desk.proofs.GivenEdits.{edits_given_by_enough, ending_keeps_once, enough_amended, enough_created, enough_loaded, enough_lost, enough_of_any, enough_of_runs, enough_withdrawn}

-- ---- an edit of one holder

edit_followed : (rows : AllRows) (change : HolderChange) (some : Option (Vec Auth)) (old new : KeptDay) → GivenOnce rows
    → AreEnough change.edit (auths_of rows change.holder) (listed some) → FollowsEdit change.edit some old new
    → IsDayOfRows rows old → IsDayOfRows (changed_rows (Holders change None) rows) new
edit_followed rows change some old new once enough (same, are) is = record {
  exceptions = has_same old new (union rows.files) same is.exceptions;
  given = λ v.
      let kept = follow_keeps (λ (w : Vrp). IsGivenOn rows old.day w) (ended_if_any change.edit (listed some)) (begun_if_any change.edit (listed some)) old new same are is.given v in
      let edits = edits_given_by_enough rows change (listed some) old.day v once enough in
      let alike = after_alike (kept_exceptions new) v edits.1 edits.0 in
      rw same.day (λ there. alike.0 (kept.0 there), λ after. kept.1 (alike.1 after));
}

-- where the holder has rows, what was done follows the edit of them
pub follows_some : {T E : Type 0} (r : Result T E) (edit : Edit) (some : Vec Auth) (auths : List Auth) (old new : KeptDay) → auths ≡ some.items → IsWithSame old new
    → OnOk r ((v : Vrp) → Contains (set.items new.vrps) v ↔ (AreJoined old (begun edit auths) v × IsSpared old (ended edit auths) (begun edit auths) v))
    → OnOk r (FollowsEdit edit (Some some) old new)
follows_some (Ok x) edit some auths old new is same are = (same, rw is at are)
follows_some (Err e) edit some auths old new is same are = tt

-- where it has none, nothing has to be done
pub follows_none : (edit : Edit) (day : KeptDay) → FollowsEdit edit None day day
follows_none edit day = (
  record { day = refl; filters = refl; asserted = refl },
  λ v. let joined = none_joined day v in (λ there. (joined.0 there, inl (none_given day.day v)), λ both. joined.1 both.0),
)

pub when_ok : {T E P : Type 0} (r : Result T E) → is_ok r ≡ true → OnOk r P → P
when_ok (Ok x) is so = so
when_ok (Err e) not so = absurd (true≢false (sym not))

pub when_no_error : {T E P : Type 0} (r : Result T E) → is_err r ≡ false → OnOk r P → P
when_no_error (Ok x) is so = so
when_no_error (Err e) not so = absurd (true≢false not)

pub when_err : {T E P : Type 0} (r : Result T E) → is_err r ≡ true → OnErr r P → P
when_err (Ok x) not so = absurd (true≢false (sym not))
when_err (Err e) is so = so

pub when_not_ok : {T E P : Type 0} (r : Result T E) → is_ok r ≡ false → OnErr r P → P
when_not_ok (Ok x) not so = absurd (true≢false not)
when_not_ok (Err e) is so = so

-- ---- a change

holds_begin_none : (edit : Edit) → IsHold edit → (auths : List Auth) → begun edit auths ≡ []
holds_begin_none (Hold removed added gone) is auths = refl
holds_begin_none other is auths = absurd is

change_followed : (change : Change) (one other : Option (Vec Auth)) (old new : KeptDay) → EditsTwoApart change → FollowsChange change one other old new
    → (rows : AllRows) → GivenOnce rows → AreEnoughFor change one other rows → IsDayOfRows rows old → IsDayOfRows (changed_rows change rows) new
change_followed (Holders first None) one other old new apart follows rows once of is = edit_followed rows first one old new once of follows is
change_followed (Holders first (Some second)) one other old new apart (mid, early, late) rows once of is =
    let begins = holds_begin_none first.edit apart.1 in
    let middle = changed_rows (Holders first None) rows in
    let still : AreEnough second.edit (auths_of middle second.holder) (listed other) =
    subst (λ (w : Option Rows). AreEnough second.edit (option_map (λ (r : Rows). r.auths) w) (listed other)) (sym (rows_stay rows first second.holder apart.0)) of.1 in
    edit_followed middle second other mid new (ending_keeps_once rows first begins once) still late
    (edit_followed rows first one old mid once of.0 early is)
change_followed (Exceptions files) one other old new apart none rows once of is = absurd none

-- what is kept follows
pub followed : (change : Change) (one other : Option (Vec Auth)) (old new : KeptDay) → EditsTwoApart change → FollowsChange change one other old new
    → Follows change one other (Some old) (Some new)
followed change one other old new apart follows rows once of is = change_followed change one other old new apart follows rows once of is

-- ---- the change of a command

pub apart_by : (command : Command) (change : Change) → HasEditsOf command change → EditsTwoApart change
apart_by (Transfer p giver taker) (Holders first (Some second)) edits = (rw (edits.0, edits.2) edits.4, edits.1)
apart_by (Transfer p giver taker) (Holders first None) edits = tt
apart_by (Transfer p giver taker) (Exceptions files) edits = tt
apart_by (SlurmCommand files) (Holders first (Some second)) edits = absurd edits
apart_by other (Holders first (Some second)) edits = absurd edits
apart_by other (Holders first None) edits = tt
apart_by other (Exceptions files) edits = tt

-- ---- the authorizations that are loaded for a command

not_counted : (was : Option Rows) (part : Option HolderRows) → part ≡ None → AreCounted was part → AreLoaded was part
not_counted None None none are = tt
not_counted (Some r) None none are = absurd (let counted = are.granted in cc)
not_counted was (Some p) none are = absurd (let counted = none in cc)

-- of a create where every address of some entries is held
created_enough : (h : List ℕ) (terms : AuthTerms) (edit : Edit) (was : Option Rows) (part : Option HolderRows) (es : List RoaPrefix) → IsEditOf (Create h terms) edit → AreInNumber es
    → AreHeld (items_if_any (λ (r : Rows). r.holdings) was) es → AreCounted was part → AreEnough edit (option_map (λ (r : Rows). r.auths) was) (listed (option_map (λ (p : HolderRows). p.auths) part))
created_enough h terms (CreateEdit y) (Some r) (Some p) es is number held are = enough_created y r.auths p.auths.items
created_enough h terms (CreateEdit y) (Some r) None es is number held are = absurd (let counted = are.granted in cc)
created_enough h terms (CreateEdit y) None part [] is number held are = absurd (omega (arith, number.0))
created_enough h terms (CreateEdit y) None part (e ∷ es) is number held are =
    let p = e.prefix in
    let first : Address = record { family = p.family; number = p.first } in
    absurd (false≢true (held first (ap (λ b. b || entries_have es first) (between_at p.family p.first (last_of p) p.first (omega arith) (first-last p)))))
created_enough h terms edit was part es is number held are = absurd is

withdrawn_enough : (n : ℕ) (was : Option Rows) (part : Option HolderRows) → IsSomeAnd part (AreNumbered n was)
    → AreEnough (WithdrawEdit n) (option_map (λ (r : Rows). r.auths) was) (listed (option_map (λ (p : HolderRows). p.auths) part))
withdrawn_enough n was None none = absurd none
withdrawn_enough n was (Some p) are = enough_withdrawn n was p.auths.items are.auths.0

amended_enough : (x : Auth) (n : ℕ) (was : Option Rows) (part : Option HolderRows) → x.number ≡ n → IsSomeAnd part (AreNumbered n was)
    → AreEnough (AmendEdit x) (option_map (λ (r : Rows). r.auths) was) (listed (option_map (λ (p : HolderRows). p.auths) part))
amended_enough x n was None same none = absurd none
amended_enough x n was (Some p) same are =
    enough_amended x was p.auths.items (subst (λ (m : ℕ). IsPermutation (filter (λ (y : Auth). y.number == m) (auths_held was)) p.auths.items) (sym same) are.auths.0)

enough_for_edit : (command : Command) (holder : List ℕ) (edit : Edit) (loaded : Loaded) (rows : AllRows) → IsEditOf command edit
    → AreRuled command loaded.rows loaded.answers (Holders (record { holder = holder; edit = edit }) None) → IsLoadedFor command rows loaded
    → IfSome (holder_of command) (λ h. AreEnough edit (auths_of rows h) (listed (option_map (λ (p : HolderRows). p.auths) loaded.rows)))
enough_for_edit (Register h) holder edit loaded rows is ruled are = enough_loaded edit (rows.of_holder h) loaded.rows (not_counted (rows.of_holder h) loaded.rows ruled are)
enough_for_edit (Delegate h p) holder edit loaded rows none ruled are = enough_of_runs edit _ _ none
enough_for_edit (Reclaim h p) holder edit loaded rows is ruled are = enough_lost p edit (rows.of_holder h) loaded.rows are ruled
enough_for_edit (Grant h terms) holder (GrantEdit g) loaded rows is ruled are = enough_of_any (GrantEdit g) _ _ (λ n. refl) (λ xs. refl)
enough_for_edit (Revoke h n) holder edit loaded rows is ruled are = rw is (enough_of_any (RevokeEdit n) _ _ (λ m. refl) (λ xs. refl))
enough_for_edit (Create h terms) holder edit loaded rows is ruled are =
    created_enough h terms edit (rows.of_holder h) loaded.rows terms.entries is ruled.1 (are.answers.holds.0 ruled.0) are.counted
enough_for_edit (Amend h n maxes until) holder (AmendEdit x) loaded rows is ruled are = amended_enough x n (rows.of_holder h) loaded.rows is.1 are.numbered
enough_for_edit (Withdraw h n) holder edit loaded rows is ruled are = rw is (withdrawn_enough n (rows.of_holder h) loaded.rows are)
enough_for_edit (Import h listed) holder edit loaded rows is ruled are = enough_loaded edit (rows.of_holder h) loaded.rows are
enough_for_edit command holder edit loaded rows is ruled are = absurd is

-- of what is loaded for a command, the authorizations are enough to follow its change
pub enough_for : (command : Command) (change : Change) (loaded : Loaded) (rows : AllRows) → HasEditsOf command change → AreRuled command loaded.rows loaded.answers change → IsLoadedFor command rows loaded
    → AreEnoughFor change (option_map (λ (p : HolderRows). p.auths) loaded.rows) (option_map (λ (p : HolderRows). p.auths) loaded.taker) rows
enough_for (Transfer p giver taker) (Holders first (Some second)) loaded rows edits ruled are = (
  enough_lost p first.edit (rows.of_holder first.holder) loaded.rows (rw edits.0 are.0) ruled,
  enough_of_runs second.edit _ _ edits.3,
)
enough_for command (Exceptions files) loaded rows edits ruled are = tt
enough_for (Transfer p giver taker) (Holders first None) loaded rows edits ruled are = absurd edits.1
enough_for command (Holders first None) loaded rows edits ruled are =
    subst (λ (h : Option (List ℕ)). IfSome h (λ n. AreEnough first.edit (auths_of rows n) (listed (option_map (λ (p : HolderRows). p.auths) loaded.rows)))) edits.0
    (enough_for_edit command first.holder first.edit loaded rows edits.1 ruled are)
enough_for command (Holders first (Some second)) loaded rows edits ruled are = absurd edits

-- ---- the day that is kept

-- what an edit begins and gives a VRP on the day was put by it, and is in force on the day
only_of : (passes : Bool) (x y : Auth) → Contains (if passes then x ∷ [] else []) y → x ≡ y
only_of true x y there = elim (head_or_tail x [] y there) [ inl same ↦ same | inr none ↦ absurd (none_in_nil y none) ]
only_of false x y there = absurd (none_in_nil y there)

pub begins_on : (edit : Edit) (auths : List Auth) (day : ℕ) (v : Vrp) → AreGivingOn (begun edit auths) day v → BeginsOn edit day
begins_on (CreateEdit x) auths day v gives = rw (only_of true x gives.0 gives.1) (gives.2.0, gives.2.1)
begins_on (AmendEdit x) auths day v gives = rw (only_of _ x gives.0 gives.1) (gives.2.0, gives.2.1)
begins_on (ImportEdit more created) auths day v gives = (gives.0, gives.1, gives.2.0, gives.2.1)
begins_on other auths day v gives = absurd (none_in_nil gives.0 gives.1)

-- so what an edit puts into what is kept it puts in force on the day
begins_by : (edit : Edit) (auths : Option (Vec Auth)) (kept : KeptDay) → AddsSome edit auths kept → BeginsOn edit kept.day
begins_by edit None kept adds = absurd (none_given kept.day adds.0 adds.1.0)
begins_by edit (Some auths) kept adds = begins_on edit auths.items kept.day adds.0 adds.1.0

-- an import that puts an authorization has made some
has_made : (reply : Reply) (auths : List Auth) → (has_made_none reply ≡ true → length auths ≡ 0) → (x : Auth) → Contains auths x → has_made_none reply ≡ false
has_made reply auths none x there = false_from_ne_true (has_made_none reply) (λ is. absurd (omega (arith, there.1, none is)))

-- and the command put it
puts_on : (command : Command) (edit : Edit) (reply : Reply) (day : ℕ) → IsEditOf command edit → (has_made_none reply ≡ true → edit_imported edit ≡ 0)
    → BeginsOn edit day → PutsOn command reply day
puts_on (Create h terms) (CreateEdit x) reply day is made begins = subst (λ (y : Auth). (y.from ≤ day) × (day ≤ y.until)) is begins
puts_on (Amend h n maxes until) (AmendEdit x) reply day is made begins = subst (λ (u : ℕ). day ≤ u) is.0 begins.1
puts_on (Import h rows) (ImportEdit auths created) reply day is made begins =
    let row = is begins.0 begins.1 in
    let days = subst (λ (y : Auth). (y.from ≤ day) × (day ≤ y.until)) row.2 (begins.2, begins.3) in
    (has_made reply auths.items made begins.0 begins.1, (row.0, row.1, days.0, days.1))
puts_on (Register h) edit reply day is made begins = subst (λ (e : Edit). BeginsOn e day) is begins
puts_on (Revoke h n) edit reply day is made begins = subst (λ (e : Edit). BeginsOn e day) is begins
puts_on (Withdraw h n) edit reply day is made begins = subst (λ (e : Edit). BeginsOn e day) is begins
puts_on (Delegate h p) (Hold removed added gone) reply day is made begins = begins
puts_on (Reclaim h p) (Hold removed added gone) reply day is made begins = begins
puts_on (Grant h terms) (GrantEdit g) reply day is made begins = begins
puts_on command edit reply day is made begins = absurd is

none_begin : (edit : Edit) (day : ℕ) → IsHold edit → ¬ BeginsOn edit day
none_begin (Hold removed added gone) day is begins = begins
none_begin edit day is begins = absurd is

holds : (edit : Edit) → IsHoldEndingNone edit → IsHold edit
holds (Hold removed added gone) is = tt
holds edit is = absurd is

-- runs of addresses that are exchanged put no VRP into what is kept
two_add_none : (first second : Edit) (one other : Option (Vec Auth)) (kept : KeptDay) → IsHold first → IsHoldEndingNone second
    → ¬ (AddsSome first one kept ⊎ ((mid : KeptDay) × AddsSome second other mid))
two_add_none first second one other kept is also adds = elim adds [
  | inl early ↦ none_begin first kept.day is (begins_by first one kept early)
  | inr late ↦ none_begin second late.0.day (holds second also) (begins_by second other late.0 late.1)
]

-- the day stays, or is dropped where it may be
stays_unless : (MayBe : KeptDay → Type 0) (Days : ℕ → Type 0) (old new : Option KeptDay) → IfSome old (λ kept. MayBe kept → Days kept.day)
    → (day_of new ≡ day_of old) ⊎ ((new ≡ None) × IfSome old MayBe) → StaysUnless Days (day_of old) (day_of new)
stays_unless MayBe Days old new so (inl same) = inl same
stays_unless MayBe Days None new so (inr gone) = inl (ap day_of gone.0)
stays_unless MayBe Days (Some kept) new so (inr gone) = inr (ap day_of gone.0, so gone.1)

of_each : {P : KeptDay → Type 0} (old : Option KeptDay) → ((kept : KeptDay) → P kept) → IfSome old P
of_each None each = tt
of_each (Some kept) each = each kept

-- what becomes of the day by a change becomes of it by the command
pub day_by : (command : Command) (change : Change) (reply : Reply) (one other : Option (Vec Auth)) (old new : Option KeptDay) → HasEditsOf command change
    → (has_made_none reply ≡ true → imported change ≡ 0) → FollowsDay change one other old new → DayAfterCommand command reply (day_of old) (day_of new)
day_by (SlurmCommand files) (Exceptions more) reply one other old new edits made follows = ap day_of follows
day_by (SlurmCommand files) (Holders first None) reply one other old new edits made follows = absurd edits.1
day_by (Transfer p giver taker) (Holders first (Some second)) reply one other old new edits made follows =
    stays_unless _ _ old new (of_each old (λ kept adds. absurd (two_add_none first.edit second.edit one other kept edits.1 edits.3 adds))) follows
day_by command (Holders first None) reply one other old new edits made follows =
    stays_unless _ _ old new (of_each old (λ kept adds. puts_on command first.edit reply kept.day edits.1 made (begins_by first.edit one kept adds))) follows
day_by command change reply one other old new edits made follows = absurd edits

-- an edit of the first holder that puts a VRP in
pub drops_first : (first : HolderChange) (second : Option HolderChange) (one other : Option (Vec Auth)) (kept : KeptDay) → AddsSome first.edit one kept
    → MayDrop (Holders first second) one other kept
drops_first first None one other kept adds = adds
drops_first first (Some second) one other kept adds = inl adds

-- ---- what drops the day

-- what the edit puts into what is kept is on the day after the history of the rows with the edit
adds_on : (charter : Charter) (rows : AllRows) (after : History) (change : HolderChange) (one : Option (Vec Auth)) (k : KeptDay) → IsLegal charter after
    → HasRows (changed_rows (Holders change None) rows) after → GivenOnce rows → AreEnough change.edit (auths_of rows change.holder) (listed one)
    → HasExceptions k (union rows.files) → (adds : AddsSome change.edit one k) → IsVrpOn after k.day adds.0
adds_on charter rows after change one k legal has once enough exceptions adds =
    let v = adds.0 in
    inl (
      (given_on charter (changed_rows (Holders change None) rows) after legal has k.day v).0 ((edits_given_by_enough rows change (listed one) k.day v once enough).1 (inr adds.1.0)),
      subst (λ (fs : List Filter). ¬ Any (λ f. FilterMatches f v) fs) (exceptions.filters ∙ ap (λ (fs : List NamedSlurm). (union fs).filters) has.files) adds.1.1,
    )

if_both : {P Q R : KeptDay → Type 0} (old : Option KeptDay) → IfSome old P → IfSome old Q → ((k : KeptDay) → P k → Q k → R k) → IfSome old R
if_both None one other so = tt
if_both (Some k) one other so = so k one other

-- where a command drops the day, a VRP came to it
pub drops_for_gain : (command : Command) (change : Change) (one other : Option (Vec Auth)) (charter : Charter) (rows : AllRows) (before after : History) (old new : Option KeptDay)
    → IsLegal charter after → HasRows (changed_rows change rows) after → GivenOnce rows → AreEnoughFor change one other rows → HasEditsOf command change
    → IfSome old (IsDayOf before) → IfSome old (λ k. HasExceptions k (union rows.files)) → FollowsDay change one other old new
    → DropsForGain (CommandRequest command) before after (day_of old) (day_of new)
drops_for_gain (SlurmCommand files) change one other charter rows before after old new legal has once enough edits day exceptions follows = tt
drops_for_gain (Transfer p giver taker) (Holders first (Some second)) one other charter rows before after old new legal has once enough edits day exceptions follows =
    stays_unless _ _ old new (of_each old (λ kept adds. absurd (two_add_none first.edit second.edit one other kept edits.1 edits.3 adds))) follows
drops_for_gain command (Holders first None) one other charter rows before after old new legal has once enough edits day exceptions follows =
    stays_unless _ _ old new
    (if_both old day exceptions (λ k is has_them adds. (adds.0, adds_on charter rows after first one k legal has once enough has_them adds, λ was. adds.1.2 ((is adds.0).1 was))))
    follows
drops_for_gain command change one other charter rows before after old new legal has once enough edits day exceptions follows = absurd edits

pub drops_for_files : (command : Command) (files : List NamedSlurm) (before after : History) (old new : Option ℕ) → HasEditsOf command (Exceptions files)
    → DropsForGain (CommandRequest command) before after old new
drops_for_files (SlurmCommand more) files before after old new edits = tt
drops_for_files command files before after old new edits = absurd edits

pub drops_by_query : (request : Request) (query : Query) (before after : History) (old new : Option ℕ) → request ≡ QueryRequest query → DropsForGain request before after old new
drops_by_query request query before after old new is = rw is tt

-- a day that stays is not dropped
pub drops_nothing : (command : Command) (before after : History) (old new : Option ℕ) → new ≡ old → DropsForGain (CommandRequest command) before after old new
drops_nothing (SlurmCommand files) before after old new same = tt
drops_nothing command before after old new same = inl same
