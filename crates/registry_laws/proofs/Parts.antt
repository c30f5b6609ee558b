-- A part of a legal history that has all entries naming a holder agrees with it on what the holder has.
use Rattle.registry_laws.proofs.Vocabulary.{◌<◌, ◌≡◌, ℕ, ◌≤◌, Bool, true, false, ◌||◌, cond, List, [], ◌∷◌, inl, inr, Option, Some, None, refl, sym, ap, ◌∙◌, subst, filter, ◌↔◌, ◌++◌, cases_Bool, cond-true, cond-false, false≢true, or_parts, or-true, Address, has_address, Prefix, Auth, Charter, Command, Delegate, Transfer, Reclaim, Import, holder_of, taker_of, Entry, History, is_registered, is_this, names_holder, entries_naming, entries_naming_either, entries_of, entries_for, resource_holder, is_held_by, authorizations_made, authorization_terms, grants_made, grant_terms, HeldSinceMade, Verdict, IsLegal, held_by_same, held_now, is_named}
use Rattle.registry.proofs.Carry.{keeps_unnamed, LeavesHeld}
use Rattle.registry_laws.proofs.Agree.{Agree, AgreeIfNamed, agree-same, agree-trans, agree-after}

-- the addresses of a prefix, which the holder did not hold, go to another or to nobody
moved : (h : List ℕ) (p : Prefix) (to held : Option (List ℕ)) (a : Address) → is_held_by h to ≡ false
    → (has_address p a ≡ true → is_held_by h held ≡ false)
    → is_held_by h (cond (has_address p a) to held) ≡ is_held_by h held
moved h p to held a other none =
    elim (cases_Bool (has_address p a)) [
      | inl t ↦ ap (is_held_by h) (cond-true _ _ _ t) ∙ other ∙ sym (none t)
      | inr f ↦ ap (is_held_by h) (cond-false _ _ _ f)
    ]

-- an accepted command leaves what a holder holds that it does not name
leaves_held : (charter : Charter) (before : History) (day : ℕ) (caller : List ℕ) (c : Command) (h : List ℕ)
    → Verdict charter before day caller c None → is_this h (holder_of c) ≡ false → is_this h (taker_of c) ≡ false
    → LeavesHeld (record { day = day; caller = caller; command = c }) before h
leaves_held charter before day caller (Delegate holder p) h accepted other other_taker a =
    moved h p (Some holder) (resource_holder before a) a other (λ has. ap (is_held_by h) (accepted.1.1.1.0 a has))
leaves_held charter before day caller (Transfer p giver taker) h accepted other other_taker a =
    moved h p (Some taker) (resource_holder before a) a other_taker (λ has. ap (is_held_by h) (accepted.1.1.1.0 a has) ∙ other)
leaves_held charter before day caller (Reclaim holder p) h accepted other other_taker a =
    moved h p None (resource_holder before a) a refl (λ has. ap (is_held_by h) (accepted.1.1.0 a has) ∙ other)
leaves_held charter before day caller (Import holder rows) h accepted other other_taker a = absurd accepted
leaves_held charter before day caller _ h accepted other other_taker a = refl

-- where a holder keeps what it holds and none is made, the same authorizations are held since their making
pub since_unchanged : (e : Entry) (before : History) (h : List ℕ) → LeavesHeld e before h
    → authorizations_made (e ∷ before) h ≡ authorizations_made before h
    → (x : Auth) → 0 < x.number → HeldSinceMade (e ∷ before) h x ↔ HeldSinceMade before h x
since_unchanged e before h holders created x positive = (
  λ since. since.1,
  λ since. (
    λ made. λ a has. held_by_same h (resource_holder before a) (resource_holder (e ∷ before) a) (holders a)
        (held_now before h x positive (subst (λ (k : ℕ). x.number ≤ k) created made) since a has),
    since,
  ),
)

-- an accepted command changes nothing that a holder has which it does not name
pub agree-unnamed : (charter : Charter) (e : Entry) (before : History) (h : List ℕ) → Verdict charter before e.day e.caller e.command None
    → names_holder h e.command ≡ false → Agree (e ∷ before) before h
agree-unnamed charter e before h accepted unnamed =
    let c = e.command in
    let others = or_parts (is_this h (holder_of c)) (is_this h (taker_of c)) unnamed in
    let same = keeps_unnamed c h (grants_made before h) (authorizations_made before h) (grant_terms before h) (authorization_terms before h) others.0 in
    let holders = leaves_held charter before e.day e.caller c h accepted others.0 others.1 in
    record {
      registered = ap (λ b. b || is_registered before h) same.0;
      holders = holders;
      grants = same.1;
      granted = same.2;
      terms = same.3;
      created = same.4;
      since = since_unchanged e before h holders same.4;
    }

-- nor do more of them
pub agree-later : (charter : Charter) (h : List ℕ) (later before : History) → IsLegal charter (later ++ before) → is_named h later ≡ false
    → Agree (later ++ before) before h
agree-later charter h [] before legal none = agree-same before h
agree-later charter h (e ∷ later) before legal none =
    let parts = or_parts (names_holder h e.command) (is_named h later) none in
    agree-trans (agree-unnamed charter e (later ++ before) h legal.0 parts.0) (agree-later charter h later before legal.1 parts.1)

-- the part has every entry that names the holder
abbrev pub HasEntries : (Entry → Bool) → List ℕ → Type 0
HasEntries part h = (e : Entry) → names_holder h e.command ≡ true → part e ≡ true

pub agree-part : (charter : Charter) (part : Entry → Bool) (h : List ℕ) → HasEntries part h
    → (history : History) → IsLegal charter history → Agree history (filter part history) h
agree-part charter part h has [] legal = agree-same [] h
agree-part charter part h has (e ∷ before) legal =
    let rest = agree-part charter part h has before legal.1 in
    let P : Bool → Type 0 = λ b. Agree (e ∷ before) (cond b (e ∷ filter part before) (filter part before)) h in
    elim (cases_Bool (part e)) [
      | inl t ↦ subst P (sym t) (agree-after e rest)
      | inr f ↦
          let unnamed : names_holder h e.command ≡ false = elim (cases_Bool (names_holder h e.command)) [
            | inl t ↦ absurd (false≢true (sym f ∙ has e t))
            | inr n ↦ n
          ] in
          subst P (sym f) (agree-trans (agree-unnamed charter e before h legal.0 unnamed) rest)
    ]

-- the entries that name the holder
pub agree-entries : (charter : Charter) (history : History) (h : List ℕ) → IsLegal charter history
    → Agree history (entries_naming h history) h
agree-entries charter history h legal = agree-part charter (λ e. names_holder h e.command) h (λ e t. t) history legal

-- the same of a holder that may be named
agree-named : (charter : Charter) (history : History) (named : Option (List ℕ)) → IsLegal charter history
    → AgreeIfNamed history (entries_of named history) named
agree-named charter history None legal = tt
agree-named charter history (Some h) legal = agree-entries charter history h legal

-- the entries that name one of two holders have those of each
agree-either : (charter : Charter) (history : History) (g h : List ℕ) → IsLegal charter history
    → Agree history (entries_naming_either g h history) g × Agree history (entries_naming_either g h history) h
agree-either charter history g h legal =
    let part = λ (e : Entry). names_holder g e.command || names_holder h e.command in (
      agree-part charter part g (λ e t. ap (λ b. b || names_holder h e.command) t) history legal,
      agree-part charter part h (λ e t. ap (λ b. names_holder g e.command || b) t ∙ or-true (names_holder g e.command)) history legal,
    )

twice : {P : Type 0} → P → P × P
twice p = (p, p)

-- the entries for a command have those of its holders
pub agree-for : (charter : Charter) (history : History) (c : Command) → IsLegal charter history
    → AgreeIfNamed history (entries_for c history) (holder_of c) × AgreeIfNamed history (entries_for c history) (taker_of c)
agree-for charter history (Transfer p giver taker) legal = agree-either charter history giver taker legal
agree-for charter history c legal = twice (agree-named charter history (holder_of c) legal)
