-- The grants and the authorizations of a holder. Each are numbered 1, 2, .. in the order in which
-- they were made, no number twice.
use Rattle.std.specs.Prelude.{◌≡◌, ℕ, ◌+◌, ◌≤◌, Bool, true, not, ◌&&◌, ◌==◌, List, [], ◌∷◌, ◌++◌, map, filter, if◌then◌else◌, ◌⊎◌, Contains, Some}
use Rattle.std.specs.List.{list_any}
use Rattle.addr.specs.Address.{Address, has_address, overlaps}
use Rattle.addr.specs.VrpParts.{is_entry}
use Rattle.addr.specs.declared.asn.Asn.{Asn}
use Rattle.addr.specs.declared.prefix.Prefix.{Prefix}
use Rattle.addr.specs.declared.vrp.Vrp.{Vrp}
use Rattle.registry.specs.declared.command.Command.{Command}
use Rattle.registry.specs.declared.command.Command.TheVariants.{Grant, Revoke, Create, Amend, Withdraw}
use Rattle.registry.specs.declared.authorization.Auth.{Auth}
use Rattle.registry.specs.declared.authorization.AuthTerms.{AuthTerms}
use Rattle.registry.specs.declared.authorization.ImportRow.{ImportRow}
use Rattle.addr.specs.declared.roa_prefix.RoaPrefix.{RoaPrefix}
use Rattle.registry.specs.declared.grant.GrantTerms.{GrantTerms}
use Rattle.registry.specs.declared.grant.Granted.{Granted}
use Rattle.registry.specs.History.{History, same_name}
use Rattle.registry.specs.Resources.{resource_holder}
use Rattle.registry.specs.RoaPrefixes.{with_maxes}

-- the address lies in a prefix of the entries
abbrev pub entries_have : List RoaPrefix → Address → Bool
entries_have es a = list_any (λ e. has_address e.prefix a) es

-- a prefix of the terms shares an address with p
abbrev pub terms_overlap : Auth → Prefix → Bool
terms_overlap x p = list_any (λ e. overlaps e.prefix p) x.entries

-- the terms give this AS, prefix and maxLength
abbrev pub gives_vrp : Auth → Asn → Prefix → ℕ → Bool
gives_vrp x asn p max = (x.asn.0 == asn.0) && list_any (is_entry p max) x.entries

-- some prefix and maxLength is an entry of both lists
abbrev pub are_shared : List RoaPrefix → List RoaPrefix → Bool
are_shared es ds = list_any (λ d. list_any (is_entry d.prefix d.max) es) ds

-- the terms give this AS with some entry of the list
abbrev pub gives_some : Auth → Asn → List RoaPrefix → Bool
gives_some x asn es = (x.asn.0 == asn.0) && are_shared x.entries es

-- some AS, prefix and maxLength is given by both
abbrev pub share_vrp : Auth → Auth → Bool
share_vrp x y = gives_some x y.asn y.entries

-- v is a VRP of the terms
abbrev pub IsVrpOf : Auth → Vrp → Type 0
IsVrpOf x v = gives_vrp x v.asn v.prefix v.max ≡ true

-- every address of the entries is held by the holder
abbrev pub HoldsEntries : History → List ℕ → List RoaPrefix → Type 0
HoldsEntries history h es = (a : Address) → entries_have es a ≡ true → resource_holder history a ≡ Some h

-- every address of the terms is held by the holder
abbrev pub HoldsTerms : History → List ℕ → Auth → Type 0
HoldsTerms history h x = HoldsEntries history h x.entries

-- how many grants were made at the holder
abbrev pub granted_after : Command → List ℕ → ℕ → ℕ
granted_after (Grant holder terms) h made = if same_name holder h then made + 1 else made
granted_after _ h made = made

abbrev pub grants_made : History → List ℕ → ℕ
grants_made [] h = 0
grants_made (e ∷ before) h = granted_after e.command h (grants_made before h)

-- how many authorizations were made at the holder
abbrev pub created_after : Command → List ℕ → ℕ → ℕ
created_after (Create holder terms) h made = if same_name holder h then made + 1 else made
created_after _ h made = made

abbrev pub authorizations_made : History → List ℕ → ℕ
authorizations_made [] h = 0
authorizations_made (e ∷ before) h = created_after e.command h (authorizations_made before h)

-- the grant of these terms and of this number
abbrev pub numbered_grant : GrantTerms → ℕ → Granted
numbered_grant t n = record { number = n; caller = t.to; role = t.role; scope = t.scope; until = t.until }

-- the grants after a command, from those before it and how many were made by then
abbrev pub grants_after : Command → List ℕ → ℕ → List Granted → List Granted
grants_after (Grant holder terms) h made grants =
    if same_name holder h then grants ++ numbered_grant terms (made + 1) ∷ [] else grants
grants_after (Revoke holder n) h made grants =
    if same_name holder h then filter (λ g. not (g.number == n)) grants else grants
grants_after _ h made grants = grants

-- the grants made at the holder and not revoked since, by rising number
abbrev pub grant_terms : History → List ℕ → List Granted
grant_terms [] h = []
grant_terms (e ∷ before) h = grants_after e.command h (grants_made before h) (grant_terms before h)

-- the terms with the maxLengths and the last day of an amend
abbrev pub with_terms : List ℕ → ℕ → Auth → Auth
with_terms maxes until x = record x { entries = with_maxes maxes x.entries; until = until }

-- the authorization as an amend of this number leaves it
abbrev pub amended : ℕ → List ℕ → ℕ → Auth → Auth
amended n maxes until x = if x.number == n then with_terms maxes until x else x

-- the terms of a row of an import
abbrev pub row_terms : ImportRow → AuthTerms
row_terms r = record { asn = r.asn; entries = record { prefix = r.prefix; max = r.max } ∷ []; from = r.from; until = r.until }

-- the authorization of these terms and of this number
abbrev pub numbered_terms : AuthTerms → ℕ → Auth
numbered_terms t n = record { number = n; asn = t.asn; entries = t.entries; from = t.from; until = t.until }

-- the authorizations after a command, from those before it and how many were made by then
abbrev pub terms_after : Command → List ℕ → ℕ → List Auth → List Auth
terms_after (Create holder terms) h made auths =
    if same_name holder h
    then auths ++ numbered_terms terms (made + 1) ∷ []
    else auths
terms_after (Amend holder n maxes until) h made auths =
    if same_name holder h then map (amended n maxes.items until) auths else auths
terms_after (Withdraw holder n) h made auths =
    if same_name holder h then filter (λ x. not (x.number == n)) auths else auths
terms_after _ h made auths = auths

-- the authorizations made at the holder and not withdrawn since, with their terms as last amended, by
-- rising number
abbrev pub authorization_terms : History → List ℕ → List Auth
authorization_terms [] h = []
authorization_terms (e ∷ before) h =
    terms_after e.command h (authorizations_made before h) (authorization_terms before h)

-- in every beginning of the history that has its making, its addresses are held by the holder
abbrev pub HeldSinceMade : History → List ℕ → Auth → Type 0
HeldSinceMade [] h x = Unit {0}
HeldSinceMade (e ∷ before) h x =
    (x.number ≤ authorizations_made (e ∷ before) h → HoldsTerms (e ∷ before) h x) × HeldSinceMade before h x

-- active: made, not withdrawn since, and held by its holder in every beginning that has its making
-- (RFC 9582 section 5: a ROA's prefixes lie within the resources of its holder)
abbrev pub IsActive : History → List ℕ → Auth → Type 0
IsActive history h x = Contains (authorization_terms history h) x × HeldSinceMade history h x

-- in force on a day: active, and the day lies from the first to the last day
abbrev pub IsInForce : History → List ℕ → Auth → ℕ → Type 0
IsInForce history h x day = IsActive history h x × (x.from ≤ day) × (day ≤ x.until)

-- the second list has those of the first for which the fact holds, in their order
abbrev pub Keeps : (Auth → Type 0) → List Auth → List Auth → Type 0
Keeps P [] [] = Unit {0}
Keeps P [] (y ∷ ys) = ⊥
Keeps P (x ∷ xs) [] = (P x → ⊥) × Keeps P xs []
Keeps P (x ∷ xs) (y ∷ ys) = (P x × (y ≡ x) × Keeps P xs ys) ⊎ ((P x → ⊥) × Keeps P xs (y ∷ ys))

-- the list of a holder's active authorizations, by rising number
abbrev pub AreActive : History → List ℕ → List Auth → Type 0
AreActive history h active = Keeps (HeldSinceMade history h) (authorization_terms history h) active

-- a fact about the list of a holder's active authorizations
abbrev pub OfActive : History → List ℕ → (List Auth → Type 0) → Type 0
OfActive history h P = (active : List Auth) × AreActive history h active × P active
