-- The VRPs of the entries of an authorization.
use Rattle.registry.proofs.Vocabulary.{◌≡◌, true, ◌==◌, ◌↔◌, sym, ap, ◌∙◌, subst, Contains, and_from, and_parts, eq-eqb, eqb-true, equal_prefix, prefix_itself, prefix_eq, same_vrp, Prefix, is_entry, IsVrpOfEntry, IsVrpOf, Auth, RoaPrefix}
use Rattle.std.proofs.lemmas.List.Folds.{Any-from_list_any, list_any-from_Any}
use Rattle.addr.specs.declared.asn.Asn.{Asn}
use Rattle.addr.specs.declared.vrp.Vrp.{Vrp}

-- an entry and an AS have one VRP
pub one_of_entry : (e : RoaPrefix) (asn : Asn) (v w : Vrp) → IsVrpOfEntry e asn v → IsVrpOfEntry e asn w → v ≡ w
one_of_entry e asn v w is also = same_vrp v w (is.0 ∙ sym also.0) (is.1 ∙ sym also.1) (is.2 ∙ sym also.2)

-- a VRP is one of the terms where it is that of an entry
pub vrp_of_terms : (x : Auth) (v : Vrp) → IsVrpOf x v ↔ ((e : RoaPrefix) × Contains x.entries e × IsVrpOfEntry e x.asn v)
vrp_of_terms x v = (
  λ is.
      let both = and_parts _ _ is in
      let some = Any-from_list_any (is_entry v.prefix v.max) x.entries both.1 in
      let e = some.1 in
      let parts = and_parts (prefix_eq e.prefix v.prefix) (e.max == v.max) some.4 in (
        e,
        (some.0, some.2, some.3),
        (sym (equal_prefix e.prefix v.prefix parts.0), sym (eqb-true e.max v.max parts.1), ap (λ n. record { 0 = n }) (sym (eqb-true x.asn.0 v.asn.0 both.0))),
      ),
  λ some.
      let e = some.0 in
      let is = some.2 in
      let prefix : prefix_eq e.prefix v.prefix ≡ true = subst (λ (p : Prefix). prefix_eq e.prefix p ≡ true) (sym is.0) (prefix_itself e.prefix) in
      let entry : is_entry v.prefix v.max e ≡ true = and_from _ _ prefix (eq-eqb e.max v.max (sym is.1)) in
      and_from _ _ (eq-eqb x.asn.0 v.asn.0 (ap (λ (a : Asn). a.0) (sym is.2)))
      (list_any-from_Any (is_entry v.prefix v.max) x.entries (some.1.0, e, some.1.1, some.1.2, entry)),
)
