use Rattle.store_read.proofs.Vocabulary.{◌≡◌, Some, true, sym, subst, ap, ap₂, ◌∙◌, IfSome, option_copied, IfOk-weaker, state, Auth, with_maxes, with_terms, maxes_fit, EachRowsOf, auths_held, some_gives}
use Rattle.store_read.proofs.answers.load_shared.Goals as goal

pub returns-in_ok-amended-in-Some-clause-found : goal.returns-in_ok-amended-in-Some-clause-found
returns-in_ok-amended-in-Some-clause-found g c clean =
    let a = c.args in
    let x = c.in-Some.auth.now in
    let amended = c.in_ok-amended-in-Some.amended in
    let is : amended ≡ with_terms a.maxes.now x.until x = c.in_ok-amended-in-Some.ensures in
    let entries = c.as_slice-entries.ensures.items ∙ ap (λ (y : Auth). y.entries) is in
    IfOk-weaker c.some_given.result _ _ (λ is_shared found.
    subst (λ o. IfSome (option_copied o) (λ y. maxes_fit a.maxes.now y.entries ≡ true → EachRowsOf (λ rows. is_shared ≡ some_gives (Some a.number) y.asn (with_maxes a.maxes.now y.entries) (auths_held rows)) a.holder.now (state g.S.Store a.conn.now))) (sym c.in-Some.is)
    (λ fits charter all holds. found charter all holds ∙ ap₂ (λ asn es. some_gives (Some a.number) asn es (auths_held (all.of_holder a.holder.now))) (ap (λ (y : Auth). y.asn) is) entries))
    (c.some_given.ensures.found clean)
