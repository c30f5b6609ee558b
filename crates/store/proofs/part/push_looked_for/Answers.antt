use Rattle.store.proofs.Vocabulary.{◌≡◌, ◌∙◌, ◌||◌, ℕ, Bool, List, OnOk, ap, subst, sym, state, Auth, EachRowsOf, auths_held, asks_for, gives_numbered, has_number}
use Rattle.store.proofs.part.push_looked_for.Goals as goal

pub returns-in-Create-clause-found : goal.returns-in-Create-clause-found
returns-in-Create-clause-found g c clean =
    let now = c.push_given.new.numbers.items in
    let Found = λ (asks : List Auth → ℕ → Bool).
    OnOk c.push_given.result (EachRowsOf (λ rows. (n : ℕ) → has_number now n ≡ (has_number c.args.numbers.now.items n || asks (auths_held rows) n)) c.args.holder.now (state g.S.Store c.args.conn.now)) in
    let entries = ap (gives_numbered c.in-Create.terms.asn) c.as_slice-entries.ensures.items in
    subst Found (entries ∙ ap asks_for (sym c.in-Create.is)) (c.push_given.ensures.found clean)
