use Rattle.store_open.proofs.Vocabulary.{subst, Database, HasTree, EntryRowFits, NamedFits, entry, state_in, AreRead, shown_in, entry_places, show_entry}
use Rattle.store_open.proofs.InTurn.{earlier}
use Rattle.store_open.proofs.SomeAuths.{auths_shown, not_unmade}
use Rattle.store_open.proofs.reading.read_auths.Goals as goal

pub returns-clause-found : goal.returns-clause-found
returns-clause-found g c clean =
    let mid = earlier c.read_in_order-2.ensures.asked.inside.survives clean in
    let now = (c.in_ok-claims.ensures.asked.same mid).0.now_is in
    auths_shown c.check_auths.result (state_in g.S.Store c.args.tx.now).now c.in_ok-claims.claims.items c.in_ok-entries.entries.items
    (c.requires.unused (earlier c.read_in_order.ensures.asked.inside.survives mid))
    (c.in_ok-claims.ensures.tree mid)
    (subst (HasTree entry.tree) now (c.in_ok-entries.ensures.tree clean))
    (c.in_ok-claims.ensures.read mid)
    (subst (λ (d : Database). AreRead show_entry (NamedFits EntryRowFits) (shown_in entry.tree entry_places d) c.in_ok-entries.entries.items) now (c.in_ok-entries.ensures.read clean))
    (rw (c.deref.ensures.value, c.deref-2.ensures.value) at c.check_auths.ensures.found)

pub returns-clause-schema : goal.returns-clause-schema
returns-clause-schema g c clean is read =
    let mid = earlier c.read_in_order-2.ensures.asked.inside.survives clean in
    let first = earlier c.read_in_order.ensures.asked.inside.survives mid in
    let one = (c.in_ok-claims.ensures.asked.same mid).0 in
    not_unmade (state_in g.S.Store c.args.tx.now).now (c.requires.sound first one.was_open) ((c.requires.ready first).tables one.was_open) (c.in_ok-claims.ensures.tree mid) read.authorizations
    c.in_ok-claims.claims.items c.in_ok-entries.entries.items (c.in_ok-claims.ensures.read mid) (c.in_ok-claims.ensures.sorted mid)
    (subst (λ (d : Database). AreRead show_entry (NamedFits EntryRowFits) (shown_in entry.tree entry_places d) c.in_ok-entries.entries.items) one.now_is (c.in_ok-entries.ensures.read clean))
    (c.in_ok-entries.ensures.sorted clean) ((rw (c.deref.ensures.value, c.deref-2.ensures.value) at c.check_auths.ensures.schema) is)
