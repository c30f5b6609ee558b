use Rattle.store_open.proofs.Vocabulary.{subst, ◌∙◌, on_ok_weaker, entry, state, HasTree, MakeOfTable, MakeNoneOfTable, refused_by}
use Rattle.store_open.proofs.InTurn.{earlier}
use Rattle.store_open.proofs.SomeAuths.{claims_in, entries_in, not_unmade}
use Rattle.store_open.proofs.reading.collect_auths.Goals as goal

pub returns-in_err-claims-clause-schema : goal.returns-in_err-claims-clause-schema
returns-in_err-claims-clause-schema g c clean is read =
    c.collect_in_order.ensures.schema clean (refused_by _ _ _ c.in_err-claims.was c.from_residual.ensures.1 is) (claims_in (state g.S.Store c.args.conn.now).now read.authorizations)

pub returns-clause-found : goal.returns-clause-found
returns-clause-found g c clean =
    let clean_2 = earlier c.join_entries.ensures.asked.survives clean in
    let clean_1 = earlier c.check_rowids.ensures.asked.survives clean_2 in
    let now_1 = (c.in_ok-claims.ensures.asked.same clean_1).0.now_is in
    let now_2 = (c.in_ok-check_rowids.ensures.asked.same clean_2).0.now_is ∙ now_1 in
    let held = c.in_ok-claims.ensures.read clean_1 in
    on_ok_weaker c.join_entries.result (λ joined.
    let all = subst (MakeOfTable held.0) now_2 (joined held.0 held.1) in
    record {
      unused = c.requires.unused (earlier c.collect_in_order.ensures.asked.survives clean_1);
      claims_whole = c.in_ok-claims.ensures.tree clean_1;
      entries_whole = subst (HasTree entry.tree) now_1 (c.in_ok-check_rowids.ensures.tree clean_2);
      claims = held.0;
      entries = all.0;
      claims_read = held.2.0;
      entries_read = all.1;
      made = all.2;
    }) (c.join_entries.ensures.found clean)

pub returns-clause-schema : goal.returns-clause-schema
returns-clause-schema g c clean is read =
    let db = (state g.S.Store c.args.conn.now).now in
    let clean_2 = earlier c.join_entries.ensures.asked.survives clean in
    let clean_1 = earlier c.check_rowids.ensures.asked.survives clean_2 in
    let tables = c.requires.ready.tables (earlier c.collect_in_order.ensures.asked.survives clean_1) in
    let one = (c.in_ok-claims.ensures.asked.same clean_1).0 in
    let now_2 = (c.in_ok-check_rowids.ensures.asked.same clean_2).0.now_is ∙ one.now_is in
    let held = c.in_ok-claims.ensures.read clean_1 in
    let none = subst (MakeNoneOfTable held.0) now_2 (c.join_entries.ensures.schema clean is held.0 held.1) (entries_in db read.authorizations) in
    not_unmade db (c.schema-schema.ensures.live one.was_open).0 (tables one.was_open) (c.in_ok-claims.ensures.tree clean_1) read.authorizations held.0 none.0 held.2.0 held.2.1 none.1 none.2 none.3
