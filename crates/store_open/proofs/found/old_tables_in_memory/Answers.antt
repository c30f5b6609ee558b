use Rattle.store_open.proofs.Vocabulary.{rules, ◌≡◌, ap, subst, ◌∙◌, Database, Held, state, over_memory, memory_is_clean, MemStore, IsOverOld, old_schema_if}
use Rattle.store_open.proofs.found.old_tables_in_memory.Goals as goal

pub returns : goal.returns
returns c =
    let end = c.commit.new.self.0 in
    let same : end ≡ c.conn-3-1.given.0 = search rules in
    let mid = c.make_old_schema.new.tx.conn.now in
    let made : IsOverOld c.args.has_index (state over_memory mid) = c.in_ok-make_old_schema.ensures.made (memory_is_clean mid) in
    let shown = (c.in_ok-commit.ensures.ok (memory_is_clean end)).1 in
    subst (λ (h : Held MemStore). h.schema ≡ old_schema_if c.args.has_index) same (ap (λ (d : Database). d.schema) shown.now_is ∙ made.schema)
