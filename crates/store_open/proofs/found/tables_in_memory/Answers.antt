use Rattle.store_open.proofs.Vocabulary.{rules, ◌≡◌, ap, subst, ◌∙◌, Database, Held, state, over_memory, memory_is_clean, MemStore, desk_schema}
use Rattle.store_schema.specs.Making.{IsMadeTo}
use Rattle.store_open.proofs.found.tables_in_memory.Goals as goal

pub returns : goal.returns
returns c =
    let end = c.commit.new.self.0 in
    let same : end ≡ c.conn-3-1.given.0 = search rules in
    let mid = c.make_schema.new.tx.conn.now in
    let made : IsMadeTo 11 (state over_memory mid) = c.in_ok-make_schema.ensures.made (memory_is_clean mid) in
    let shown = (c.in_ok-commit.ensures.ok (memory_is_clean end)).1 in
    subst (λ (h : Held MemStore). h.schema ≡ desk_schema) same (ap (λ (d : Database). d.schema) shown.now_is ∙ made.schema)
