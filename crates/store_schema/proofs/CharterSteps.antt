-- What putting the charter does to tables that were just made.
use Rattle.store_schema.proofs.Vocabulary.{◌≡◌, ◌≢◌, ℕ, pos, ◌+◌, List, [], ◌∷◌, ◌++◌, map, codes, true, refl, sym, ap, subst, ◌∙◌, append-nil, IsPermutation, Database, State, Null, Int, Text, Row, lit, CharterSets, meta, operator, pool, desk_tables, contents, is_table, IsTree, AreTrees, schema_row, operator_row, prefix_cells, Edits, holder_part, holding_part, granted_part, claim_part, entry_part, INSERT_SCHEMA, INSERT_OPERATOR, INSERT_PREFIX, IsReady, IsExecuted, IsMadeTo, HasCharter, PutsRows, cast_schema, cast_prefix, sound_still, puts_row, each_table, put_terms, put_schema_is, put_operator_is, put_prefix_is}
use Rattle.addr.specs.declared.prefix.Prefix.{Prefix}
use Rattle.store_tables.proofs.HaveEntries.{none_have_entries}
use Rattle.store_schema.proofs.MakingSteps.{none_held, none_of_files}

module _ (old new : State) where
  pub puts_schema : IsReady old → IsExecuted INSERT_SCHEMA.now [] old new → PutsRows meta.tree (schema_row ∷ []) old new
  puts_schema = puts_row 0 meta refl old new [] (lit Null ∷ lit (Text (codes "schema")) ∷ lit (Int (pos 2)) ∷ []) 3 schema_row put_schema_is refl cast_schema

  pub puts_operator : (name : List ℕ) → IsReady old → IsExecuted INSERT_OPERATOR.now (operator_row name) old new → PutsRows operator.tree (operator_row name ∷ []) old new
  puts_operator name = puts_row 1 operator refl old new (operator_row name) (put_terms 1) 2 (operator_row name) put_operator_is refl refl

  pub puts_prefix : (p : Prefix) → IsReady old → IsExecuted INSERT_PREFIX.now (prefix_cells p) old new → PutsRows pool.tree (prefix_cells p ∷ []) old new
  puts_prefix p = puts_row 2 pool refl old new (prefix_cells p) (put_terms 3) 4 (prefix_cells p) put_prefix_is refl (cast_prefix p)

module _ (tree : ℕ) where
  -- rows that were put into an empty table are its rows
  first_rows : (rows : List Row) (a b : Database) → Edits tree (λ table. rows ++ table) a b → a.trees tree ≡ [] → IsPermutation rows (contents (b.trees tree))
  first_rows rows a b e none = subst (λ l. IsPermutation l (contents (b.trees tree))) (ap (λ t. rows ++ contents t) none ∙ append-nil rows) e.rows

pub has_charter : (charter : CharterSets) (a b c d : State) → IsMadeTo 11 a → PutsRows meta.tree (schema_row ∷ []) a b → PutsRows operator.tree (map operator_row charter.operators) b c → PutsRows pool.tree (map prefix_cells charter.pool) c d → HasCharter charter d
has_charter charter a b c d made schema operators prefixes =
    let at = each_table (λ t. a.now.trees t ≡ []) desk_tables made.empty in
    let first = schema.edits in
    let second = operators.edits in
    let third = prefixes.edits in
    let still : (t : ℕ) → is_table t ≡ true → t ≢ 0 → t ≢ 2 → t ≢ 4 → d.now.trees t ≡ [] = λ t is meta operator pool. third.others t is pool ∙ second.others t is operator ∙ first.others t is meta ∙ at t is in
    let sound : AreTrees a.now.trees = λ t is. subst IsTree (sym (at t is)) (tt, tt) in
    record {
      inside = prefixes.ready.inside;
      schema = third.schema ∙ second.schema ∙ first.schema ∙ made.schema;
      sound = prefixes.sound (operators.sound (schema.sound (made.sound refl)));
      rows = record {
        charter_kept = record {
          schema = subst (λ t. IsPermutation (schema_row ∷ []) (contents t)) (sym (third.others 0 refl (λ same. cc) ∙ second.others 0 refl (λ same. cc))) (first_rows 0 (schema_row ∷ []) a.now b.now first (at 0 refl));
          operators = subst (λ t. IsPermutation (map operator_row charter.operators) (contents t)) (sym (third.others 2 refl (λ same. cc)))
              (first_rows 2 (map operator_row charter.operators) b.now c.now second (first.others 2 refl (λ same. cc) ∙ at 2 refl));
          pool = first_rows 4 (map prefix_cells charter.pool) c.now d.now third (second.others 4 refl (λ same. cc) ∙ first.others 4 refl (λ same. cc) ∙ at 4 refl);
        };
        holders = none_held holder_part (d.now.trees 6) (still 6 refl (λ same. cc) (λ same. cc) (λ same. cc));
        holdings = none_held holding_part (d.now.trees 8) (still 8 refl (λ same. cc) (λ same. cc) (λ same. cc));
        grants = none_held granted_part (d.now.trees 10) (still 10 refl (λ same. cc) (λ same. cc) (λ same. cc));
        claims = none_held claim_part (d.now.trees 17) (still 17 refl (λ same. cc) (λ same. cc) (λ same. cc));
        entries = none_held entry_part (d.now.trees 19) (still 19 refl (λ same. cc) (λ same. cc) (λ same. cc));
        have_entries = none_have_entries;
        unused = ap contents (still 12 refl (λ same. cc) (λ same. cc) (λ same. cc));
        files = none_of_files (d.now.trees 15) (still 15 refl (λ same. cc) (λ same. cc) (λ same. cc));
        whole = sound_still 4 _ c.now d.now third (sound_still 2 _ b.now c.now second (sound_still 0 _ a.now b.now first sound));
      };
    }
