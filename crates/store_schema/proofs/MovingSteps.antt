-- What the statements do that move the rows of schema 1.
use Rattle.store_schema.proofs.Vocabulary.{◌≡◌, Bool, true, [], None, Ok, sym, ap, subst, ◌∙◌, Tally, Does, Database, State, mode_of, runs_as, statement_of, DropIndex, Schema, COPY_CLAIMS, COPY_ENTRIES, DELETE_ALL_AUTHS, DROP_HOLDING_INDEX, UPDATE_SCHEMA, old_tables, old_schema, desk_tables, desk_schema, CREATE_HOLDING_INDEX, went, same_value, each_table, IsReady, IsExecuted, IsOver, MakesClaimTables, DropsIndex, old_schema_if, wide_schema, WidensTables, MovesRows, has_schema, wrote, ready_still}
use Rattle.sqlite.specs.Listing.{understood}
use Rattle.sqlite_catalog.specs.Change.{KeepsRows}
use Rattle.store_schema.proofs.Steps.{copies_claims, copies_entries, takes_auths, sets_schema, moved, still_moved}
use Rattle.store_schema.proofs.Texts.{copy_claims_is, copy_entries_is, take_auths_is, set_schema_is, drop_index_is, drop_index_plain, index_dropped}
use Rattle.store_schema.proofs.MakingSteps.{makes_index}

-- ---- the tables

-- the index is taken away, and no row changes
pub drops_index : (has_index : Bool) (old new : State) → has_index ≡ true → IsOver (old_schema_if has_index) old → IsExecuted DROP_HOLDING_INDEX.now [] old new → DropsIndex old new
drops_index has_index old new is over ran =
    let has : old.now.schema ≡ old_schema = over.schema ran.1.1.was_open ∙ ap old_schema_if is in
    let text = statement_of DROP_HOLDING_INDEX.now (understood old_schema DROP_HOLDING_INDEX.now) in
    let w = runs_as DROP_HOLDING_INDEX.now [] old new old_schema has (DropIndex 9) drop_index_is drop_index_plain ran.0 ran.1.0 in
    let found = subst (λ s. Does old.step_limit (mode_of old) [] (record old.now { schema = s }) text None (DropIndex 9) (Ok (w.tally, new.now))) has w.changed in
    let all = went found in
    let left = all.1 in
    let now : new.now ≡ all.0 = ap (λ (p : Tally × Database). p.1) (same_value all.2) in
    record {
      over = record { inside = ran.1.1.mode; schema = λ _. ap (λ (d : Database). d.schema) now ∙ left.0 ∙ index_dropped };
      rows = subst (λ (d : Database). KeepsRows old_tables old.now.trees d.trees) (sym now) left.1;
    }

pub widens : (a b c : State) → DropsIndex a b → MakesClaimTables b c → WidensTables a c
widens a b c dropped made =
    let first = each_table (λ t. b.now.trees t ≡ a.now.trees t) old_tables dropped.rows in
    let second = each_table (λ t. c.now.trees t ≡ b.now.trees t) old_tables made.redefines.rows in
    record {
      inside = made.redefines.inside;
      schema = made.redefines.schema;
      sound = made.redefines.sound;
      widened = record { same = λ t is. second t is ∙ first t is; no_claims = made.no_claims; no_entries = made.no_entries };
    }

-- ---- the rows

wide_is_ready : (s : State) → IsOver wide_schema s → IsReady s
wide_is_ready s over = record { tables = λ opened. ap (λ (s : Schema). s.tables) (over.schema opened); inside = over.inside }

pub edits_rows : (a b c d e : State) → IsOver wide_schema a → IsExecuted COPY_CLAIMS.now [] a b → IsExecuted COPY_ENTRIES.now [] b c → IsExecuted DELETE_ALL_AUTHS.now [] c d
    → IsExecuted UPDATE_SCHEMA.now [] d e → MovesRows wide_schema a e
edits_rows a b c d e over ran_1 ran_2 ran_3 ran_4 =
    let ready_a = wide_is_ready a over in
    let has_1 = has_schema [] copy_claims_is ready_a ran_1 in
    let claims = copies_claims a.now.schema a b _ _ has_1 (wrote [] copy_claims_is ready_a ran_1) in
    let ready_b = ready_still [] copy_claims_is ready_a ran_1 (claims.0 ∙ has_1) in
    let has_2 = has_schema [] copy_entries_is ready_b ran_2 in
    let entries = copies_entries b.now.schema b c _ _ has_2 (wrote [] copy_entries_is ready_b ran_2) in
    let ready_c = ready_still [] copy_entries_is ready_b ran_2 (entries.0 ∙ has_2) in
    let has_3 = has_schema [] take_auths_is ready_c ran_3 in
    let emptied = takes_auths c.now.schema c d _ _ has_3 (wrote [] take_auths_is ready_c ran_3) in
    let ready_d = ready_still [] take_auths_is ready_c ran_3 (emptied.0 ∙ has_3) in
    let has_4 = has_schema [] set_schema_is ready_d ran_4 in
    let last = wrote [] set_schema_is ready_d ran_4 in
    let numbered = sets_schema d.now.schema d e _ _ has_4 last in
    record {
      inside = ran_4.1.1.mode;
      schema = numbered.0 ∙ emptied.0 ∙ entries.0 ∙ claims.0 ∙ over.schema ran_1.1.1.was_open;
      sound = last.sound;
      moved = λ tables movable wide. moved tables a.now b.now c.now d.now e.now movable wide claims.1 entries.1 emptied.1 numbered.1;
    }

pub moves_rows : (a b c : State) → MovesRows wide_schema a b → IsExecuted CREATE_HOLDING_INDEX.now [] b c → MovesRows desk_schema a c
moves_rows a b c edited ran =
    let made = makes_index b c edited.schema ran in
    let same = each_table (λ t. c.now.trees t ≡ b.now.trees t) desk_tables made.rows in
    record { inside = made.inside; schema = made.schema; sound = made.sound; moved = λ tables movable wide. still_moved tables b.now.trees c.now.trees same (edited.moved tables movable wide) }
