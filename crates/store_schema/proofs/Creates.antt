-- The statements that make the tables of a desk, one on the other. Each fact is computed.
use Rattle.store_schema.proofs.Vocabulary.{◌≡◌, ℕ, List, false, Ok, refl, created, indexed, next_tree, lacks_sequence, IsPlain, command_of, statement_of, CreateTable, CreateIndex, Schema, Table, old_schema, old_schema_without_index, meta, operator, pool, holder, holding, granted, auth, slurm, claim, entry, holding_of, CREATE_AUTH, CREATE_CLAIM, CREATE_ENTRY, CREATE_SLURM, CREATE_GRANTED, CREATE_HOLDER, CREATE_HOLDING, CREATE_HOLDING_INDEX, CREATE_META, CREATE_OPERATOR, CREATE_POOL, schema_so_far}
use Rattle.sqlite.specs.Compile.{table_defined_by, index_defined_by}
use Rattle.sqlite.specs.Listing.{understood}
use Rattle.sqlite_tied.specs.Compute.{everything}
use Rattle.std.specs.Fmt.{digits}

-- over the first tables, the text defines this table, and makes the next schema
pub record Defines (sql : List ℕ) (table : Table) (before after : Schema) : Type 0 where
  pub is : command_of (understood before sql) ≡ CreateTable
  pub text : statement_of sql (understood before sql) ≡ sql
  pub plain : IsPlain (understood before sql)
  pub defined : table_defined_by sql ≡ Ok (record table { tree = 0 })
  pub made : created before (record table { tree = 0 }) ≡ after
  pub place : next_tree before ≡ table.tree
  pub uncounted : lacks_sequence after ≡ false

-- over the first tables, the text defines the index of a holder's runs, and makes the next schema
pub record DefinesIndex (sql : List ℕ) (before after : Schema) : Type 0 where
  pub is : command_of (understood before sql) ≡ CreateIndex 4
  pub text : statement_of sql (understood before sql) ≡ sql
  pub plain : IsPlain (understood before sql)
  pub defined : index_defined_by holding sql ≡ Ok (record holding_of { tree = 0 })
  pub made : indexed before holding (record holding_of { tree = 0 }) ≡ after

pub meta_defined : Defines CREATE_META.now meta (schema_so_far 0) (schema_so_far 1)
unfolding understood everything digits
meta_defined = record { is = refl; text = refl; plain = (refl, refl); defined = refl; made = refl; place = refl; uncounted = refl }

pub operator_defined : Defines CREATE_OPERATOR.now operator (schema_so_far 1) (schema_so_far 2)
unfolding understood everything digits
operator_defined = record { is = refl; text = refl; plain = (refl, refl); defined = refl; made = refl; place = refl; uncounted = refl }

pub pool_defined : Defines CREATE_POOL.now pool (schema_so_far 2) (schema_so_far 3)
unfolding understood everything digits
pool_defined = record { is = refl; text = refl; plain = (refl, refl); defined = refl; made = refl; place = refl; uncounted = refl }

pub holder_defined : Defines CREATE_HOLDER.now holder (schema_so_far 3) (schema_so_far 4)
unfolding understood everything digits
holder_defined = record { is = refl; text = refl; plain = (refl, refl); defined = refl; made = refl; place = refl; uncounted = refl }

pub holding_defined : Defines CREATE_HOLDING.now holding (schema_so_far 4) (schema_so_far 5)
unfolding understood everything digits
holding_defined = record { is = refl; text = refl; plain = (refl, refl); defined = refl; made = refl; place = refl; uncounted = refl }

pub granted_defined : Defines CREATE_GRANTED.now granted (schema_so_far 5) (schema_so_far 6)
unfolding understood everything digits
granted_defined = record { is = refl; text = refl; plain = (refl, refl); defined = refl; made = refl; place = refl; uncounted = refl }

pub auth_defined : Defines CREATE_AUTH.now auth (schema_so_far 6) (schema_so_far 7)
unfolding understood everything digits
auth_defined = record { is = refl; text = refl; plain = (refl, refl); defined = refl; made = refl; place = refl; uncounted = refl }

pub slurm_defined : Defines CREATE_SLURM.now slurm (schema_so_far 7) (schema_so_far 8)
unfolding understood everything digits
slurm_defined = record { is = refl; text = refl; plain = (refl, refl); defined = refl; made = refl; place = refl; uncounted = refl }

pub claim_defined : Defines CREATE_CLAIM.now claim (schema_so_far 8) (schema_so_far 9)
unfolding understood everything digits
claim_defined = record { is = refl; text = refl; plain = (refl, refl); defined = refl; made = refl; place = refl; uncounted = refl }

pub entry_defined : Defines CREATE_ENTRY.now entry (schema_so_far 9) (schema_so_far 10)
unfolding understood everything digits
entry_defined = record { is = refl; text = refl; plain = (refl, refl); defined = refl; made = refl; place = refl; uncounted = refl }

pub index_defined : DefinesIndex CREATE_HOLDING_INDEX.now (schema_so_far 10) (schema_so_far 11)
unfolding understood everything digits
index_defined = record { is = refl; text = refl; plain = (refl, refl); defined = refl; made = refl }

-- of schema 1 too
pub old_index_defined : DefinesIndex CREATE_HOLDING_INDEX.now old_schema_without_index old_schema
unfolding understood everything digits
old_index_defined = record { is = refl; text = refl; plain = (refl, refl); defined = refl; made = refl }
