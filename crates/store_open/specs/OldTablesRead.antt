-- What it is for the tables of a database of schema 1 to read.
use Rattle.std.specs.Prelude.{List, [], ◌∷◌, flat_map, IsPermutation, IsTrue}
use Rattle.std.specs.List.{AllByRecursion}
use Rattle.sqlite_value.specs.Order.{Row}
use Rattle.sqlite_trees.specs.Tree.{Trees}
use Rattle.addr.specs.Name.{is_name}
use Rattle.registry.specs.declared.authorization.Auth.{Auth}
use Rattle.registry.specs.Values.{AuthFits}
use Rattle.store_tables.specs.declared.groups.OfHolder.{OfHolder}
use Rattle.store_tables.specs.Tables.{meta, auth, contents}
use Rattle.store_schema.specs.OldTables.{auth_rows, old_schema_row, AreOldTrees, HasOneEntry}
use Rattle.store_open.specs.TablesRead.{CommonTablesRead}

-- the rows of an authorization in the table `auth`: one, where it has one entry
abbrev pub rows_of_auth : OfHolder Auth → List Row
rows_of_auth x = auth_rows x.holder x.row

-- The table `auth` has authorizations of one entry each, each value of which is in its range: their rows are there, in
-- some order, and no other.
pub record HasSomeOldAuths (trees : Trees) : Type 0 where
  pub auths : List (OfHolder Auth)
  pub fit : AllByRecursion (λ (x : OfHolder Auth). IsTrue (is_name x.holder) × AuthFits x.row) auths
  pub one_each : AllByRecursion (λ (x : OfHolder Auth). HasOneEntry x.row) auths
  pub shown : IsPermutation (flat_map rows_of_auth auths) (contents (trees auth.tree))

-- The number is that of schema 1 and no other row is beside it, the tables that are the same in both schemas read, so
-- do the authorizations, and each row of each table has a rowid of its own.
pub record OldTablesRead (trees : Trees) : Type 0 where
  pub schema : IsPermutation (old_schema_row ∷ []) (contents (trees meta.tree))
  pub common : CommonTablesRead trees
  pub authorizations : HasSomeOldAuths trees
  pub whole : AreOldTrees trees
