-- The tables of a desk, as SQLite keeps them. Each table and each index of a key is a tree, and a row of a
-- table is its hidden rowid and then its columns.
use Rattle.std.specs.Prelude.{◌≡◌, ℕ, ◌==◌, Bool, true, false, List, [], ◌∷◌, map, drop, codes, None}
use Rattle.std.specs.List.{AllByRecursion, list_any}
use Rattle.std.specs.Ordering.{is_eq}
use Rattle.sqlite_value.specs.declared.keys.Collation.TheVariants.{Binary}
use Rattle.sqlite_value.specs.declared.keys.Order.{Order}
use Rattle.sqlite_value.specs.declared.value.Value.TheVariants.{Null}
use Rattle.sqlite_value.specs.Order.{Row, column, value_cmp}
use Rattle.sqlite_trees.specs.Tree.{Trees, rowid, IsAscending}
use Rattle.sqlite_trees.specs.View.{is_int}
use Rattle.sqlite_schema.specs.declared.schema.Action.TheVariants.{NoAction, Cascade}
use Rattle.sqlite_schema.specs.declared.schema.Column.{Column}
use Rattle.sqlite_schema.specs.declared.schema.Index.{Index}
use Rattle.sqlite_schema.specs.declared.schema.Kind.{Kind}
use Rattle.sqlite_schema.specs.declared.schema.Kind.TheVariants.{Integer, Text, Blob}
use Rattle.sqlite_schema.specs.declared.schema.Reference.{Reference}
use Rattle.sqlite_schema.specs.declared.schema.Schema.{Schema}
use Rattle.sqlite_schema.specs.declared.schema.Table.{Table}

-- a column that is NOT NULL, and one that may be NULL
abbrev pub required_column : List ℕ → Kind → Column
required_column name kind = record { name = name; kind = kind; is_strict = true; not_null = true; default = Null; collation = Binary }

abbrev pub optional_column : List ℕ → Kind → Column
optional_column name kind = record { name = name; kind = kind; is_strict = true; not_null = false; default = Null; collation = Binary }

-- every column of a key is sorted upwards
abbrev pub rising : Order
rising = record { digits = 0 }

-- this column is the name of a registered holder
abbrev pub holder_reference : ℕ → Reference
holder_reference place = record {
  columns = place ∷ [];
  parent = codes "holder";
  parent_columns = codes "name" ∷ [];
  on_delete = NoAction;
  on_update = NoAction;
  is_deferred = false;
}

-- these columns are the holder and the number of a claim, with which the row goes
abbrev pub claim_reference : Reference
claim_reference = record {
  columns = 1 ∷ 2 ∷ [];
  parent = codes "claim";
  parent_columns = codes "holder" ∷ codes "number" ∷ [];
  on_delete = Cascade;
  on_update = NoAction;
  is_deferred = false;
}

-- a STRICT table whose primary key is these places
abbrev pub strict : List ℕ → ℕ → List Column → List ℕ → List (List ℕ) → List Order → List Reference → Table
strict name tree columns primary uniques orders references = record {
  name = name;
  tree = tree;
  columns = columns;
  key = None;
  primary = primary;
  uniques = uniques;
  orders = orders;
  checks = [];
  references = references;
  computed = [];
  stamps = record { places = []; terms = []; formats = [] };
  is_counted = false;
}

-- the same table, if it is such a one
abbrev pub as_strict : Table → Table
as_strict t = strict t.name t.tree t.columns t.primary t.uniques t.orders t.references

abbrev pub keyed : List ℕ → ℕ → List Column → List ℕ → List Reference → Table
keyed name tree columns primary references = strict name tree columns primary (primary ∷ []) (rising ∷ []) references

abbrev pub meta : Table
meta = keyed (codes "meta") 0 (required_column (codes "name") Text ∷ required_column (codes "value") Integer ∷ []) (1 ∷ []) []

abbrev pub operator : Table
operator = keyed (codes "operator") 2 (required_column (codes "name") Text ∷ []) (1 ∷ []) []

abbrev pub pool : Table
pool = keyed (codes "pool") 4
    (required_column (codes "family") Integer ∷ required_column (codes "lo") Blob ∷ required_column (codes "len") Integer ∷ [])
    (1 ∷ 2 ∷ 3 ∷ []) []

abbrev pub holder : Table
holder = keyed (codes "holder") 6
    (required_column (codes "name") Text ∷ required_column (codes "grants") Integer ∷ required_column (codes "auths") Integer ∷ [])
    (1 ∷ []) []

abbrev pub holding : Table
holding = keyed (codes "holding") 8
    (required_column (codes "family") Integer ∷ required_column (codes "lo") Blob ∷ required_column (codes "hi") Blob
    ∷ required_column (codes "holder") Text ∷ [])
    (1 ∷ 2 ∷ []) (holder_reference 4 ∷ [])

abbrev pub granted : Table
granted = keyed (codes "granted") 10
    (required_column (codes "holder") Text ∷ required_column (codes "number") Integer ∷ required_column (codes "caller") Text
    ∷ required_column (codes "role") Integer ∷ optional_column (codes "family") Integer ∷ optional_column (codes "lo") Blob
    ∷ optional_column (codes "len") Integer ∷ required_column (codes "until") Integer ∷ [])
    (1 ∷ 2 ∷ []) (holder_reference 1 ∷ [])

abbrev pub auth : Table
auth = strict (codes "auth") 12
    (required_column (codes "holder") Text ∷ required_column (codes "number") Integer ∷ required_column (codes "asn") Integer
    ∷ required_column (codes "family") Integer ∷ required_column (codes "lo") Blob ∷ required_column (codes "len") Integer
    ∷ required_column (codes "max") Integer ∷ required_column (codes "opens") Integer ∷ required_column (codes "ends") Integer ∷ [])
    (1 ∷ 2 ∷ []) ((1 ∷ 2 ∷ []) ∷ (3 ∷ 4 ∷ 5 ∷ 6 ∷ 7 ∷ []) ∷ []) (rising ∷ rising ∷ []) (holder_reference 1 ∷ [])

abbrev pub slurm : Table
slurm = keyed (codes "slurm") 15
    (required_column (codes "file") Text ∷ required_column (codes "kind") Integer ∷ required_column (codes "position") Integer
    ∷ optional_column (codes "family") Integer ∷ optional_column (codes "lo") Blob ∷ optional_column (codes "len") Integer
    ∷ optional_column (codes "max") Integer ∷ optional_column (codes "asn") Integer ∷ [])
    (1 ∷ 2 ∷ 3 ∷ []) []

-- an authorization without its entries
abbrev pub claim : Table
claim = keyed (codes "claim") 17
    (required_column (codes "holder") Text ∷ required_column (codes "number") Integer ∷ required_column (codes "asn") Integer
    ∷ required_column (codes "opens") Integer ∷ required_column (codes "ends") Integer ∷ [])
    (1 ∷ 2 ∷ []) (holder_reference 1 ∷ [])

abbrev pub entry : Table
entry = strict (codes "entry") 19
    (required_column (codes "holder") Text ∷ required_column (codes "number") Integer ∷ required_column (codes "asn") Integer
    ∷ required_column (codes "family") Integer ∷ required_column (codes "lo") Blob ∷ required_column (codes "len") Integer
    ∷ required_column (codes "max") Integer ∷ [])
    (1 ∷ 2 ∷ 4 ∷ 5 ∷ 6 ∷ []) ((1 ∷ 2 ∷ 4 ∷ 5 ∷ 6 ∷ []) ∷ (3 ∷ 4 ∷ 5 ∷ 6 ∷ 7 ∷ []) ∷ []) (rising ∷ rising ∷ []) (claim_reference ∷ [])

-- the index of a key, which SQLite makes
abbrev pub key_index : List ℕ → ℕ → ℕ → List ℕ → Index
key_index name table tree places =
    record { name = name; tree = tree; table = table; columns = places; order = rising; is_unique = true }

-- the tables of a desk, in the order in which they are made; `auth` has the authorizations of schema 1 and no row since
abbrev pub desk_tables : List Table
desk_tables = meta ∷ operator ∷ pool ∷ holder ∷ holding ∷ granted ∷ auth ∷ slurm ∷ claim ∷ entry ∷ []

-- the index by which a holder's runs are found
abbrev pub holding_of : Index
holding_of = record {
  name = codes "holding_of";
  tree = 22;
  table = holding.tree;
  columns = 4 ∷ [];
  order = rising;
  is_unique = false;
}

-- The indexes of the keys of the tables, and `holding_of`, which is made last: so the trees of the tables do not depend
-- on it, nor change where a VACUUM writes the tables before the indexes.
abbrev pub desk_indexes : List Index
desk_indexes =
    key_index (codes "sqlite_autoindex_meta_1") 0 1 (1 ∷ [])
    ∷ key_index (codes "sqlite_autoindex_operator_1") 2 3 (1 ∷ [])
    ∷ key_index (codes "sqlite_autoindex_pool_1") 4 5 (1 ∷ 2 ∷ 3 ∷ [])
    ∷ key_index (codes "sqlite_autoindex_holder_1") 6 7 (1 ∷ [])
    ∷ key_index (codes "sqlite_autoindex_holding_1") 8 9 (1 ∷ 2 ∷ [])
    ∷ key_index (codes "sqlite_autoindex_granted_1") 10 11 (1 ∷ 2 ∷ [])
    ∷ key_index (codes "sqlite_autoindex_auth_1") 12 13 (1 ∷ 2 ∷ [])
    ∷ key_index (codes "sqlite_autoindex_auth_2") 12 14 (3 ∷ 4 ∷ 5 ∷ 6 ∷ 7 ∷ [])
    ∷ key_index (codes "sqlite_autoindex_slurm_1") 15 16 (1 ∷ 2 ∷ 3 ∷ [])
    ∷ key_index (codes "sqlite_autoindex_claim_1") 17 18 (1 ∷ 2 ∷ [])
    ∷ key_index (codes "sqlite_autoindex_entry_1") 19 20 (1 ∷ 2 ∷ 4 ∷ 5 ∷ 6 ∷ [])
    ∷ key_index (codes "sqlite_autoindex_entry_2") 19 21 (3 ∷ 4 ∷ 5 ∷ 6 ∷ 7 ∷ [])
    ∷ holding_of ∷ []

abbrev pub desk_schema : Schema
desk_schema = record { tables = desk_tables; indexes = desk_indexes; views = [] }

-- these tables beside the indexes and views of a schema
abbrev pub with_tables : List Table → Schema → Schema
with_tables tables s = record s { tables = tables }

-- the tables of a desk beside them
abbrev pub desk_beside : Schema → Schema
desk_beside = with_tables desk_tables

-- this holds for the tables of a desk, whatever indexes and views are beside them
abbrev pub OverDesk : (Schema → Type 0) → Type 0
OverDesk so = (s : Schema) → so (desk_beside s)

-- the schema of a database that has no table, index or view
abbrev pub blank_schema : Schema
blank_schema = record { tables = []; indexes = []; views = [] }

-- the rows of a table without their rowids
abbrev pub contents : List Row → List Row
contents rows = map (drop 1) rows

-- the cells of a row in these columns, NULL past its end
abbrev pub columns : List ℕ → Row → Row
columns places c = map (column c) places

-- the tree has the rows of a table of the desk
abbrev pub is_table : ℕ → Bool
is_table t = list_any (λ table. table.tree == t) desk_tables

-- each row has a rowid, and no rowid comes twice
abbrev pub IsTree : List Row → Type 0
IsTree rows =
    IsAscending (λ a b. is_eq (value_cmp (rowid a) (rowid b)) ≡ false) rows
    × AllByRecursion (λ r. is_int (rowid r) ≡ true) rows

-- every table of the desk has the same rows, in the same order
abbrev pub SameRows : Trees → Trees → Type 0
SameRows old new = (t : ℕ) → is_table t ≡ true → new t ≡ old t

abbrev pub AreTrees : Trees → Type 0
AreTrees trees = (t : ℕ) → is_table t ≡ true → IsTree (trees t)
