use Rattle.store_tables.proofs.Vocabulary.{◌≡◌, ◌≤◌, map, length, take, first_columns}
use Rattle.std.proofs.Common.{All}
use Rattle.std.specs.Vec.{vec_capacity}
use Rattle.store_tables.proofs.rows.in_rows.Given as goal

abbrev pub invariant-loop-row : goal.invariant-loop-row
invariant-loop-row g l = record {
  read : map g.T.FromRow.cells l.values.items ≡ map (first_columns g.T.FromRow.width) (take l.row-index l.rows);
  fits : All g.T.FromRow.fits l.values.items;
  room : length l.rows ≤ vec_capacity l.values;
}
