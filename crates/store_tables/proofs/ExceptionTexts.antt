-- What the query of all exceptions means over the tables of a desk. The fact is computed.
use Rattle.store_tables.proofs.Vocabulary.{[], ◌∷◌, codes, refl, Select, col, SELECT_ALL_EXCEPTIONS}
use Rattle.sqlite.specs.Listing.{understood}
use Rattle.sqlite_tied.specs.Compute.{everything}
use Rattle.store_tables.proofs.Selecting.{from_table, no_limit}
use Rattle.store_tables.proofs.Texts.{Means, upwards}

pub all_exceptions_is : Means SELECT_ALL_EXCEPTIONS.now (Select (record { lets = []; body = from_table 15 [] (col 1 1 ∷ col 1 2 ∷ col 1 3 ∷ col 1 4 ∷ col 1 5 ∷ col 1 6 ∷ col 1 7 ∷ col 1 8 ∷ col 1 0 ∷ []) (upwards 0 ∷ []) no_limit }) (codes "file" ∷ codes "kind" ∷ codes "position" ∷ codes "family" ∷ codes "lo" ∷ codes "len" ∷ codes "max" ∷ codes "asn" ∷ codes "rowid" ∷ []))
unfolding understood everything
all_exceptions_is = record { is = λ s. refl; plain = λ s. (refl, refl); unlisted = λ s. refl }
