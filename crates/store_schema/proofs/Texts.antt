-- What the statements mean that move the authorizations of schema 1, over the tables of a desk, and that which takes the
-- old index away before these are made. Each fact is computed.
use Rattle.store_schema.proofs.Vocabulary.{◌≡◌, List, [], ◌∷◌, pos, refl, Null, Int, Command, Update, Delete, DropIndex, Term, lit, col, without_index, IsPlain, command_of, SCHEMA, COPY_CLAIMS, COPY_ENTRIES, DELETE_ALL_AUTHS, DROP_HOLDING_INDEX, UPDATE_SCHEMA, old_schema, old_schema_without_index, old_holding_of, meta, auth, deletion_of, update_of, Means}
use Rattle.sqlite_value.specs.declared.keys.Collation.TheVariants.{Binary}
use Rattle.sqlite.specs.Listing.{understood}
use Rattle.sqlite_tied.specs.Compute.{everything}
use Rattle.store_schema.proofs.Copying.{copies}

-- the row of a claim out of a row of `auth`, the hidden rowid left to SQLite
abbrev pub claim_terms : List Term
claim_terms = lit Null ∷ col 1 1 ∷ col 1 2 ∷ col 1 3 ∷ col 1 8 ∷ col 1 9 ∷ []

abbrev pub claims_copied : Command
claims_copied = copies 8 12 claim_terms (Binary ∷ Binary ∷ Binary ∷ Binary ∷ Binary ∷ Binary ∷ [])

pub copy_claims_is : Means COPY_CLAIMS.now claims_copied
unfolding understood everything
copy_claims_is = record { is = λ s. refl; plain = λ s. (refl, refl); unlisted = λ s. refl }

-- so that of its entry
abbrev pub entry_terms : List Term
entry_terms = lit Null ∷ col 1 1 ∷ col 1 2 ∷ col 1 3 ∷ col 1 4 ∷ col 1 5 ∷ col 1 6 ∷ col 1 7 ∷ []

abbrev pub entries_copied : Command
entries_copied = copies 9 12 entry_terms (Binary ∷ Binary ∷ Binary ∷ Binary ∷ Binary ∷ Binary ∷ Binary ∷ Binary ∷ [])

pub copy_entries_is : Means COPY_ENTRIES.now entries_copied
unfolding understood everything
copy_entries_is = record { is = λ s. refl; plain = λ s. (refl, refl); unlisted = λ s. refl }

pub take_auths_is : Means DELETE_ALL_AUTHS.now (Delete 6 (deletion_of auth []))
unfolding understood everything
take_auths_is = record { is = λ s. refl; plain = λ s. (refl, refl); unlisted = λ s. refl }

-- the row of `meta` with the number of the schema
abbrev pub schema_sets : List Term
schema_sets = col 1 1 ∷ lit (Int (pos SCHEMA)) ∷ []

pub set_schema_is : Means UPDATE_SCHEMA.now (Update 0 (update_of meta [] schema_sets))
unfolding understood everything
set_schema_is = record { is = λ s. refl; plain = λ s. (refl, refl); unlisted = λ s. refl }

-- over the tables of schema 1 the text takes the index of a holder's runs away, and nothing else
pub drop_index_is : command_of (understood old_schema DROP_HOLDING_INDEX.now) ≡ DropIndex 9
unfolding understood everything
drop_index_is = refl

pub drop_index_plain : IsPlain (understood old_schema DROP_HOLDING_INDEX.now)
unfolding understood everything
drop_index_plain = (refl, refl)

pub index_dropped : without_index old_schema old_holding_of.tree ≡ old_schema_without_index
index_dropped = refl
