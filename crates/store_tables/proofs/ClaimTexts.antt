-- What the statements of claims and entries mean over the tables of a desk. Each fact is computed.
use Rattle.store_tables.proofs.Vocabulary.{List, [], ◌∷◌, codes, refl, Binary, Values, Insert, Update, Delete, Select, Le, Ge, Compare, Term, col, op2}
use Rattle.sqlite.specs.Listing.{understood}
use Rattle.sqlite_tied.specs.Compute.{everything}
use Rattle.store_tables.specs.declared.claim.TheConstants.{INSERT_CLAIM, UPDATE_CLAIM, DELETE_CLAIM, SELECT_HOLDER_CLAIMS, SELECT_NUMBERED_CLAIM, COUNT_HOLDER_CLAIMS, SELECT_ALL_CLAIMS, SELECT_CLAIMS_IN_FORCE}
use Rattle.store_tables.specs.declared.entry.TheConstants.{INSERT_ENTRY, DELETE_ENTRIES, SELECT_HOLDER_ENTRIES, SELECT_NUMBERED_ENTRIES, SELECT_GIVEN_ENTRIES, SELECT_ENTRIES_UP_TO, SELECT_ALL_ENTRIES, SELECT_PAYLOADS}
use Rattle.store_tables.proofs.Counting.{count_from}
use Rattle.store_tables.proofs.Selecting.{from_table, no_limit}
use Rattle.store_tables.proofs.Texts.{Means, equals, upwards, put_terms}

pub put_claim_is : Means INSERT_CLAIM.now (Insert 8 (Values (put_terms 5) 6))
unfolding understood everything
put_claim_is = record { is = λ s. refl; plain = λ s. (refl, refl); unlisted = λ s. refl }

pub put_entry_is : Means INSERT_ENTRY.now (Insert 9 (Values (put_terms 7) 8))
unfolding understood everything
put_entry_is = record { is = λ s. refl; plain = λ s. (refl, refl); unlisted = λ s. refl }

-- a claim or an entry is of the holder ?1 and of the number ?2
abbrev pub of_number_tests : List Term
of_number_tests = equals 1 0 ∷ equals 2 1 ∷ []

-- the columns of the claim that the parameters are, its holder and its number kept
abbrev pub claim_sets : List Term
claim_sets = col 1 1 ∷ col 1 2 ∷ col 0 2 ∷ col 0 3 ∷ col 0 4 ∷ []

pub amend_claim_is : Means UPDATE_CLAIM.now (Update 8 (record { lets = []; body = from_table 17 of_number_tests (col 1 0 ∷ col 1 0 ∷ claim_sets) [] no_limit }))
unfolding understood everything
amend_claim_is = record { is = λ s. refl; plain = λ s. (refl, refl); unlisted = λ s. refl }

pub take_claim_is : Means DELETE_CLAIM.now (Delete 8 (record { lets = []; body = from_table 17 of_number_tests (col 1 0 ∷ []) [] no_limit }))
unfolding understood everything
take_claim_is = record { is = λ s. refl; plain = λ s. (refl, refl); unlisted = λ s. refl }

pub take_entries_is : Means DELETE_ENTRIES.now (Delete 9 (record { lets = []; body = from_table 19 of_number_tests (col 1 0 ∷ []) [] no_limit }))
unfolding understood everything
take_entries_is = record { is = λ s. refl; plain = λ s. (refl, refl); unlisted = λ s. refl }

pub claims_is : Means SELECT_HOLDER_CLAIMS.now (Select (record { lets = []; body = from_table 17 (equals 1 0 ∷ []) (col 1 2 ∷ col 1 3 ∷ col 1 4 ∷ col 1 5 ∷ []) (upwards 2 ∷ []) no_limit }) (codes "number" ∷ codes "asn" ∷ codes "opens" ∷ codes "ends" ∷ []))
unfolding understood everything
claims_is = record { is = λ s. refl; plain = λ s. (refl, refl); unlisted = λ s. refl }

pub entries_is : Means SELECT_HOLDER_ENTRIES.now (Select (record { lets = []; body = from_table 19 (equals 1 0 ∷ []) (col 1 2 ∷ col 1 3 ∷ col 1 4 ∷ col 1 5 ∷ col 1 6 ∷ col 1 7 ∷ []) (upwards 2 ∷ upwards 4 ∷ upwards 5 ∷ upwards 6 ∷ []) no_limit }) (codes "number" ∷ codes "asn" ∷ codes "family" ∷ codes "lo" ∷ codes "len" ∷ codes "max" ∷ []))
unfolding understood everything
entries_is = record { is = λ s. refl; plain = λ s. (refl, refl); unlisted = λ s. refl }

pub numbered_claim_is : Means SELECT_NUMBERED_CLAIM.now (Select (record { lets = []; body = from_table 17 of_number_tests (col 1 2 ∷ col 1 3 ∷ col 1 4 ∷ col 1 5 ∷ []) (upwards 2 ∷ []) no_limit }) (codes "number" ∷ codes "asn" ∷ codes "opens" ∷ codes "ends" ∷ []))
unfolding understood everything
numbered_claim_is = record { is = λ s. refl; plain = λ s. (refl, refl); unlisted = λ s. refl }

-- the number of the claims of the holder ?1
pub count_claims_is : Means COUNT_HOLDER_CLAIMS.now (Select (record { lets = []; body = count_from 17 (equals 1 0 ∷ []) }) (codes "COUNT(*)" ∷ []))
unfolding understood everything
count_claims_is = record { is = λ s. refl; plain = λ s. (refl, refl); unlisted = λ s. refl }

pub numbered_entries_is : Means SELECT_NUMBERED_ENTRIES.now (Select (record { lets = []; body = from_table 19 of_number_tests (col 1 2 ∷ col 1 3 ∷ col 1 4 ∷ col 1 5 ∷ col 1 6 ∷ col 1 7 ∷ []) (upwards 2 ∷ upwards 4 ∷ upwards 5 ∷ upwards 6 ∷ []) no_limit }) (codes "number" ∷ codes "asn" ∷ codes "family" ∷ codes "lo" ∷ codes "len" ∷ codes "max" ∷ []))
unfolding understood everything
numbered_entries_is = record { is = λ s. refl; plain = λ s. (refl, refl); unlisted = λ s. refl }

-- an entry is of the holder ?1, and its AS, prefix and maxLength are ?2 to ?6
abbrev pub given_tests : List Term
given_tests = equals 1 0 ∷ equals 3 1 ∷ equals 4 2 ∷ equals 5 3 ∷ equals 6 4 ∷ equals 7 5 ∷ []

pub given_entries_is : Means SELECT_GIVEN_ENTRIES.now (Select (record { lets = []; body = from_table 19 given_tests (col 1 2 ∷ col 1 3 ∷ col 1 4 ∷ col 1 5 ∷ col 1 6 ∷ col 1 7 ∷ []) (upwards 2 ∷ upwards 4 ∷ upwards 5 ∷ upwards 6 ∷ []) no_limit }) (codes "number" ∷ codes "asn" ∷ codes "family" ∷ codes "lo" ∷ codes "len" ∷ codes "max" ∷ []))
unfolding understood everything
given_entries_is = record { is = λ s. refl; plain = λ s. (refl, refl); unlisted = λ s. refl }

-- an entry is of the holder ?1 and of the family ?2, and begins at or before ?3
abbrev pub up_to_tests : List Term
up_to_tests = equals 1 0 ∷ equals 4 1 ∷ op2 (Compare Le Binary) (col 1 5) (col 0 2) ∷ []

pub entries_up_to_is : Means SELECT_ENTRIES_UP_TO.now (Select (record { lets = []; body = from_table 19 up_to_tests (col 1 2 ∷ col 1 3 ∷ col 1 4 ∷ col 1 5 ∷ col 1 6 ∷ col 1 7 ∷ []) (upwards 2 ∷ upwards 4 ∷ upwards 5 ∷ upwards 6 ∷ []) no_limit }) (codes "number" ∷ codes "asn" ∷ codes "family" ∷ codes "lo" ∷ codes "len" ∷ codes "max" ∷ []))
unfolding understood everything
entries_up_to_is = record { is = λ s. refl; plain = λ s. (refl, refl); unlisted = λ s. refl }

pub all_claims_is : Means SELECT_ALL_CLAIMS.now (Select (record { lets = []; body = from_table 17 [] (col 1 2 ∷ col 1 3 ∷ col 1 4 ∷ col 1 5 ∷ col 1 1 ∷ col 1 0 ∷ []) (upwards 0 ∷ []) no_limit }) (codes "number" ∷ codes "asn" ∷ codes "opens" ∷ codes "ends" ∷ codes "holder" ∷ codes "rowid" ∷ []))
unfolding understood everything
all_claims_is = record { is = λ s. refl; plain = λ s. (refl, refl); unlisted = λ s. refl }

pub all_entries_is : Means SELECT_ALL_ENTRIES.now (Select (record { lets = []; body = from_table 19 [] (col 1 2 ∷ col 1 3 ∷ col 1 4 ∷ col 1 5 ∷ col 1 6 ∷ col 1 7 ∷ col 1 1 ∷ col 1 0 ∷ []) (upwards 0 ∷ []) no_limit }) (codes "number" ∷ codes "asn" ∷ codes "family" ∷ codes "lo" ∷ codes "len" ∷ codes "max" ∷ codes "holder" ∷ codes "rowid" ∷ []))
unfolding understood everything
all_entries_is = record { is = λ s. refl; plain = λ s. (refl, refl); unlisted = λ s. refl }

pub payloads_is : Means SELECT_PAYLOADS.now (Select (record { lets = []; body = from_table 19 [] (col 1 3 ∷ col 1 4 ∷ col 1 5 ∷ col 1 6 ∷ col 1 7 ∷ col 1 1 ∷ col 1 2 ∷ []) [] no_limit }) (codes "asn" ∷ codes "family" ∷ codes "lo" ∷ codes "len" ∷ codes "max" ∷ codes "holder" ∷ codes "number" ∷ []))
unfolding understood everything
payloads_is = record { is = λ s. refl; plain = λ s. (refl, refl); unlisted = λ s. refl }

-- the claims in force on the day ?1
abbrev pub claims_in_force_tests : List Term
claims_in_force_tests = op2 (Compare Le Binary) (col 1 4) (col 0 0) ∷ op2 (Compare Ge Binary) (col 1 5) (col 0 0) ∷ []

pub claims_in_force_is : Means SELECT_CLAIMS_IN_FORCE.now (Select (record { lets = []; body = from_table 17 claims_in_force_tests (col 1 2 ∷ col 1 3 ∷ col 1 4 ∷ col 1 5 ∷ col 1 1 ∷ []) (upwards 1 ∷ upwards 2 ∷ []) no_limit }) (codes "number" ∷ codes "asn" ∷ codes "opens" ∷ codes "ends" ∷ codes "holder" ∷ []))
unfolding understood everything
claims_in_force_is = record { is = λ s. refl; plain = λ s. (refl, refl); unlisted = λ s. refl }
