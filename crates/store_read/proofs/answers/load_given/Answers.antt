use Rattle.store_read.proofs.Vocabulary.{state, EntryRowFits, given_entries_is, by_entry, entries_given, gives_entry}
use Rattle.store_read.proofs.Finding.{given_params, selects_given}
use Rattle.store_read.proofs.GivenAuths.{tested_fit}
use Rattle.store_read.proofs.Loading.{never_fit}
use Rattle.store_read.proofs.answers.load_given.Goals as goal

pub load_selected-requires-clause-plain : goal.load_selected-requires-clause-plain
load_selected-requires-clause-plain g c = given_entries_is.plain

pub returns-clause-found : goal.returns-clause-found
returns-clause-found g c =
    let a = c.args in
    c.load_selected.ensures.found a.holder.now (given_params a.holder.now a.asn a.entry.now) (entries_given a.asn a.entry.now) by_entry c.given_values-values.ensures (selects_given a.holder.now a.asn a.entry.now)

pub returns-clause-schema : goal.returns-clause-schema
returns-clause-schema g c clean is =
    let a = c.args in
    never_fit EntryRowFits (state g.S.Store a.conn.now) (tested_fit (gives_entry a.asn a.entry.now))
    (c.load_selected.ensures.schema a.holder.now (given_params a.holder.now a.asn a.entry.now) (entries_given a.asn a.entry.now) by_entry c.given_values-values.ensures (selects_given a.holder.now a.asn a.entry.now) clean is)
