use Rattle.desk.proofs.Vocabulary.{day_of_found}
use Rattle.desk.proofs.KeptLemmas.{together}
use Rattle.desk.proofs.desk.daily.kept_on.Goals as goal

pub returns-clause-kept : goal.returns-clause-kept
returns-clause-kept g c clean rows holds =
    let found = c.in_ok-vrps.ensures.found clean rows holds in
    let filters = c.in_ok-filters.filters.items in
    let assertions = c.in_ok-assertions.assertions.items in
    day_of_found rows c.args.day c.in_ok-vrps.vrps.items c.in_ok-of.field-0 filters assertions
    c.in_ok-of.ensures.day c.in_ok-of.ensures.kept c.in_ok-of.ensures.exceptions found.0
    (together rows.files c.in_ok-vrps.files.items filters assertions found.1
    (rw c.deref.ensures.value at c.in_ok-filters.ensures) (rw c.deref-2.ensures.value at c.in_ok-assertions.ensures))
