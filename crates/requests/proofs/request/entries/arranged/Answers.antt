use Rattle.requests.proofs.Vocabulary.{refl}
use Rattle.requests.proofs.EntryOrder.{made_arranged}
use Rattle.requests.proofs.request.entries.arranged.Goals as goal

pub returns-in-Ok : goal.returns-in-Ok
returns-in-Ok c =
    let fits = c.in-Ok.ensures.ok.0 refl in
    rw c.in_ok-entries.was
    (made_arranged c.in_ok-entries.field-0.items c.in-Ok.made fits.0 fits.1 c.in-Ok.ensures.same_entries c.in-Ok.ensures.rising)
