use Rattle.requests.proofs.Vocabulary.{Err, ap, refl}
use Rattle.requests.proofs.FileOrder.{made_arranged, repeated_arranged}
use Rattle.requests.proofs.request.exceptions.arranged.Goals as goal

pub returns-in-Ok : goal.returns-in-Ok
returns-in-Ok c =
    let fits = c.in-Ok.ensures.ok.0 refl in
    rw c.in_ok-files.was
    (made_arranged c.in_ok-files.field-0.items c.in-Ok.made fits.0 fits.1 c.in-Ok.ensures.same_files c.in-Ok.ensures.rising)

pub returns-in-Err-Repeated : goal.returns-in-Err-Repeated
returns-in-Err-Repeated c =
    let repeated = c.in-Err-Repeated.ensures.repeated.0 (ap Err c.in-Err-Repeated.field-0-is) in
    rw c.in_ok-files.was (repeated_arranged c.in_ok-files.field-0.items repeated.0 repeated.1)
