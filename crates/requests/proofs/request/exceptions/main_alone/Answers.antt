use Rattle.requests.proofs.Vocabulary.{[], ◌∷◌, codes, ap, ◌∙◌, same_Some}
use Rattle.requests.proofs.SlurmReadLemmas.{still_alone}
use Rattle.requests.proofs.request.exceptions.main_alone.Goals as goal

pub returns-in-Ok : goal.returns-in-Ok
returns-in-Ok c =
    still_alone _ c.in-Ok.files (rw c.in_ok-vec.ensures.items at c.in-Ok.ensures.same_files)
    ∙ ap (λ name. record { name = name; file = c.args.file } ∷ []) (same_Some c.in-Some.name (codes "main") c.in-Some.ensures)
