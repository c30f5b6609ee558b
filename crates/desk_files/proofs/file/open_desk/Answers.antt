use Rattle.std.proofs.lemmas.Result.{IfErr-weaker}
use Rattle.desk_files.proofs.RefusedFileLemmas.{keeps_over}
use Rattle.desk_files.proofs.file.open_desk.Goals as goal

pub returns-in-Ok : goal.returns-in-Ok
returns-in-Ok g c =
    let image = c.in-Ok.ensures.image in
    let said = c.open_files.ensures in
    record {
      continued = rw image at said.continued;
      resumed = rw image at said.resumed;
      none_pending = said.none_pending;
      opened = rw image at said.opened;
      err = rw image at said.err;
      not_schema = rw image at said.not_schema;
      left = IfErr-weaker c.open_files.result _ _ (λ fault keeps. keeps_over c.in-Ok.files fault image keeps) said.left;
    }
