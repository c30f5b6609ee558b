use Rattle.requests.proofs.Vocabulary.{ap, false≢true, result_map_both, File}
use Rattle.serde_json.specs.View.{view}
use Rattle.requests.proofs.SlurmReadLemmas.{read_ok, read_err}
use Rattle.requests.proofs.request.exceptions.as_file.Goals as goal

pub returns-in-Ok : goal.returns-in-Ok
returns-in-Ok c =
    ap (result_map_both (λ file. file) File)
    (read_ok (view c.args.value.now) c.in-Ok.file c.in-Ok.ensures.entries c.in-Ok.ensures.faultless)

pub returns-in-Err-2 : goal.returns-in-Err-2
returns-in-Err-2 c =
    ap (result_map_both (λ file. file) File)
    (read_err (view c.args.value.now) c.in-Err.fault
    (c.in-Err.ensures.fault (λ same. false≢true (rw same at c.if-eq.ensures))))
