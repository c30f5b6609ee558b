use Rattle.cli_tasks.proofs.LivesLemmas.{serve_ends}
use Rattle.cli_tasks.proofs.lives.serve_until_close.Goals as goal

pub returns : goal.returns
returns g c =
    let ended = c.serve_files-end.ensures in
    let (passed, counted, accepted, logged, closed, unclosed) = ended.served in
    let (few, whole, clean, serves, ends) = serve_ends g.D.Disk g.met.D.Disk.seen_may_stay c.args.day c.args.count c.args.files
    passed _ _ c.serve_files-end.result ended.clean ended.clean_store counted closed unclosed ended.err in
    rw c.end_of_serve.ensures (record { clean = clean; served = (passed, few, whole, accepted, logged, serves, ends) })
