use Rattle.desk.proofs.DeskLemmas.{read_then}
use Rattle.desk.proofs.desk.daily.read_day.Goals as goal

pub returns-in_err-files-clause-read : goal.returns-in_err-files-clause-read
returns-in_err-files-clause-read g c = read_then g.S.Store c.args.store.now c.all_auths_on.new.self c.slurm_files.new.self c.all_auths_on.ensures.read c.slurm_files.ensures.read

pub returns-clause-read : goal.returns-clause-read
returns-clause-read g c = read_then g.S.Store c.args.store.now c.all_auths_on.new.self c.slurm_files.new.self c.all_auths_on.ensures.read c.slurm_files.ensures.read

pub returns-clause-found : goal.returns-clause-found
returns-clause-found g c clean rows holds =
    let before = c.slurm_files.ensures.read.clean clean in
    (c.in_ok-vrps.ensures.found before rows holds, c.in_ok-files.ensures.found clean rows (c.all_auths_on.ensures.read.rows before rows holds))
