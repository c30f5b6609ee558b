use Rattle.registry_laws.proofs.Fitting.{files_in_force_fit}
use Rattle.registry_laws.proofs.histories.files_in_force_fit.Goals as goal

pub returns : goal.returns
returns c = files_in_force_fit
