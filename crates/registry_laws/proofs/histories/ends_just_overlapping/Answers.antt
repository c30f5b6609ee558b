use Rattle.registry_laws.proofs.Moved.{ends_just_overlapping}
use Rattle.registry_laws.proofs.histories.ends_just_overlapping.Goals as goal

pub returns : goal.returns
returns c = ends_just_overlapping
