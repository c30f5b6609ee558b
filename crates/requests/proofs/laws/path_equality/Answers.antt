use Rattle.requests.proofs.PathEquality.{path_equality}
use Rattle.requests.proofs.laws.path_equality.Goals as goal

pub returns : goal.returns
returns c = path_equality
