use Rattle.std.proofs.Common.{◌∙◌}
use Rattle.sorted_items.proofs.Places.{search-contains}
use Rattle.sorted_items.proofs.contains.Goals as goal

pub returns : goal.returns
returns g c = c.is_ok.ensures.value ∙ search-contains g.met.T.Ord.total _ _ _ c.requires c.binary_search.ensures.bound c.binary_search.ensures.position
