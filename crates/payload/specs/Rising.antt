-- Lists of VRPs that rise.
use Rattle.std.specs.Prelude.{List}
use Rattle.addr.specs.declared.vrp.Vrp.{Vrp}
use Rattle.addr.specs.Order.{vrp_cmp}
use Rattle.sorted_items.specs.Rising.{RiseBy}

-- each VRP sorts before all later ones
abbrev pub AreRising : List Vrp → Type 0
AreRising vrps = RiseBy vrp_cmp vrps
