use Rattle.web.proofs.Vocabulary.{◌≡◌, ℕ, List, ◌++◌, map, drop, comma_joined, HasAdded, items_left}
use Rattle.web.proofs.reply.list.add_items.Given as goal

abbrev pub invariant-loop-item : goal.invariant-loop-item
invariant-loop-item g l = (done : List ℕ)
    × HasAdded g.D.Drain.written g.D.Drain.has_failed l.initial.pieces done l.pieces
    × (comma_joined (map g.T.Item.text l.items)
    ≡ done ++ items_left l.is_first (map g.T.Item.text (drop l.item-index l.items)))
