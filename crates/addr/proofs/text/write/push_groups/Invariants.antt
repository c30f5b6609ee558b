use Rattle.addr.proofs.Vocabulary.{◌≡◌, ◌+◌, ◌*◌, ◌<◌, ◌++◌, ◌∷◌, length, get_or, take, groups_text}
use Rattle.addr.proofs.text.write.push_groups.Given as goal

abbrev pub invariant-loop-group : goal.invariant-loop-group
invariant-loop-group g l =
    (l.text.bytes ≡ l.fn.text.bytes ++ groups_text (get_or l.groups 0 0 ∷ take l.group-index l.rest))
    × (length l.text.bytes < length l.fn.text.bytes + 5 * (l.group-index + 1))
