use Rattle.payload.proofs.Vocabulary.{◌+◌, ◌||◌, sym, ap, ◌∙◌, take, slice_index_or, arith, or_comm, list_any, list_any_more}
use Rattle.payload.proofs.Sets.{is_vrp, members-insert}
use Rattle.payload.proofs.trie.Trie.of.Goals as goal

pub loop-vrp-preserved : goal.loop-vrp-preserved
loop-vrp-preserved c =
    let xs = c.args.vrps.now in
    let i = c.loop-vrp.vrp-index in
    let v = c.vrp-item.result in
    let all = members-insert c.loop-vrp.trie (take i xs) (take (i + 1) xs) v (sym c.loop-vrp.invariant)
    (λ w.
    let seen = list_any (is_vrp w) (take i xs) in
    list_any_more (is_vrp w) xs i v (omega arith) ∙ or_comm seen (is_vrp w (slice_index_or xs i v))
    ∙ ap (λ x. is_vrp w x || seen) (sym c.vrp-item.is)) in
    c.in_ok-insert.ensures.ok ∙ sym all
