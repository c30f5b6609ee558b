use Rattle.web.proofs.Vocabulary.{◌+◌, ◌++◌, [], false, map, drop, ap, refl, sym, ◌∙◌, append_assoc, added_none, added_then, item_after, items_left}
use Rattle.web.proofs.PieceLemmas.{added-lost}
use Rattle.web.proofs.ReplyLemmas.{items_left-at}
use Rattle.web.proofs.reply.list.add_items.Goals as goal

pub loop-item-init : goal.loop-item-init
loop-item-init g c = ([], added_none g.D.Drain.written g.D.Drain.has_failed c.args.pieces.now, refl)

pub returns-then-pieces : goal.returns-then-pieces
returns-then-pieces g c =
    let (done, added, whole) = c.loop-item.invariant in
    rw whole
    (added-lost g.D.Drain.written g.D.Drain.has_failed c.args.pieces.now c.loop-item.pieces done
    (items_left c.loop-item.is_first (map g.T.Item.text (drop c.loop-item.item-index c.args.items.now)))
    added c.if-pieces.true)

pub loop-item-preserved : goal.loop-item-preserved
loop-item-preserved g c =
    let (done, added, whole) = c.loop-item.invariant in
    let item = item_after c.loop-item.is_first (g.T.Item.text c.item-item.result) in
    let rest = items_left false (map g.T.Item.text (drop (c.loop-item.item-index + 1) c.args.items.now)) in (
      done ++ item,
      added_then g.D.Drain.written g.D.Drain.has_failed c.args.pieces.now c.loop-item.pieces c.add_to.new.pieces done item added c.add_to.ensures,
      whole
          ∙ ap (λ u. done ++ u) (items_left-at g.T.Item.text c.args.items.now c.loop-item.item-index
          c.item-item.result c.loop-item.is_first c.loop-item-test.true c.item-item.is)
          ∙ sym (append_assoc done item rest),
    )
