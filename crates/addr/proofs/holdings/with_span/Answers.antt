use Rattle.addr.proofs.Vocabulary.{◌++◌, ◌∷◌, [], take, drop, ◌+◌, ap, sym, ◌∙◌}
use Rattle.addr.proofs.SpanSteps.{adding_first, one_more, add_below, add_above, add_join, adding_at, adding_end}
use Rattle.addr.proofs.holdings.with_span.Goals as goal
use Rattle.addr.proofs.holdings.with_span.Goals.{then-is_apart_below+in_ok-push, else-is_apart_below+then-is_apart_below-2+in_ok-push-2, else-is_apart_below+else-is_apart_below-2}

pub loop-span-init : goal.loop-span-init
loop-span-init c = rw c.in_ok-kept.ensures.items (adding_first c.args.spans.now c.args.added c.requires)

pub loop-span-preserved : goal.loop-span-preserved
loop-span-preserved c =
    let xs = c.args.spans.now in
    let i = c.loop-span.span-index in
    let s = c.span-item.result in
    let kept = c.loop-span.kept.items in
    let pending = c.loop-span.pending in
    let more = one_more xs i s c.loop-span-test.true c.span-item.is in
    let now = rw more.1 at c.loop-span.invariant in
    let done = take i xs ++ s ∷ [] in
    let rest = drop (i + 1) xs in
    rw more.0 (elim c.if-is_apart_below.branch [
      | then-is_apart_below+in_ok-push w ↦
          adding_at done rest c.args.added (kept ++ s ∷ []) c.if-is_apart_below.kept.items pending c.if-is_apart_below.pending
          (ap (λ v. v.items) w.kept-is ∙ w.in_ok-push.ensures.items) w.pending-is
          (add_below (take i xs) s rest c.args.added kept pending (sym c.is_apart_below.ensures ∙ w.if-is_apart_below.true) now)
      | else-is_apart_below+then-is_apart_below-2+in_ok-push-2 w ↦
          adding_at done rest c.args.added (kept ++ pending ∷ []) c.if-is_apart_below.kept.items s c.if-is_apart_below.pending
          (ap (λ v. v.items) w.kept-is ∙ w.in_ok-push-2.ensures.items) w.pending-is
          (add_above (take i xs) s rest c.args.added kept pending (sym w.is_apart_below-else-is_apart_below.ensures ∙ w.if-is_apart_below-2.true) now)
      | else-is_apart_below+else-is_apart_below-2 w ↦
          adding_at done rest c.args.added kept c.if-is_apart_below.kept.items w.joined-pending.result c.if-is_apart_below.pending
          (ap (λ v. v.items) w.kept-is) w.pending-is
          (add_join (take i xs) s rest c.args.added kept pending w.joined-pending.result w.joined-pending.ensures.has w.joined-pending.ensures.first now)
    ])

pub returns-clause-maximal : goal.returns-clause-maximal
returns-clause-maximal c = (adding_end c.args.spans.now c.args.added c.loop-span.kept.items c.loop-span.pending c.loop-span.span-index c.push-2.new.self.items c.loop-span-test.false c.in_ok-push-3.ensures.items c.loop-span.invariant).0

pub returns-clause-same : goal.returns-clause-same
returns-clause-same c = (adding_end c.args.spans.now c.args.added c.loop-span.kept.items c.loop-span.pending c.loop-span.span-index c.push-2.new.self.items c.loop-span-test.false c.in_ok-push-3.ensures.items c.loop-span.invariant).1
