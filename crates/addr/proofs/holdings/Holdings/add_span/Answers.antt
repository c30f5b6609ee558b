use Rattle.addr.proofs.Vocabulary.{◌≡◌, true, sym, subst, ◌∙◌, AreMaximal}
use Rattle.addr.proofs.SpanLemmas.{all_below}
use Rattle.addr.proofs.SpanSteps.{maximal_more}
use Rattle.addr.proofs.holdings.Holdings.add_span.Goals as goal

pub invariant_of-self : goal.invariant_of-self
invariant_of-self c =
    let spans = c.self.inside.spans.items in
    let below : all_below spans c.args.span.now ≡ true = rw c.deref.ensures.value at (sym c.is_apart_above.ensures ∙ c.if-is_apart_above.true) in
    subst AreMaximal (sym c.in_ok-push.ensures.items) (maximal_more spans c.args.span.now c.self.invariant below)
