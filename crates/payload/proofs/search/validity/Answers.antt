use Rattle.payload.proofs.Vocabulary.{sym}
use Rattle.payload.proofs.Lengths.{no_shorter-front}
use Rattle.payload.proofs.Left.{left-start, left-skip, left-covering, left-rising, left-before, left-last, left-less}
use Rattle.payload.proofs.search.validity.Goals as goal

pub loop-vrp-init : goal.loop-vrp-init
loop-vrp-init c = record {
  left = left-start _ _ _ c.requires.rising c.up_to-rest.ensures;
  no_shorter = no_shorter-front _ _ _ _ c.up_to-rest.ensures.parts c.requires.no_shorter;
}

pub enclosing_both-rest-requires-clause-rising : goal.enclosing_both-rest-requires-clause-rising
enclosing_both-rest-requires-clause-rising c = left-rising _ _ _ _ _ _ c.loop-vrp.invariant.left c.in-Some.ensures.cases.0

pub enclosing_both-rest-requires-clause-before : goal.enclosing_both-rest-requires-clause-before
enclosing_both-rest-requires-clause-before c = left-before _ _ _ _ _ _ c.loop-vrp.invariant.left c.in-Some.ensures.cases.0

pub enclosing_both-rest-requires-clause-order : goal.enclosing_both-rest-requires-clause-order
enclosing_both-rest-requires-clause-order c = left-last _ _ _ _ _ _ c.loop-vrp.invariant.left c.in-Some.ensures.cases.0

pub enclosing_both-rest-requires-clause-no_shorter : goal.enclosing_both-rest-requires-clause-no_shorter
enclosing_both-rest-requires-clause-no_shorter c = no_shorter-front _ _ _ _ c.in-Some.ensures.cases.0 c.loop-vrp.invariant.no_shorter

pub loop-vrp-preserved-then-not-contains : goal.loop-vrp-preserved-then-not-contains
loop-vrp-preserved-then-not-contains c = record {
  left = left-skip _ _ _ _ _ _ _ c.loop-vrp.invariant.left c.in-Some.ensures.cases.0 (sym c.if-not-contains.ensures.by_ends) c.enclosing_both-rest.ensures;
  no_shorter = no_shorter-front _ _ _ _ c.enclosing_both-rest.ensures.parts (no_shorter-front _ _ _ _ c.in-Some.ensures.cases.0 c.loop-vrp.invariant.no_shorter);
}

pub past_unlike-rest-requires-clause-rising : goal.past_unlike-rest-requires-clause-rising
past_unlike-rest-requires-clause-rising c = left-rising _ _ _ _ _ _ c.loop-vrp.invariant.left c.in-Some.ensures.cases.0

pub past_unlike-rest-requires-clause-less : goal.past_unlike-rest-requires-clause-less
past_unlike-rest-requires-clause-less c = left-less _ _ _ _ _ _ c.loop-vrp.invariant.left c.in-Some.ensures.cases.0

pub loop-vrp-preserved : goal.loop-vrp-preserved
loop-vrp-preserved c = record {
  left = left-covering _ _ _ _ _ _ _ c.loop-vrp.invariant.left c.in-Some.ensures.cases.0 (sym c.if-not-contains.ensures.by_ends) (rw c.of.ensures at (sym c.if-authorizes.ensures)) c.past_unlike-rest.ensures;
  no_shorter = no_shorter-front _ _ _ _ c.past_unlike-rest.ensures.parts (no_shorter-front _ _ _ _ c.in-Some.ensures.cases.0 c.loop-vrp.invariant.no_shorter);
}
