use Rattle.payload.proofs.Vocabulary.{◌≡◌, ◌<◌, ◌≤◌, false, length, AllWithin, is_at_most}
use Rattle.payload.proofs.search.up_to_from_end.Given as goal

abbrev pub invariant-loop-step : goal.invariant-loop-step
invariant-loop-step l = record {
  forward : 0 < l.step;
  within : l.end ≤ length l.vrps;
  after : AllWithin (λ v. is_at_most v.prefix l.prefix ≡ false) l.vrps l.end (length l.vrps);
}

abbrev pub decreases-loop-step : goal.decreases-loop-step
decreases-loop-step l = l.end
