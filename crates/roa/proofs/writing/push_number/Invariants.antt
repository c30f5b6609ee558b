use Rattle.roa.proofs.Vocabulary.{◌≡◌, ◌<◌, ◌*◌, ◌^◌, ◌++◌, be_octets}
use Rattle.roa.proofs.writing.push_number.Given as goal

abbrev pub invariant-loop-place : goal.invariant-loop-place
invariant-loop-place l = record {
  so_far : l.out.items ++ be_octets l.place l.rest ≡ l.fn.out.items ++ be_octets l.count l.number;
  below : l.rest < 2 ^ (8 * l.place);
}
