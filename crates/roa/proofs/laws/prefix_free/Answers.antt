use Rattle.roa.proofs.Contents.{is_prefix_free}
use Rattle.roa.proofs.Grammar.{encodes_is}
use Rattle.roa.proofs.laws.prefix_free.Goals as goal

pub returns : goal.returns
returns c = λ a b s t x y is_a is_b of_a of_b e. is_prefix_free a b s t x y is_a is_b (encodes_is a s is_a of_a) (encodes_is b t is_b of_b) e
