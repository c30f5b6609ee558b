use Rattle.payload.proofs.Vocabulary.{◌+◌, ◌∙◌, ap, arith, drop, common}
use Rattle.payload.proofs.Bits.{bits_from-end, bits_from-next}
use Rattle.payload.proofs.Grown.{common-nil, common-same, common-unlike}
use Rattle.payload.proofs.trie.skipped.Skipped.goes_on.Goals as goal

pub returns-then-at-i-clause-all : goal.returns-then-at-i-clause-all
returns-then-at-i-clause-all c =
    let next = bits_from-next c.args.prefix.now (c.args.at + c.args.i) c.bit.result (omega arith) c.bit.ensures in
    λ same. (λ j. common (c.bit-then-at-i.ensures j) (next j)) ∙ common-same c.bit.result c.bit-then-at-i.result _ _ same

pub returns-then-at-i-clause-none : goal.returns-then-at-i-clause-none
returns-then-at-i-clause-none c =
    let next = bits_from-next c.args.prefix.now (c.args.at + c.args.i) c.bit.result (omega arith) c.bit.ensures in
    λ unlike. (λ j. common (c.bit-then-at-i.ensures j) (next j)) ∙ common-unlike c.bit.result c.bit-then-at-i.result _ _ unlike

pub returns-else-at-i-clause-none : goal.returns-else-at-i-clause-none
returns-else-at-i-clause-none c = λ is.
    let path = drop c.args.i c.args.self.now in
    ap (common path) (bits_from-end c.args.prefix.now (c.args.at + c.args.i) (omega arith)) ∙ common-nil path
