use Rattle.payload.proofs.Vocabulary.{arith, bits_from}
use Rattle.payload.proofs.Grown.{common-least}
use Rattle.payload.proofs.Skips.{common-all, size_of}
use Rattle.payload.proofs.trie.skipped.Skipped.shared.Goals as goal

pub returns-clause-common : goal.returns-clause-common
returns-clause-common c =
    omega (arith, size_of _ _ _ c.self.view_is, c.loop-i-test.false, c.loop-i.invariant.common, common-least c.args.self.now (bits_from c.args.prefix.now c.args.at))

pub returns-clause-all : goal.returns-clause-all
returns-clause-all c = λ all.
    common-all c.args.prefix.now c.args.at c.self.inside.count c.args.self.now c.requires (omega (arith, all, c.loop-i-test.false, c.loop-i.invariant.common, common-least c.args.self.now (bits_from c.args.prefix.now c.args.at))) all
