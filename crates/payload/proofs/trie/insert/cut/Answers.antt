use Rattle.payload.proofs.Vocabulary.{◌≡◌, true, false, ap, ◌∙◌, top_of, bare, grown, tree}
use Rattle.payload.proofs.Grown.{grown-cut}
use Rattle.payload.proofs.trie.insert.cut.Goals as goal

pub returns-then-bit-clause-same : goal.returns-then-bit-clause-same
returns-then-bit-clause-same c =
    let left : top_of c.replace.new.dest ≡ bare = ap top_of c.replace.ensures.after ∙ c.new-3.ensures in
    (λ i. grown (c.first.ensures i) (record { originators = (left i).originators; zero = (left i).zero; one = tree (grown (c.after.ensures i) (top_of (c.replace.ensures.value i))) }))
    ∙ grown-cut c.args.skipped.now c.args.n true _ (top_of c.args.branch.now) c.if-bit.ensures

pub returns-else-bit-clause-same : goal.returns-else-bit-clause-same
returns-else-bit-clause-same c =
    let left : top_of c.replace.new.dest ≡ bare = ap top_of c.replace.ensures.after ∙ c.new-3.ensures in
    (λ i. grown (c.first.ensures i) (record { originators = (left i).originators; zero = tree (grown (c.after.ensures i) (top_of (c.replace.ensures.value i))); one = (left i).one }))
    ∙ grown-cut c.args.skipped.now c.args.n false _ (top_of c.args.branch.now) c.if-bit.ensures
