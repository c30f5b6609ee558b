use Rattle.payload.proofs.Vocabulary.{sym, ◌∙◌, ne_eqb, top_of}
use Rattle.payload.proofs.Grown.{full-grown}
use Rattle.payload.proofs.trie.node.Node.is_bare.Goals as goal

pub returns-else-count-eq0 : goal.returns-else-count-eq0
returns-else-count-eq0 c =
    rw (← c.self.view_is) (ne_eqb _ _ c.if-count-eq0.false ∙ sym (full-grown c.self.inside.skipped (top_of c.self.inside.branch) (λ none. c.if-count-eq0.false (c.count.ensures ∙ none))))
