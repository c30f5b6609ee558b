use Rattle.payload.proofs.Vocabulary.{not, ◌&&◌, refl, ◌∙◌, subst, width, IsPruned, tree, trie_vrps}
use Rattle.payload.proofs.Sets.{members-remove}
use Rattle.payload.proofs.Tries.{changed-four, changed-six, contains-in_four, contains-in_six}
use Rattle.payload.proofs.trie.TriePayloadIndex.remove.Goals as goal

pub returns-in-V4-clause-found : goal.returns-in-V4-clause-found
returns-in-V4-clause-found c = c.remove.ensures.found ∙ contains-in_four c.args.self.now c.args.vrp.now (tree c.self.inside.four) (tree c.self.inside.six) c.self.view_is c.self.invariant.0 c.self.invariant.1 c.in-V4.is

pub returns-in-V4-clause-rest : goal.returns-in-V4-clause-rest
returns-in-V4-clause-rest c =
    members-remove c.args.self.now (trie_vrps (tree c.self.inside.four) (tree c.self.inside.six)) _ c.args.vrp.now c.self.view_is
    (changed-four (λ is had. not is && had) (λ had. refl) c.args.vrp.now (tree c.self.inside.four) (tree c.remove.new.self) (tree c.self.inside.six) c.self.invariant.0 (subst (λ f. IsPruned (width f) 0 (tree c.remove.new.self)) c.in-V4.is c.remove.ensures.pruned) c.self.invariant.1 c.in-V4.is c.remove.ensures.rest)

pub returns-in-V6-clause-found : goal.returns-in-V6-clause-found
returns-in-V6-clause-found c = c.remove-in-V6.ensures.found ∙ contains-in_six c.args.self.now c.args.vrp.now (tree c.self.inside.four) (tree c.self.inside.six) c.self.view_is c.self.invariant.0 c.self.invariant.1 c.in-V6.is

pub returns-in-V6-clause-rest : goal.returns-in-V6-clause-rest
returns-in-V6-clause-rest c =
    members-remove c.args.self.now (trie_vrps (tree c.self.inside.four) (tree c.self.inside.six)) _ c.args.vrp.now c.self.view_is
    (changed-six (λ is had. not is && had) (λ had. refl) c.args.vrp.now (tree c.self.inside.four) (tree c.self.inside.six) (tree c.remove-in-V6.new.self) c.self.invariant.0 c.self.invariant.1 (subst (λ f. IsPruned (width f) 0 (tree c.remove-in-V6.new.self)) c.in-V6.is c.remove-in-V6.ensures.pruned) c.in-V6.is c.remove-in-V6.ensures.rest)
