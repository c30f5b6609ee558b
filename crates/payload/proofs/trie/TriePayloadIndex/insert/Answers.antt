use Rattle.payload.proofs.Vocabulary.{◌≡◌, false, not, ◌||◌, refl, subst, IfOk, OnErr, on_ok_weaker, width, IsPruned, tree, trie_vrps}
use Rattle.payload.proofs.Sets.{members-insert}
use Rattle.payload.proofs.Tries.{changed-four, changed-six, contains-in_four, contains-in_six}
use Rattle.payload.proofs.trie.TriePayloadIndex.insert.Goals as goal

pub returns-in-V4-clause-new : goal.returns-in-V4-clause-new
returns-in-V4-clause-new c =
    subst (λ b. IfOk c.insert.result (λ is_new. is_new ≡ not b)) (contains-in_four c.args.self.now c.args.vrp (tree c.self.inside.four) (tree c.self.inside.six) c.self.view_is c.self.invariant.0 c.self.invariant.1 c.in-V4.is) c.insert.ensures.new

pub returns-in-V4-clause-absent : goal.returns-in-V4-clause-absent
returns-in-V4-clause-absent c =
    subst (λ b. OnErr c.insert.result (b ≡ false)) (contains-in_four c.args.self.now c.args.vrp (tree c.self.inside.four) (tree c.self.inside.six) c.self.view_is c.self.invariant.0 c.self.invariant.1 c.in-V4.is) c.insert.ensures.absent

pub returns-in-V4-clause-ok : goal.returns-in-V4-clause-ok
returns-in-V4-clause-ok c =
    on_ok_weaker c.insert.result
    (λ is. members-insert c.args.self.now (trie_vrps (tree c.self.inside.four) (tree c.self.inside.six)) _ c.args.vrp c.self.view_is (changed-four (λ is had. is || had) (λ had. refl) c.args.vrp (tree c.self.inside.four) (tree c.insert.new.self) (tree c.self.inside.six) c.self.invariant.0 (subst (λ f. IsPruned (width f) 0 (tree c.insert.new.self)) c.in-V4.is c.insert.ensures.pruned) c.self.invariant.1 c.in-V4.is is))
    c.insert.ensures.ok

pub returns-in-V6-clause-new : goal.returns-in-V6-clause-new
returns-in-V6-clause-new c =
    subst (λ b. IfOk c.insert-in-V6.result (λ is_new. is_new ≡ not b)) (contains-in_six c.args.self.now c.args.vrp (tree c.self.inside.four) (tree c.self.inside.six) c.self.view_is c.self.invariant.0 c.self.invariant.1 c.in-V6.is) c.insert-in-V6.ensures.new

pub returns-in-V6-clause-absent : goal.returns-in-V6-clause-absent
returns-in-V6-clause-absent c =
    subst (λ b. OnErr c.insert-in-V6.result (b ≡ false)) (contains-in_six c.args.self.now c.args.vrp (tree c.self.inside.four) (tree c.self.inside.six) c.self.view_is c.self.invariant.0 c.self.invariant.1 c.in-V6.is) c.insert-in-V6.ensures.absent

pub returns-in-V6-clause-ok : goal.returns-in-V6-clause-ok
returns-in-V6-clause-ok c =
    on_ok_weaker c.insert-in-V6.result
    (λ is. members-insert c.args.self.now (trie_vrps (tree c.self.inside.four) (tree c.self.inside.six)) _ c.args.vrp c.self.view_is (changed-six (λ is had. is || had) (λ had. refl) c.args.vrp (tree c.self.inside.four) (tree c.self.inside.six) (tree c.insert-in-V6.new.self) c.self.invariant.0 c.self.invariant.1 (subst (λ f. IsPruned (width f) 0 (tree c.insert-in-V6.new.self)) c.in-V6.is c.insert-in-V6.ensures.pruned) c.in-V6.is is))
    c.insert-in-V6.ensures.ok
