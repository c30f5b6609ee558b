use Rattle.registry.proofs.Vocabulary.{arith, ◌≡◌, ◌++◌, [], length, take, drop, sym, ap, subst, ◌∙◌, append-nil, take_all, drop_all, AreEntries, with_maxes}
use Rattle.registry.proofs.Entries.{with_maxes-length, with_maxes-are}
use Rattle.registry.proofs.roa_prefixes.RoaPrefixes.set_maxes.Goals as goal

-- no entry lies past those that were written back
pub invariant_of-self : goal.invariant_of-self
invariant_of-self c =
    let old = c.self.inside.entries.items in
    let new = c.set_maxes.new.entries in
    let maxes = c.args.maxes.now in
    let is : new ≡ with_maxes maxes old = c.set_maxes.ensures ∙ ap (with_maxes maxes) c.deref_mut.ensures.value in
    let same : length new ≡ length old = ap length is ∙ with_maxes-length maxes old in
    let none : drop (length new) old ≡ [] = drop_all (length new) old (omega (arith, same)) in
    let whole : new ++ drop (length new) old ≡ new = ap (λ l. new ++ l) none ∙ append-nil new in
    let all : take c.self.inside.entries.len new ≡ new = take_all c.self.inside.entries.len new (omega (arith, same)) in
    subst AreEntries (sym (ap (take c.self.inside.entries.len) whole ∙ all ∙ is)) (with_maxes-are maxes old c.self.invariant)
