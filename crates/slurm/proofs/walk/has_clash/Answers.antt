use Rattle.slurm.proofs.Vocabulary.{◌≡◌, ap, rules, ◌∙◌, always_returns_same, some_clash}
use Rattle.slurm.proofs.RisingNames.{rising_once}
use Rattle.slurm.proofs.SetOverlapLemmas.{set_overlap}
use Rattle.slurm.proofs.walk.has_clash.Goals as goal

pub some_clash-requires : goal.some_clash-requires
some_clash-requires c =
    let sorted = c.sort_unstable_by_key.ensures.sorted (λ p. p.prefix) (always_returns_same _ (λ a r. r ≡ a.0.now.prefix) _ (λ a r q k. search rules)) in
    rw c.deref.ensures.value sorted

pub returns : goal.returns
returns c =
    c.some_clash.ensures
    ∙ ap some_clash c.deref.ensures.value
    ∙ set_overlap c.args.files.now _ c.sort_unstable_by_key.new.self.items (rising_once c.args.files.now c.requires)
    c.in_ok-prefixes.ensures c.sort_unstable_by_key.ensures.permutation
