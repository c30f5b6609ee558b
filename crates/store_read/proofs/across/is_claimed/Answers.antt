use Rattle.store_read.proofs.Vocabulary.{rules, ◌∙◌, key_cells, payload_key, key_order}
use Rattle.std.proofs.lemmas.Fn.{always_returns_same}
use Rattle.store_read.proofs.Claimed.{searched}
use Rattle.store_read.proofs.across.is_claimed.Goals as goal

pub returns : goal.returns
returns c rise =
    let facts = c.binary_search_by.ensures in
    let by_key = facts.position (λ claim. key_order (key_cells claim) (payload_key c.args.payload.now)) (always_returns_same _ _ _ (λ a r f called. search rules)) in
    c.is_ok.ensures.value ∙ searched c.args.claims.now c.args.payload.now _ rise facts.bound by_key
