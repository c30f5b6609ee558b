use Rattle.store_open.proofs.Vocabulary.{subst, ◌∙◌, ShowsEach}
use Rattle.store_open.proofs.InTurn.{earlier}
use Rattle.store_open.proofs.Unread.{each_read}
use Rattle.store_open.proofs.reading.read_holders.Goals as goal

pub returns-clause-found : goal.returns-clause-found
returns-clause-found g c clean =
    let clean_2 = earlier c.read_table-3.ensures.asked.inside.survives clean in
    let clean_1 = earlier c.read_table-2.ensures.asked.inside.survives clean_2 in
    let now_1 = (c.in_ok-_holders.ensures.asked.same clean_1).0.now_is in
    let now_2 = (c.in_ok-_holdings.ensures.asked.same clean_2).0.now_is ∙ now_1 in
    record {
      holders = record { whole = c.in_ok-_holders.ensures.tree clean_1; each = each_read _ _ _ _ (c.in_ok-_holders.ensures.read clean_1) };
      holdings = subst (ShowsEach _ _ _) now_1 (record { whole = c.in_ok-_holdings.ensures.tree clean_2; each = each_read _ _ _ _ (c.in_ok-_holdings.ensures.read clean_2) });
      grants = subst (ShowsEach _ _ _) now_2 (record { whole = c.in_ok-_grants.ensures.tree clean; each = each_read _ _ _ _ (c.in_ok-_grants.ensures.read clean) });
    }
