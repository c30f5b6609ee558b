-- The rows of an import that tie in their order are those whose fields are all the same.
use Rattle.registry.proofs.Vocabulary.{◌≡◌, ◌&&◌, ◌==◌, is_eq, prefix_eq, ImportRow}
use Rattle.std.specs.Cmp.{both_tied, unsigned_ties}
use Rattle.addr.specs.steps.TotalOrders.{prefix_ties}
use Rattle.registry.specs.contracts.authorization.ImportRowOrd.TheImpl as ImportRowOrd

pub row_ties : (r s : ImportRow)
    → ((r.asn.0 == s.asn.0) && (prefix_eq r.prefix s.prefix && ((r.max == s.max) && ((r.from == s.from) && (r.until == s.until)))))
    ≡ is_eq (ImportRowOrd.ghosts.cmp r s)
row_ties r s =
    both_tied _ _ _ _ (unsigned_ties r.asn.0 s.asn.0) (
    both_tied _ _ _ _ (prefix_ties r.prefix s.prefix) (
    both_tied _ _ _ _ (unsigned_ties r.max s.max) (both_tied _ _ _ _ (unsigned_ties r.from s.from) (unsigned_ties r.until s.until))
    )
    )
