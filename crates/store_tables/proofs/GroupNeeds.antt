-- The claims of a holder with their entries are grouped in one way.
use Rattle.store_tables.proofs.Vocabulary.{◌≡◌, ◌<◌, List, ap, arith, ascending_weaker, Claim, EntryRow, Group, NumbersRise, AllApart, ShareNoRow, AreGroups, claim_entry, entry_found, entry_if, only_found}
use Rattle.store_tables.proofs.Grouping.{groups_once}

pub numbers_apart : (claims : List Claim) → NumbersRise claims → AllApart claim_entry claims
numbers_apart claims rise =
    ascending_weaker (λ (c d : Claim). c.number < d.number) (ShareNoRow claim_entry) (λ c d less e f same. let number = ap (λ (r : EntryRow). r.number) same in absurd (omega (arith, less, number))) claims rise

-- the groups of two lists are unique
pub claims_grouped_once : (claims : List Claim) (rows : List EntryRow) (one other : List (Group Claim)) → NumbersRise claims
    → AreGroups claim_entry claims rows one → AreGroups claim_entry claims rows other → one ≡ other
claims_grouped_once claims rows one other rise = groups_once claim_entry entry_if entry_found only_found claims rows one other (numbers_apart claims rise)
