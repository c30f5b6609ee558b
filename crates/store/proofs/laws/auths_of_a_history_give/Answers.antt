use Rattle.store.proofs.Vocabulary.{subst, All-contains, RowsIfAny, AuthFits, gives_each}
use Rattle.store.proofs.laws.auths_of_a_history_give.Goals as goal

pub returns : goal.returns
returns c charter history rows day legal fits have h r x e is there in_x from until =
    let of = subst (RowsIfAny history h) is (have.holders h) in
    let values = c.legal_rows_fit.ensures charter history h r legal fits of.1 in
    gives_each x e (All-contains AuthFits r.auths x values.auths there) in_x
