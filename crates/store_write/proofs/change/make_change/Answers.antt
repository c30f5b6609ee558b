use Rattle.store_write.proofs.Vocabulary.{ap, ◌∙◌, Some, None, Holders, changed_by_one, each_holder}
use Rattle.store_write.proofs.InTurn.{then_done}
use Rattle.store_write.proofs.RowSteps.{turned_then, holders_changed}
use Rattle.store_write.proofs.change.make_change.Goals as goal

pub returns-in_ok-edit_holder-in-Holders-2-clause-done : goal.returns-in_ok-edit_holder-in-Holders-2-clause-done
returns-in_ok-edit_holder-in-Holders-2-clause-done g c =
    let one = c.in-Holders.first in
    let two = c.in-Some.second in
    then_done g.S.Store c.edit_holder-in-Some.ensures.inside
    (λ first second. holders_changed c.args.change.now one (Some two) _ _ (c.in-Holders.is ∙ ap (Holders one) c.in-Some.is) (turned_then (each_holder (changed_by_one one)) (each_holder (changed_by_one two)) _ _ _ first second))
    c.in_ok-edit_holder-in-Holders.ensures.done c.in_ok-edit_holder-in-Holders-2.ensures.done

pub returns-in_default-clause-done : goal.returns-in_default-clause-done
returns-in_default-clause-done g c clean =
    let one = c.in-Holders.first in
    holders_changed c.args.change.now one None _ _ (c.in-Holders.is ∙ ap (Holders one) c.in_default.is) (c.in_ok-edit_holder-in-Holders.ensures.done clean)
