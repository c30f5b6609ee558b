use Rattle.store_transactions.proofs.Vocabulary.{IfOk-weaker}
use Rattle.store_transactions.proofs.ShownFiles.{few_shown, files_fit, files_shown, shown_moved}
use Rattle.store_transactions.proofs.files.group_files.Goals as goal

pub returns-clause-found : goal.returns-clause-found
returns-clause-found c =
    let sorted = c.sort_unstable_by.new.self.items in
    let up = rw c.deref.ensures.value at (c.rise.ensures c.if-not-rise.false) in
    IfOk-weaker c.files_in.result _ _ (λ files found table shows.
    let moved = shown_moved c.args.exceptions.items sorted table c.sort_unstable_by.ensures.permutation shows in
    let are = rw c.deref-2.ensures.value at found.1 in
    record { named = found.0; same = found.2; held = files_shown sorted table moved up found.0 are; fit = files_fit sorted table moved up found.0 are })
    c.files_in.ensures.found

pub returns-clause-schema : goal.returns-clause-schema
returns-clause-schema c refused table shows few =
    let sorted = c.sort_unstable_by.new.self.items in
    let moved = shown_moved c.args.exceptions.items sorted table c.sort_unstable_by.ensures.permutation shows in
    rw c.deref-2.ensures.value at (c.files_in.ensures.schema refused) (few_shown sorted table moved few)
