use Rattle.store_transactions.proofs.Vocabulary.{◌≤◌, ◌++◌, [], ◌∷◌, List, length, ap, subst, ◌∙◌, Exceptions, MOST_ENTRIES, ExceptionRow, exceptions_in}
use Rattle.store_transactions.proofs.FilesIn.{fewer_left, parted_at, walked_all, walked_none, walked_past}
use Rattle.store_transactions.proofs.files.files_in.Goals as goal

pub loop-rest-init : goal.loop-rest-init
loop-rest-init c = rw c.new-files.ensures.items (walked_none c.args.exceptions.now c.requires)

pub split_file-requires : goal.split_file-requires
split_file-requires c = parted_at c.loop-rest.rest.now c.first-item.result c.in-len1-up.len_at_least c.first-item.is c.loop-rest.invariant.rise

pub loop-rest-smaller : goal.loop-rest-smaller
loop-rest-smaller c = rw c.split_file.ensures.others (fewer_left c.loop-rest.rest.now c.first-item.result c.in-len1-up.len_at_least c.first-item.is)

pub loop-rest-preserved : goal.loop-rest-preserved
loop-rest-preserved c =
    let few = subst (λ (l : List ExceptionRow). length l ≤ MOST_ENTRIES) c.split_file.ensures.mine c.in_ok-file.ensures.number in
    let past = walked_past c.args.exceptions.now c.loop-rest.rest.now c.loop-rest.files.items c.first-item.result c.in-len1-up.len_at_least c.first-item.is c.loop-rest.invariant few in
    let said = c.in_ok-file.ensures.file ∙ ap exceptions_in c.split_file.ensures.mine in
    let pushed = c.in_ok-push_file.ensures ∙ ap (λ (e : Exceptions). c.loop-rest.files.items ++ e ∷ []) said in
    rw (c.split_file.ensures.others, pushed) past

pub returns-clause-found : goal.returns-clause-found
returns-clause-found c = walked_all c.args.exceptions.now c.loop-rest.rest.now c.loop-rest.files.items c.in_default.len_below c.loop-rest.invariant
