use Rattle.store_transactions.proofs.Vocabulary.{◌≡◌, ◌≤◌, ◌+◌, ℕ, Err, OnOk, length, ap, subst, arith, MOST_ENTRIES, Schema}
use Rattle.store_transactions.proofs.FilesIn.{said_number}
use Rattle.store_transactions.proofs.files.file_of.Goals as goal

pub returns-clause-number : goal.returns-clause-number
returns-clause-number c =
    let number : length c.in_ok-filters.filters.items + length c.in_ok-assertions.assertions.items ≡ length c.args.exceptions.now =
    omega (arith, ap length c.in_ok-filters.ensures, ap length c.in_ok-assertions.ensures, said_number c.args.exceptions.now) in
    subst (λ (n : ℕ). OnOk c.make_file.result (n ≤ MOST_ENTRIES)) number c.make_file.ensures.number

pub returns-clause-schema : goal.returns-clause-schema
returns-clause-schema c =
    let number : length c.in_ok-filters.filters.items + length c.in_ok-assertions.assertions.items ≡ length c.args.exceptions.now =
    omega (arith, ap length c.in_ok-filters.ensures, ap length c.in_ok-assertions.ensures, said_number c.args.exceptions.now) in
    subst (λ (n : ℕ). c.make_file.result ≡ Err Schema → ¬ (n ≤ MOST_ENTRIES)) number c.make_file.ensures.schema
