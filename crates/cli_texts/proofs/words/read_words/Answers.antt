use Rattle.cli_texts.proofs.Vocabulary.{rules}
use Rattle.cli_texts.proofs.WordsSteps.{of_init, of_none, of_serve}
use Rattle.cli_texts.proofs.words.read_words.Goals as goal

pub returns-in-init : goal.returns-in-init
returns-in-init c = of_init c.args.words.now c.in-init.len_at_least c.in-init.len_below (search rules) (search rules) (search rules)

pub returns-in-serve : goal.returns-in-serve
returns-in-serve c =
    let are = of_serve c.args.words.now c.in-serve.len_at_least c.in-serve.len_below
    (search rules) (search rules) (search rules) (search rules) (search rules) in
    rw are c.read_serve.ensures

pub returns-in_default : goal.returns-in_default
returns-in_default c = of_none c.args.words.now (search rules)
