-- Why words name no task.
use Rattle.std.specs.Prelude.{ℕ}
use Rattle.cli_texts.specs.declared.words.WordsFault.{WordsFault}
use Rattle.cli_texts.specs.declared.words.WordsFault.TheVariants.{Words, Day}

-- 1 other words than those of a task, 2 the text of the day of `serve` is none
abbrev pub words_fault_number : WordsFault → ℕ
words_fault_number Words = 1
words_fault_number Day = 2
