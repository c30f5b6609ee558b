use Rattle.registry.proofs.Vocabulary.{All, take, FileFits}
use Rattle.registry.proofs.values.files_fit.Given as goal

abbrev pub invariant-loop-named : goal.invariant-loop-named
invariant-loop-named l = All FileFits (take l.named-index l.files)
