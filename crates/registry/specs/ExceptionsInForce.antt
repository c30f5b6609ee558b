-- The SLURM files in force: those of the last set of the history that have entries, all of them and no
-- others (RFC 8416 section 4.1: they take effect as a whole). Before the first there are none.
use Rattle.std.specs.Prelude.{Bool, true, false, List, [], ◌∷◌}
use Rattle.slurm.specs.Exceptions.{Exceptions}
use Rattle.slurm.specs.SlurmSets.{union, with_entries}
use Rattle.slurm.specs.declared.set.NamedSlurm.{NamedSlurm}
use Rattle.registry.specs.declared.command.Command.{Command}
use Rattle.registry.specs.declared.command.Command.TheVariants.{Slurm}
use Rattle.registry.specs.History.{History}

-- the files in force after a command, from those before it
abbrev pub files_after : Command → List NamedSlurm → List NamedSlurm
files_after (Slurm files) before = with_entries files
files_after _ before = before

abbrev pub files_in_force : History → List NamedSlurm
files_in_force [] = []
files_in_force (e ∷ before) = files_after e.command (files_in_force before)

-- what the files in force say together
abbrev pub exceptions_in_force : History → Exceptions
exceptions_in_force history = union (files_in_force history)

-- the command brings SLURM files
abbrev pub brings_exceptions : Command → Bool
brings_exceptions (Slurm files) = true
brings_exceptions _ = false
