-- The history of a desk: its accepted commands, the newest first. A beginning of a history is a tail
-- of the list. Nothing here requires that the commands could have been accepted.
use Rattle.std.specs.Prelude.{ℕ, Bool, false, ◌||◌, List, [], ◌∷◌, nat_eq}
use Rattle.std.specs.Cmp.Lexicographic.{pointwise}
use Rattle.registry.specs.declared.command.Command.{Command}
use Rattle.registry.specs.declared.command.Command.TheVariants.{Register}

pub record Entry : Type 0 where
  pub day : ℕ
  pub caller : List ℕ
  pub command : Command

abbrev pub History : Type 0
History = List Entry

-- two names are one
abbrev pub same_name : List ℕ → List ℕ → Bool
same_name a b = pointwise nat_eq a b

-- the command registers the holder
abbrev pub registers : Command → List ℕ → Bool
registers (Register holder) h = same_name holder h
registers _ h = false

abbrev pub is_registered : History → List ℕ → Bool
is_registered [] h = false
is_registered (e ∷ before) h = registers e.command h || is_registered before h
