-- The entries of a history that name a holder. By themselves the entries of a legal history may be no legal history: a
-- transfer from another holder is among them, without the registration of that holder.
use Rattle.std.specs.Prelude.{ℕ, Bool, false, ◌||◌, List, [], filter, Option, Some, None}
use Rattle.registry.specs.declared.command.Command.{Command}
use Rattle.registry.specs.declared.command.Command.TheVariants.{Transfer}
use Rattle.registry.specs.declared.command.Query.{Query}
use Rattle.registry.specs.declared.command.Query.TheVariants.{Show, Content, List as ListQuery, WhatIf}
use Rattle.registry.specs.Answer.{holder_of, taker_of}
use Rattle.registry.specs.History.{History, same_name}

-- a holder is named, and it is this one
abbrev pub is_this : List ℕ → Option (List ℕ) → Bool
is_this h None = false
is_this h (Some named) = same_name named h

-- the command names the holder, a transfer as giver or taker
abbrev pub names_holder : List ℕ → Command → Bool
names_holder h command = is_this h (holder_of command) || is_this h (taker_of command)

-- the entries that name the holder, in their order
abbrev pub entries_naming : List ℕ → History → History
entries_naming h history = filter (λ e. names_holder h e.command) history

-- the entries that name one of two holders, in their order
abbrev pub entries_naming_either : List ℕ → List ℕ → History → History
entries_naming_either g h history = filter (λ e. names_holder g e.command || names_holder h e.command) history

-- the entries that name the holder; none where no holder is named
abbrev pub entries_of : Option (List ℕ) → History → History
entries_of None history = []
entries_of (Some h) history = entries_naming h history

-- the entries that name a holder that the command names
abbrev pub entries_for : Command → History → History
entries_for (Transfer p giver taker) history = entries_naming_either giver taker history
entries_for command history = entries_of (holder_of command) history

-- the holder that a query names; none where it is about all holders
abbrev pub holder_asked : Query → Option (List ℕ)
holder_asked (Show h n) = Some h
holder_asked (Content h n) = Some h
holder_asked (ListQuery h) = Some h
holder_asked (WhatIf h changes routes) = Some h
holder_asked _ = None
