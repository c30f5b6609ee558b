-- Who holds which address: the receiver of the last delegation, transfer or reclaim whose prefix has
-- the address. A reclaim leaves nobody.
use Rattle.std.specs.Prelude.{◌≡◌, Bool, true, false, List, ℕ, [], ◌∷◌, Option, Some, None, if◌then◌else◌}
use Rattle.addr.specs.Address.{Address, has_address}
use Rattle.addr.specs.declared.prefix.Prefix.{Prefix}
use Rattle.registry.specs.declared.command.Command.{Command}
use Rattle.registry.specs.declared.command.Command.TheVariants.{Delegate, Transfer, Reclaim}
use Rattle.registry.specs.History.{History, same_name}

-- who holds the address after a command, from who held it before
abbrev pub holder_after : Command → Address → Option (List ℕ) → Option (List ℕ)
holder_after (Delegate holder p) a held = if has_address p a then Some holder else held
holder_after (Transfer p giver taker) a held = if has_address p a then Some taker else held
holder_after (Reclaim holder p) a held = if has_address p a then None else held
holder_after _ a held = held

abbrev pub resource_holder : History → Address → Option (List ℕ)
resource_holder [] a = None
resource_holder (e ∷ before) a = holder_after e.command a (resource_holder before a)

-- every address of the prefix is held by the holder
abbrev pub HoldsPrefix : History → List ℕ → Prefix → Type 0
HoldsPrefix history h p = (a : Address) → has_address p a ≡ true → resource_holder history a ≡ Some h

-- no address of the prefix is held by anybody
abbrev pub IsFree : History → Prefix → Type 0
IsFree history p = (a : Address) → has_address p a ≡ true → resource_holder history a ≡ None

-- an address is held by this holder
abbrev pub is_held_by : List ℕ → Option (List ℕ) → Bool
is_held_by h None = false
is_held_by h (Some holder) = same_name holder h
