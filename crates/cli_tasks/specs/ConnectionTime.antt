-- The time that a connection may take, and what is left of it for a call of its peer.
use Rattle.std.specs.Prelude.{◌≡◌, ℕ, ◌+◌, ◌-◌, ◌*◌, ◌≤◌, Option, Some, None, ⊤}

-- nanoseconds of 30 seconds
abbrev pub connection_limit : ℕ
connection_limit = 30 * 1_000_000_000

-- The timeout of a call is all that is left of the time of a connection that began then, when the clock was last read and
-- no call has waited since: a call that waits no longer ends in time. Of one whose beginning is not known, no call does.
abbrev pub EndsInTime : Option ℕ → Option ℕ → Option ℕ → Type 0
EndsInTime None now timeout = ⊥
EndsInTime (Some began) None timeout = ⊥
EndsInTime (Some began) (Some now) None = ⊥
EndsInTime (Some began) (Some now) (Some timeout) = timeout + (now - began) ≡ connection_limit

-- At this reading of the clock no time is left of a connection that began then, or one of the two is not known.
abbrev pub IsUp : Option ℕ → Option ℕ → Type 0
IsUp None now = ⊤
IsUp (Some began) None = ⊤
IsUp (Some began) (Some now) = connection_limit ≤ now - began

-- how many bytes of a request are discarded at most: 2 MiB
abbrev pub discard_limit : ℕ
discard_limit = 2 * 1_048_576
