-- A reader or writer of std with what has passed it.
use Rattle.std.specs.Prelude.{ℕ, Bool, List, ◌-◌, ◌^◌}
use Rattle.streams.specs.declared.device.Device.{Device}

-- the reader or writer
abbrev pub device_inner : {T : Type 0} → Device T → T
device_inner device = device.inner

-- the bytes that have passed
abbrev pub device_bytes : {T : Type 0} → Device T → List ℕ
device_bytes device = device.trail.bytes

-- the last read had room and was given nothing
abbrev pub device_has_ended : {T : Type 0} → Device T → Bool
device_has_ended device = device.has_ended

abbrev pub device_has_failed : {T : Type 0} → Device T → Bool
device_has_failed device = device.has_failed

-- how many more calls may be made: 2^64 - 1 in all, those that were interrupted too
abbrev pub device_calls_left : {T : Type 0} → Device T → ℕ
device_calls_left device = 2 ^ 64 - 1 - device.calls
