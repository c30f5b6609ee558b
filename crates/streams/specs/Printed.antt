-- A writer that lines are printed to.
use Rattle.std.specs.Prelude.{Bool}
use Rattle.streams.specs.Device.{device_has_failed, device_inner}
use Rattle.streams.specs.declared.printed.Printed.{Printed}

-- the writer
abbrev pub printed_writer : {W : Type 0} → Printed W → W
printed_writer printed = (device_inner printed.device).now

-- whether the last line was lost, or a part of it: a write of it failed
abbrev pub printed_has_failed : {W : Type 0} → Printed W → Bool
printed_has_failed printed = device_has_failed printed.device

-- whether a line was lost, or a part of one
abbrev pub printed_has_lost : {W : Type 0} → Printed W → Bool
printed_has_lost printed = printed.has_lost
