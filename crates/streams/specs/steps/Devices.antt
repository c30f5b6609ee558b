-- What a call of a reader or writer leaves of its device.
use Rattle.std.specs.Prelude.{◌≡◌, ◌≤◌}
use Rattle.streams.specs.Device.{device_bytes, device_calls_left, device_has_ended, device_has_failed}
use Rattle.streams.specs.declared.device.Device.{Device}

-- only the reader or writer and the calls have changed, and no call was taken back
pub record IsCalled {T : Type 0} (old new : Device T) : Type 0 where
  pub same_bytes : device_bytes new ≡ device_bytes old
  pub same_end : device_has_ended new ≡ device_has_ended old
  pub same_failure : device_has_failed new ≡ device_has_failed old
  pub fewer_left : device_calls_left new ≤ device_calls_left old
