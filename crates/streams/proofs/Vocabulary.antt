-- The names of the logic, of other crates and of the definitions that the proofs use, in one place.
pub use Rattle.std.proofs.Common.{Err, List, Ok, Option, Result, [], ap, append_assoc, drop, false, length, refl, subst, sym, take, ℕ, ◌++◌, ◌∙◌, ◌∷◌, ◌≡◌}
pub use Rattle.std.proofs.raw_atomic.Walks.{proved}
pub use Rattle.std.specs.Io.KnownBytes.{Appends, Keeps}
pub use denote.RattleType.{Valss, owns}
pub use denote.Signature.{named_lft, plain, types_at}
pub use denote.Steps.{nothing}
pub use denote.Triple.Entry.{alive}
pub use denote.Triple.Walked.{Goes-dropped, Stays, ends_at, says, stay_dropped, walk_of}
pub use types.ByLocal.{alloc_all, free_all, look_at, pass_all, sets}
pub use types.Kit.{ !, done, feq_i, fjoin, fpack, keep, move, qed, raw, split, suffices, use0, ‵, ◌$◌, ◌∵◌, ◌⊛◌}
pub use types.Part.{agg}
pub use types.Run.{enter, no_more, returns}
pub use Rattle.streams.specs.Device.{device_calls_left, device_has_failed, device_inner}
pub use Rattle.streams.specs.contracts.trail.Trail.{the_row}
pub use Rattle.streams.specs.steps.Devices.{IsCalled}
