use Rattle.cli_tasks.proofs.Vocabulary.{refl}
use Rattle.streams.specs.Device.{device_bytes, device_has_ended, device_has_failed, device_inner}
use Rattle.cli_tasks.proofs.FollowLemmas.{given-first, taken-after}
use Rattle.cli_tasks.proofs.serve.connections.answer_between.Goals as goal

pub returns : goal.returns
returns g c =
    let source = c.answer.new.source in
    let drain = c.answer.new.drain in (
      record {
        received = device_bytes source.device;
        has_ended = device_has_ended source.device;
        read_failed = device_has_failed source.device;
        sent = device_bytes drain.device;
        write_failed = device_has_failed drain.device;
        ended = c.answer.result;
      },
      device_inner drain.device,
      refl,
      (given-first _ _ _ source.given, taken-after _ _ _ drain.taken),
      c.answer.ensures c.new-source.ensures c.new-drain.ensures,
    )
