use Rattle.std.proofs.Common.{◌≡◌, ◌++◌, drop, map}
use Rattle.httparse.specs.Spans.{header_bytes}
use Rattle.http_messages.specs.Fields.{only_value, values_of}
use Rattle.http_messages.specs.steps.Values.{found_values}
use Rattle.http_messages.proofs.field.only_value.Given as goal

abbrev pub invariant-loop-field : goal.invariant-loop-field
invariant-loop-field l =
    only_value (found_values l.found ++ values_of l.name (map (header_bytes l.head) (drop l.field-index l.fields)))
    ≡ only_value (values_of l.name (map (header_bytes l.head) l.fields))
