use Rattle.daily_vrps.proofs.Vocabulary.{false, refl}
use Rattle.payload.specs.VrpSet as set
use Rattle.daily_vrps.proofs.CsvLengths.{counted-all, counted-over}
use Rattle.daily_vrps.proofs.counted.csv_length.Goals as goal

pub returns-in-Ok : goal.returns-in-Ok
returns-in-Ok c =
    counted-all c.payload_header.result.now (set.items c.args.vrps.now) false c.visit.new.sink.is_over
    c.visit.new.sink.count c.payload_header.ensures.text (c.in-Ok.ensures.goes_on refl) c.payload_header.ensures.short (c.in-Ok.ensures.all refl)

pub returns-in-Err : goal.returns-in-Err
returns-in-Err c =
    let took = c.in-Err.ensures.beginning refl in
    counted-over c.payload_header.result.now (set.items c.args.vrps.now) took.0 false c.visit.new.sink.is_over
    c.visit.new.sink.count c.payload_header.ensures.text refl c.in-Err.ensures.stopped took.3
