use Rattle.web.proofs.Vocabulary.{[], refl, csv_line, payload_row, added_then}
use Rattle.web.proofs.PieceLemmas.{added-whole}
use Rattle.web.proofs.vrps.add_line.Goals as goal

pub returns : goal.returns
returns g c =
    let line = csv_line (payload_row c.args.vrp.now) in
    added_then g.D.Drain.written g.D.Drain.has_failed c.args.pieces.now c.make_room.new.self _ [] line c.make_room.ensures.sent
    (added-whole g.D.Drain.written g.D.Drain.has_failed c.make_room.new.self _ line refl refl c.push_payload_line.ensures)
