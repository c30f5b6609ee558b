use Rattle.web.proofs.Vocabulary.{[], refl, added_then}
use Rattle.web.proofs.PieceLemmas.{added-whole}
use Rattle.web.proofs.pieces.Pieces.add.Goals as goal

pub returns : goal.returns
returns g c =
    added_then g.D.Drain.written g.D.Drain.has_failed c.args.self.now c.make_room.new.self _ [] c.args.text.now c.make_room.ensures.sent
    (added-whole g.D.Drain.written g.D.Drain.has_failed c.make_room.new.self _ c.args.text.now refl refl c.push_str.ensures.bytes)
