use Rattle.desk.proofs.LentLemmas.{prepared_anew, prepared_same}
use Rattle.desk.proofs.desk.Desk.prepare.Goals as goal

pub returns-then-is_kept : goal.returns-then-is_kept
returns-then-is_kept g c = prepared_same g.S.Store c.args.self.now c.args.day c.keeps_its_rows.ensures (c.is_kept.ensures.yes c.if-is_kept.true)

pub returns : goal.returns
returns g c =
    rw c.is_ok.ensures.value (prepared_anew g.S.Store c.args.self.now c.keep_anew.new.self c.args.day c.keep_anew.result (c.is_kept.ensures.no c.if-is_kept.false)
    c.keep_anew.ensures.read c.keep_anew.ensures.ok c.keep_anew.ensures.err c.keep_anew.ensures.found)
