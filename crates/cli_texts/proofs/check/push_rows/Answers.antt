use Rattle.cli_texts.proofs.Vocabulary.{◌++◌, ◌∷◌, [], ◌∙◌, arith, state_of, current, records_left, lines_text}
use Rattle.cli_texts.proofs.StateSteps.{routes_more, line_more, first_route_more}
use Rattle.cli_texts.proofs.check.push_rows.Goals as goal

pub loop-records-preserved : goal.loop-records-preserved
loop-records-preserved c =
    let inv = c.loop-records.invariant in
    let found = rw c.if-branch.true at c.in_ok-advance.ensures.found in
    let (same, prefix, origin, none) = rw c.row.ensures at c.in-Ok.ensures in
    let pushed = c.in_ok-push-in-Ok.ensures in
    let (routes, rows, text) = inv.read in
    let more = pushed.counted in
    let counted = inv.counted in
    record {
      reading = c.in_ok-advance.ensures.reading c.if-branch.true;
      stands = pushed.stands;
      read = (
        routes ++ c.in-Ok.read.route ∷ [],
        routes_more (records_left c.args.records.now) (records_left c.loop-records.records) (records_left c.advance.new.self) (current c.advance.new.self) routes c.in-Ok.read.route rows found same,
        line_more c.args.index.now routes c.in-Ok.read.route (lines_text c.loop-records.lines) (lines_text c.push.new.self) c.in-Ok.read.prefix.now c.in-Ok.read.origin.now (state_of c.validity.result) text prefix origin c.validity.ensures pushed.line,
      );
      faultless = inv.faultless ∙ first_route_more c.loop-records.row (records_left c.loop-records.records) (records_left c.advance.new.self) (current c.advance.new.self) found none;
      counted = omega arith;
    }
