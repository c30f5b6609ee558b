use Rattle.cli_texts.proofs.Vocabulary.{rules, nil_from_length, take_rest}
use Rattle.cli_texts.proofs.LineSteps.{fits-more, lines-more, rest-more}
use Rattle.cli_texts.proofs.state_lines.StateLines.push.Goals as goal

pub returns-in-Some-clause-stands : goal.returns-in-Some-clause-stands
returns-in-Some-clause-stands c =
    let lines = c.args.self.now in
    let fits = c.in-Some.ensures.fits in
    record {
      fits = fits-more lines.text.now lines.rest.now lines.rows.items c.push.new.self.items c.in-Some.row c.in-Ok.ensures.items c.requires.rest c.requires.fits fits.0 fits.1;
      rest = rw (c.from.ensures, take_rest lines.rest.now c.in-Some.row.end) (rest-more lines.text.now lines.rest.now lines.rows.items c.push.new.self.items c.in-Some.row c.in-Ok.ensures.items c.requires.rest);
    }

pub returns-in-Some-clause-line : goal.returns-in-Some-clause-line
returns-in-Some-clause-line c =
    let lines = c.args.self.now in
    lines-more lines.text.now lines.rest.now lines.others.items c.args.read.now.prefix.now c.args.read.now.origin.now lines.rows.items
    c.push.new.self.items c.in-Some.row c.args.state c.in-Ok.ensures.items (nil_from_length lines.others.items (search rules))
    c.requires.rest c.in-Some.ensures.texts c.in-Some.ensures.state
