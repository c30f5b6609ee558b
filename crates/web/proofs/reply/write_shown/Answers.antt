use Rattle.web.proofs.Vocabulary.{rules, ap, codes, OnErr, AppendsBeginning, auth_text, shown_text}
use Rattle.web.proofs.PieceLemmas.{closed-err}
use Rattle.web.proofs.reply.write_shown.Goals as goal

pub returns-clause-err : goal.returns-clause-err
returns-clause-err g c =
    let old = g.D.Drain.written c.args.drain.now in
    let begins : OnErr c.finish.result (AppendsBeginning old (g.D.Drain.written c.finish.new.self.drain.now) (shown_text c.args.auth.now)) =
    closed-err g.D.Drain.written g.D.Drain.has_failed c.begin-pieces.result c.add_to.new.pieces c.add.new.self c.finish.new.self
    old (codes "{\"shown\":") (auth_text c.args.auth.now) (codes "}\n") c.finish.result
    (ap (λ d. g.D.Drain.written d.now) c.begin-pieces.ensures.drain) c.begin-pieces.ensures.piece
    c.add_to.ensures c.add.ensures c.finish.ensures.sent in
    search rules
