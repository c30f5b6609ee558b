use Rattle.web.proofs.Vocabulary.{rules, ap, map, codes, OnErr, AppendsBeginning, comma_joined, list_text}
use Rattle.web.proofs.PieceLemmas.{closed-err}
use Rattle.web.proofs.reply.list.write_list.Goals as goal

pub returns-clause-err : goal.returns-clause-err
returns-clause-err g c =
    let old = g.D.Drain.written c.args.drain.now in
    let texts = map g.T.Item.text c.args.items.now in
    let begins : OnErr c.finish.result (AppendsBeginning old (g.D.Drain.written c.finish.new.self.drain.now) (list_text c.args.opening.now texts)) =
    closed-err g.D.Drain.written g.D.Drain.has_failed c.begin-pieces.result c.add_items.new.pieces c.add.new.self c.finish.new.self
    old c.args.opening.now (comma_joined texts) (codes "]}\n") c.finish.result
    (ap (λ d. g.D.Drain.written d.now) c.begin-pieces.ensures.drain) c.begin-pieces.ensures.piece
    c.add_items.ensures c.add.ensures c.finish.ensures.sent in
    search rules
