use Rattle.web.proofs.Vocabulary.{inl, inr, refl, sym, AppendsBeginning, IsReplyResponse}
use Rattle.web.proofs.HttpLemmas.{long-status, short-response, text-err}
use Rattle.web.proofs.http.response.write_reply_response.Goals as goal

pub returns-in-Some-clause-err : goal.returns-in-Some-clause-err
returns-in-Some-clause-err g c =
    text-err c.write_json.result (IsReplyResponse c.args.form c.args.reply.now)
    (AppendsBeginning (g.D.Drain.written c.args.drain.now) (g.D.Drain.written c.write_json.new.drain))
    _ (inl (rw (c.as_str.ensures.value, c.reply_status.ensures)
    (short-response c.args.form c.args.reply.now c.in-Some.text.bytes c.in-Some.ensures))) c.write_json.ensures.err

pub returns-in-Ok-clause-err : goal.returns-in-Ok-clause-err
returns-in-Ok-clause-err g c =
    text-err c.write_response.result (IsReplyResponse c.args.form c.args.reply.now)
    (AppendsBeginning (g.D.Drain.written c.args.drain.now) (g.D.Drain.written c.write_response.new.drain))
    _ (inl (rw (
      c.as_slice.ensures.value,
      c.in-Ok.ensures,
      c.reply_type-content_type.ensures,
      long-status c.args.reply.now (sym c.in_default.ensures),
    ) refl)) c.write_response.ensures.err

pub returns-in-Err-clause-err : goal.returns-in-Err-clause-err
returns-in-Err-clause-err g c =
    text-err c.write_unavailable.result (IsReplyResponse c.args.form c.args.reply.now)
    (AppendsBeginning (g.D.Drain.written c.args.drain.now) (g.D.Drain.written c.write_unavailable.new.drain))
    _ (inr (sym c.in_default.ensures, refl)) c.write_unavailable.ensures.err
