use Rattle.web.proofs.Vocabulary.{◌++◌, [], Err, sym, ap, ◌∙◌, refl, inl, inr, append-nil, head_view}
use Rattle.web.proofs.http.reading.read_rest.Goals as goal

pub returns-in_default-clause-some : goal.returns-in_default-clause-some
returns-in_default-clause-some g c = (
  [],
  sym (append-nil (g.S.Source.handed_out c.args.source.now)),
  λ head whole says. c.next_of.ensures (head ++ [])
      (record { head = head; is_whole = whole; says = says; size = sym c.in_default.is; all = refl }),
)

pub returns-in-Err-Memory-clause-some : goal.returns-in-Err-Memory-clause-some
returns-in-Err-Memory-clause-some g c = (
  [],
  ap g.S.Source.handed_out (c.in-Err-Memory.ensures.memory (ap Err c.in-Err-Memory.field-0-is)) ∙ sym (append-nil (g.S.Source.handed_out c.args.source.now)),
  λ head whole says. inr (inl (
    head_view c.args.request.now,
    c.in-Some.size,
    rw (append-nil head) whole,
    rw (append-nil head) says,
    c.in-Some.is,
  )),
)
