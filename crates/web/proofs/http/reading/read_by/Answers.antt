use Rattle.web.proofs.Vocabulary.{◌++◌, Err, Ok, ap, refl, inr, SaysHead, head_view}
use Rattle.web.proofs.HttpLemmas.{gives-more, limit-given, next-given, next-read, whole-given}
use Rattle.web.proofs.http.reading.read_by.Goals as goal

pub returns-in-Ok-read_request_head-clause-some : goal.returns-in-Ok-read_request_head-clause-some
returns-in-Ok-read_request_head-clause-some g c =
    let (given, whole) = c.in-Ok.ensures.ok in
    let says : SaysHead c.in-Ok.head.items (Ok (head_view c.in-Ok-read_request_head.request)) =
    rw c.as_slice.ensures.value at c.in-Ok-read_request_head.ensures in
    next-read c.args.day c.read_rest.result
    (head_view c.in-Ok-read_request_head.request) c.in-Ok.head.items
    (g.S.Source.handed_out c.args.source.now) (g.S.Source.handed_out c.read_head.new.source)
    (g.S.Source.handed_out c.read_rest.new.source) whole says given c.read_rest.ensures.some

pub returns-in-Ok-read_request_head-clause-none : goal.returns-in-Ok-read_request_head-clause-none
returns-in-Ok-read_request_head-clause-none g c = λ is.
    let (given, whole) = c.in-Ok.ensures.ok in
    let says : SaysHead c.in-Ok.head.items (Ok (head_view c.in-Ok-read_request_head.request)) =
    rw c.as_slice.ensures.value at c.in-Ok-read_request_head.ensures in
    let (rest, size, given_rest, has, short, over) = c.read_rest.ensures.none is in (
      c.in-Ok.head.items ++ rest,
      gives-more (g.S.Source.handed_out c.args.source.now) (g.S.Source.handed_out c.read_head.new.source)
          (g.S.Source.handed_out c.read_rest.new.source) c.in-Ok.head.items rest given given_rest,
      inr (c.in-Ok.head.items, rest, head_view c.in-Ok-read_request_head.request, size, refl, whole, says, has, short),
      over,
    )

pub returns-in-Err-TooLong-clause-begun : goal.returns-in-Err-TooLong-clause-begun
returns-in-Err-TooLong-clause-begun g c =
    let (bytes, given, full, lacks) = c.in-Err-TooLong.ensures.too_long (ap Err c.in-Err-TooLong.field-0-is) in
    limit-given bytes (g.S.Source.handed_out c.args.source.now) (g.S.Source.handed_out c.read_head.new.source) full given

pub returns-in-Err-clause-begun : goal.returns-in-Err-clause-begun
returns-in-Err-clause-begun g c =
    let (given, whole) = c.in-Ok.ensures.ok in
    whole-given c.in-Ok.head.items (g.S.Source.handed_out c.args.source.now) (g.S.Source.handed_out c.read_head.new.source) whole given

pub returns-in-Ok-read_request_head-clause-begun : goal.returns-in-Ok-read_request_head-clause-begun
returns-in-Ok-read_request_head-clause-begun g c =
    let (given, whole) = c.in-Ok.ensures.ok in
    next-given c.read_rest.result _ c.in-Ok.head.items
    (g.S.Source.handed_out c.args.source.now) (g.S.Source.handed_out c.read_head.new.source)
    (g.S.Source.handed_out c.read_rest.new.source) whole given c.read_rest.ensures.some
