use Rattle.std.proofs.Common.{◌≡◌, ◌≤◌, ◌++◌, List, ℕ, true, false, length, take, drop, sym, ap, ◌∙◌, subst, arith, length-append, length-drop}
use Rattle.std.proofs.lemmas.List.{length-take}
use Rattle.http_messages.specs.HeadEnd.{IsWholeHead, LacksEnd, has_end}
use Rattle.http_messages.proofs.HeadEndLemmas.{EndsAfter, IsWholeHead-more, LacksEnd-more, few-read, handed-on}
use Rattle.http_messages.proofs.head.read_head.Goals as goal

pub returns-then-ends_with-clause-ok : goal.returns-then-ends_with-clause-ok
returns-then-ends_with-clause-ok g c =
    let (handed_out, before, size) = c.loop-head.invariant in
    let head : List ℕ = c.loop-head.head.items in
    let buffer : List ℕ = c.read_some.new.buffer in
    let more : List ℕ = take c.in-Ok.count buffer in
    let few = few-read c.in-Ok.count c.min-room.result c.missing_bytes.result _ buffer c.loop-head.piece
    c.in-Ok.ensures.bound c.read_some.auto.buffer c.min-room.ensures in
    let (grown, out) = handed-on (g.S.Source.handed_out c.args.source.now) (g.S.Source.handed_out c.loop-head.source)
    (g.S.Source.handed_out c.read_some.new.source) head c.try_extend_from_slice.new.self.items buffer
    (drop c.min-room.result c.loop-head.piece) c.in-Ok.count
    handed_out c.in-Ok.ensures.bytes c.in-Ok-try_extend_from_slice.ensures.ok c.in-Ok.ensures.bound in
    let enough : EndsAfter c.missing_bytes.result head =
    subst (EndsAfter c.missing_bytes.result) c.deref.ensures.0 c.missing_bytes.ensures.enough in
    let ends : has_end (head ++ more) ≡ true =
    sym (c.if-ends_with.ensures.value ∙ ap has_end (c.deref-in-loop-head.ensures.0 ∙ grown)) in
    let within : length (head ++ more) ≤ 8192 =
    omega (
      arith,
      length-append head more,
      few.1,
      c.len-in-loop-head.ensures.value,
      c.len.ensures.value,
      c.loop-head-test.true,
    ) in
    (out, subst IsWholeHead (sym grown) (IsWholeHead-more head more c.missing_bytes.result before enough few.0 ends within))

pub loop-head-preserved : goal.loop-head-preserved
loop-head-preserved g c =
    let (handed_out, before, size) = c.loop-head.invariant in
    let head : List ℕ = c.loop-head.head.items in
    let buffer : List ℕ = c.read_some.new.buffer in
    let more : List ℕ = take c.in-Ok.count buffer in
    let few = few-read c.in-Ok.count c.min-room.result c.missing_bytes.result _ buffer c.loop-head.piece
    c.in-Ok.ensures.bound c.read_some.auto.buffer c.min-room.ensures in
    let (grown, out) = handed-on (g.S.Source.handed_out c.args.source.now) (g.S.Source.handed_out c.loop-head.source)
    (g.S.Source.handed_out c.read_some.new.source) head c.try_extend_from_slice.new.self.items buffer
    (drop c.min-room.result c.loop-head.piece) c.in-Ok.count
    handed_out c.in-Ok.ensures.bytes c.in-Ok-try_extend_from_slice.ensures.ok c.in-Ok.ensures.bound in
    let enough : EndsAfter c.missing_bytes.result head =
    subst (EndsAfter c.missing_bytes.result) c.deref.ensures.0 c.missing_bytes.ensures.enough in
    let goes_on : has_end (head ++ more) ≡ false =
    sym (c.if-ends_with.ensures.value ∙ ap has_end (c.deref-in-loop-head.ensures.0 ∙ grown)) in (
      out,
      subst LacksEnd (sym grown) (LacksEnd-more head more c.missing_bytes.result before enough few.0 goes_on),
      omega (
        arith,
        length-append buffer (drop c.min-room.result c.loop-head.piece),
        length-drop c.min-room.result c.loop-head.piece,
        length-take c.min-room.result c.loop-head.piece,
        c.read_some.auto.buffer,
        size,
        c.min-room.ensures,
        c.missing_bytes.ensures.few,
      ),
    )
