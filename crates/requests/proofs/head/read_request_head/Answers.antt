use Rattle.requests.proofs.Vocabulary.{◌≡◌, ◌≤◌, ap, sym, ◌∙◌, arith, inl, length, map, take, length-take, length-map, header_bytes, name_and_value, head_of}
use Rattle.requests.proofs.head.read_request_head.Goals as goal

pub returns : goal.returns
returns c =
    let (head, is_at, reads) = c.in-Some.ensures.some in
    let found = take c.in-Some.request.headers c.parse_head.new.fields in
    let method_is : c.of-method.result.now ≡ head.method = c.of-method.ensures ∙ is_at.method in
    let target_is : c.of-target.result.now ≡ head.target = c.of-target.ensures ∙ is_at.path in
    let fields = map name_and_value head.fields in
    let same : head_of c.of-method.result.now c.of-target.result.now (map (header_bytes c.args.head.now) found)
    ≡ head_of head.method head.target fields =
    ap (λ method. head_of method c.of-target.result.now (map (header_bytes c.args.head.now) found)) method_is
    ∙ ap (λ target. head_of head.method target (map (header_bytes c.args.head.now) found)) target_is
    ∙ ap (λ those. head_of head.method head.target those) is_at.fields in
    let few : length head.fields ≤ 32 =
    omega (
      arith,
      length-map head.fields name_and_value,
      ap length is_at.fields,
      length-map found (header_bytes c.args.head.now),
      length-take c.in-Some.request.headers c.parse_head.new.fields,
      c.parse_head.auto.fields,
    ) in
    inl (head, (few, reads), sym same ∙ sym c.head_of.ensures)
