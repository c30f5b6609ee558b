use Rattle.roa.proofs.Vocabulary.{◌≡◌, ◌≤◌, ◌++◌, ◌∙◌, ap, length, arith, flat_map, of_family, element, entry_octets}
use Rattle.roa.proofs.Sizes.{addresses_short, block_short, length-family_octets}
use Rattle.roa.proofs.writing.push_family.Goals as goal

pub push_element-requires-2 : goal.push_element-requires-2
push_element-requires-2 c =
    let written : c.push_entries.new.out.items ≡ c.new-addresses.result.items ++ flat_map entry_octets (of_family c.args.family c.args.entries.now) = c.in_ok-push_entries.ensures in
    rw (c.deref.ensures.value, written, c.new-addresses.ensures.items) (omega (arith, addresses_short c.args.family c.args.entries.now c.requires))

pub push_element-requires-3 : goal.push_element-requires-3
push_element-requires-3 c =
    let addresses : c.push_entries.new.out.items ≡ c.new-addresses.result.items ++ flat_map entry_octets (of_family c.args.family c.args.entries.now) = c.in_ok-push_entries.ensures in
    let short : length c.deref.result.now ≤ 2176 = rw (c.deref.ensures.value, addresses, c.new-addresses.ensures.items) (addresses_short c.args.family c.args.entries.now c.requires) in
    let two : length c.family_octets.result ≡ 2 = ap length c.family_octets.ensures ∙ length-family_octets c.args.family in
    let first : c.push_element.new.out.items ≡ c.new-block.result.items ++ element 4 c.family_octets.result = c.in_ok-push_element.ensures in
    let second : c.push_element-2.new.out.items ≡ c.push_element.new.out.items ++ element 48 c.deref.result.now = c.in_ok-push_element-2.ensures in
    rw (c.deref-2.ensures.value, second, first, c.new-block.ensures.items) (omega (arith, block_short c.family_octets.result c.deref.result.now two short))
