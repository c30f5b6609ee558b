use Rattle.roa.proofs.Vocabulary.{◌≡◌, ◌≤◌, ◌++◌, length, arith, V4, V6, of_family, element, integer, roa_ip_address_family}
use Rattle.roa.proofs.Sizes.{blocks_short, fields_short}
use Rattle.roa.proofs.writing.write_content.Goals as goal

pub push_element-requires : goal.push_element-requires
push_element-requires c =
    let four : c.push_family.new.out.items ≡ c.new-blocks.result.items ++ roa_ip_address_family V4 (of_family V4 c.args.entries.now) = c.in_ok-push_family.ensures in
    let six : c.push_family-2.new.out.items ≡ c.push_family.new.out.items ++ roa_ip_address_family V6 (of_family V6 c.args.entries.now) = c.in_ok-push_family-2.ensures in
    rw (c.deref.ensures.value, six, four, c.new-blocks.ensures.items) (omega (arith, blocks_short c.args.entries.now c.requires))

pub push_element-requires-2 : goal.push_element-requires-2
push_element-requires-2 c =
    let four : c.push_family.new.out.items ≡ c.new-blocks.result.items ++ roa_ip_address_family V4 (of_family V4 c.args.entries.now) = c.in_ok-push_family.ensures in
    let six : c.push_family-2.new.out.items ≡ c.push_family.new.out.items ++ roa_ip_address_family V6 (of_family V6 c.args.entries.now) = c.in_ok-push_family-2.ensures in
    let short : length c.deref.result.now ≤ 4408 = rw (c.deref.ensures.value, six, four, c.new-blocks.ensures.items) (blocks_short c.args.entries.now c.requires) in
    let number : c.push_integer.new.out.items ≡ c.new-fields.result.items ++ integer c.args.asn.0 = c.in_ok-push_integer.ensures in
    let fields : c.push_element.new.out.items ≡ c.push_integer.new.out.items ++ element 48 c.deref.result.now = c.in_ok-push_element.ensures in
    rw (c.deref-2.ensures.value, fields, number, c.new-fields.ensures.items) (fields_short c.args.asn.0 c.deref.result.now short)
