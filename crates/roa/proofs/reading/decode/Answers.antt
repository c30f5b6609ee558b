use Rattle.roa.proofs.Vocabulary.{arith, err_from_is_err_and}
use Rattle.roa.proofs.Octets.{AreOctets-from_index}
use Rattle.roa.proofs.Contents.{was_read}
use Rattle.roa.proofs.Decoding.{is_memory, is_encoded, is_decoded}
use Rattle.roa.proofs.reading.decode.Goals as goal

pub returns-in_err-asn-clause-only : goal.returns-in_err-asn-clause-only
returns-in_err-asn-clause-only c = λ content is encodes.
    let p = err_from_is_err_and c.from_residual.result c.from_residual.ensures.1 in
    rw (p.1, p.2) (is_memory c.in_err-asn.field-0.0 c.args.octets.now c.in_err-asn.ensures content is encodes)

pub from_rising-requires-clause-few : goal.from_rising-requires-clause-few
from_rising-requires-clause-few c =
    (was_read (record { asn = c.in_ok-asn.asn; entries = c.in_ok-asn.entries.items }) c.args.octets.now (AreOctets-from_index c.args.octets.now (λ i. omega (arith, c.type_inv.octets i))) c.in_ok-asn.ensures).few

pub from_rising-requires-clause-in_range : goal.from_rising-requires-clause-in_range
from_rising-requires-clause-in_range c =
    (was_read (record { asn = c.in_ok-asn.asn; entries = c.in_ok-asn.entries.items }) c.args.octets.now (AreOctets-from_index c.args.octets.now (λ i. omega (arith, c.type_inv.octets i))) c.in_ok-asn.ensures).in_range

pub returns-clause-encodes : goal.returns-clause-encodes
returns-clause-encodes c =
    let read = was_read (record { asn = c.in_ok-asn.asn; entries = c.in_ok-asn.entries.items }) c.args.octets.now (AreOctets-from_index c.args.octets.now (λ i. omega (arith, c.type_inv.octets i))) c.in_ok-asn.ensures in
    rw c.ok_or.ensures.value (is_encoded c.from_rising.result c.in_ok-asn.asn c.in_ok-asn.entries.items c.args.octets.now c.from_rising.ensures.some c.from_rising.ensures.content read)

pub returns-clause-only : goal.returns-clause-only
returns-clause-only c = λ content is encodes.
    rw c.ok_or.ensures.value (is_decoded c.from_rising.result c.in_ok-asn.asn c.in_ok-asn.entries.items c.args.octets.now c.from_rising.ensures.some c.from_rising.ensures.none c.in_ok-asn.ensures content is encodes)
