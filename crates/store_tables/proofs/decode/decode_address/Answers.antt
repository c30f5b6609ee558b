use Rattle.store_tables.proofs.ReadLemmas.{address_reads}
use Rattle.store_tables.proofs.decode.decode_address.Goals as goal

pub returns-in-Blob : goal.returns-in-Blob
returns-in-Blob c =
    rw c.in-Blob.is (address_reads c.in-Blob.bytes.now c.address_from_bytes.result c.address_from_bytes.ensures.some c.address_from_bytes.ensures.none)
