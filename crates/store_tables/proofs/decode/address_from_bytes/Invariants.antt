use Rattle.store_tables.proofs.Vocabulary.{◌≡◌, ◌^◌, ◌<◌, take, bytes_high_first}
use Rattle.store_tables.proofs.decode.address_from_bytes.Given as goal

abbrev pub invariant-loop-byte : goal.invariant-loop-byte
invariant-loop-byte l = record {
  below : l.number < 256 ^ l.byte-index;
  read : bytes_high_first l.byte-index l.number ≡ take l.byte-index l.bytes;
}
