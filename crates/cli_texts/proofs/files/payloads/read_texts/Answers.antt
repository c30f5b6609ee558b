use Rattle.cli_texts.proofs.Vocabulary.{refl}
use Rattle.cli_texts.proofs.RowLemmas.{faultless_payload, payload_length_fault}
use Rattle.cli_texts.proofs.files.payloads.read_texts.Goals as goal

pub returns-in-Some-read_max_length : goal.returns-in-Some-read_max_length
returns-in-Some-read_max_length c =
    let spells = (c.in-Ok.ensures.each c.in-Ok.prefix).0 refl in (
      rw (c.in-Some.ensures.exact, spells, c.in-Some-read_max_length.ensures.exact) refl,
      faultless_payload c.args.asn.now c.args.prefix.now c.args.max.now c.in-Some.asn.0 c.in-Some-read_max_length.max c.in-Ok.prefix
          c.in-Some.ensures.value spells c.in-Some-read_max_length.ensures.value,
    )

pub returns-in-None : goal.returns-in-None
returns-in-None c =
    payload_length_fault c.args.asn.now c.args.prefix.now c.args.max.now c.in-Some.asn.0 c.in-Ok.prefix
    c.in-Some.ensures.value ((c.in-Ok.ensures.each c.in-Ok.prefix).0 refl) c.in-None.ensures.value
