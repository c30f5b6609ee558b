use Rattle.csv_records.proofs.Vocabulary.{decimal, day_text, prefix_text}
use Rattle.csv_records.proofs.FieldLemmas.{line-parts}
use Rattle.csv_records.proofs.lines.entry_line.Goals as goal

pub returns : goal.returns
returns c =
    rw (
      c.push_str-6.ensures.bytes,
      c.push_str-5.ensures.bytes,
      c.push_str-4.ensures.bytes,
      c.push_str-3.ensures.bytes,
      c.push_str-2.ensures.bytes,
      c.push_vrp_fields.ensures.bytes,
      c.push_str.ensures.bytes,
      c.push_digits.ensures.bytes,
      c.as_str-2.ensures.value,
      c.as_str.ensures.value,
      c.day_text-2.ensures,
      c.day_text.ensures,
      c.from.ensures,
      c.new-text.ensures,
    ) (line-parts (decimal c.args.auth.now.number) (decimal c.args.auth.now.asn.0) (prefix_text c.args.entry.now.prefix) (decimal c.args.entry.now.max)
    (day_text c.args.auth.now.from) (day_text c.args.auth.now.until))
