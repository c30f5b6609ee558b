use Rattle.csv_records.proofs.Vocabulary.{refl}
use Rattle.csv_records.proofs.imports.row_of.Goals as goal

pub returns : goal.returns
returns c =
    rw (
      c.row_of_parts.ensures,
      c.both-2.ensures,
      c.both-first_day.ensures,
      c.both-vrp.ensures,
      c.both.ensures,
      c.ok_or.ensures.value,
      c.ok_or-2.ensures.value,
      c.ok_or-3.ensures.value,
      c.ok_or-4.ensures.value,
      c.ok_or-5.ensures.value,
    ) refl
