use Rattle.csv_records.proofs.Vocabulary.{false, true, sym, ◌∙◌, arith, not-true, not-false, length-map, field-there, fields_of, texts_of}
use Rattle.csv_records.proofs.FieldLemmas.{fields_eq-length, texts-next}
use Rattle.csv_records.proofs.fields.are_fields.Goals as goal

pub returns-then-len-texts : goal.returns-then-len-texts
returns-then-len-texts c =
    fields_eq-length (fields_of c.args.row.now) (texts_of c.args.texts.now)
    (λ e. c.if-len-texts.true (c.len.ensures ∙ e ∙ length-map c.args.texts.now (λ text. text.now)))

pub returns-in_default : goal.returns-in_default
returns-in_default c =
    let count = c.len.ensures in
    let same = c.if-len-texts.false in
    let within = c.loop-place-test.true in
    absurd (field-there (fields_of c.args.row.now) c.loop-place.place (omega arith) (sym c.in_default.ensures.value))

pub returns-then-ne : goal.returns-then-ne
returns-then-ne c =
    sym (c.loop-place.invariant.rest
    ∙ texts-next (fields_of c.args.row.now) c.args.texts.now c.loop-place.place c.in-Some.field.now c.as_bytes.result.now _ false
    c.in-Some.ensures.value c.loop-place-test.true c.as_bytes.ensures.value (not-true _ (sym c.if-ne.ensures)))

pub loop-place-preserved : goal.loop-place-preserved
loop-place-preserved c =
    let within = c.loop-place-test.true in
    record {
      inside = omega arith;
      rest =
          c.loop-place.invariant.rest
          ∙ texts-next (fields_of c.args.row.now) c.args.texts.now c.loop-place.place c.in-Some.field.now c.as_bytes.result.now _ true
          c.in-Some.ensures.value c.loop-place-test.true c.as_bytes.ensures.value (not-false _ (sym c.if-ne.ensures));
    }
