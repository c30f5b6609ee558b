use Rattle.desk.proofs.desk.Desk.open_from.Goals as goal

pub returns-clause-schema : goal.returns-clause-schema
returns-clause-schema g c honest same =
    c.in-Err.ensures.err.schema (honest c.in-Err.field-0-1) (let is = same in cc)
