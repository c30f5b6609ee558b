use Rattle.desk_files.proofs.Vocabulary.{image_of, Store}
use Rattle.desk_files.proofs.RefusedFileLemmas.{refused_keeps, refuses_no_legal, resumes_left}
use Rattle.desk_files.proofs.file.open_files.Goals as goal

pub returns-in-Ok-open_over-clause-continued : goal.returns-in-Ok-open_over-clause-continued
returns-in-Ok-open_over-clause-continued g c clean =
    c.in-Ok-open_over.ensures.continued clean (image_of g.D.Disk c.args.files) c.in-Ok.ensures.over

pub returns-in-Ok-open_over-clause-resumed : goal.returns-in-Ok-open_over-clause-resumed
returns-in-Ok-open_over-clause-resumed g c clean =
    c.in-Ok-open_over.ensures.resumed clean (image_of g.D.Disk c.args.files) c.in-Ok.ensures.over

pub returns-in-Ok-open_over-clause-resumed_left : goal.returns-in-Ok-open_over-clause-resumed_left
returns-in-Ok-open_over-clause-resumed_left g c clean =
    resumes_left g.D.Disk g.met.D.Disk.seen_may_stay c.args.files c.in-Ok-open_over.desk
    (c.in-Ok-open_over.ensures.resumed clean (image_of g.D.Disk c.args.files) c.in-Ok.ensures.over)

pub returns-in-Ok-open_over-clause-opened : goal.returns-in-Ok-open_over-clause-opened
returns-in-Ok-open_over-clause-opened g c clean =
    (c.in-Ok.conn, c.in-Ok.ensures.over, c.in-Ok-open_over.ensures.opened clean)

pub returns-in-Err-open_over-clause-err : goal.returns-in-Err-open_over-clause-err
returns-in-Err-open_over-clause-err g c =
    c.in-Err-open_over.ensures.err (image_of g.D.Disk c.args.files) c.in-Ok.ensures.over

pub returns-in-Err-open_over-clause-not_schema : goal.returns-in-Err-open_over-clause-not_schema
returns-in-Err-open_over-clause-not_schema g c =
    c.in-Err-open_over.ensures.not_schema (image_of g.D.Disk c.args.files) c.in-Ok.ensures.over

pub returns-in-Err-open_over-clause-no_legal : goal.returns-in-Err-open_over-clause-no_legal
returns-in-Err-open_over-clause-no_legal g c =
    refuses_no_legal g.D.Disk g.met.D.Disk.seen_may_stay c.args.files (Store c.in-Err-open_over.fault c.in-Err-open_over.files)
    (c.in-Err-open_over.ensures.not_schema (image_of g.D.Disk c.args.files) c.in-Ok.ensures.over)

pub returns-in-Err-open_over-clause-left : goal.returns-in-Err-open_over-clause-left
returns-in-Err-open_over-clause-left g c clean = (
  c.in-Ok.ensures.clean (c.in-Err-open_over.ensures.given_clean clean),
  refused_keeps g.D.Disk g.met.D.Disk.seen_may_stay c.args.files c.in-Err-open_over.fault c.in-Err-open_over.files
      (c.in-Err-open_over.ensures.err (image_of g.D.Disk c.args.files) c.in-Ok.ensures.over) clean,
)
