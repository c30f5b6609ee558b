use Rattle.store.proofs.Vocabulary.{FilesFit, AreFilesOf}
use Rattle.store.proofs.StoreLemmas.{found_held, refused_held}
use Rattle.store.proofs.store.Store.slurm_files.Goals as goal

pub returns-clause-found : goal.returns-clause-found
returns-clause-found g c clean = found_held g.S.Store c.self.view_is c.load_files.ensures.asked clean (λ files rows. AreFilesOf rows.files files.items) (c.load_files.ensures.found clean)

pub returns-clause-schema : goal.returns-clause-schema
returns-clause-schema g c clean refused = refused_held g.S.Store c.self.view_is c.load_files.ensures.asked clean (λ rows. ¬ FilesFit rows.files) (c.load_files.ensures.schema clean refused)
