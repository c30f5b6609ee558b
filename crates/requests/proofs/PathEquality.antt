-- The derived `==` of paths tests equality.
use Rattle.requests.proofs.Vocabulary.{◌≡◌, true, refl, subst, TestsEquality, Path}
use Rattle.requests.specs.contracts.path.PathPartialEq.TheImpl as path_eq
use Rattle.requests.specs.declared.path.Path.TheVariants.{Holder, Delegations, Reclaims, Transfers, Grants, Grant, Auths, Auth, Content, Export, Imports, WhatIf, Slurm, Slurms, Payloads, Validity}

path_itself : (p : Path) → path_eq.ghosts.eq p p ≡ true
path_itself Holder = refl
path_itself Delegations = refl
path_itself Reclaims = refl
path_itself Transfers = refl
path_itself Grants = refl
path_itself Grant = refl
path_itself Auths = refl
path_itself Auth = refl
path_itself Content = refl
path_itself Export = refl
path_itself Imports = refl
path_itself WhatIf = refl
path_itself Slurm = refl
path_itself Slurms = refl
path_itself Payloads = refl
path_itself Validity = refl

same_path : (p q : Path) → path_eq.ghosts.eq p q ≡ true → p ≡ q
same_path Holder Holder is = refl
same_path Delegations Delegations is = refl
same_path Reclaims Reclaims is = refl
same_path Transfers Transfers is = refl
same_path Grants Grants is = refl
same_path Grant Grant is = refl
same_path Auths Auths is = refl
same_path Auth Auth is = refl
same_path Content Content is = refl
same_path Export Export is = refl
same_path Imports Imports is = refl
same_path WhatIf WhatIf is = refl
same_path Slurm Slurm is = refl
same_path Slurms Slurms is = refl
same_path Payloads Payloads is = refl
same_path Validity Validity is = refl
same_path _ _ is = absurd cc

pub path_equality : TestsEquality path_eq.ghosts.eq
path_equality p q = (same_path p q, λ is. subst (λ (r : Path). path_eq.ghosts.eq p r ≡ true) is (path_itself p))
