-- The paths, and what their methods ask for by the table of requests. A path's parameters are in braces.
use Rattle.std.specs.Prelude.{ℕ, ◌&&◌, Bool, List, [], ◌∷◌, codes, Option, is_some, find}
use Rattle.std.specs.Str.{bytes_eq}
use Rattle.http_messages.specs.Methods.{method_name}
use Rattle.http_messages.specs.declared.method.Methods.{Methods}
use Rattle.http_messages.specs.declared.method.Method.TheVariants as method
use Rattle.requests.specs.RequestFaults.{RequestForm, all_actions, form_of}
use Rattle.requests.specs.contracts.path.PathPartialEq.TheImpl as path_eq
use Rattle.requests.specs.declared.action.Action.{Action}
use Rattle.requests.specs.declared.path.Path.{Path}
use Rattle.requests.specs.declared.path.Path.TheVariants.{Holder, Delegations, Reclaims, Transfers, Grants, Grant, Auths, Auth, Content, Export, Imports, WhatIf, Slurm, Slurms, Payloads, Validity}

-- all paths, each with its template
abbrev pub all_paths : List (List ℕ × Path)
all_paths =
    (codes "/holders/{holder}", Holder)
    ∷ (codes "/holders/{holder}/delegations", Delegations)
    ∷ (codes "/holders/{holder}/reclaims", Reclaims)
    ∷ (codes "/transfers", Transfers)
    ∷ (codes "/holders/{holder}/grants", Grants)
    ∷ (codes "/holders/{holder}/grants/{number}", Grant)
    ∷ (codes "/holders/{holder}/auths", Auths)
    ∷ (codes "/holders/{holder}/auths/{number}", Auth)
    ∷ (codes "/holders/{holder}/auths/{number}/content", Content)
    ∷ (codes "/holders/{holder}/export", Export)
    ∷ (codes "/holders/{holder}/imports", Imports)
    ∷ (codes "/holders/{holder}/whatif", WhatIf)
    ∷ (codes "/slurm", Slurm)
    ∷ (codes "/slurms", Slurms)
    ∷ (codes "/payloads", Payloads)
    ∷ (codes "/validity", Validity)
    ∷ []

-- the method of this name asks for it at the path
abbrev pub is_asked_by : List ℕ → Path → RequestForm → Bool
is_asked_by name path form = path_eq.ghosts.eq form.path path && bytes_eq (method_name form.method) name

-- what the method of this name asks for at a path
abbrev pub action_at : List ℕ → Path → Option Action
action_at name path = find (λ action. is_asked_by name path (form_of action)) all_actions

-- the methods by which a path asks for something
abbrev pub methods_of : Path → Methods
methods_of path = record {
  get = is_some (action_at (method_name method.Get) path);
  put = is_some (action_at (method_name method.Put) path);
  post = is_some (action_at (method_name method.Post) path);
  patch = is_some (action_at (method_name method.Patch) path);
  delete = is_some (action_at (method_name method.Delete) path);
}
