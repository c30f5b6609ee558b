-- The whole file: its two lists, and what BGPsec adds, of which there must be nothing.
use Rattle.slurm.proofs.Vocabulary.{◌≡◌, ◌==◌, false, length, List, [], ◌∷◌, Vec, Global, Some, Result, Ok, Err, refl, Vrp, both, mapped, items_view, slurm_fault_number, bgpsec_from, SlurmFault, Bgpsec, Filter}
use Rattle.serde_json.specs.declared.value.Value.{Value}

pub items-both : (filters : Result (Vec Filter Global) SlurmFault) (assertions : Result (Vec Vrp Global) SlurmFault) →
    mapped {B = List Filter × List Vrp} (λ lists. (lists.0.items, lists.1.items)) (both slurm_fault_number filters assertions)
    ≡ both slurm_fault_number (mapped (λ v. v.items) filters) (mapped (λ v. v.items) assertions)
items-both (Ok f) (Ok a) = refl
items-both (Ok f) (Err n) = refl
items-both (Err m) (Ok a) = refl
items-both (Err m) (Err n) = refl

-- an array that is not empty, where it has to be
pub bgpsec_from-full : (values : List Value) → false ≡ (length values == 0) → Err Bgpsec ≡ bgpsec_from (Some (items_view values))
bgpsec_from-full [] none = cc
bgpsec_from-full (v ∷ values) none = refl
