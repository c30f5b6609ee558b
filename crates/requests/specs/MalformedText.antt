-- The text of the answer to a malformed request.
use Rattle.std.specs.Prelude.{ℕ, List, ◌++◌, codes, decimal, Option, Some, None}
use Rattle.requests.specs.declared.malformed.Malformed.{Malformed}

abbrev pub malformed_parts : ℕ → Option ℕ → List ℕ
malformed_parts number None = codes "{\"malformed\":" ++ decimal number ++ codes "}\n"
malformed_parts number (Some slurm) =
    codes "{\"malformed\":" ++ decimal number ++ codes ",\"slurm\":" ++ decimal slurm ++ codes "}\n"

-- the answer to a malformed request
abbrev pub malformed_text : Malformed → List ℕ
malformed_text malformed = malformed_parts malformed.number malformed.slurm
