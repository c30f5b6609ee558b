-- A trail of any bytes can be made from nothing, since its bytes are there for proofs alone.
use Rattle.streams.proofs.Vocabulary.{List, [], ◌∷◌, refl, ◌$◌, ◌∵◌, !, qed, fjoin, fpack, feq_i, done, Valss, nothing, the_row}
use seplogic.Ra.Ura.{Ura}
use mir.Val.{Val, vstruct, vnil}
use base.Logic.{ent, emp}
use types.Logic.{Logic, sem}
use denote.Struct.Struct.{within}

-- how the machine holds it: a struct without fields
abbrev pub held : Val
held = vstruct vnil

pub trail_made : {M : Type 1} {𝓤 : Ura M} (𝓛 : Logic 𝓤) (trail : the_row.Denot) → ent 𝓤 (emp 𝓤) (sem 𝓛 (the_row.own_val trail (held ∷ [])))
trail_made 𝓛 trail =
    qed 𝓛 [] ∵
    nothing ! $ nothing ! $ feq_i ! (List Val) (held ∷ []) (held ∷ []) refl $ fjoin ! $
    fpack ! (Valss []) (within (record { name = []; args = []; types = []; fields = [] }) tt (held ∷ [])) tt $
    fjoin ! $ done !
