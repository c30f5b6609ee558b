use Rattle.store_tables.proofs.Vocabulary.{[], ◌∷◌, arith, sym, subst, ⊤, prefix_cells, Decodes}
use Rattle.store_tables.proofs.ReadLemmas.{prefix_reads}
use Rattle.store_tables.proofs.decode.decode_prefix.Goals as goal

pub returns : goal.returns
returns c =
    subst (λ shown. Decodes prefix_cells (λ _. ⊤) shown c.from_parts.result)
    (sym (λ i. c.in_ok-family.ensures.1 i ∷ c.in_ok-first.ensures.1 i ∷ c.in_ok-length.ensures.1 i ∷ []))
    (prefix_reads c.from_parts.result c.in_ok-family.family c.in_ok-first.first c.in_ok-length.length (omega arith) c.from_parts.ensures.some c.from_parts.ensures.parts)
