use Rattle.store_tables.proofs.Vocabulary.{[], ◌∷◌, arith, sym, subst, ⊤, span_cells, Decodes}
use Rattle.store_tables.proofs.ReadLemmas.{span_reads}
use Rattle.store_tables.proofs.decode.decode_span.Goals as goal

pub returns : goal.returns
returns c =
    subst (λ shown. Decodes span_cells (λ _. ⊤) shown c.from_parts.result)
    (sym (λ i. c.in_ok-family.ensures.1 i ∷ c.in_ok-lo.ensures.1 i ∷ c.in_ok-hi.ensures.1 i ∷ []))
    (span_reads c.from_parts.result c.in_ok-family.family c.in_ok-lo.lo c.in_ok-hi.hi (omega arith) (omega arith) c.from_parts.ensures.some c.from_parts.ensures.parts)
