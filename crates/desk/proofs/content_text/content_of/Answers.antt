use Rattle.desk.proofs.Vocabulary.{◌∙◌}
use Rattle.desk.proofs.ContentLemmas.{content_found}
use Rattle.desk.proofs.content_text.content_of.Goals as goal

pub returns-clause-some : goal.returns-clause-some
returns-clause-some c =
    rw c.ok.ensures.value (content_found c.args.auth.now c.in_ok-entries.entries.items c.make.result (record { number = c.as_slice.ensures.number; rising = c.as_slice.ensures.rising })
    (c.in_ok-entries.ensures.items_if_clones_equal (λ x y same. same) ∙ c.as_slice.ensures.items) c.make.ensures.asn c.make.ensures.same_entries c.make.ensures.content c.make.ensures.fault).0

pub returns-clause-value : goal.returns-clause-value
returns-clause-value c =
    rw c.ok.ensures.value (content_found c.args.auth.now c.in_ok-entries.entries.items c.make.result (record { number = c.as_slice.ensures.number; rising = c.as_slice.ensures.rising })
    (c.in_ok-entries.ensures.items_if_clones_equal (λ x y same. same) ∙ c.as_slice.ensures.items) c.make.ensures.asn c.make.ensures.same_entries c.make.ensures.content c.make.ensures.fault).1
