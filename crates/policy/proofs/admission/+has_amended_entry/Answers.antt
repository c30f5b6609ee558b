use Rattle.policy.proofs.Vocabulary.{◌≡◌, ℕ, ◌<◌, List, [], ◌∷◌, length, sym, ◌∙◌, ap, arith, list_any, RoaPrefix, with_maxes, is_entry, with_maxes-none}
use Rattle.policy.proofs.admission.+has_amended_entry.Goals as goal

-- no maxLengths leave the entries as they are
unchanged : (ms : List ℕ) (es : List RoaPrefix) → length ms < 1 → with_maxes ms es ≡ es
unchanged [] es none = with_maxes-none es
unchanged (m ∷ ms) es none = absurd (omega (arith, none))

pub returns-in-empty : goal.returns-in-empty
returns-in-empty t c =
    let a = c.args in
    let same = unchanged a.maxes.now a.entries.now c.in-empty.len_below in
    c.has_entry.ensures ∙ ap (list_any (is_entry a.entry.now.prefix a.entry.now.max)) (sym same)
