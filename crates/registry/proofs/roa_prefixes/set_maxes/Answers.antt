use Rattle.registry.proofs.Vocabulary.{arith, ◌≡◌, ℕ, zero, suc, ◌+◌, ◌<◌, ◌≤◌, min, List, [], ◌∷◌, length, take, get_or, slice_set, refl, sym, ap, ◌∙◌, with_maxes, RoaPrefix}
use Rattle.registry.proofs.Entries.{with_maxes-none}
use Rattle.registry.proofs.roa_prefixes.set_maxes.Goals as goal

-- the next maxLength is set
next_set : (i : ℕ) (ms : List ℕ) (es : List RoaPrefix) (d : RoaPrefix) → i < length ms → i < length es
    → slice_set (with_maxes (take i ms) es) i (record { prefix = (get_or (with_maxes (take i ms) es) i d).prefix; max = get_or ms i 0 })
    ≡ with_maxes (take (suc i) ms) es
next_set i [] es d below within = absurd (omega (arith, below))
next_set i (m ∷ ms) [] d below within = absurd (omega (arith, within))
next_set zero (m ∷ ms) (e ∷ es) d below within = ap (λ l. record e { max = m } ∷ l) (sym (with_maxes-none es))
next_set (suc i) (m ∷ ms) (e ∷ es) d below within = ap (λ l. record e { max = m } ∷ l) (next_set i ms es d (omega (arith, below)) (omega (arith, within)))

-- where one list ends, all are
all_set : (i : ℕ) (ms : List ℕ) (es : List RoaPrefix) → min (length es) (length ms) ≤ i → with_maxes (take i ms) es ≡ with_maxes ms es
all_set i ms [] ended = refl
all_set zero [] (e ∷ es) ended = refl
all_set zero (m ∷ ms) (e ∷ es) ended = absurd (omega (arith, ended))
all_set (suc i) [] (e ∷ es) ended = refl
all_set (suc i) (m ∷ ms) (e ∷ es) ended = ap (λ l. record e { max = m } ∷ l) (all_set i ms es (omega (arith, ended)))

pub loop-index-init : goal.loop-index-init
loop-index-init c = sym (with_maxes-none c.args.entries.now)

pub loop-index-preserved : goal.loop-index-preserved
loop-index-preserved c =
    let ms = c.args.maxes.now in
    let es = c.args.entries.now in
    let i = c.loop-index.index in
    let next : suc i ≡ i + 1 = omega arith in
    rw c.loop-index.invariant (next_set i ms es c.index-entries-index.result (omega arith) (omega arith) ∙ ap (λ n. with_maxes (take n ms) es) next)

pub returns : goal.returns
returns c = c.loop-index.invariant ∙ all_set c.loop-index.index c.args.maxes.now c.args.entries.now (omega arith)
