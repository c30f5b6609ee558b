-- Runs of addresses that cover each prefix of a list of entries have the addresses of the entries, and the other way round.
use Rattle.policy.proofs.Vocabulary.{◌≡◌, true, List, [], ◌∷◌, inl, inr, refl, list_all, list_any, and_from, and_parts, false≢true, or_cases, or_left, or_right, Address, has_address, AreMaximal, span_covers, spans_have, Span, RoaPrefix, entries_have}
use Rattle.addr.proofs.SpanLemmas.{covered_has, had_covered}

pub covered_have : (spans : List Span) (es : List RoaPrefix) (a : Address) → list_all (λ e. list_any (λ s. span_covers s e.prefix) spans) es ≡ true
    → entries_have es a ≡ true → spans_have spans a ≡ true
covered_have spans [] a covered has = absurd (false≢true has)
covered_have spans (e ∷ es) a covered has =
    let both = and_parts (list_any (λ s. span_covers s e.prefix) spans) (list_all (λ d. list_any (λ s. span_covers s d.prefix) spans) es) covered in
    elim (or_cases (has_address e.prefix a) (entries_have es a) has) [
      | inl here ↦ covered_has spans e.prefix both.0 a here
      | inr later ↦ covered_have spans es a both.1 later
    ]

pub have_covered : (spans : List Span) (es : List RoaPrefix) → AreMaximal spans → ((a : Address) → entries_have es a ≡ true → spans_have spans a ≡ true)
    → list_all (λ e. list_any (λ s. span_covers s e.prefix) spans) es ≡ true
have_covered spans [] maximal all = refl
have_covered spans (e ∷ es) maximal all =
    and_from _ _ (had_covered spans e.prefix maximal (λ a here. all a (or_left (has_address e.prefix a) (entries_have es a) here)))
    (have_covered spans es maximal (λ a later. all a (or_right (has_address e.prefix a) (entries_have es a) later)))
