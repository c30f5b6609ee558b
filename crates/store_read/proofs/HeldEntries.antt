-- Whether every address of entries is held, entry by entry.
use Rattle.store_read.proofs.Vocabulary.{◌≡◌, inl, inr, ◌↔◌, ℕ, ◌+◌, ◌<◌, List, [], ◌∷◌, drop, length, get_or, sym, ap, subst, ◌∙◌, or_cases, or_left, or_right, false≢true, drop_more, has_address, HaveAll, Span, RoaPrefix, entries_have, AreHeld}

pub none_to_hold : (spans : List Span) → AreHeld spans []
none_to_hold spans a has = absurd (false≢true has)

held_more : (spans : List Span) (e : RoaPrefix) (es : List RoaPrefix) → AreHeld spans (e ∷ es) ↔ (HaveAll spans e.prefix × AreHeld spans es)
held_more spans e es = (
  λ all. (λ a here. all a (or_left _ (entries_have es a) here), λ a later. all a (or_right (has_address e.prefix a) _ later)),
  λ both a has. elim (or_cases (has_address e.prefix a) (entries_have es a) has) [ inl here ↦ both.0 a here | inr later ↦ both.1 a later ],
)

-- in a loop: the entries from here on are this one and those after it
pub held_from : (spans : List Span) (es : List RoaPrefix) (i : ℕ) (e : RoaPrefix) → i < length es → e ≡ get_or es i e
    → AreHeld spans (drop i es) ↔ (HaveAll spans e.prefix × AreHeld spans (drop (i + 1) es))
held_from spans es i e low is =
    subst (λ l. AreHeld spans l ↔ (HaveAll spans e.prefix × AreHeld spans (drop (i + 1) es))) (sym (drop_more es i e low ∙ ap (λ d. d ∷ drop (i + 1) es) (sym is)))
    (held_more spans e (drop (i + 1) es))
