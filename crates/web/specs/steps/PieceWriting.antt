-- Texts that are gathered in pieces and written, until the drain fails.
use Rattle.std.specs.Prelude.{◌≡◌, ℕ, Bool, true, false, List, [], ◌++◌}
use Rattle.std.proofs.Common.{sym, ap, refl, ◌∙◌, append_assoc}
use Rattle.std.proofs.lemmas.Bool.{false≢true}
use Rattle.std.proofs.lemmas.List.{append-nil}
use Rattle.web.specs.declared.pieces.Pieces.{Pieces}

-- Of what waited and the text, a beginning was written since, and the rest waits, unless the drain failed.
pub record HasAdded {D : Type 0} (written : D → List ℕ) (fails : D → Bool) (a : Pieces D) (text : List ℕ) (b : Pieces D) : Type 0 where
  pub same_drain : b.drain.ghost_name ≡ a.drain.ghost_name
  pub out : List ℕ
  pub more : List ℕ
  pub passed : written b.drain.now ≡ written a.drain.now ++ out
  pub whole : a.piece.bytes ++ text ≡ out ++ more
  pub ended : a.has_failed ≡ true → (b.has_failed ≡ true) × (out ≡ [])
      × (fails b.drain.now ≡ fails a.drain.now)
  pub waits : b.has_failed ≡ false → more ≡ b.piece.bytes
  pub broke : a.has_failed ≡ false → b.has_failed ≡ true → fails b.drain.now ≡ true

pub added_none : {D : Type 0} (written : D → List ℕ) (fails : D → Bool) (a : Pieces D) → HasAdded written fails a [] a
added_none written fails a = record {
  same_drain = refl;
  out = [];
  more = a.piece.bytes;
  passed = sym (append-nil (written a.drain.now));
  whole = append-nil a.piece.bytes;
  ended = λ had. (had, refl, refl);
  waits = λ well. refl;
  broke = λ well has. absurd (false≢true (sym well ∙ has));
}

-- what was written and what is left of two texts, where the first was whole or the second wrote nothing
add_after : {D : Type 0} (written : D → List ℕ) (fails : D → Bool) (a b c : Pieces D) (t u : List ℕ) (has : Bool)
    → b.has_failed ≡ has → HasAdded written fails a t b → HasAdded written fails b u c → HasAdded written fails a (t ++ u) c
add_after written fails a b c t u true is first second = record {
  same_drain = second.same_drain ∙ first.same_drain;
  out = first.out;
  more = first.more ++ u;
  passed =
      second.passed ∙ ap (λ o. written b.drain.now ++ o) (second.ended is).1
      ∙ append-nil (written b.drain.now) ∙ first.passed;
  whole =
      sym (append_assoc a.piece.bytes t u) ∙ ap (λ o. o ++ u) first.whole
      ∙ append_assoc first.out first.more u;
  ended = λ had. ((second.ended is).0, (first.ended had).1, (second.ended is).2 ∙ (first.ended had).2);
  waits = λ well. absurd (false≢true (sym well ∙ (second.ended is).0));
  broke = λ well has. (second.ended is).2 ∙ first.broke well is;
}
add_after written fails a b c t u false is first second = record {
  same_drain = second.same_drain ∙ first.same_drain;
  out = first.out ++ second.out;
  more = second.more;
  passed =
      second.passed ∙ ap (λ o. o ++ second.out) first.passed
      ∙ append_assoc (written a.drain.now) first.out second.out;
  whole =
      sym (append_assoc a.piece.bytes t u) ∙ ap (λ o. o ++ u) first.whole
      ∙ ap (λ m. (first.out ++ m) ++ u) (first.waits is)
      ∙ append_assoc first.out b.piece.bytes u
      ∙ ap (λ o. first.out ++ o) second.whole
      ∙ sym (append_assoc first.out second.out second.more);
  ended = λ had. absurd (false≢true (sym is ∙ (first.ended had).0));
  waits = second.waits;
  broke = λ well. second.broke is;
}

pub added_then : {D : Type 0} (written : D → List ℕ) (fails : D → Bool) (a b c : Pieces D) (t u : List ℕ)
    → HasAdded written fails a t b → HasAdded written fails b u c → HasAdded written fails a (t ++ u) c
added_then written fails a b c t u first second = add_after written fails a b c t u b.has_failed refl first second
