-- Lemmas on texts that are gathered in pieces and written, until the drain fails.
use Rattle.web.proofs.Vocabulary.{◌≡◌, ℕ, Bool, true, false, List, [], ◌++◌, Result, Ok, Err, refl, sym, ap, subst, ◌∙◌, append_assoc, OnErr, OnOk, false≢true, append-nil, on-err, AppendsBeginning, Pieces, added_then, HasAdded}

-- there was room for the text
pub added-whole : {D : Type 0} (written : D → List ℕ) (fails : D → Bool) (a b : Pieces D) (text : List ℕ)
    → b.drain ≡ a.drain → b.has_failed ≡ a.has_failed → b.piece.bytes ≡ a.piece.bytes ++ text → HasAdded written fails a text b
added-whole written fails a b text same flag piece = record {
  same_drain = ap (λ d. d.ghost_name) same;
  out = [];
  more = b.piece.bytes;
  passed = ap (λ d. written d.now) same ∙ sym (append-nil (written a.drain.now));
  whole = sym piece;
  ended = λ had. (flag ∙ had, refl, ap (λ d. fails d.now) same);
  waits = λ still. refl;
  broke = λ still has. absurd (false≢true (sym still ∙ sym flag ∙ has));
}

-- once the drain has failed, what is added is lost
pub added-lost : {D : Type 0} (written : D → List ℕ) (fails : D → Bool) (a b : Pieces D) (text rest : List ℕ)
    → HasAdded written fails a text b → b.has_failed ≡ true → HasAdded written fails a (text ++ rest) b
added-lost written fails a b text rest added had = added_then written fails a b b text rest added (record {
  same_drain = refl;
  out = [];
  more = b.piece.bytes ++ rest;
  passed = sym (append-nil (written b.drain.now));
  whole = refl;
  ended = λ still. (still, refl, refl);
  waits = λ well. absurd (false≢true (sym well ∙ had));
  broke = λ well has. absurd (false≢true (sym well ∙ had));
})

-- sending adds nothing
pub added-sent : {D : Type 0} (written : D → List ℕ) (fails : D → Bool) (a b c : Pieces D) (text : List ℕ)
    → HasAdded written fails a text b → HasAdded written fails b [] c → HasAdded written fails a text c
added-sent written fails a b c text first second =
    subst (λ t. HasAdded written fails a t c) (append-nil text) (added_then written fails a b c text [] first second)

-- ---- a text, of which the opening waited first

pub AppendsBeginning-added : {D : Type 0} (written : D → List ℕ) (fails : D → Bool) (a b : Pieces D) (old opening text : List ℕ)
    → written a.drain.now ≡ old → a.piece.bytes ≡ opening → HasAdded written fails a text b
    → AppendsBeginning old (written b.drain.now) (opening ++ text)
AppendsBeginning-added written fails a b old opening text was begun added = (
  added.out,
  added.more,
  added.passed ∙ ap (λ o. o ++ added.out) was,
  ap (λ u. u ++ text) (sym begun) ∙ added.whole,
)

pub finished-ok : {D T E : Type 0} (written : D → List ℕ) (fails : D → Bool) (a b c : Pieces D) (old opening text : List ℕ) (r : Result T E)
    → written a.drain.now ≡ old → a.piece.bytes ≡ opening → HasAdded written fails a text b → HasAdded written fails b [] c
    → OnOk r ((c.has_failed ≡ false) × (c.piece.bytes ≡ [])) → OnOk r (written c.drain.now ≡ old ++ (opening ++ text))
finished-ok written fails a b c old opening text (Ok x) was begun first second done =
    let added = added-sent written fails a b c text first second in
    let all : opening ++ text ≡ added.out =
    ap (λ u. u ++ text) (sym begun) ∙ added.whole ∙ ap (λ m. added.out ++ m) (added.waits done.0 ∙ done.1) ∙ append-nil added.out in
    added.passed ∙ ap (λ o. o ++ added.out) was ∙ ap (λ u. old ++ u) (sym all)
finished-ok written fails a b c old opening text (Err e) was begun first second done = tt

pub finished-err : {D T E : Type 0} (written : D → List ℕ) (fails : D → Bool) (a b c : Pieces D) (old opening text : List ℕ) (r : Result T E)
    → written a.drain.now ≡ old → a.piece.bytes ≡ opening → HasAdded written fails a text b → HasAdded written fails b [] c
    → OnErr r (AppendsBeginning old (written c.drain.now) (opening ++ text))
finished-err written fails a b c old opening text r was begun first second =
    on-err r _ (AppendsBeginning-added written fails a c old opening text was begun (added-sent written fails a b c text first second))

-- ---- a text in three parts

pub closed-ok : {D T E : Type 0} (written : D → List ℕ) (fails : D → Bool) (a b c d : Pieces D) (old opening items closing : List ℕ) (r : Result T E)
    → written a.drain.now ≡ old → a.piece.bytes ≡ opening → HasAdded written fails a items b → HasAdded written fails b closing c
    → HasAdded written fails c [] d → OnOk r ((d.has_failed ≡ false) × (d.piece.bytes ≡ []))
    → OnOk r (written d.drain.now ≡ old ++ ((opening ++ items) ++ closing))
closed-ok written fails a b c d old opening items closing r was begun first second third done =
    rw (append_assoc opening items closing)
    (finished-ok written fails a c d old opening (items ++ closing) r was begun (added_then written fails a b c items closing first second) third done)

pub closed-err : {D T E : Type 0} (written : D → List ℕ) (fails : D → Bool) (a b c d : Pieces D) (old opening items closing : List ℕ) (r : Result T E)
    → written a.drain.now ≡ old → a.piece.bytes ≡ opening → HasAdded written fails a items b → HasAdded written fails b closing c
    → HasAdded written fails c [] d → OnErr r (AppendsBeginning old (written d.drain.now) ((opening ++ items) ++ closing))
closed-err written fails a b c d old opening items closing r was begun first second third =
    rw (append_assoc opening items closing)
    (finished-err written fails a c d old opening (items ++ closing) r was begun (added_then written fails a b c items closing first second) third)
