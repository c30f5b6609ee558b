-- Rows that are put into a table, one after the other.
use Rattle.store_transactions.proofs.Vocabulary.{◌≡◌, ℕ, ◌+◌, ◌<◌, List, [], ◌∷◌, ◌++◌, map, take, get_or, length, refl, sym, ap, subst, ◌∙◌, append_assoc, IsPermutation, map-append, IsPermutation-append_comm, IsPermutation-append_left, IsPermutation-append_right, IsPermutation-refl, IsPermutation-trans, State, Row, contents, IsReady, PutsRows}
use Rattle.store_transactions.proofs.StatementLemmas.{taken_more}

module _ (tree : ℕ) where
  pub puts_none : (s : State) → IsReady s → PutsRows tree [] s s
  puts_none s ready = record {
    ready = ready;
    sound = λ sound. sound;
    edits = record { schema = refl; others = λ t is other. refl; rows = IsPermutation-refl _; whole = λ whole. whole };
  }

  -- rows that are put after others
  pub puts_then : (rows more : List Row) (a b c : State) → PutsRows tree rows a b → PutsRows tree more b c → PutsRows tree (rows ++ more) a c
  puts_then rows more a b c first second =
      let before = contents (a.now.trees tree) in
      let turned : IsPermutation (rows ++ more ++ before) (more ++ (rows ++ before)) =
      subst (IsPermutation (rows ++ more ++ before)) (append_assoc more rows before) (IsPermutation-append_left before _ _ (IsPermutation-append_comm rows more)) in
      record {
        ready = second.ready;
        sound = λ sound. second.sound (first.sound sound);
        edits = record {
          schema = second.edits.schema ∙ first.edits.schema;
          others = λ t is other. second.edits.others t is other ∙ first.edits.others t is other;
          rows = IsPermutation-trans _ _ _ turned (IsPermutation-trans _ _ _ (IsPermutation-append_right more _ _ first.edits.rows) second.edits.rows);
          whole = λ whole. second.edits.whole (first.edits.whole whole);
        };
      }

  -- one more step of a loop
  pub puts_along : {X : Type 0} (cells : X → Row) (xs : List X) (i : ℕ) (x : X) (a b c : State) → i < length xs → x ≡ get_or xs i x
      → PutsRows tree (map cells (take i xs)) a b → PutsRows tree (cells x ∷ []) b c → PutsRows tree (map cells (take (i + 1) xs)) a c
  puts_along cells xs i x a b c low is before put =
      let more = ap (map cells) (taken_more xs i x low is) ∙ map-append cells (take i xs) (x ∷ []) in
      subst (λ rows. PutsRows tree rows a c) (sym more) (puts_then (map cells (take i xs)) (cells x ∷ []) a b c before put)
