-- The words of a slice pattern, and the forms that its literals test.
use Rattle.cli_texts.proofs.Vocabulary.{◌≡◌, ◌≢◌, ◌<◌, ◌≤◌, ◌∙◌, ◌+◌, ℕ, zero, suc, List, [], ◌∷◌, length, map, slice_index_or, codes, refl, ap, sym, arith, length-map, Bor, Err}
use Rattle.std.proofs.Math.ListN.{get_or-map}
use Rattle.cli_texts.specs.Words.{AreOf, AreReadAs, LackDay, serve_words}
use Rattle.cli_texts.specs.declared.words.Task.{Task}
use Rattle.cli_texts.specs.declared.words.Task.TheVariants.{Script, Init, Serve, Check, Help}
use Rattle.cli_texts.specs.declared.words.WordsFault.TheVariants.{Words}

abbrev pub texts : List (Bor (List ℕ)) → List (List ℕ)
texts ws = map (λ word. word.now) ws

-- as a pattern of the code reads its words
abbrev pub word : List (Bor (List ℕ)) → ℕ → List ℕ
word ws i = (slice_index_or ws i (record { ref_ptr = (0, 0); now = [] })).now

-- the first n of some texts
abbrev first : ℕ → (ℕ → List ℕ) → List (List ℕ)
first zero text = []
first (suc n) text = text 0 ∷ first n (λ i. text (suc i))

all_words : (ws : List (Bor (List ℕ))) → texts ws ≡ first (length ws) (word ws)
all_words [] = refl
all_words (w ∷ ws) = ap (λ texts. w.now ∷ texts) (all_words ws)

are_words : (n : ℕ) (ws : List (Bor (List ℕ))) → n ≤ length ws → length ws < n + 1 → texts ws ≡ first n (word ws)
are_words n ws e f = let long : length ws ≡ n = omega arith in rw long at (all_words ws)

pub of_init : (ws : List (Bor (List ℕ))) → 5 ≤ length ws → length ws < 6
    → word ws 0 ≡ codes "init" → word ws 1 ≡ codes "--db" → word ws 3 ≡ codes "--charter"
    → texts ws ≡ codes "init" ∷ codes "--db" ∷ word ws 2 ∷ codes "--charter" ∷ word ws 4 ∷ []
of_init ws e f task db charter = let are = are_words 5 ws e f in cc

pub of_serve : (ws : List (Bor (List ℕ))) → 9 ≤ length ws → length ws < 10
    → word ws 0 ≡ codes "serve" → word ws 1 ≡ codes "--db" → word ws 3 ≡ codes "--listen"
    → word ws 5 ≡ codes "--count" → word ws 7 ≡ codes "--day"
    → texts ws ≡ serve_words (word ws 2) (word ws 4) (word ws 6) (word ws 8)
of_serve ws e f task db listen count day = let are = are_words 9 ws e f in cc

-- each form is missed by the number of the words or by one of its literals
pub record FitNone (ws : List (Bor (List ℕ))) : Type 0 where
  pub script : length ws ≡ 3 → word ws 0 ≡ codes "script" → word ws 1 ≢ codes "--charter"
  pub init : length ws ≡ 5 → word ws 0 ≡ codes "init" → word ws 1 ≡ codes "--db" → word ws 3 ≢ codes "--charter"
  pub serve : length ws ≡ 9 → word ws 0 ≡ codes "serve" → word ws 1 ≡ codes "--db" → word ws 3 ≡ codes "--listen"
      → word ws 5 ≡ codes "--count" → word ws 7 ≢ codes "--day"
  pub check : length ws ≡ 3 → word ws 0 ≢ codes "check"
  pub help : length ws ≡ 1 → word ws 0 ≢ codes "help"

module _ (ws : List (Bor (List ℕ))) (xs : List (List ℕ)) (are : texts ws ≡ xs) where
  long : length ws ≡ length xs
  long = sym (length-map ws (λ word. word.now)) ∙ ap length are

  at : (i : ℕ) → word ws i ≡ slice_index_or xs i []
  at i = sym (get_or-map (λ word. word.now) ws i (record { ref_ptr = (0, 0); now = [] })) ∙ ap (λ texts. slice_index_or texts i []) are

module _ (ws : List (Bor (List ℕ))) (none : FitNone ws) where
  not_serve : (database address n d : List ℕ) → texts ws ≢ serve_words database address n d
  not_serve database address n d e = none.serve (long ws _ e) (at ws _ e 0) (at ws _ e 1) (at ws _ e 3) (at ws _ e 5) (at ws _ e 7)

  no_task : (task : Task) → ¬ AreOf (texts ws) task
  no_task (Script charter) e = none.script (long ws _ e) (at ws _ e 0) (at ws _ e 1)
  no_task (Init database charter) e = none.init (long ws _ e) (at ws _ e 0) (at ws _ e 1) (at ws _ e 3)
  no_task (Serve database address count day) (n, d, e, _, _) = not_serve _ _ n d e
  no_task (Check payloads routes) e = none.check (long ws _ e) (at ws _ e 0)
  no_task Help e = none.help (long ws _ e) (at ws _ e 0)

  not_lacking : ¬ LackDay (texts ws)
  not_lacking (database, address, n, d, e, _, _) = not_serve database address n d e

  pub of_none : AreReadAs (texts ws) (Err Words)
  of_none = (no_task, not_lacking)
