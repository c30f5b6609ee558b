-- Runs that go on by one request.
use Rattle.desk.proofs.Vocabulary.{◌≡◌, ℕ, Bool, false, ◌+◌, ◌<◌, ◌||◌, List, [], ◌∷◌, ◌++◌, length, get_or, take, refl, sym, ap, ◌∙◌, subst, list_any, or_parts, History, Charter, is_accepted, AnswersRequest, Ghosts, IsOnCleanDisk, RowsStay, Desk, may_change, may_change_any, may_except, may_except_any, OthersStay, Runs, Asked, Reply}
use Rattle.std.proofs.lemmas.List.Folds.{list_any-append, list_any_more}

-- one more request at the end
pub Runs-append : (charter : Charter) (before middle after : History) (asked : List Asked) (replies : List Reply) (a : Asked) (reply : Reply)
    → Runs charter before asked replies middle → AnswersRequest charter middle a.day a.caller a.request reply after
    → Runs charter before (asked ++ a ∷ []) (replies ++ reply ∷ []) after
Runs-append charter before middle after [] [] a reply runs answers =
    (after, subst (λ (h : History). AnswersRequest charter h a.day a.caller a.request reply after) runs answers, refl)
Runs-append charter before middle after [] (r ∷ replies) a reply runs answers = absurd runs
Runs-append charter before middle after (x ∷ asked) [] a reply runs answers = absurd runs
Runs-append charter before middle after (x ∷ asked) (r ∷ replies) a reply runs answers =
    (runs.0, runs.1, Runs-append charter runs.0 middle after asked replies a reply runs.2 answers)

-- one more reply that accepts nothing keeps the rows, where those before it accept nothing either
pub kept_more : {S : Type 0} (g : Ghosts S) (replies grown : List Reply) (reply : Reply) (start old new : Desk S)
    → grown ≡ replies ++ reply ∷ [] → (IsOnCleanDisk g new → IsOnCleanDisk g old)
    → (list_any is_accepted replies ≡ false → RowsStay g start old) → (is_accepted reply ≡ false → RowsStay g old new)
    → list_any is_accepted grown ≡ false → RowsStay g start new
kept_more g replies grown reply start old new pushed before first second none clean rows holds =
    let both : (list_any is_accepted replies || (is_accepted reply || false)) ≡ false = sym (list_any-append is_accepted replies (reply ∷ [])) ∙ ap (list_any is_accepted) (sym pushed) ∙ none in
    let parts = or_parts (list_any is_accepted replies) (is_accepted reply || false) both in
    second (or_parts (is_accepted reply) false parts.1).0 clean rows (first parts.0 (before clean) rows holds)

-- one more request leaves the rows of those that neither it nor those before it may change
pub others_more : {S : Type 0} (g : Ghosts S) (asked : List Asked) (index : ℕ) (a : Asked) (start old new : Desk S)
    → index < length asked → a ≡ get_or asked index a
    → OthersStay g (may_change_any (take index asked)) (may_except_any (take index asked)) start old
    → OthersStay g (may_change a.request) (may_except a.request) old new
    → OthersStay g (may_change_any (take (index + 1) asked)) (may_except_any (take (index + 1) asked)) start new
others_more g asked index a start old new below here first second rows holds =
    let one = first rows holds in
    let two = second one.0 one.1 in
    let more = λ (p : Asked → Bool). list_any_more p asked index a below ∙ ap (λ x. list_any p (take index asked) || p x) (sym here) in (
      two.0,
      two.1,
      λ h other.
          let parts = or_parts (may_change_any (take index asked) h) (may_change a.request h) (sym (more (λ x. may_change x.request h)) ∙ other) in
          two.2 h parts.1 ∙ one.2 h parts.0,
      λ other.
          let parts = or_parts (may_except_any (take index asked)) (may_except a.request) (sym (more (λ x. may_except x.request)) ∙ other) in
          two.3 parts.1 ∙ one.3 parts.0,
    )
