-- What a desk has after a crash, and after lives with a crash after each.
use Rattle.desk_files.proofs.Vocabulary.{All, ◌≡◌, ℕ, ◌+◌, ◌<◌, IsTrue, List, [], ◌∷◌, ◌++◌, length, get_or, map, take, inl, inr, refl, sym, ap, ◌∙◌, subst, Held, state, IsQuiet, Charter, History, Asked, pending_after_all, AreDurablyAnswered, LeavesAtMost, MayBeLeft, charter_of, HoldsHistory, Represents, FindsLeft, IsAtMostOneMore, PendingFits, ResumesHistories, Desk, left_found, pending_after_all_fits, HoldsLegal, LeavesLegal, LeavesLives, Lives, LivesOn, ResumesAfter, StoreLeavesAtMost}
use Rattle.std.specs.Borrow.{Bor}
use Rattle.std.specs.Global.{Vec}
use Rattle.std.proofs.lemmas.List.{map-append, take-map, take_more}
use Rattle.std.proofs.lemmas.List.Elements.{All-nil}
use Rattle.sqlite.specs.Store.{Ghosts}
use Rattle.registry.specs.Values.{AskedFits}
use Rattle.registry.specs.Verdict.{IsLegal}
use Rattle.desk.specs.Run.{Runs}
use Rattle.desk.specs.declared.reply.Reply.{Reply}

abbrev requests : Bor (List Asked) → List Asked
requests asked = asked.now

abbrev items : Vec Reply → List Reply
items list = list.items

-- one more life at the end
Lives-append : (charter : Charter) (before middle left next : History) (lives : List (List Asked)) (replies : List (List Reply))
    (asked : List Asked) (list : List Reply)
    → Lives charter before lives replies middle → Runs charter middle asked list left
    → IsAtMostOneMore charter left (pending_after_all asked list []) next
    → Lives charter before (lives ++ asked ∷ []) (replies ++ list ∷ []) next
Lives-append charter before middle left next [] [] asked list lived runs more =
    (left, next, subst (λ (h : History). Runs charter h asked list left) lived runs, more, refl)
Lives-append charter before middle left next [] (r ∷ replies) asked list lived runs more = absurd lived
Lives-append charter before middle left next (a ∷ lives) [] asked list lived runs more = absurd lived
Lives-append charter before middle left next (a ∷ lives) (r ∷ replies) asked list (then, at, ran, one, lived) runs more =
    (then, at, ran, one, Lives-append charter at middle left next lives replies asked list lived runs more)

module _ {S : Type 0} (g : Ghosts S) where
  -- The desk before the crash was given back as a store, the store crashed and was opened again, and the connection over it
  -- shows what the crash left.
  module _ (desk : Desk S) (closed : Held S) (back fresh : S) (conn : Held S) (same : closed ≡ desk.store.connection)
      (quiet : IsQuiet g.view g.faults g.recovers g.is_shielded closed.store back)
      (found : g.recovers back (g.view fresh).committed) (settled : (g.view fresh).trees ≡ (g.view fresh).committed)
      (shown : (state g conn).now.trees ≡ (g.view fresh).trees) where
    pub crash_left : (charter : Charter) (before : History) (pending : List Asked)
        → LeavesAtMost g charter desk before pending → MayBeLeft charter before pending (state g conn).now.trees
    crash_left charter before pending left =
        let committed = (g.view fresh).committed in
        let may = subst (λ (h : Held S). (state g h).may_leave committed) same (quiet.outcomes committed found) in
        subst (MayBeLeft charter before pending) (sym (shown ∙ settled)) (left committed may)

    -- a desk that was opened over the connection resumes what the desk before the crash may leave
    pub crash_resumes : (again : Desk S) → ResumesHistories g (state g conn) again → ResumesAfter g desk again
    crash_resumes again resumes charter before pending is legal left =
        resumes charter before pending is legal (left_found charter before pending _ (crash_left charter before pending left))

    -- where that was a legal history, it is what the connection found
    pub crash_finds : IsTrue (state g conn).is_open → LeavesLegal g desk → FindsLeft (state g conn)
    crash_finds is_open it = record {
      charter = it.charter;
      before = it.before;
      pending = it.pending;
      is_open = is_open;
      chartered = it.chartered;
      named = it.named;
      legal = it.legal;
      fits = it.fits;
      left = inl (crash_left it.charter it.before it.pending it.left);
    }

  -- the desk answered a list on a history that it had
  module _ (old ran : Desk S) (asked : List Asked) (list : List Reply)
      (keeps : (history : History) → IsLegal (charter_of old) history → HoldsHistory g old history → AreDurablyAnswered g (charter_of old) history asked list old ran) where
    kept_on : (charter : Charter) (history : History) → Represents g charter old history → AreDurablyAnswered g charter history asked list old ran
    kept_on charter history is =
        subst (λ (k : Charter). IsLegal k history → AreDurablyAnswered g k history asked list old ran) is.chartered
        (λ legal. keeps history legal is.rows) is.legal

  -- what a crash leaves after one more list, of a desk that had a legal history
  pub lives_leave : PendingFits → (start old ran : Desk S) (lives : List (List Asked)) (replies : List (List Reply)) (asked : List Asked) (list : List Reply)
      → LivesOn g start lives replies old
      → ((history : History) → IsLegal (charter_of old) history → HoldsHistory g old history → AreDurablyAnswered g (charter_of old) history asked list old ran)
      → All AskedFits asked → HoldsLegal g start → LeavesLegal g ran
  lives_leave more_fits start old ran lives replies asked list so_far keeps each it =
      let was = so_far it.charter it.history it.chartered it.represents it.left in
      let kept = kept_on old ran asked list keeps it.charter was.0 was.2 in
      let pending = pending_after_all asked list [] in
      record {
        charter = it.charter;
        before = kept.answered.after;
        pending = pending;
        chartered = it.chartered;
        named = it.named;
        legal = kept.answered.legal;
        fits = λ after.
            more_fits it.charter kept.answered.after pending after (kept.answered.values (was.3 it.fits))
            (pending_after_all_fits asked list [] each (All-nil AskedFits));
        left = kept.left [] was.4;
      }

  -- nothing was asked after the first of these lives, and the desk became a store
  pub none_more : (start old : Desk S) (lives : List (Bor (List Asked))) (index : ℕ) (replies : List (Vec Reply)) (closed : Held S) (store : S)
      → closed ≡ old.store.connection → IsQuiet g.view g.faults g.recovers g.is_shielded closed.store store
      → LivesOn g start (map requests (take index lives)) (map items replies) old
      → LeavesLives g start (map requests lives) store
  none_more start old lives index replies closed store same quiet so_far charter before is has alone =
      let was = so_far charter before is has alone in
      let taken = sym (take-map requests index lives) in (
        was.0,
        [],
        (
          index,
          map items replies,
          was.0,
          subst (λ (l : List (List Asked)). Lives charter before l (map items replies) was.0) taken was.1,
          inl (refl, refl),
        ),
        (λ trees found. was.4 trees (subst (λ (h : Held S). (state g h).may_leave trees) same (quiet.outcomes trees found))),
      )

  -- the lists up to an index, and the one there
  one_more_taken : (lives : List (Bor (List Asked))) (index : ℕ) (asked : Bor (List Asked))
      → index < length lives → asked ≡ get_or lives index asked
      → map requests (take (index + 1) lives) ≡ map requests (take index lives) ++ asked.now ∷ []
  one_more_taken lives index asked below here =
      let taken : take (index + 1) lives ≡ take index lives ++ asked ∷ [] = take_more lives index asked below ∙ ap (λ x. take index lives ++ x ∷ []) (sym here) in
      ap (map requests) taken ∙ map-append requests (take index lives) (asked ∷ [])

  -- the requests of one more life were answered, and the desk was not opened after them
  pub not_opened : (start old ran : Desk S) (lives : List (Bor (List Asked))) (index : ℕ) (asked : Bor (List Asked)) (replies : List (Vec Reply)) (list : Vec Reply) (store : S)
      → index < length lives → asked ≡ get_or lives index asked
      → LivesOn g start (map requests (take index lives)) (map items replies) old
      → ((history : History) → IsLegal (charter_of old) history → HoldsHistory g old history → AreDurablyAnswered g (charter_of old) history asked.now list.items old ran)
      → ((charter : Charter) (history : History) (pending : List Asked) → LeavesAtMost g charter ran history pending → StoreLeavesAtMost g charter store history pending)
      → LeavesLives g start (map requests lives) store
  not_opened start old ran lives index asked replies list store below here so_far keeps leaves charter before is has alone =
      let was = so_far charter before is has alone in
      let kept = kept_on old ran asked.now list.items keeps charter was.0 was.2 in
      let pending = pending_after_all asked.now list.items [] in
      let taken = sym (take-map requests index lives) in
      let next : take (index + 1) (map requests lives) ≡ take index (map requests lives) ++ asked.now ∷ [] =
      take-map requests (index + 1) lives ∙ one_more_taken lives index asked below here ∙ ap (λ l. l ++ asked.now ∷ []) taken in (
        kept.answered.after,
        pending,
        (
          index,
          map items replies,
          was.0,
          subst (λ (l : List (List Asked)). Lives charter before l (map items replies) was.0) taken was.1,
          inr (asked.now, list.items, next, kept.answered.runs, refl),
        ),
        leaves charter kept.answered.after pending (kept.left [] was.4),
      )

  -- one more life, of the list at an index
  pub live_more : PendingFits → (start old ran new : Desk S) (lives : List (Bor (List Asked))) (index : ℕ) (asked : Bor (List Asked)) (replies grown : List (Vec Reply)) (list : Vec Reply)
      → index < length lives → asked ≡ get_or lives index asked → grown ≡ replies ++ list ∷ []
      → LivesOn g start (map requests (take index lives)) (map items replies) old
      → ((history : History) → IsLegal (charter_of old) history → HoldsHistory g old history → AreDurablyAnswered g (charter_of old) history asked.now list.items old ran)
      → All AskedFits asked.now → ResumesAfter g ran new
      → LivesOn g start (map requests (take (index + 1) lives)) (map items grown) new
  live_more more_fits start old ran new lives index asked replies grown list below here pushed so_far keeps each resumes charter before is has alone =
      let was = so_far charter before is has alone in
      let kept = kept_on old ran asked.now list.items keeps charter was.0 was.2 in
      let pending = pending_after_all asked.now list.items [] in
      let again = resumes charter kept.answered.after pending is kept.answered.legal (kept.left [] was.4) in (
        again.0,
        rw (one_more_taken lives index asked below here, pushed, map-append items replies (list ∷ []))
            (Lives-append charter before was.0 kept.answered.after again.0 _ (map items replies) asked.now list.items was.1 kept.answered.runs again.1),
        again.2,
        (λ fits.
            more_fits charter kept.answered.after pending again.0 (kept.answered.values (was.3 fits))
            (pending_after_all_fits asked.now list.items [] each (All-nil AskedFits)) again.1),
        again.3,
      )
