-- A desk over several connections.
use Rattle.cli_tasks.proofs.Vocabulary.{◌≡◌, ◌∙◌, ℕ, Bool, true, false, List, [], ◌∷◌, ◌++◌, Result, Ok, Err, IfOk, refl, subst, sym, Ghosts, Desk, Gives, HasNoMore, IsCutShort, RespondsTo, IsLaterDesk, WebFault, Read, Write, AnswersInTurn, AnswersReady, IsReadied, ReadiesAgain, Serves, ServesInTurn, TellsReady, Transcript}
use Rattle.streams.specs.Streams.{AppendsBeginning}
use Rattle.web.specs.RequestExtent.{HasExtent}
use Rattle.web.specs.declared.http.Extent.{Extent}

module _ {S : Type 0} (g : Ghosts S) where
  same_desk : (desk : Desk S) → IsLaterDesk g desk desk
  same_desk desk = record { charter = refl; limit = refl; clean = λ c. c }

  later_still : (old state new : Desk S) → IsLaterDesk g old state → IsLaterDesk g state new → IsLaterDesk g old new
  later_still old state new first then = record { charter = then.charter ∙ first.charter; limit = then.limit ∙ first.limit; clean = λ c. first.clean (then.clean c) }

  -- a desk that was made ready
  later_readied : (day : ℕ) (old new : Desk S) → IsReadied g day old new → IsLaterDesk g old new
  later_readied day old new (done, prepared) =
      record { charter = prepared.read.charter; limit = prepared.read.limit; clean = prepared.read.clean }

  pub later_again : (day : ℕ) (old new : Desk S) (was_ready : Bool) → ReadiesAgain (IsReadied g day) was_ready old new → IsLaterDesk g old new
  later_again day old new true readied = later_readied day old new readied
  later_again day old new false same = subst (IsLaterDesk g old) (sym same) (same_desk old)

  -- what a connection makes of a desk that is made ready again then
  abbrev pub ServesReady : ℕ → Desk S → Transcript → Desk S → Type 0
  ServesReady day = AnswersReady (Serves g day) (TellsReady day) (IsReadied g day)

  pub later_in_turn : (day : ℕ) (old new : Desk S) (passed : List Transcript) → AnswersInTurn (ServesReady day) old passed new
      → IsLaterDesk g old new
  later_in_turn day old new [] same = subst (IsLaterDesk g old) (sym same) (same_desk old)
  later_in_turn day old new (first ∷ later) (next, (mid, served, was_ready, tells, again), in_turn) =
      later_still old mid new served.0
      (later_still mid next new (later_again day mid next was_ready again) (later_in_turn day next new later in_turn))

  pub later_served : (day : ℕ) (old new : Desk S) (passed : List Transcript) → ServesInTurn g day old passed new → IsLaterDesk g old new
  later_served day old new passed (ready, readied, in_turn) =
      later_still old ready new (later_readied day old ready readied) (later_in_turn day ready new passed in_turn)

  -- what `serve_request` says of a connection on which nothing has passed before
  module _ (day : ℕ) (old new : Desk S) (given_old given_new written_old written_new : List ℕ)
      (has_ended read_failed write_failed : Bool) where
    pub serves : (result : Result Extent WebFault) → IsLaterDesk g old new
        → IfOk result (λ extent. (bytes text : List ℕ) × Gives bytes given_old given_new × RespondsTo g old day bytes text new
        × HasExtent day bytes text extent × (written_new ≡ written_old ++ text))
        → (result ≡ Err Read → (bytes : List ℕ) × Gives bytes given_old given_new × IsCutShort bytes
        × HasNoMore has_ended read_failed × (new ≡ old) × (written_new ≡ written_old))
        → (result ≡ Err Write → (bytes text : List ℕ) × Gives bytes given_old given_new × RespondsTo g old day bytes text new
        × AppendsBeginning written_old written_new text)
        → (result ≡ Err Write → write_failed ≡ true)
        → given_old ≡ [] → written_old ≡ []
        → Serves g day old (record {
          received = given_new;
          has_ended = has_ended;
          read_failed = read_failed;
          sent = written_new;
          write_failed = write_failed;
          ended = result;
        }) new
    serves (Ok x) later (bytes, text, given, responds, extent, written) read write failed none_given none_written =
        rw (given, written, none_given, none_written) (later, responds, extent)
    serves (Err Read) later ok read write failed none_given none_written =
        let (bytes, given, cut, over, same, kept) = read refl in
        rw (given, none_given) (later, (cut, over, kept ∙ none_written, same), tt)
    serves (Err Write) later ok read write failed none_given none_written =
        let (bytes, text, given, responds, (out, more, written, whole)) = write refl in
        rw (given, written, none_given, none_written) (later, (more, rw whole at responds, failed refl), tt)
