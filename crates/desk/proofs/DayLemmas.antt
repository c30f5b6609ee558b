-- What requests make of the day that is kept.
use Rattle.desk.proofs.Vocabulary.{◌≡◌, ℕ, Bool, true, false, List, [], ◌∷◌, ◌++◌, Option, Some, None, inr, refl, sym, ap, ◌∙◌, subst, option_map, true≢false, none-some, KeptDay, Asked, Ghosts, DayAfter, DayAfterAll, MovesDay, day_of, IsPrepared, Desk, Reply, Unavailable}
use Rattle.payload.specs.VrpSet as set

-- the day is kept where VRPs are
pub day_there : (kept : Option KeptDay) (day : ℕ) → None ≡ option_map (λ (k : KeptDay). k.vrps) kept → ¬ (day_of kept ≡ Some day)
day_there None day none is = none-some day is
day_there (Some k) day none is = none-some k.vrps none

module _ {S : Type 0} (g : Ghosts S) (old new : Desk S) (day : ℕ) where
  -- VRPs that are found are of the day
  pub moved_to : (done : Bool) → IsPrepared g day done old new → (vrps : set.VrpSet) → Some vrps ≡ option_map (λ (k : KeptDay). k.vrps) new.kept
      → day_of new.kept ≡ Some day
  moved_to true prepared vrps found = prepared.kept refl
  moved_to false prepared vrps found =
      absurd (none-some vrps (sym (found ∙ ap (λ (k : Option KeptDay). option_map (λ (one : KeptDay). one.vrps) k) (prepared.none refl))))

  -- where none are found, no day is kept, and the day was not
  pub moved_nowhere : (done : Bool) → IsPrepared g day done old new → None ≡ option_map (λ (k : KeptDay). k.vrps) new.kept
      → MovesDay day Unavailable (day_of old.kept) (day_of new.kept)
  moved_nowhere true prepared none = absurd (day_there new.kept day none (prepared.kept refl))
  moved_nowhere false prepared none = inr (ap day_of (prepared.none refl), refl, λ was. true≢false (sym (prepared.same was).0))

-- one request more
pub day_more : (asked : List Asked) (replies : List Reply) (a : Asked) (reply : Reply) (old mid new : Option ℕ) → DayAfterAll asked replies old mid
    → DayAfter a.day a.request reply mid new → DayAfterAll (asked ++ a ∷ []) (replies ++ reply ∷ []) old new
day_more [] [] a reply old mid new all next = (new, subst (λ (d : Option ℕ). DayAfter a.day a.request reply d new) all next, refl)
day_more [] (r ∷ replies) a reply old mid new all next = absurd all
day_more (x ∷ asked) [] a reply old mid new all next = absurd all
day_more (x ∷ asked) (r ∷ replies) a reply old mid new all next = (all.0, all.1, day_more asked replies a reply all.0 mid new all.2 next)
