-- What a desk keeps and lends after a question about a day.
use Rattle.desk.proofs.Vocabulary.{◌≡◌, ◌≢◌, ℕ, Bool, true, false, ◌↔◌, Option, Some, None, Result, Ok, Err, refl, sym, ap, ◌∙◌, subst, Contains, IfSome, is_ok, option_copied, option_map, OnErr, OnOk, true≢false, none-some, same_Some, IsDayOf, KeptDay, IsVrpOn, Ghosts, IsRead, StoreView, AreVrpsOn, EachHistory, EachHeld, HoldsRowsAndDay, day_of, IsPrepared, Desk}
use Rattle.payload.proofs.Sets.{items_rise}
use Rattle.payload.specs.VrpSet as set
use Rattle.desk.proofs.DayLemmas.{day_there}
use Rattle.desk.proofs.FollowLemmas.{when_ok}
use Rattle.desk.proofs.KeptLemmas.{kept_of}
use Rattle.desk.specs.Lent.{HasLent}
use denote.Ref.{Bor}

abbrev vrps_of : Option KeptDay → Option set.VrpSet
vrps_of kept = option_map (λ day. day.vrps) kept

when_err : {T E P : Type 0} (r : Result T E) → OnErr r P → is_ok r ≡ false → P
when_err (Ok x) is fails = absurd (true≢false fails)
when_err (Err e) is fails = is

module _ {S : Type 0} (g : Ghosts S) where
  read_nothing : (store : StoreView S) → IsRead g store store
  read_nothing store = record {
    clean = λ clean. clean;
    charter = refl;
    limit = refl;
    rows = λ clean rows holds. holds;
    crash = λ clean trees left. left;
  }

  -- the day is kept already
  pub prepared_same : (desk : Desk S) (day : ℕ) → HoldsRowsAndDay g desk.store desk.kept → day_of desk.kept ≡ Some day → IsPrepared g day true desk desk
  prepared_same desk day keeps on = record {
    read = read_nothing desk.store;
    kept = λ _. on;
    none = λ fails. absurd (true≢false fails);
    same = λ _. (refl, refl);
    held = λ clean history legal held. held;
    found = λ clean history legal held. kept_of g desk history keeps clean legal held;
  }

  -- or was read, or could not be read
  pub prepared_anew : {T E : Type 0} (old new : Desk S) (day : ℕ) (r : Result T E) → day_of old.kept ≢ Some day → IsRead g old.store new.store
      → OnOk r (day_of new.kept ≡ Some day) → OnErr r (new.kept ≡ None) → EachHeld g old.store new.store (λ history. IfSome new.kept (IsDayOf history))
      → IsPrepared g day (is_ok r) old new
  prepared_anew old new day r differs read done failed found = record {
    read = read;
    kept = λ is. when_ok r is done;
    none = when_err r failed;
    same = λ was. absurd (differs was);
    held = λ clean history legal held.
        (held.0, held.1, read.rows clean held.0 held.2, λ _ _. found clean history legal (held.0, held.1, held.2));
    found = λ clean history legal held. found clean history legal (held.0, held.1, held.2);
  }

  -- the VRPs that are kept are those of the day
  lent_day : (old new : Desk S) (day : ℕ) (vrps : set.VrpSet) → IsPrepared g day true old new → Some vrps ≡ vrps_of new.kept
      → EachHistory g old new (λ history. AreVrpsOn history day (set.items vrps))
  lent_day old new day vrps prepared is clean history legal held = go new.kept refl
    where
      go : (kept : Option KeptDay) → new.kept ≡ kept → AreVrpsOn history day (set.items vrps)
      go None none = absurd (none-some vrps (sym (is ∙ ap vrps_of none)))
      go (Some k) some =
          let same : vrps ≡ k.vrps = same_Some vrps k.vrps (is ∙ ap vrps_of some) in
          let on : k.day ≡ day = same_Some k.day day (sym (ap day_of some) ∙ prepared.kept refl) in
          let found : IsDayOf history k = subst (λ (kept : Option KeptDay). IfSome kept (IsDayOf history)) some (prepared.found clean history legal held) in (
            items_rise vrps,
            λ v.
                subst (λ (s : set.VrpSet). Contains (set.items s) v ↔ IsVrpOn history day v) (sym same)
                (subst (λ (n : ℕ). Contains (set.items k.vrps) v ↔ IsVrpOn history n v) on (found v)),
          )

  pub lent_kept : (old new : Desk S) (day : ℕ) (done : Bool) (vrps : set.VrpSet) → IsPrepared g day done old new
      → Some vrps ≡ option_map (λ (k : KeptDay). k.vrps) new.kept → EachHistory g old new (λ history. AreVrpsOn history day (set.items vrps))
  lent_kept old new day true vrps prepared is = lent_day old new day vrps prepared is
  lent_kept old new day false vrps prepared is = λ clean history legal held. absurd (none-some vrps (sym (is ∙ ap vrps_of (prepared.none refl))))

  -- what is lent where the day is kept
  pub has_lent : (old new : Desk S) (day : ℕ) (r : Option (Bor set.VrpSet)) → IsPrepared g day true old new
      → option_copied r ≡ option_map (λ (k : KeptDay). k.vrps) new.kept → HasLent g day old r new
  has_lent old new day None prepared is = absurd (day_there new.kept day is (prepared.kept refl))
  has_lent old new day (Some vrps) prepared is =
      record { prepared = prepared; lent = go new.kept refl; answered = lent_day old new day vrps.now prepared is }
    where
      go : (kept : Option KeptDay) → new.kept ≡ kept → IfSome kept (λ k. k.vrps ≡ vrps.now)
      go None none = tt
      go (Some k) some = sym (same_Some vrps.now k.vrps (is ∙ ap vrps_of some))
