-- The lives of `serve` on files whose disk may crash.
use Rattle.cli_tasks.proofs.Vocabulary.{◌≡◌, ◌<◌, ◌≤◌, ◌+◌, ◌∙◌, ℕ, Bool, List, [], ◌∷◌, ◌++◌, inl, inr, Option, Result, Ok, Err, IfOk, IfErr, OnOk, OnErr, arith, length, length-append, get_or, take, true, false, ap, refl, subst, sym, flat_map_more, take_more, flat_map, ErrorKind, image_of, over_files, Files, view, FileStore, IsClean, AreClean, Image, Charter, History, AskedFits, Asked, IsOnCleanDisk, Desk, FilesLeaveAtMost, LeavesFiles, ResumesLeft, RefusedLeaves, RefusesNoLegal, CloseFault, Standing, Accepts, Logs, LeavesInTurn, FailsToCloseOver, IfClosed, IfUnclosed, IsCauseOf, IsServedCount, FilesGoOn, LeavesUnclosed, end_of_close, end_of_serve, EndsLife, EndsLives, HasLifeCount, LeavesEnded, LeavesRefused, LifeLeads, LivesAllow, LivesLead, ServesLife, ServesLives, fault_lines, Transcript, ServeFault, Accept, Bind, Close, Open}
use Rattle.std.proofs.Math.Logic.{∥∥₁_elim, ∥∥₁_map}
use Rattle.std.proofs.lemmas.List.{nil_from_length}
use Rattle.std.proofs.lemmas.List.Elements.{All-nil}
use Rattle.std.specs.Prelude.{is_some}
use Rattle.sqlite.specs.declared.file.Leftover.TheVariants as left
use Rattle.sqlite_disk.specs.declared.Disk.{Ghosts}
use Rattle.sqlite_trees.specs.Props.{Trees-set}
use Rattle.sqlite_wal.proofs.LogLemmas.{SeenMayStay}
use Rattle.sqlite_wal.specs.Files.{outcomes}
use Rattle.registry.specs.CharterSets.{IsCharter}
use Rattle.registry.specs.Verdict.{IsLegal}
use Rattle.desk.specs.Resumed.{IsAtMostOneMore, MayBeLeftInEitherSchema, PendingFits}
use Rattle.desk_files.proofs.DeskFileLemmas.{kept_leaves_lem, stopped_leaves_lem}
use Rattle.desk_files.proofs.RefusedFileLemmas.{left_in_either_found}
use Rattle.desk_files.specs.declared.file.OpenFault.{OpenFault}
use Rattle.desk_files.specs.declared.file.OpenFault.TheVariants.{File, Path, Store}
use Rattle.cli_tasks.specs.declared.lives.Life.{Life}
use Rattle.cli_tasks.specs.declared.lives.LifeFault.{LifeFault}
use Rattle.cli_tasks.specs.declared.lives.LifeFault.TheVariants as ended
use Rattle.cli_tasks.proofs.ConnectionLemmas.{accepts-then, logs-then}

-- ---- one life

-- with the desk that was opened in the files, and stopped after the connections
pub serves_life : {D : Type 0} (g : Ghosts D) (day : ℕ) (passed : List Transcript) (files : Files D)
    (desk last : Desk (FileStore D g)) (left : Files D)
    → ResumesLeft g files desk → LeavesInTurn over_files day desk passed last → IsOnCleanDisk over_files last
    → LeavesFiles g last left → ServesLife g false day files passed left
serves_life g day passed files desk last left resumes leaves clean stopped charter before chartered legal found =
    ∥∥₁_map (resumes charter before.history before.pending chartered legal found) (λ resumed.
    let (history, more, is, none) = resumed in
    let (after, leads, represents, fits, asked_fit, left_after) = leaves clean charter (record { history = history; pending = [] }) is none in (
      history,
      more,
      after,
      leads,
      represents.legal,
      (λ held. (fits held, asked_fit (All-nil AskedFits))),
      stopped_leaves_lem g last left charter after.history after.pending stopped left_after,
    ))

-- with the files that were closed after the connections
closes_life : {D : Type 0} (g : Ghosts D) (stays : SeenMayStay g) (day : ℕ) (passed : List Transcript) (files left : Files D)
    → FilesGoOn g (image_of g files) day passed left → ServesLife g true day files passed left
closes_life g stays day passed files left keeps charter before chartered legal found =
    ∥∥₁_map (found (image_of g files) (stays files.log, stays files.db)) (λ was.
    let (history, more, kept) = keeps charter before.history before.pending chartered legal
    (was.0, left_in_either_found charter before.history before.pending was.0 was.1, was.2) in (
      history,
      more,
      record { history = kept.after; pending = [] },
      (kept.leads, refl),
      kept.legal,
      (λ fits. (kept.fits fits, All-nil AskedFits)),
      kept_leaves_lem g charter kept.after left kept.kept,
    ))

-- all connections were served, unless accepting failed
pub life_count : {T E : Type 0} (result : Result T E) {served count : ℕ} {has_failed : Bool} → OnOk result (served ≡ count)
    → OnErr result (served < count) → OnErr result (has_failed ≡ true) → (served ≤ count) × HasLifeCount served count false has_failed
life_count (Ok x) all few failed = (omega (arith, all), inl all)
life_count (Err e) all few failed = (omega (arith, few), inr (inr failed))

pub count_of_stop : {served count : ℕ} {cannot_listen has_failed : Bool} → HasLifeCount served count false has_failed → HasLifeCount served count cannot_listen has_failed
count_of_stop why = grind arith

-- how `serve` ended is how the life did
module _ {D : Type 0} (g : Ghosts D) (stays : SeenMayStay g) (day count : ℕ) (files : Files D) (passed : List Transcript)
    (listen_error : Option ErrorKind) (not_accepted : Bool) where
  abbrev pub Closed : Files D → Type 0
  Closed left = AreClean g left.log left.db → FilesGoOn g (image_of g files) day passed left

  abbrev pub Unclosed : CloseFault D g → Type 0
  Unclosed fault =
      IsClean (view fault.store)
      → FailsToCloseOver (image_of g files) day passed fault × LeavesUnclosed (image_of g files) day passed fault.store

  abbrev pub Served : Result (Files D) (LifeFault D g) → Type 0
  Served end =
      (length passed ≤ count)
      × OnOk end (HasLifeCount (length passed) count (is_some listen_error) not_accepted)
      × IfOk end (λ left. AreClean g left.log left.db → AreClean g files.log files.db)
      × IfOk end (λ left. AreClean g left.log left.db → ServesLife g true day files passed left)
      × IfErr end (EndsLife g day files passed)

  closed_ends : (end : Result (Files D) (CloseFault D g)) → length passed ≤ count
      → HasLifeCount (length passed) count (is_some listen_error) not_accepted
      → IfOk end (λ left. AreClean g left.log left.db → AreClean g files.log files.db)
      → IfErr end (λ fault. IsClean (view fault.store) → AreClean g files.log files.db)
      → IfOk end Closed → IfErr end Unclosed → Served (end_of_close end)
  closed_ends (Ok left) few why clean clean_store closed unclosed =
      (few, why, clean, (λ was. closes_life g stays day passed files left (closed was)), tt)
  closed_ends (Err fault) few why clean clean_store closed unclosed =
      (few, tt, tt, tt, (λ was. (clean_store was, (unclosed was).0, (unclosed was).1)))

  pub serve_ends : (end : Result (Files D) (ServeFault D g))
      → IfClosed end (λ left. AreClean g left.log left.db → AreClean g files.log files.db)
      → IfUnclosed end (λ fault. IsClean (view fault.store) → AreClean g files.log files.db)
      → IsServedCount end (length passed) count
      → IfClosed end Closed → IfUnclosed end Unclosed → IfErr end (IsCauseOf files listen_error not_accepted)
      → Served (end_of_serve end)
  serve_ends (Ok left) clean clean_store counted closed unclosed cause =
      (omega (arith, counted), inl counted, clean, (λ was. closes_life g stays day passed files left (closed was)), tt)
  serve_ends (Err (Open fault)) clean clean_store counted closed unclosed cause =
      (omega (arith, counted), tt, tt, tt, (nil_from_length passed counted, cause.0, cause.2, cause.3))
  serve_ends (Err (Bind fault end)) clean clean_store counted closed unclosed cause =
      closed_ends end (omega (arith, counted)) (inr (inl (ap is_some cause.1))) clean clean_store closed unclosed
  serve_ends (Err (Accept end)) clean clean_store counted closed unclosed cause =
      closed_ends end (omega (arith, counted)) (inr (inr cause)) clean clean_store closed unclosed
  serve_ends (Err (Close fault)) clean clean_store counted closed unclosed cause =
      (omega (arith, counted), tt, tt, tt, (λ was. (clean_store was, (unclosed was).0, (unclosed was).1)))

-- ---- one more life

lead_then : (charter : Charter) (before middle next : Standing) (history : History) (lives : List Life)
    (served : List (List Transcript)) (life : Life) (passed : List Transcript)
    → LivesLead charter before lives served middle
    → IsAtMostOneMore charter middle.history middle.pending history → (length passed ≤ life.count)
    → LifeLeads life.is_closed charter life.day history passed next
    → LivesLead charter before (lives ++ life ∷ []) (served ++ passed ∷ []) next
lead_then charter before middle next history [] [] life passed led more few leads =
    (history, next, subst (λ (s : Standing). IsAtMostOneMore charter s.history s.pending history) led more, few, leads, refl)
lead_then charter before middle next history [] (p ∷ served) life passed led more few leads = absurd led
lead_then charter before middle next history (l ∷ lives) [] life passed led more few leads = absurd led
lead_then charter before middle next history (l ∷ lives) (p ∷ served) life passed (begun, at, one, within, led_one, led) more few leads =
    (begun, at, one, within, led_one, lead_then charter at middle next history lives served life passed led more few leads)

-- the lives up to an index, and the one there
life_taken : (lives : List Life) (index : ℕ) (life : Life) → index < length lives → life ≡ get_or lives index life
    → take (index + 1) lives ≡ take index lives ++ life ∷ []
life_taken lives index life below here = take_more lives index life below ∙ ap (λ x. take index lives ++ x ∷ []) (sym here)

pub serves_none : {D : Type 0} (g : Ghosts D) (files : Files D) → ServesLives g [] files [] files
serves_none g files charter before chartered legal found = ∣ (before, refl, legal, (λ fits. fits), found) ∣₁

module _ {D : Type 0} (g : Ghosts D) (more_fits : PendingFits) (start old crashed new : Files D) where
  -- the files were crashed, and served the life at an index
  pub lives_more : (lives : List Life) (index : ℕ) (served : List (List Transcript)) (life : Life) (passed : List Transcript)
      → index < length lives → life ≡ get_or lives index life
      → ServesLives g (take index lives) start served old
      → ((image : Image) → outcomes g crashed.log crashed.db image → outcomes g old.log old.db image)
      → (length passed ≤ life.count) → ServesLife g life.is_closed life.day crashed passed new
      → ServesLives g (take (index + 1) lives) start (served ++ passed ∷ []) new
  lives_more lives index served life passed below here so_far crash few serves charter before chartered legal found =
      ∥∥₁_elim (so_far charter before chartered legal found) squash₁ (λ was.
      ∥∥₁_map (serves charter was.0 chartered was.2 (λ image may. was.4 image (crash image may))) (λ lived. (
        lived.2,
        rw (life_taken lives index life below here)
            (lead_then charter before was.0 lived.2 lived.0 (take index lives) served life passed was.1 lived.1 few lived.3),
        lived.4,
        (λ fits.
            let at = was.3 fits in lived.5 (more_fits charter was.0.history was.0.pending lived.0 at.0 at.1 lived.1)),
        lived.6,
      )))

-- ---- a refused opening

module _ {D : Type 0} (g : Ghosts D) (stays : SeenMayStay g) (more_fits : PendingFits) (lives : List Life) (served : List (List Transcript))
    (start : Files D) where
  leads_on : (now : Files D) (Allows : Charter → History → List Asked → Type 0) → ServesLives g lives start served now
      → ((charter : Charter) (history : History) (pending : List Asked) → IsCharter charter → IsLegal charter history
      → FilesLeaveAtMost g charter now history pending → ∥ Allows charter history pending ∥₁)
      → LivesAllow g lives start served Allows
  leads_on now Allows led allows charter before chartered legal found =
      ∥∥₁_elim (led charter before chartered legal found) squash₁ (λ at.
      ∥∥₁_map (allows charter at.0.history at.0.pending chartered at.2 at.4) (λ allowed. (at.0, at.1, at.2, at.3, allowed)))

  leaves_refused : (found : Files D) (fault : OpenFault D g)
      → (AreClean g found.log found.db → ServesLives g lives start served found)
      → RefusesNoLegal found fault → RefusedLeaves found fault
      → LeavesRefused g lives start served found fault
  leaves_refused found (Path fault) led no_legal keeps = absurd keeps
  leaves_refused found (File fault (left.Files now)) led no_legal keeps = λ was clean.
      leads_on found _ (led was) (λ charter history pending chartered legal allowed.
      ∣ (λ image may. allowed image (keeps.1 clean image may)) ∣₁)
  leaves_refused found (File fault (left.Unopened now)) led no_legal keeps = tt
  leaves_refused found (File fault (left.Store now)) led no_legal keeps = λ was clean.
      leads_on found _ (led was) (λ charter history pending chartered legal allowed.
      ∥∥₁_map (allowed (image_of g found) (stays found.log, stays found.db)) (λ held trees may.
      let same : trees ≡ held.0 = ∥∥₁_elim held.2 (Trees-set _ _) ((keeps.1 clean trees may).1 held.0) in
      subst (MayBeLeftInEitherSchema charter history pending) (sym same) held.1))
  leaves_refused found (Store fault now) led no_legal keeps = λ clean.
      let (was, no_more) = keeps clean in (
        leads_on found _ (led was) (λ charter history pending chartered legal allowed. ∣ no_more charter history pending allowed ∣₁),
        λ is it.
            ∥∥₁_elim (led was it.charter it.before it.chartered it.legal it.left) (λ x y. absurd x) (λ at.
            let fits = at.3 it.fits in
            no_legal clean is (record {
              charter = it.charter;
              before = at.0.history;
              pending = at.0.pending;
              chartered = it.chartered;
              named = it.named;
              legal = at.2;
              fits = λ after more. more_fits it.charter at.0.history at.0.pending after fits.0 fits.1 more;
              left = at.4;
            })),
      )

  -- the files of the life after these lives were not opened, or not closed
  leaves_ended : (found : Files D) (day : ℕ) (passed : List Transcript) (fault : LifeFault D g)
      → (AreClean g found.log found.db → ServesLives g lives start served found)
      → EndsLife g day found passed fault
      → LeavesEnded g lives start served day found passed fault
  leaves_ended found day passed (ended.Open fault) led ends = leaves_refused found fault led ends.2 ends.3
  leaves_ended found day passed (ended.Close fault) led ends = λ clean.
      let (was, fails, leaves) = ends clean in leads_on found _ (led was) (λ charter history pending chartered legal left.
      ∥∥₁_map (left (image_of g found) (stays found.log, stays found.db)) (λ held.
      leaves charter history pending chartered legal (held.0, left_in_either_found charter history pending held.0 held.1, held.2)))

module _ {D : Type 0} (g : Ghosts D) (stays : SeenMayStay g) (more_fits : PendingFits) (start old crashed : Files D) where
  -- the life at an index did not end well
  pub ends_lives : (lives : List Life) (index : ℕ) (served : List (List Transcript)) (life : Life) (passed : List Transcript) (fault : LifeFault D g)
      → length served ≡ index → index < length lives → life ≡ get_or lives index life → length passed ≤ life.count
      → (AreClean g old.log old.db → AreClean g start.log start.db)
      → (AreClean g crashed.log crashed.db → AreClean g old.log old.db)
      → (AreClean g old.log old.db → ServesLives g (take index lives) start served old)
      → ((image : Image) → outcomes g crashed.log crashed.db image → outcomes g old.log old.db image)
      → EndsLife g life.day crashed passed fault → EndsLives g lives start (served ++ passed ∷ []) fault
  ends_lives lives index served life passed fault counted below here few cleaned crash_clean so_far crash ends =
      let led : AreClean g crashed.log crashed.db → ServesLives g (take (length served) lives) start served crashed = λ clean.
      leads_on g stays more_fits (take (length served) lives) served start old _
      (subst (λ n. ServesLives g (take n lives) start served old) (sym counted) (so_far (crash_clean clean)))
      (λ charter history pending chartered legal allowed. ∣ (λ image may. allowed image (crash image may)) ∣₁) in
      let one_more : length (served ++ passed ∷ []) ≡ index + 1 = omega (arith, counted, length-append served (passed ∷ [])) in
      record {
        whole = served;
        passed = passed;
        all = refl;
        life = life;
        reached = rw (one_more, counted) (life_taken lives index life below here);
        few = few;
        found = crashed;
        clean = λ clean. cleaned (crash_clean clean);
        led = led;
        ends = ends;
        left = leaves_ended g stays more_fits (take (length served) lives) served start crashed life.day passed fault led ends;
      }

-- ---- what is known

pub accepts_more : (old state new : Option (List Transcript)) (served : List (List Transcript)) (passed : List Transcript)
    → Accepts old state (flat_map (λ connections. connections) served) → Accepts state new passed
    → Accepts old new (flat_map (λ connections. connections) (served ++ passed ∷ []))
accepts_more old state new served passed before more =
    subst (Accepts old new) (flat_map_more (λ (connections : List Transcript). connections) [] served passed)
    (accepts-then old state new _ passed before more)

pub logs_more : (lost_old lost_state lost_new : Bool) (old state new : Option (List ℕ)) (served : List (List Transcript))
    (passed : List Transcript) → Logs lost_old lost_state old state (flat_map (fault_lines 1) served)
    → Logs lost_state lost_new state new (fault_lines 1 passed)
    → Logs lost_old lost_new old new (flat_map (fault_lines 1) (served ++ passed ∷ []))
logs_more lost_old lost_state lost_new old state new served passed before more =
    subst (Logs lost_old lost_new old new) (flat_map_more (fault_lines 1) [] served passed)
    (logs-then lost_old lost_state lost_new old state new (flat_map (fault_lines 1) served) (fault_lines 1 passed) before more)
