-- Each law, from what histories agree on.
use Rattle.registry_laws.proofs.Vocabulary.{ℕ, List, inl, inr, subst, Contains, Auth, exceptions_in_force, History, entries_for, IsActive, within, CommandsByEntries, QueriesByEntries, RowsOfEntries, IsVrpInForceByEntries, VrpsOfEntries}
use Rattle.addr.specs.declared.vrp.Vrp.{Vrp}
use Rattle.slurm.specs.Exceptions.{Exceptions}
use Rattle.registry.specs.DailyVrps.{IsVrpInForce, IsAfterExceptions}
use Rattle.registry_laws.proofs.Agree.{Agree, agree-sym, agree-rows}
use Rattle.registry_laws.proofs.Parts.{agree-entries, agree-for}
use Rattle.registry_laws.proofs.Judged.{judged_alike, seen_alike}

pub rows_of_entries : RowsOfEntries
rows_of_entries charter history h rows legal =
    let same = agree-entries charter history h legal in (agree-rows same rows, agree-rows (agree-sym same) rows)

active_on : {one other : History} {h : List ℕ} → Agree one other h → (x : Auth) → IsActive one h x → IsActive other h x
active_on {one} {other} {h} same x active = (
  subst (λ (xs : List Auth). Contains xs x) same.terms active.0,
  (same.since x (within one h x active.0).0).0 active.1,
)

after_exceptions : (exceptions : Exceptions) (given other : Type 0) (v : Vrp) → (given → other)
    → IsAfterExceptions exceptions given v → IsAfterExceptions exceptions other v
after_exceptions exceptions given other v to (inl is) = inl (to is.0, is.1)
after_exceptions exceptions given other v to (inr is) = inr is

pub vrps_of_entries : VrpsOfEntries
vrps_of_entries charter history day v legal =
    let exceptions = exceptions_in_force history in
    let entries : IsVrpInForce history day v → IsVrpInForceByEntries history day v =
    λ given. (given.0, given.1, (active_on (agree-entries charter history given.0 legal) given.1 given.2.0, given.2.1, given.2.2), given.3) in
    let whole : IsVrpInForceByEntries history day v → IsVrpInForce history day v =
    λ given. (given.0, given.1, (active_on (agree-sym (agree-entries charter history given.0 legal)) given.1 given.2.0, given.2.1, given.2.2), given.3) in (
      after_exceptions exceptions (IsVrpInForce history day v) (IsVrpInForceByEntries history day v) v entries,
      after_exceptions exceptions (IsVrpInForceByEntries history day v) (IsVrpInForce history day v) v whole,
    )

pub commands_by_entries : CommandsByEntries
commands_by_entries charter history day caller command legal own =
    let same = agree-for charter history command legal in
    judged_alike charter history (entries_for command history) day caller command same.0 same.1 own

pub queries_by_entries : QueriesByEntries
queries_by_entries charter history h day caller legal = seen_alike (agree-entries charter history h legal) day caller
