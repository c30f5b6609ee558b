-- What opening leaves of a database, whatever the limit of its steps was.
use Rattle.store_open.proofs.Vocabulary.{◌≡◌, inl, inr, false, arith, length, ℕ, Option, sym, ap, subst, ◌∙◌, Database, State, CharterSets, desk_tables, TablesHold, hold_now, LeavesOldOrMoved, OpensDesk, ReadAndHold, HoldSomeRows, TablesRead}
use Rattle.store_transactions.specs.Queries.{ShowsTheSame}

-- a desk whose rows were read, and nothing else
pub opens_desk : (a f : State) (charter : CharterSets) → a.in_transaction ≡ false → a.now.schema.tables ≡ desk_tables → a.committed ≡ a.now → ShowsTheSame a f
    → ReadAndHold charter a.now → OpensDesk charter a f
opens_desk a f charter idle tables settled same read =
    let shows = same.0 in
    record {
      idle = idle;
      tables = inl tables;
      is_open = shows.is_open;
      desk = record { tables = ap (λ (db : Database). db.schema.tables) shows.now_is ∙ tables; settled = shows.committed_is ∙ settled ∙ sym shows.now_is };
      some = subst (λ (db : Database). HoldSomeRows charter db.trees) (sym shows.now_is) read.0;
      reads = subst (λ (db : Database). TablesRead db.trees) (sym shows.now_is) read.1;
      kept = λ held rows holds. subst (λ (db : Database). TablesHold held rows db.trees) (sym shows.now_is) (hold_now held rows a.now.trees read.1.schema holds);
      unchanged = λ _. record { schema = ap (λ (db : Database). db.schema) shows.now_is; rows = λ t is. ap (λ (db : Database). db.trees t) shows.now_is };
      numbered = λ old. absurd (let e : 10 ≡ 8 = ap length (sym tables ∙ old) in omega (arith, e));
    }

module _ (a f : State) (limit : Option ℕ) where
  pub opens_unlimited : (charter : CharterSets) → OpensDesk charter (record a { step_limit = limit }) f → OpensDesk charter a f
  opens_unlimited charter o = record {
    idle = o.idle;
    tables = o.tables;
    is_open = o.is_open;
    desk = o.desk;
    some = o.some;
    reads = o.reads;
    kept = o.kept;
    unchanged = λ same. record { schema = (o.unchanged same).schema; rows = (o.unchanged same).rows };
    numbered = o.numbered;
  }

  pub leaves_unlimited : LeavesOldOrMoved (record a { step_limit = limit }) f → LeavesOldOrMoved a f
  leaves_unlimited leaves trees left =
      elim (leaves trees left) [
        | inl before ↦ inl before
        | inr moved ↦ inr (record { tables = moved.tables; desk = moved.desk; kept = moved.kept })
      ]
