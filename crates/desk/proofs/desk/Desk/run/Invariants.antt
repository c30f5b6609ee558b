use Rattle.desk.proofs.Vocabulary.{◌≡◌, ◌≤◌, false, take, length, list_any, vec_len, vec_capacity, is_accepted, DayAfterAll, DropsForGainAll, AreAnswered, day_of, charter_of, store_of, IsOnCleanDisk, RowsStay, EachHistory, may_change_any, may_except_any, OthersStay, AreDurablyAnswered}
use Rattle.desk.proofs.desk.Desk.run.Given as goal

abbrev pub invariant-loop-one : goal.invariant-loop-one
invariant-loop-one g l = record {
  chartered : charter_of l.self ≡ charter_of l.initial.self;
  limit : (store_of l.self).connection.step_limit ≡ (store_of l.initial.self).connection.step_limit;
  clean : IsOnCleanDisk g.S.Store l.self → IsOnCleanDisk g.S.Store l.initial.self;
  room : length l.asked ≤ vec_capacity l.replies;
  count : vec_len l.replies ≡ l.one-index;
  kept : list_any is_accepted l.replies.items ≡ false → RowsStay g.S.Store l.initial.self l.self;
  left : EachHistory g.S.Store l.initial.self l.self (λ history. AreDurablyAnswered g.S.Store (charter_of l.initial.self) history (take l.one-index l.asked) l.replies.items l.initial.self l.self);
  others : EachHistory g.S.Store l.initial.self l.self (λ history. OthersStay g.S.Store (may_change_any (take l.one-index l.asked)) (may_except_any (take l.one-index l.asked)) l.initial.self l.self);
  dropped : EachHistory g.S.Store l.initial.self l.self (λ history.
      (are : AreAnswered g.S.Store (charter_of l.initial.self) history (take l.one-index l.asked) l.replies.items l.self)
      × DropsForGainAll (charter_of l.initial.self) history (take l.one-index l.asked) l.replies.items are.after (day_of l.initial.self.kept) (day_of l.self.kept));
  kept_day : DayAfterAll (take l.one-index l.asked) l.replies.items (day_of l.initial.self.kept) (day_of l.self.kept);
}
