use Rattle.desk_files.proofs.Vocabulary.{◌≡◌, ◌≤◌, length, map, take, vec_len, vec_capacity, IsOnCleanDisk, LivesOn}
use Rattle.desk_files.proofs.lives.live.Given as goal

abbrev pub invariant-loop-asked : goal.invariant-loop-asked
invariant-loop-asked g l = record {
  room : length l.lives ≤ vec_capacity l.replies;
  count : vec_len l.replies ≡ l.asked-index;
  clean : IsOnCleanDisk g.S.Store l.desk → IsOnCleanDisk g.S.Store l.initial.desk;
  lived :
      IsOnCleanDisk g.S.Store l.desk
      → LivesOn g.S.Store l.initial.desk (map (λ asked. asked.now) (take l.asked-index l.lives)) (map (λ list. list.items) l.replies.items) l.desk;
}
