use Rattle.policy.proofs.Vocabulary.{◌≡◌, Some, take, Charter, AtEachHolder, AreOfRows, rows_of, AreAuthorized}
use Rattle.policy.proofs.Imports.{SoFar}
use Rattle.policy.proofs.decision.import.import_rows.Given as goal

abbrev pub invariant-loop-row : goal.invariant-loop-row
invariant-loop-row l =
    (l.place ≡ l.row-index)
    × ((charter : Charter) → AtEachHolder charter (Some (rows_of l.initial.rows))
    (λ history h. SoFar charter history h l.day l.caller (take l.row-index l.listed) l.auths (rows_of l.rows)))
    × AreOfRows l.listed l.auths.items
    × AreAuthorized l.authorized l.rows.auths.items
