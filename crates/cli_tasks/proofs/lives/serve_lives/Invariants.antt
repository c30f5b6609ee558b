use Rattle.cli_tasks.proofs.Vocabulary.{◌≡◌, ◌≤◌, List, length, take, flat_map, AreClean, Accepts, Logs, ServesLives, fault_lines, Transcript}
use Rattle.cli_tasks.proofs.lives.serve_lives.Given as goal

abbrev pub invariant-loop-life : goal.invariant-loop-life
invariant-loop-life g l = (served : List (List Transcript))
    × (length served ≡ l.life-index) × (l.life-index ≤ length l.lives)
    × (AreClean g.D.Disk l.files.log l.files.db → AreClean g.D.Disk l.initial.files.log l.initial.files.db)
    × Accepts (g.C.Connections.accepted l.fn.connections) (g.C.Connections.accepted l.connections) (flat_map (λ passed. passed) served)
    × Logs (g.L.Log.has_lost l.fn.log) (g.L.Log.has_lost l.log) (g.L.Log.contents l.fn.log) (g.L.Log.contents l.log)
    (flat_map (fault_lines 1) served)
    × (AreClean g.D.Disk l.files.log l.files.db
    → ServesLives g.D.Disk (take l.life-index l.lives) l.initial.files served l.files)
