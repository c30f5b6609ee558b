-- The trail that follows a piece has the piece's bytes at its end.
use Rattle.streams.proofs.Vocabulary.{[], ◌∷◌, ◌++◌, refl, proved, ‵, raw, ◌⊛◌, ◌$◌, ◌∵◌, !, qed, keep, move, split, fjoin, suffices, use0, done, agg, enter, returns, no_more, alloc_all, pass_all, free_all, look_at, sets, owns, plain, types_at, named_lft, nothing, alive, Stays, stay_dropped, Goes-dropped, walk_of, says, ends_at}
use mir.Syntax.{named}
use denote.Builtin.{RefOf}
use denote.Exit.{yes}
use denote.Ref.{shr_vals, shr_Tells}
use Rattle.streams.specs.contracts.trail.Trail as Trail
use Rattle.streams.specs.contracts.trail.Piece as Piece
use Rattle.streams.specs.contracts.trail.Trail.then as f
use Rattle.streams.proofs.TrailMade.{held, trail_made}
use Rattle.streams.proofs.trail.Trail.then.Statement.{statement}
use Rattle.streams.proofs.trail.Trail.then.Code as code

abbrev stayed : Stays f.ended.signature.params f.ended.kept
stayed = (stay_dropped _ yes, (stay_dropped _ yes, tt))

pub then_spec : {M : Type 1} → statement M
then_spec 𝓤 𝓛 𝓜 𝓡 wired =
    let c = f.clauses 𝓛 𝓜.mem 𝓡.returns in
    let W = walk_of 𝓛 f.ended stayed c in
    let S = f.ended.signature in
    proved 𝓛 f.ended stayed c 𝓜 𝓡 (
      Goes-dropped 𝓛 3 (RefOf (0 ∷ []) tt (plain (λ _. Trail.the_row)) (λ _. tt)) yes (λ κs x w. refl),
      (Goes-dropped 𝓛 3 (RefOf (1 ∷ []) tt (plain (λ κs. Piece.the_row (named_lft 3 2 tt κs))) (λ _. tt)) yes (λ κs x w. refl), tt),
    )
    f.Key.name code.function (code.unfolded 𝓤 𝓛.H 𝓜 𝓡 wired)
    (λ κs. (shr_vals, (shr_vals, tt))) (λ κs. (shr_Tells (named 0) κs.0 Trail.the_row, (shr_Tells (named 1) κs.1.0 (Piece.the_row (named_lft 3 2 tt κs)), tt))) (λ κs qs bounds a g are.
    let trail : Trail.the_row.Denot = record { bytes = a.0.now.bytes ++ a.1.0.now.bytes.now } in
    let y : W.Ghost = ((κs, qs, bounds, a, (shr_vals a.0, (shr_vals a.1.0, tt))), g) in
    qed 𝓛 ((raw (alive 𝓛 S κs qs) ⊛ ‵ (owns (types_at S.params κs) a y.0.4)) ∷ raw ((c κs a).requires g) ∷ []) ∵
    keep ! (0 ∷ []) $ split ! $ keep ! (0 ∷ []) $
    enter ! _ _ _ _ _ $ alloc_all ! (λ l. pass_all ! refl ((tt, tt), ((tt, tt), tt)) $
    sets ! (agg ! (no_more !)) refl (tt, tt) $
    returns ! (look_at ! 0 refl) $ free_all ! refl $
    suffices ! _ (ends_at 𝓛 f.ended stayed c y held trail (tt, (tt, tt)) (tt, (tt, tt))) $ says ! refl $
    use0 𝓛 (‵ (Trail.the_row.own_val trail (held ∷ []))) (trail_made 𝓛 trail) $
    nothing ! $ nothing ! $ fjoin ! $ nothing ! $ fjoin ! $ move ! (2 ∷ 0 ∷ 1 ∷ []) $ done !))
