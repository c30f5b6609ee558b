-- A new trail has no bytes.
use Rattle.streams.proofs.Vocabulary.{[], ◌∷◌, refl, proved, ‵, raw, ◌⊛◌, ◌$◌, ◌∵◌, !, qed, keep, move, split, suffices, use0, done, agg, enter, returns, no_more, alloc_all, pass_all, free_all, look_at, sets, owns, types_at, nothing, alive, walk_of, says, ends_at, the_row}
use Rattle.streams.specs.contracts.trail.Trail.new as f
use Rattle.streams.proofs.TrailMade.{held, trail_made}
use Rattle.streams.proofs.trail.Trail.new.Statement.{statement}
use Rattle.streams.proofs.trail.Trail.new.Code as code

pub new_spec : {M : Type 1} → statement M
new_spec 𝓤 𝓛 𝓜 𝓡 wired =
    let c = f.clauses 𝓛 𝓜.mem 𝓡.returns in
    let W = walk_of 𝓛 f.ended tt c in
    let S = f.ended.signature in
    let trail : the_row.Denot = record { bytes = [] } in
    proved 𝓛 f.ended tt c 𝓜 𝓡 tt f.Key.name code.function (code.unfolded 𝓤 𝓛.H 𝓜 𝓡 wired)
    (λ κs. tt) (λ κs. tt) (λ κs qs bounds a g are.
    let y : W.Ghost = ((κs, qs, bounds, a, tt), g) in
    qed 𝓛 ((raw (alive 𝓛 S κs qs) ⊛ ‵ (owns (types_at S.params κs) a tt)) ∷ raw ((c κs a).requires g) ∷ []) ∵
    keep ! (0 ∷ []) $ split ! $ keep ! (0 ∷ []) $
    enter ! _ _ _ _ _ $ alloc_all ! (λ l. pass_all ! refl tt $
    sets ! (agg ! (no_more !)) refl (tt, tt) $
    returns ! (look_at ! 0 refl) $ free_all ! refl $
    suffices ! _ (ends_at 𝓛 f.ended tt c y held trail tt tt) $ says ! refl $
    use0 𝓛 (‵ (the_row.own_val trail (held ∷ []))) (trail_made 𝓛 trail) $ nothing ! $ move ! (2 ∷ 0 ∷ 1 ∷ []) $ done !))
