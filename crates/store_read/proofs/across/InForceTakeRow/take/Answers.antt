use Rattle.store_read.proofs.Vocabulary.{◌≡◌, true, false, List, [], ◌∷◌, ◌++◌, map, Result, Ok, Err, IfOk, MatchBool, refl, sym, ap, ◌∙◌, Vec, Row, VrpFits, vrp_cells, ShowsNone, StoreFault, ClaimKey, key_cells, payload_of, is_claimed, of_claims, ClaimsRise, ShowVrps}
use Rattle.store_read.specs.declared.across.InForce.{InForce}
use Rattle.store_read.proofs.Claimed.{shows_more, shows_no_more, shows_the_same, told}
use Rattle.store_read.proofs.across.InForceTakeRow.take.Goals.{then-not-self-via-then-not-self, then-not-self-via-else-not-self+then-not-is_claimed}
use Rattle.store_read.proofs.across.InForceTakeRow.take.Goals as goal

abbrev Took : InForce → List Row → InForce → Type 0
Took start rows now = (now.claims ≡ start.claims) × (ClaimsRise start.claims.items → ShowVrps (of_claims start.claims.items rows) now.vrps.items now.is_read)

module _ (old : InForce) (row : Row) (so_far : old.is_read ≡ true) (claimed : ClaimsRise old.claims.items → is_claimed (map key_cells old.claims.items) row ≡ true) where
  one_more : (r : Result InForce StoreFault) → IfOk r (λ now. now.claims ≡ old.claims)
      → IfOk r (λ now. MatchBool now.is_read (map vrp_cells now.vrps.items ≡ map vrp_cells old.vrps.items ++ payload_of row ∷ []) (ShowsNone vrp_cells VrpFits (payload_of row)))
      → IfOk r (λ now. (start : InForce) (rows : List Row) → Took start rows old → Took start (rows ++ row ∷ []) now)
  one_more (Ok now) same shown = λ start rows was. (
    same ∙ was.0,
    λ rise. shows_more start.claims.items rows row old.vrps.items now.vrps.items old.is_read now.is_read so_far
        (told old.claims.items start.claims.items row true true (ap (λ (v : Vec ClaimKey). v.items) was.0) rise (λ own. sym (claimed own)) refl) (was.1 rise) shown,
  )
  one_more (Err e) same shown = tt

pub returns-then-not-self-clause-took : goal.returns-then-not-self-clause-took
returns-then-not-self-clause-took c = λ start rows was. (
  was.0,
  λ rise.
      elim c.then-not-self.branch [
        | then-not-self-via-then-not-self w ↦ shows_no_more start.claims.items rows c.args.row.now _ _ w.if-not-self.true (was.1 rise)
        | then-not-self-via-else-not-self+then-not-is_claimed w ↦ shows_the_same start.claims.items rows c.args.row.now _ _
            (told w.deref.result.now start.claims.items c.args.row.now _ false (w.deref.ensures.value ∙ ap (λ (v : Vec ClaimKey). v.items) was.0) rise w.is_claimed.ensures w.if-not-is_claimed.true) (was.1 rise)
      ],
)

pub returns-clause-took : goal.returns-clause-took
returns-clause-took c =
    one_more c.args.self c.args.row.now c.if-not-self.false
    (λ rise. told c.deref.result.now c.args.self.claims.items c.args.row.now _ true c.deref.ensures.value rise c.is_claimed.ensures c.if-not-is_claimed.false)
    c.with_vrp.result c.with_vrp.ensures.claims c.with_vrp.ensures.taken
