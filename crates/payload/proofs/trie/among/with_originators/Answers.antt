use Rattle.payload.proofs.Vocabulary.{rules, ◌≡◌, true, false, refl, sym, ap, ◌∙◌, Valid, state_of, joined_state}
use denote.Enum.Bare.{same_true}
use Rattle.payload.specs.contracts.validity.Validity.{the_type}
use Rattle.payload.proofs.TrieValidity.{among-more, among-part, among-same, joined-none}
use Rattle.payload.proofs.trie.among.with_originators.Goals as goal
use Rattle.payload.proofs.trie.among.with_originators.Goals.{in-Valid, in_default, then-passes, else-passes}

pub returns-then-matches : goal.returns-then-matches
returns-then-matches g c =
    let is : state_of c.loop-originator.state ≡ Valid = elim c.match-matches.branch [ in-Valid w ↦ ap state_of w.in-Valid.is | in_default w ↦ cc ] in
    is ∙ among-part (g.T.VrpTest.passes c.args.test.now) c.args.route.now (state_of c.args.above) c.args.place.now c.args.originators.now c.loop-originator.originator-index (sym is ∙ c.loop-originator.invariant)

pub loop-originator-preserved-then-eq : goal.loop-originator-preserved-then-eq
loop-originator-preserved-then-eq g c =
    let same : c.with_covering-next.result ≡ c.loop-originator.state = same_true the_type (search rules) _ _ (sym c.if-eq.ensures) in
    among-same (g.T.VrpTest.passes c.args.test.now) c.args.route.now (state_of c.args.above) (state_of c.loop-originator.state) (state_of c.with_covering-next.result) c.args.place.now
    c.args.originators.now c.loop-originator.originator-index (record { max = 0; asn = record { 0 = 0 } }) c.requires.fit.lengths c.loop-originator-test.true c.requires.inside c.loop-originator.invariant
    (ap state_of same) (c.with_covering-next.ensures ∙ ap (λ b. joined_state (state_of c.loop-originator.state) b true) c.authorizes.ensures)

pub loop-originator-preserved : goal.loop-originator-preserved
loop-originator-preserved g c =
    let more = among-more (g.T.VrpTest.passes c.args.test.now) c.args.route.now (state_of c.args.above) (state_of c.loop-originator.state) (state_of c.if-passes.state) c.args.place.now
    c.args.originators.now c.loop-originator.originator-index (record { max = 0; asn = record { 0 = 0 } }) c.requires.fit.lengths c.loop-originator-test.true c.requires.inside c.loop-originator.invariant in
    elim c.if-passes.branch [
      | then-passes w ↦
          more _ true refl refl (sym c.passes.ensures ∙ w.if-passes.true)
          (ap state_of w.state-is ∙ c.with_covering-next.ensures ∙ ap (λ b. joined_state (state_of c.loop-originator.state) b true) c.authorizes.ensures)
      | else-passes w ↦ more _ false refl refl (sym c.passes.ensures ∙ w.if-passes.false) (ap state_of w.state-is ∙ sym (joined-none (state_of c.loop-originator.state)))
    ]
