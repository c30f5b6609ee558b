-- What decoding answers, in terms of the grammar.
use Rattle.roa.proofs.Vocabulary.{◌≡◌, ℕ, List, map, Option, Some, None, refl, sym, ap, subst, ◌∙◌, Err, IfSome, IfNone, IfOk, MatchResult, ok_or, Asn, DecodeFault, NotContent, Memory, RouteOriginAttestation, IsContent, AreCanonical, Encodes, Numbers, numbers, content_of, IsReadAs}
use Rattle.addr.specs.declared.roa_prefix.RoaPrefix.{RoaPrefix as Entry}
use Rattle.roa.proofs.Contents.{content_made, WasRead, is_only, is_none}
use Rattle.roa.proofs.Grammar.{encodes_is, encodes_from}

-- the fault is an allocation that failed, where the octets are those of a content
pub is_memory : (fault : DecodeFault) (octets : List ℕ) → IsReadAs {X = ℕ × List Numbers} (λ x. x) (Err fault) (content_of octets) → (content : RouteOriginAttestation) → IsContent content → Encodes content octets → fault ≡ Memory
is_memory Memory octets read content is encodes = refl
is_memory NotContent octets read content is encodes = absurd (is_none content octets read is (encodes_is content octets is encodes))

made_is : (content : RouteOriginAttestation) (asn : Asn) (entries : List Entry) → (content.asn ≡ asn) × (content.entries ≡ entries) → content_made asn entries ≡ content
made_is content asn entries h = ap (λ (a : Asn). content_made a entries) (sym h.0) ∙ ap (λ (es : List Entry). content_made content.asn es) (sym h.1)

pub is_encoded : (made : Option RouteOriginAttestation) (asn : Asn) (entries : List Entry) (octets : List ℕ) → IfSome made (λ content. (content.asn ≡ asn) × (content.entries ≡ entries)) → IfSome made IsContent
    → WasRead (content_made asn entries) octets → IfOk (ok_or made NotContent) (λ content. Encodes content octets)
is_encoded None asn entries octets parts is read = tt
is_encoded (Some content) asn entries octets parts is read =
    let same : content_made asn entries ≡ content = made_is content asn entries parts in
    let was : WasRead content octets = subst (λ (c : RouteOriginAttestation). WasRead c octets) same read in
    encodes_from content octets is was.octets_are

pub is_decoded : (made : Option RouteOriginAttestation) (asn : Asn) (entries : List Entry) (octets : List ℕ) → IfSome made (λ content. (content.asn ≡ asn) × (content.entries ≡ entries)) → IfNone made (AreCanonical entries → ⊥)
    → content_of octets ≡ Some (asn.0, map numbers entries) → (content : RouteOriginAttestation) → IsContent content → Encodes content octets → MatchResult (ok_or made NotContent) (λ found. found ≡ content) (λ fault. fault ≡ Memory)
is_decoded (Some found) asn entries octets parts none e content is encodes =
    sym (made_is found asn entries parts) ∙ is_only (content_made asn entries) content octets e is (encodes_is content octets is encodes)
is_decoded None asn entries octets parts none e content is encodes =
    let same : content_made asn entries ≡ content = is_only (content_made asn entries) content octets e is (encodes_is content octets is encodes) in
    let canonical : AreCanonical entries = subst (λ (c : RouteOriginAttestation). AreCanonical c.entries) (sym same) is.entries in
    absurd (none canonical)
