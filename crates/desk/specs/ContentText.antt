-- The ROA content of an authorization, as a text.
use Rattle.std.specs.Prelude.{◌≡◌, ℕ, List}
use Rattle.hex.specs.Hex.{encode_lower}
use Rattle.registry.specs.declared.authorization.Auth.{Auth}
use Rattle.roa.specs.RoaContent.{RouteOriginAttestation, Encodes, IsContent}

-- the AS number of the terms, and all their entries
abbrev pub attestation_of : Auth → RouteOriginAttestation
attestation_of x = record { asn = x.asn; entries = x.entries }

-- that is a content, and the text its octets (RFC 9582 section 4), two lower-case hex digits each
abbrev pub IsContentText : Auth → List ℕ → Type 0
IsContentText x text =
    IsContent (attestation_of x) × (octets : List ℕ) × Encodes (attestation_of x) octets × (text ≡ encode_lower octets)
