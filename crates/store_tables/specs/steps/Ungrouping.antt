-- Authorizations, and claims with their entries.
use Rattle.registry.specs.declared.authorization.Auth.{Auth}
use Rattle.store_tables.specs.declared.claim.Claim.{Claim}
use Rattle.store_tables.specs.declared.groups.Group.{Group}
use Rattle.store_tables.specs.Authorizations.{claim_of}

-- the claim of an authorization with its entries
abbrev pub group_of : Auth → Group Claim
group_of x = record { claim = claim_of x; entries = x.entries }

-- the authorization of a claim with its entries
abbrev pub auth_of : Group Claim → Auth
auth_of g = record { number = g.claim.number; asn = g.claim.asn; entries = g.entries; from = g.claim.from; until = g.claim.until }
