-- How much of a request was read before it was answered.
use Rattle.std.specs.Prelude.{◌≡◌, ◌⊎◌, ℕ, List, Option}
use Rattle.http_messages.specs.declared.refusal.HttpRefusal.{HttpRefusal}
use Rattle.requests.specs.HttpRequests.{IsMessage, ReadsHttp, refused}
use Rattle.requests.specs.RequestHeads.{Head}
use Rattle.web.specs.HttpResponses.{unavailable_response}
use Rattle.web.specs.declared.http.Extent.{Extent}
use Rattle.web.specs.declared.http.Extent.TheVariants.{Part, Whole}

-- The bytes that were read are a whole message; or its head is refused, or an allocation failed, and the body was not read.
abbrev pub HasExtent : ℕ → List ℕ → List ℕ → Extent → Type 0
HasExtent day bytes text Whole = (said : Head) × (body : Option (List ℕ)) × IsMessage bytes said body
HasExtent day bytes text Part =
    ((refusal : HttpRefusal) × ReadsHttp day bytes (refused refusal)) ⊎ (text ≡ unavailable_response)
