-- Where the head of a request ends: with the empty line after its fields (RFC 9112 section 2.1), which here is the first CR LF CR LF.
use Rattle.std.specs.Prelude.{◌≡◌, ℕ, ◌<◌, ◌≤◌, Bool, true, false, List, [], ◌∷◌, length, take, nat_eq}
use Rattle.std.specs.List.{ends_with}
use Rattle.http_messages.specs.declared.head.TheConstants.{HEAD_LIMIT}

-- CR LF CR LF
abbrev pub head_end : List ℕ
head_end = 13 ∷ 10 ∷ 13 ∷ 10 ∷ []

-- the bytes end with it
abbrev pub has_end : List ℕ → Bool
has_end bytes = ends_with nat_eq bytes head_end

-- it is nowhere in the bytes
abbrev pub LacksEnd : List ℕ → Type 0
LacksEnd bytes = (k : ℕ) → has_end (take k bytes) ≡ false

-- the bytes end with it, it is nowhere before, and they are no more than a head may have
pub record IsWholeHead (bytes : List ℕ) : Type 0 where
  pub ends : has_end bytes ≡ true
  pub first : (k : ℕ) → k < length bytes → has_end (take k bytes) ≡ false
  pub within_limit : length bytes ≤ HEAD_LIMIT
