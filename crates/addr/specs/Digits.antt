-- Numbers in plain decimal digits, without leading zeros, as `decimal` of std writes them.
use Rattle.std.specs.Prelude.{ℕ, ◌+◌, ◌/◌, ◌%◌, ◌^◌, Bool, ◌&&◌, ◌==◌, if◌then◌else◌, nat_lt, List, [], ◌∷◌, ◌++◌, Option, Some, None, codes}
use Rattle.std.specs.Option.{option_and_then}
use Rattle.std.specs.Fmt.{decimal}
use Rattle.std.specs.Cmp.Lexicographic.{pointwise}
use Rattle.std.specs.Str.Parse.{digits_value}

-- the text is that of the number, which is below 2^64
abbrev pub writes : ℕ → List ℕ → Bool
writes number text = nat_lt number (2 ^ 64) && pointwise (λ a b. a == b) (decimal number) text

-- the number below 2^64 whose text this is
unfoldable pub number_in : List ℕ → Option ℕ
number_in text = if writes (digits_value 10 text) text then Some (digits_value 10 text) else None

-- the same below a bound
abbrev pub number_below : ℕ → List ℕ → Option ℕ
number_below bound text = option_and_then (λ n. if nat_lt n bound then Some n else None) (number_in text)

-- a number below 1000, with its leading zeros
abbrev pub in_three_digits : ℕ → List ℕ
in_three_digits n = (48 + n / 100) ∷ (48 + n % 100 / 10) ∷ (48 + n % 100 % 10) ∷ []

-- an AS number in a CSV file and in print: AS and its digits
abbrev pub asn_text : ℕ → List ℕ
asn_text number = codes "AS" ++ decimal number

abbrev pub asn_in : List ℕ → Option ℕ
asn_in (a ∷ s ∷ digits) = if (a == 65) && (s == 83) then number_below (2 ^ 32) digits else None
asn_in _ = None
