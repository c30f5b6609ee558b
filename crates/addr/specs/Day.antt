-- Days are counted from 1970-01-01, which is 0, to 9999-12-31.
use Rattle.std.specs.Prelude.{◌≤◌, ℕ, zero, suc, ◌+◌, ◌-◌, ◌*◌, ◌/◌, ◌%◌, Bool, ◌&&◌, ◌==◌, if◌then◌else◌, nat_le, ℤ, pos, negsuc, ◌-ℤ◌, int_lt, unsigned_abs, List, [], ◌∷◌, ◌++◌, length, slice_index, Option, Some, None}
use Rattle.std.specs.Option.{option_and_then, option_map}
use Rattle.jiff_core.specs.Calendar.{days_from_civil, days_in_month}
use Rattle.addr.specs.declared.day.TheConstants.{LAST_DAY}

-- the number is that of a day
abbrev pub IsDay : ℕ → Type 0
IsDay number = number ≤ LAST_DAY

-- the calendar has this day of a year from 0 on
abbrev pub is_calendar_day : ℕ → ℕ → ℕ → Bool
is_calendar_day year month day =
    nat_le 1 month && nat_le month 12 && nat_le 1 day && nat_le day (days_in_month (pos year) month)

-- a count of days since 1970-01-01, where it is none before it
abbrev pub from_1970 : ℤ → Option ℕ
from_1970 (pos days) = Some days
from_1970 (negsuc days) = None

-- the number of a calendar day from 1970-01-01 on
abbrev pub day_number : ℕ → ℕ → ℕ → Option ℕ
day_number year month day =
    if is_calendar_day year month day then from_1970 (days_from_civil (pos year) month day) else None

-- the value of a decimal digit
abbrev pub digit : ℕ → Option ℕ
digit byte = if nat_le 48 byte && nat_le byte 57 then Some (byte - 48) else None

-- the number that two digits write
abbrev pub two_digits : ℕ → ℕ → Option ℕ
two_digits tens ones = option_and_then (λ t. option_map (λ o. 10 * t + o) (digit ones)) (digit tens)

-- the number that four digits write
abbrev pub four_digits : ℕ → ℕ → ℕ → ℕ → Option ℕ
four_digits thousands hundreds tens ones =
    option_and_then (λ h. option_map (λ t. 100 * h + t) (two_digits tens ones))
    (two_digits thousands hundreds)

-- the number of the day that a text YYYY-MM-DD names
abbrev pub day_in : List ℕ → Option ℕ
day_in text =
    if (length text == 10) && (slice_index text 4 == 45) && (slice_index text 7 == 45) then
    option_and_then
    (λ year. option_and_then
    (λ month. option_and_then (λ day. day_number year month day) (two_digits (slice_index text 8) (slice_index text 9)))
    (two_digits (slice_index text 5) (slice_index text 6)))
    (four_digits (slice_index text 0) (slice_index text 1) (slice_index text 2) (slice_index text 3))
    else None

-- a number below 100 in two digits
abbrev pub in_two_digits : ℕ → List ℕ
in_two_digits n = (48 + n / 10) ∷ (48 + n % 10) ∷ []

-- YYYY-MM-DD
abbrev pub date_text : ℕ → ℕ → ℕ → List ℕ
date_text year month day =
    in_two_digits (year / 100) ++ in_two_digits (year % 100) ++ 45 ∷ in_two_digits month ++ 45 ∷ in_two_digits day

-- the last of the years up to one whose 1 January is not after a day
unfoldable pub last_year : ℕ → ℕ → ℕ
last_year zero day = 0
last_year (suc year) day =
    if int_lt (pos day) (days_from_civil (pos (suc year)) 1 1) then last_year year day else suc year

-- the last of the year's months up to one whose first day is not after a day
unfoldable pub last_month : ℕ → ℕ → ℕ → ℕ
last_month year zero day = 0
last_month year (suc month) day =
    if int_lt (pos day) (days_from_civil (pos year) (suc month) 1) then last_month year month day else suc month

-- the year, the month and the day of the month of a day from 1970-01-01 to 9999-12-31
unfoldable pub year_of : ℕ → ℕ
year_of day = last_year 9999 day

unfoldable pub month_of : ℕ → ℕ
month_of day = last_month (year_of day) 12 day

unfoldable pub day_of_month : ℕ → ℕ
day_of_month day = unsigned_abs (pos (day + 1) -ℤ days_from_civil (pos (year_of day)) (month_of day) 1)

-- the text of a day
unfoldable pub day_text : ℕ → List ℕ
day_text day = date_text (year_of day) (month_of day) (day_of_month day)
