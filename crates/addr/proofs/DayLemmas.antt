-- Days: their numbers, and their texts.
use Rattle.addr.proofs.Vocabulary.{◌≡◌, ℕ, ◌+◌, ◌*◌, ◌/◌, ◌≤◌, ℤ, pos, negsuc, ◌-ℤ◌, ◌*ℤ◌, ◌≤ℤ◌, Some, ap, subst, ◌∙◌, arith, zero, suc, ◌%◌, ◌<◌, inl, inr, true, false, ◌+ℤ◌, ◌<ℤ◌, sym, refl, rules, int_div, unsigned_abs, int_lt, signed_arith, epoch_day, IsYmd, IsDay, from_1970, digit, two_digits, four_digits, day_number, day_in, date_text, is_calendar_day, and_from, le-leb, nat_tests, ints, by_lt_z, days_in_month_bounds}
use Rattle.std.specs.Int.{FitsUnsignedBits, IsInRange}
use Rattle.jiff_core.specs.declared.civil.date.Date.{Date}
use Rattle.jiff_core.specs.Calendar.{days_from_civil, days_in_month}
use Rattle.jiff_core.proofs.StandardFacts.{known_days}
use Rattle.jiff_core.proofs.DateLemmas.{epoch_day_range, epoch_day-lt, epoch_day-ordinal, days_from_civil-day}
use Rattle.addr.specs.Day.{last_year, last_month, year_of, month_of, day_of_month, day_text}

pub epoch_is_zero : (d : Date) → IsYmd (pos 1970) (pos 1) (pos 1) d → epoch_day d ≡ pos 0
epoch_is_zero d h =
    let month : d.month ≡ 1 = cc in
    let day : d.day ≡ 1 = cc in
    ap (λ y. days_from_civil y d.month d.day) h.0 ∙ ap (λ m. days_from_civil (pos 1970) m d.day) month
    ∙ ap (λ k. days_from_civil (pos 1970) 1 k) day
    ∙ known_days.0

-- the whole hours from the epoch to a day
abbrev pub hours_to : ℤ → ℤ
hours_to (pos n) = pos (24 * n)
hours_to (negsuc n) = negsuc (24 * n + 23)

-- days have 24 hours, before and after the epoch
hours_to_is : (day : ℤ) → int_div ((day -ℤ pos 0) *ℤ pos 86_400_000_000_000) (pos 3_600_000_000_000) ≡ hours_to day
hours_to_is (pos n) = omega (arith, signed_arith)
hours_to_is (negsuc n) = omega (arith, signed_arith)

pub hours_between :
    (day epoch nanos hours : ℤ) → epoch ≡ pos 0 → nanos ≡ (day -ℤ epoch) *ℤ pos 86_400_000_000_000
    → hours ≡ int_div nanos (pos 3_600_000_000_000) → hours ≡ hours_to day
hours_between day epoch nanos hours begins span whole =
    whole ∙ ap (λ n. int_div n (pos 3_600_000_000_000)) (span ∙ ap (λ e. (day -ℤ e) *ℤ pos 86_400_000_000_000) begins)
    ∙ hours_to_is day

pub number_by_hours :
    (day hours : ℤ) (h : ℕ) → hours ≡ hours_to day → FitsUnsignedBits 64 hours → h ≡ unsigned_abs hours
    → from_1970 day ≡ Some (h / 24)
number_by_hours (pos n) hours h e fits k =
    let all : h ≡ 24 * n = k ∙ ap unsigned_abs e in
    let same : n ≡ h / 24 = omega arith in
    ap Some same
number_by_hours (negsuc n) hours h e fits k = absurd (subst (FitsUnsignedBits 64) e fits)

-- no number is past that of 9999-12-31
pub number_within : (d : Date) (k : ℕ) → from_1970 (epoch_day d) ≡ Some k → IsDay k
number_within d k e = within (epoch_day d) k (epoch_day_range d).1 e
  where
    within : (day : ℤ) (k : ℕ) → day ≤ℤ pos 2_932_896 → from_1970 day ≡ Some k → k ≤ 2_932_896
    within (pos n) k h e = let same : n ≡ k = cc in omega (arith, signed_arith)
    within (negsuc n) k h e = cc

-- ---- texts of dates

digit_reads : (n : ℕ) → n < 10 → digit (48 + n) ≡ Some n
digit_reads n h = grind (arith, nat_tests)

two_digits_read : (n : ℕ) → n < 100 → two_digits (48 + n / 10) (48 + n % 10) ≡ Some n
two_digits_read n h =
    rw (digit_reads (n / 10) (omega arith), digit_reads (n % 10) (omega arith)) (ap Some (omega arith))

four_digits_read :
    (n : ℕ) → n < 10000
    → four_digits (48 + n / 100 / 10) (48 + n / 100 % 10) (48 + n % 100 / 10) (48 + n % 100 % 10) ≡ Some n
four_digits_read n h =
    rw (two_digits_read (n / 100) (omega arith), two_digits_read (n % 100) (omega arith)) (ap Some (omega arith))

-- a date's text reads as that date
date_text_reads :
    (year month day : ℕ) → year < 10000 → month < 100 → day < 100
    → day_in (date_text year month day) ≡ day_number year month day
date_text_reads year month day y m d =
    rw (four_digits_read year y, two_digits_read month m, two_digits_read day d) refl

is_day_from :
    (year month day : ℕ) → IsInRange 1 12 month → IsInRange 1 (days_in_month (pos year) month) day
    → is_calendar_day year month day ≡ true
is_day_from year month day m d =
    and_from _ _ (and_from _ _ (and_from _ _ (le-leb _ _ m.0) (le-leb _ _ m.1)) (le-leb _ _ d.0)) (le-leb _ _ d.1)

-- the number of a date from 1970 on
number_of_date :
    (d : Date) (n year : ℕ) → epoch_day d ≡ pos n → pos year ≡ d.year → day_number year d.month d.day ≡ Some n
number_of_date d n year number y =
    let is_day : is_calendar_day year d.month d.day ≡ true =
    is_day_from year d.month d.day d.month_in (subst (λ z. IsInRange 1 (days_in_month z d.month) d.day) (sym y) d.day_in)
    in
    rw is_day (ap from_1970 (ap (λ z. days_from_civil z d.month d.day) y ∙ number))

before : (a b : ℤ) → a <ℤ b → int_lt a b ≡ true
before a b h = grind (arith, ints)

not_before : (a b : ℤ) → b ≤ℤ a → int_lt a b ≡ false
not_before a b h = grind (arith, ints)

epoch_date : Date
epoch_date = record { year = pos 1970; month = 1; day = 1; year_in = search rules; month_in = search rules; day_in = search rules }

-- no year before 1970 has a day from the epoch on
pub from_1970_on : (d : Date) (n : ℕ) → epoch_day d ≡ pos n → pos 1970 ≤ℤ d.year
unfolding epoch_date
from_1970_on d n e =
    by_lt_z d.year (pos 1970)
    (λ early. let lower = epoch_day-lt d epoch_date (inl early) in let zero = known_days.0 in absurd (omega (arith, signed_arith)))
    (λ on. on)

first_of_year : (y : ℕ) → y ≤ 9999 → Date
first_of_year y h = record { year = pos y; month = 1; day = 1; year_in = omega (arith, signed_arith); month_in = omega arith; day_in = omega arith }

last_year_is :
    (d : Date) (y n k : ℕ) → d.year ≡ pos y → epoch_day d ≡ pos n → 0 < y → y ≤ k → k ≤ 9999 → last_year k n ≡ y
unfolding last_year first_of_year
last_year_is d y n zero e day low high last = absurd (omega arith)
last_year_is d y n (suc k) e day low high last =
    by_lt_z (pos y) (pos (suc k))
    (λ below.
    let later : d.year <ℤ pos (suc k) = omega (arith, signed_arith) in
    let lower = epoch_day-lt d (first_of_year (suc k) last) (inl later) in
    let short : y ≤ k = omega (arith, signed_arith) in
    rw (before (pos n) (days_from_civil (pos (suc k)) 1 1) (omega (arith, signed_arith)))
    (last_year_is d y n k e day low short (omega arith)))
    (λ above.
    let same : suc k ≡ y = omega (arith, signed_arith) in
    let begins : days_from_civil d.year 1 1 ≡ days_from_civil (pos (suc k)) 1 1 =
    ap (λ z. days_from_civil z 1 1) (e ∙ ap pos (sym same))
    in
    let place = epoch_day-ordinal d in
    let first = d.day_in.0 in
    rw (not_before (pos n) (days_from_civil (pos (suc k)) 1 1) (omega (arith, signed_arith))) same)

-- the month's first day is its day of the month before
month_begins :
    (d : Date) (n : ℕ) → epoch_day d ≡ pos n
    → days_from_civil d.year d.month 1 +ℤ pos d.day ≡ pos n +ℤ pos 1
month_begins d n day =
    let first = days_from_civil-day d.year d.month 1 d.day (omega arith) d.day_in.0 in
    omega (arith, signed_arith)

first_of_month : (d : Date) (m : ℕ) → 1 ≤ m → m ≤ 12 → Date
first_of_month d m low high =
    let long = days_in_month_bounds d.year m in
    record { year = d.year; month = m; day = 1; year_in = d.year_in; month_in = omega arith; day_in = omega arith }

last_month_is :
    (d : Date) (y n k : ℕ) → d.year ≡ pos y → epoch_day d ≡ pos n → d.month ≤ k → k ≤ 12
    → last_month y k n ≡ d.month
unfolding last_month first_of_month
last_month_is d y n zero e day high last = absurd (let low = d.month_in.0 in omega arith)
last_month_is d y n (suc k) e day high last =
    let begins : days_from_civil d.year (suc k) 1 ≡ days_from_civil (pos y) (suc k) 1 =
    ap (λ z. days_from_civil z (suc k) 1) e
    in
    by_lt_z (pos d.month) (pos (suc k))
    (λ below.
    let later : d.month < suc k = omega (arith, signed_arith) in
    let lower = epoch_day-lt d (first_of_month d (suc k) (omega arith) last) (inr (refl, inl later)) in
    rw (before (pos n) (days_from_civil (pos y) (suc k) 1) (omega (arith, signed_arith)))
    (last_month_is d y n k e day (omega arith) (omega arith)))
    (λ above.
    let same : suc k ≡ d.month = omega (arith, signed_arith) in
    let here : days_from_civil d.year (suc k) 1 ≡ days_from_civil d.year d.month 1 =
    ap (λ m. days_from_civil d.year m 1) same
    in
    let place = month_begins d n day in
    let first = d.day_in.0 in
    rw (not_before (pos n) (days_from_civil (pos y) (suc k) 1) (omega (arith, signed_arith))) same)

year_of_is : (d : Date) (y n : ℕ) → d.year ≡ pos y → epoch_day d ≡ pos n → year_of n ≡ y
unfolding year_of
year_of_is d y n e day =
    let on = from_1970_on d n day in
    let within = d.year_in.1 in
    last_year_is d y n 9999 e day (omega (arith, signed_arith)) (omega (arith, signed_arith)) (omega arith)

month_of_is : (d : Date) (y n : ℕ) → d.year ≡ pos y → epoch_day d ≡ pos n → month_of n ≡ d.month
unfolding month_of
month_of_is d y n e day = rw (year_of_is d y n e day) (last_month_is d y n 12 e day d.month_in.1 (omega arith))

day_of_is : (d : Date) (y n : ℕ) → d.year ≡ pos y → epoch_day d ≡ pos n → day_of_month n ≡ d.day
unfolding day_of_month
day_of_is d y n e day =
    rw (year_of_is d y n e day, month_of_is d y n e day)
    (let place = month_begins d n day in
    let begins : days_from_civil d.year d.month 1 ≡ days_from_civil (pos y) d.month 1 =
    ap (λ z. days_from_civil z d.month 1) e
    in
    let left : pos (n + 1) -ℤ days_from_civil (pos y) d.month 1 ≡ pos d.day = omega (arith, signed_arith) in
    ap unsigned_abs left)

-- the text of a date from 1970 on is that of its day
pub date_text_is :
    (d : Date) (y n : ℕ) → d.year ≡ pos y → epoch_day d ≡ pos n → date_text y d.month d.day ≡ day_text n
unfolding day_text
date_text_is d y n e day =
    rw (year_of_is d y n e day, month_of_is d y n e day, day_of_is d y n e day) refl

-- what `write_to` writes of a date
pub date_writes :
    (d : Date) (n year month day : ℕ) → epoch_day d ≡ pos n → pos year ≡ d.year → month ≡ d.month → day ≡ d.day
    → (date_text year month day ≡ day_text n) × (day_in (date_text year month day) ≡ Some n)
date_writes d n year month day number y m k =
    let years = d.year_in.1 in
    let months = d.month_in in
    let days = d.day_in in
    let long = days_in_month_bounds d.year d.month in
    let parts : date_text year month day ≡ date_text year d.month d.day =
    ap (λ x. date_text year x day) m ∙ ap (λ x. date_text year d.month x) k
    in
    let read = date_text_reads year d.month d.day (omega (arith, signed_arith)) (omega arith) (omega arith) in
    (parts ∙ date_text_is d year n (sym y) number, ap day_in parts ∙ read ∙ number_of_date d n year number y)

-- a year from 1970 on, cast to an unsigned number
pub year_cast :
    (z year : ℤ) → z ≡ year → pos 1970 ≤ℤ year → year ≤ℤ pos 9999
    → (pos (unsigned_abs z) ≡ year) × (unsigned_abs z < 10000)
year_cast z (pos n) e low high =
    let same : unsigned_abs z ≡ n = ap unsigned_abs e in
    (ap pos same, omega (arith, signed_arith))
year_cast z (negsuc n) e low high = absurd (omega (arith, signed_arith))
