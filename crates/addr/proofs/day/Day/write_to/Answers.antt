use Rattle.addr.proofs.Vocabulary.{◌≡◌, ◌∙◌, ap, Some, FitsSigned, to_z, of_z, w8, w16, arith, unsigned_abs, to_z-of_z, signed_arith, days_in_month_bounds, day_in, day_text}
use Rattle.addr.proofs.DayLemmas.{date_writes, from_1970_on, year_cast}
use Rattle.addr.proofs.day.Day.write_to.Goals as goal

pub overflow_cast-year : goal.overflow_cast-year
overflow_cast-year c =
    let on = from_1970_on c.date-date.result c.args.self.now c.date-date.ensures in
    let fits : FitsSigned w16 c.year.result = omega (arith, signed_arith) in
    let back = to_z-of_z _ _ fits in
    let cast = year_cast _ c.date-date.result.year (back ∙ c.year.ensures) on c.date-date.result.year_in.1 in
    omega (arith, signed_arith)

written :
    (c : goal.After-write_date)
    → (c.write_date.new.text.bytes ≡ day_text c.args.self.now) × (day_in c.write_date.new.text.bytes ≡ Some c.args.self.now)
written c =
    let d = c.date-date.result in
    let on = from_1970_on d c.args.self.now c.date-date.ensures in
    let within = d.year_in.1 in
    let months = d.month_in in
    let days = d.day_in in
    let long = days_in_month_bounds d.year d.month in
    let year_fits : FitsSigned w16 c.year.result = omega (arith, signed_arith) in
    let month_fits : FitsSigned w8 c.month.result = omega (arith, signed_arith) in
    let day_fits : FitsSigned w8 c.day.result = omega (arith, signed_arith) in
    let year_back = to_z-of_z _ _ year_fits in
    let month_back = to_z-of_z _ _ month_fits in
    let day_back = to_z-of_z _ _ day_fits in
    let cast = year_cast _ d.year (year_back ∙ c.year.ensures) on within in
    let writes = date_writes d c.args.self.now (unsigned_abs (to_z w16 (of_z w16 c.year.result)))
    (unsigned_abs (to_z w8 (of_z w8 c.month.result))) (unsigned_abs (to_z w8 (of_z w8 c.day.result))) c.date-date.ensures
    cast.0 (ap unsigned_abs (month_back ∙ c.month.ensures)) (ap unsigned_abs (day_back ∙ c.day.ensures))
    in
    (c.write_date.ensures ∙ writes.0, ap day_in c.write_date.ensures ∙ writes.1)

pub returns-clause-written : goal.returns-clause-written
returns-clause-written c = (written c).0

pub returns-clause-reads_back : goal.returns-clause-reads_back
returns-clause-reads_back c = (written c).1
