use Rattle.addr.proofs.decimal.+digits_length.Given as goal

abbrev pub decreases-digits_length : goal.decreases-digits_length
decreases-digits_length l = l.number
