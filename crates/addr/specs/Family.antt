use Rattle.std.specs.Prelude.{ℕ, Bool, true, false}
use Rattle.addr.specs.declared.family.Family.{Family}
use Rattle.addr.specs.declared.family.Family.TheVariants.{V4, V6}

-- how many bits an address of the family has
abbrev pub width : Family → ℕ
width V4 = 32
width V6 = 128

abbrev pub family_eq : Family → Family → Bool
family_eq V4 V4 = true
family_eq V6 V6 = true
family_eq V4 V6 = false
family_eq V6 V4 = false
