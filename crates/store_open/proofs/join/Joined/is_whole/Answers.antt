use Rattle.store_open.proofs.Vocabulary.{◌<◌, ◌+◌, arith, length, nat_le, subst, leb-false, leb-true, AreEntries}
use Rattle.store_open.proofs.Joining.{by_test, joined_last, joined_never, joined_none_left, joined_too_few, joined_unfit}
use Rattle.store_open.proofs.Keys.{as_many}
use Rattle.store_open.proofs.join.Joined.is_whole.Goals as goal

pub returns-then-not-self : goal.returns-then-not-self
returns-then-not-self c all keyed rows joins = let a = c.args.self in joined_never all rows a.passed a.found.items a.fits joins c.if-not-self.true

pub returns-then-self-len : goal.returns-then-self-len
returns-then-self-len c all keyed rows joins =
    let a = c.args.self in
    joined_none_left all rows a.passed a.found.items a.fits joins c.if-not-self.false (omega (arith, as_many all a.claims.items keyed, c.len.ensures, c.if-self-len.true))

pub returns-in_default : goal.returns-in_default
returns-in_default c all keyed rows joins =
    let a = c.args.self in
    joined_unfit all rows a.passed a.found.items a.fits joins c.if-not-self.false (omega (arith, as_many all a.claims.items keyed, c.len.ensures, c.if-self-len.false)) c.in_default.ensures

pub returns : goal.returns
returns c all keyed rows joins =
    let a = c.args.self in
    let many = as_many all a.claims.items keyed in
    let low : a.passed < length all = omega (arith, many, c.len.ensures, c.if-self-len.false) in
    let fit = subst AreEntries c.in-Some.ensures.1 c.in-Some.ensures.0 in
    by_test (nat_le c.len-2.result (a.passed + 1))
    (λ is. joined_last all rows a.passed a.found.items a.fits joins c.if-not-self.false low fit (omega (arith, many, leb-true _ _ is, c.len-2.ensures)))
    (λ is. joined_too_few all rows a.passed a.found.items a.fits joins c.if-not-self.false low fit (omega (arith, many, leb-false _ _ is, c.len-2.ensures)))
