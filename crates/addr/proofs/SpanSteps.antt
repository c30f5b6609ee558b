-- One more run looked at, while a run is added to a set of addresses or taken out of it.
use Rattle.addr.proofs.Vocabulary.{◌≡◌, ℕ, ◌+◌, ◌-◌, ◌≤◌, ◌<◌, Bool, true, false, ◌&&◌, ◌||◌, not, nat_lt, refl, sym, ap, subst, ◌∙◌, arith, List, [], ◌∷◌, ◌++◌, Option, Some, None, IfSome, take, drop, get_or, length, suc, add-one, take_all, list_all, option_to_list, and_parts, and_from, nat_tests, take_more, or-false, and-false, or_assoc, drop-cons, list_all-append, list_any-append, AllPass-from_list_all, list_all-from_AllPass, family_eq, Address, is_between, Family, span_has, spans_have, is_apart_below, AreMaximal, IsWithin, AreParts, part_has, is_after, Span}
use mathlib.Core.Bool.{and-or_distrib_right}
use Rattle.addr.proofs.Equality.{family_tells}
use Rattle.addr.proofs.SpanLemmas.{is_gap, all_below, all_above, AllApart, maximal_append, all_weaker, apart_trans, apart_to_part, apart_from_part}

-- the runs kept, then the pending one, then those still to come; together what was had and what is added
pub record Adding (done rest : List Span) (added : Span) (kept : List Span) (pending : Span) : Type 0 where
  pub maximal : AreMaximal kept
  pub before : all_below kept pending ≡ true
  pub apart : AllApart kept rest
  pub left : AreMaximal rest
  pub same : (a : Address) → (spans_have kept a || span_has pending a) ≡ (spans_have done a || span_has added a)

pub all_true : {X : Type 0} (p : X → Bool) (xs : List X) → list_all p xs ≡ true → (x : X) → p x ≡ true → list_all p (xs ++ x ∷ []) ≡ true
all_true p xs all x one = rw (list_all-append p xs (x ∷ [])) (and_from (list_all p xs) (p x && true) all (and_from (p x) true one refl))

pub have_more : (xs : List Span) (s : Span) (a : Address) → spans_have (xs ++ s ∷ []) a ≡ (spans_have xs a || span_has s a)
have_more xs s a = list_any-append (λ t. span_has t a) xs (s ∷ []) ∙ ap (λ b. spans_have xs a || b) (or-false (span_has s a))

-- each is apart below the next one and all that follow
pub apart_head : (kept : List Span) (s : Span) (rest : List Span) → AllApart kept (s ∷ rest) → (all_below kept s ≡ true) × AllApart kept rest
apart_head kept s rest apart = (
  all_weaker (λ k. all_above k (s ∷ rest)) (λ k. is_apart_below k s) kept (λ k b. (and_parts (is_apart_below k s) (all_above k rest) b).0) apart,
  all_weaker (λ k. all_above k (s ∷ rest)) (λ k. all_above k rest) kept (λ k b. (and_parts (is_apart_below k s) (all_above k rest) b).1) apart,
)

pub below_apart : (kept : List Span) (s : Span) → all_below kept s ≡ true → AllApart kept (s ∷ [])
below_apart kept s below = all_weaker (λ k. is_apart_below k s) (λ k. all_above k (s ∷ [])) kept (λ k b. and_from _ _ b refl) below

pub maximal_more : (kept : List Span) (s : Span) → AreMaximal kept → all_below kept s ≡ true → AreMaximal (kept ++ s ∷ [])
maximal_more kept s maximal below = maximal_append kept (s ∷ []) maximal (refl, tt) (below_apart kept s below)

-- maximal runs are apart below a run where the last of them is
pub last_below : (xs : List Span) (last s : Span) → AreMaximal (xs ++ last ∷ []) → all_below (xs ++ last ∷ []) s ≡ is_apart_below last s
last_below xs last s maximal = go (is_apart_below last s) refl
  where
    go : (b : Bool) → is_apart_below last s ≡ b → all_below (xs ++ last ∷ []) s ≡ b
    go true is = each xs maximal
      where
        each : (xs : List Span) → AreMaximal (xs ++ last ∷ []) → all_below (xs ++ last ∷ []) s ≡ true
        each [] all = and_from _ _ is refl
        each (x ∷ xs) all =
            let below = list_all-append (λ t. is_apart_below x t) xs (last ∷ []) in
            and_from _ _ (apart_trans x last s (and_parts _ _ (and_parts _ _ (sym below ∙ all.0)).1).0 is) (each xs all.1)
    go false is = list_all-append (λ t. is_apart_below t s) xs (last ∷ []) ∙ (λ i. all_below xs s && (is i && true)) ∙ and-false (all_below xs s)

swap_last : (w x y z n : Bool) → (x || y) ≡ (z || n) → ((x || w) || y) ≡ ((z || w) || n)
swap_last w x y z n e = grind arith

add_last : (w x y z n : Bool) → (x || y) ≡ (z || n) → ((x || y) || w) ≡ ((z || w) || n)
add_last w x y z n e = grind arith

join_last : (w x y z n j : Bool) → j ≡ (y || w) → (x || y) ≡ (z || n) → (x || j) ≡ ((z || w) || n)
join_last w x y z n j is e = ap (λ b. x || b) is ∙ sym (or_assoc x y w) ∙ add_last w x y z n e

pub add_below : (done : List Span) (s : Span) (rest : List Span) (added : Span) (kept : List Span) (pending : Span) → is_apart_below s pending ≡ true → Adding done (s ∷ rest) added kept pending → Adding (done ++ s ∷ []) rest added (kept ++ s ∷ []) pending
add_below done s rest added kept pending gap now =
    let head = apart_head kept s rest now.apart in
    record {
      maximal = maximal_more kept s now.maximal head.0;
      before = all_true (λ k. is_apart_below k pending) kept now.before s gap;
      apart = all_true (λ k. all_above k rest) kept head.1 s now.left.0;
      left = now.left.1;
      same = λ a. rw (have_more kept s a, have_more done s a) (swap_last (span_has s a) (spans_have kept a) (span_has pending a) (spans_have done a) (span_has added a) (now.same a));
    }

pub add_above : (done : List Span) (s : Span) (rest : List Span) (added : Span) (kept : List Span) (pending : Span) → is_apart_below pending s ≡ true → Adding done (s ∷ rest) added kept pending → Adding (done ++ s ∷ []) rest added (kept ++ pending ∷ []) s
add_above done s rest added kept pending gap now =
    let head = apart_head kept s rest now.apart in
    record {
      maximal = maximal_more kept pending now.maximal now.before;
      before = all_true (λ k. is_apart_below k s) kept head.0 pending gap;
      apart = all_true (λ k. all_above k rest) kept head.1 pending (all_weaker (is_apart_below s) (is_apart_below pending) rest (λ y. apart_trans pending s y gap) now.left.0);
      left = now.left.1;
      same = λ a. rw (have_more kept pending a, have_more done s a) (add_last (span_has s a) (spans_have kept a) (span_has pending a) (spans_have done a) (span_has added a) (now.same a));
    }

below_both : (kept : List Span) (one other joined : Span) → ((s : Span) → is_apart_below s one ≡ true → is_apart_below s other ≡ true → is_apart_below s joined ≡ true) → all_below kept one ≡ true → all_below kept other ≡ true → all_below kept joined ≡ true
below_both [] one other joined first a b = refl
below_both (k ∷ kept) one other joined first a b =
    let left = and_parts (is_apart_below k one) (all_below kept one) a in
    let right = and_parts (is_apart_below k other) (all_below kept other) b in
    and_from _ _ (first k left.0 right.0) (below_both kept one other joined first left.1 right.1)

pub add_join : (done : List Span) (s : Span) (rest : List Span) (added : Span) (kept : List Span) (pending joined : Span) → ((a : Address) → span_has joined a ≡ (span_has pending a || span_has s a)) → ((t : Span) → is_apart_below t pending ≡ true → is_apart_below t s ≡ true → is_apart_below t joined ≡ true) → Adding done (s ∷ rest) added kept pending → Adding (done ++ s ∷ []) rest added kept joined
add_join done s rest added kept pending joined has first now =
    let head = apart_head kept s rest now.apart in
    record {
      maximal = now.maximal;
      before = below_both kept pending s joined first now.before head.0;
      apart = head.1;
      left = now.left.1;
      same = λ a. rw (have_more done s a) (join_last (span_has s a) (spans_have kept a) (span_has pending a) (spans_have done a) (span_has added a) (span_has joined a) (has a) (now.same a));
    }

-- the runs kept, then those still to come; of those done what the other has not
pub record Cutting (done rest : List Span) (gone : Span) (kept : List Span) : Type 0 where
  pub maximal : AreMaximal kept
  pub apart : AllApart kept rest
  pub left : AreMaximal rest
  pub same : (a : Address) → spans_have kept a ≡ (spans_have done a && not (span_has gone a))

each_below : (parts : List Span) (s : Span) (rest : List Span) → ((t : Span) → is_apart_below s t ≡ true → all_below parts t ≡ true) → all_above s rest ≡ true → AllApart parts rest
each_below parts s rest below above =
    list_all-from_AllPass (λ p. all_above p rest) parts (λ k d within.
    list_all-from_AllPass (is_apart_below (get_or parts k d)) rest (λ j e inside.
    let t = get_or rest j e in
    AllPass-from_list_all (λ p. is_apart_below p t) parts (below t (AllPass-from_list_all (is_apart_below s) rest above j e inside)) k d within))

pub cut_more : (done : List Span) (s : Span) (rest : List Span) (gone : Span) (kept parts : List Span) → AreParts s gone parts → Cutting done (s ∷ rest) gone kept → Cutting (done ++ s ∷ []) rest gone (kept ++ parts)
cut_more done s rest gone kept parts are now =
    let head = apart_head kept s rest now.apart in
    record {
      maximal = maximal_append kept parts now.maximal are.maximal (all_weaker (λ k. is_apart_below k s) (λ k. all_above k parts) kept are.above head.0);
      apart = rw (list_all-append (λ k. all_above k rest) kept parts) (and_from _ _ head.1 (each_below parts s rest are.below now.left.0));
      left = now.left.1;
      same = λ a. rw (list_any-append (λ t. span_has t a) kept parts, have_more done s a, now.same a, are.same a) (sym (and-or_distrib_right (spans_have done a) (span_has s a) (not (span_has gone a))));
    }

-- what lies after a run does not lie in it
after_not_in : (f g : Family) (low high n : ℕ) → family_eq g f && nat_lt high n ≡ true → is_between f low high (record { family = g; number = n }) ≡ false
after_not_in f g low high n past = grind (arith, nat_tests)

joined : (whole other : Span) (a : Address) (x y : Bool) → x ≡ (span_has whole a && (not (span_has other a) && not (is_after a other))) → y ≡ (span_has whole a && is_after a other) → (x || y) ≡ (span_has whole a && not (span_has other a))
joined whole other a x y first second = rw (first, second) (apart (span_has whole a) (span_has other a) (is_after a other) (after_not_in other.family a.family other.lo other.hi a.number))
  where
    apart : (w o p : Bool) → (p ≡ true → o ≡ false) → ((w && (not o && not p)) || (w && p)) ≡ (w && not o)
    apart w o p none = grind arith

gap_same : (f : Family) (high low : ℕ) → high + 1 < low → is_gap f high f low ≡ true
gap_same f high low lt = grind (arith, nat_tests, family_tells)

-- the parts before and after are what is left of a run
pub parts_of : (whole other : Span) (before after : Option Span) →
    IfSome before (λ part. IsWithin part whole × (family_eq whole.family other.family ≡ true → part.hi < other.lo)) →
    ((a : Address) → part_has before a ≡ (span_has whole a && (not (span_has other a) && not (is_after a other)))) →
    IfSome after (λ part. IsWithin part whole × (family_eq whole.family other.family ≡ true) × (other.hi < part.lo)) →
    ((a : Address) → part_has after a ≡ (span_has whole a && is_after a other)) →
    AreParts whole other (option_to_list before ++ option_to_list after)
parts_of whole other None None in_before has_before in_after has_after = record {
  above = λ s gap. refl;
  below = λ s gap. refl;
  maximal = tt;
  same = λ a. joined whole other a false false (has_before a) (has_after a);
}
parts_of whole other None (Some y) in_before has_before in_after has_after = record {
  above = λ s gap. and_from _ _ (apart_to_part s whole y in_after.0 gap) refl;
  below = λ s gap. and_from _ _ (apart_from_part s whole y in_after.0 gap) refl;
  maximal = (refl, tt);
  same = λ a. or-false (span_has y a) ∙ joined whole other a false (span_has y a) (has_before a) (has_after a);
}
parts_of whole other (Some x) None in_before has_before in_after has_after = record {
  above = λ s gap. and_from _ _ (apart_to_part s whole x in_before.0 gap) refl;
  below = λ s gap. and_from _ _ (apart_from_part s whole x in_before.0 gap) refl;
  maximal = (refl, tt);
  same = λ a. joined whole other a (span_has x a) false (has_before a) (has_after a);
}
parts_of whole other (Some x) (Some y) in_before has_before in_after has_after = record {
  above = λ s gap. and_from _ _ (apart_to_part s whole x in_before.0 gap) (and_from _ _ (apart_to_part s whole y in_after.0 gap) refl);
  below = λ s gap. and_from _ _ (apart_from_part s whole x in_before.0 gap) (and_from _ _ (apart_from_part s whole y in_after.0 gap) refl);
  maximal = (and_from _ _ (rw (in_before.0.family, in_after.0.family) (gap_same whole.family x.hi y.lo (omega (arith, in_before.1 in_after.1, other.ordered, in_after.2)))) refl, (refl, tt));
  same = λ a. ap (λ b. span_has x a || b) (or-false (span_has y a)) ∙ joined whole other a (span_has x a) (span_has y a) (has_before a) (has_after a);
}

-- nothing looked at yet
pub adding_first : (spans : List Span) (added : Span) → AreMaximal spans → Adding [] spans added [] added
adding_first spans added maximal = record { maximal = tt; before = refl; apart = refl; left = maximal; same = λ a. refl }

pub cutting_first : (spans : List Span) (gone : Span) → AreMaximal spans → Cutting [] spans gone []
cutting_first spans gone maximal = record { maximal = tt; apart = refl; left = maximal; same = λ a. refl }

-- one more element of a list looked at
pub one_more : (xs : List Span) (i : ℕ) (s : Span) → i < length xs → s ≡ get_or xs i s → (take (i + 1) xs ≡ take i xs ++ s ∷ []) × (drop i xs ≡ s ∷ drop (i + 1) xs)
one_more xs i s below is = (
  take_more xs i s below ∙ ap (λ x. take i xs ++ x ∷ []) (sym is),
  drop-cons xs i s below ∙ ap (λ x. x ∷ drop (suc i) xs) (sym is) ∙ ap (λ n. s ∷ drop n xs) (sym (add-one i)),
)

pub cutting_step : (xs : List Span) (i : ℕ) (s : Span) (gone : Span) (kept parts after : List Span) → i < length xs → s ≡ get_or xs i s → AreParts s gone parts → after ≡ kept ++ parts → Cutting (take i xs) (drop i xs) gone kept → Cutting (take (i + 1) xs) (drop (i + 1) xs) gone after
cutting_step xs i s gone kept parts after below is are grown now =
    let more = one_more xs i s below is in
    rw (grown, more.0) (cut_more (take i xs) s (drop (i + 1) xs) gone kept parts are (rw more.1 at now))

pub adding_end : (xs : List Span) (added : Span) (kept : List Span) (pending : Span) (i : ℕ) (after : List Span) → length xs ≤ i → after ≡ kept ++ pending ∷ [] → Adding (take i xs) (drop i xs) added kept pending → AreMaximal after × ((a : Address) → spans_have after a ≡ (spans_have xs a || span_has added a))
adding_end xs added kept pending i after ended grown now = (
  rw grown (maximal_more kept pending now.maximal now.before),
  λ a. rw (grown, have_more kept pending a) (now.same a ∙ ap (λ ys. spans_have ys a || span_has added a) (take_all i xs ended)),
)

pub cutting_end : (xs : List Span) (gone : Span) (kept : List Span) (i : ℕ) → length xs ≤ i → Cutting (take i xs) (drop i xs) gone kept → (a : Address) → spans_have kept a ≡ (spans_have xs a && not (span_has gone a))
cutting_end xs gone kept i ended now a = now.same a ∙ ap (λ ys. spans_have ys a && not (span_has gone a)) (take_all i xs ended)

pub adding_at : (done rest : List Span) (added : Span) (kept after : List Span) (pending next : Span) → after ≡ kept → next ≡ pending → Adding done rest added kept pending → Adding done rest added after next
adding_at done rest added kept after pending next same_kept same_pending now = rw (same_kept, same_pending) now

pub last_of_maximal : (xs : List Span) (last s : Span) → 1 ≤ length xs → last ≡ get_or xs (length xs - 1) last → AreMaximal xs → all_below xs s ≡ is_apart_below last s
last_of_maximal xs last s some is maximal =
    let before = take (length xs - 1) xs in
    let parts : xs ≡ before ++ last ∷ [] = sym (take_all (length xs - 1 + 1) xs (omega arith)) ∙ (one_more xs (length xs - 1) last (omega arith) is).0 in
    ap (λ l. all_below l s) parts ∙ last_below before last s (subst AreMaximal parts maximal)
