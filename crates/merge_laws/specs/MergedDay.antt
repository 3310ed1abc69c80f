-- What holds of every merged day, whatever its order at equal clock: its clocks are those at home, it opens with a clock, they neither fall nor
-- pass the largest, its records are sound. Assumes nothing.
use Rattle.std.specs.Prelude.{Bool, false, cond, ◌≡◌, refl, ℕ, ◌≤◌, leb}
use Rattle.std.proofs.Math.Bool.{true}
use Rattle.std.proofs.Common.{sym, ap, arith, le_refl, leb-true, le-leb}
use Rattle.std.proofs.Math.Path.{subst}
use mathlib.Core.List.{List, [], ◌∷◌}
use Rattle.shape.specs.LimitsLaws.{both}
use Rattle.model.specs.declared.Record.{Record}
use Rattle.model.specs.Sound.{max_clock}
use Rattle.model.specs.Claim.{Each}
use Rattle.model.specs.Merge.{AtClock, Merged, is_clock, clock_after, timed, opens_with_clock, orderly, mergeable, firsts, seconds, climbs, unmarked, held_of}
use Rattle.laws.specs.Cond.{and-true}

-- ---- lists of records with clocks

abbrev head_or : AtClock → List AtClock → AtClock
head_or d [] = d
head_or d (t ∷ ts) = t

abbrev tail_of : List AtClock → List AtClock
tail_of [] = []
tail_of (t ∷ ts) = ts

none : (t : AtClock) (ts : List AtClock) → t ∷ ts ≡ [] → ⊥
none t ts e = subst (λ (z : List AtClock). full z) e tt
  where
    full : List AtClock → Type 0
    full [] = ⊥
    full (t ∷ ts) = Unit {0}

held_timed : (c : ℕ) (rs : List Record) → held_of (timed c rs) ≡ rs
held_timed c [] = refl
held_timed c (r ∷ rs) = ap (λ (z : List Record). r ∷ z) (held_timed (clock_after c r) rs)

-- what holds of each record of both days holds of each marked one
each_marked : (P : AtClock → Type 0) (ms : List (Bool × AtClock)) → Each P (firsts ms) → Each P (seconds ms) → Each P (unmarked ms)
each_marked P [] f s = tt
each_marked P ((true, t) ∷ ms) f s = (f.0, each_marked P ms f.1 s)
each_marked P ((false, t) ∷ ms) f s = (s.0, each_marked P ms f s.1)

each_held : (P : Record → Type 0) (ts : List AtClock) → Each P (held_of ts) → Each (λ t. P t.held) ts
each_held P [] h = tt
each_held P (t ∷ ts) h = (h.0, each_held P ts h.1)

held_each : (P : Record → Type 0) (ts : List AtClock) → Each (λ t. P t.held) ts → Each P (held_of ts)
held_each P [] h = tt
held_each P (t ∷ ts) h = (h.0, held_each P ts h.1)

-- ---- the clocks at home

-- a record has the same clock after d as after c, if d lies from c up to that clock: a clock record sets its own, and for another d is c
after_same : (c d : ℕ) (r : Record) → c ≤ d → d ≤ clock_after c r → clock_after d r ≡ clock_after c r
after_same c d r low high = go (is_clock r) high
  where
    go : (t : Bool) → d ≤ cond t r.first c → cond t r.first d ≡ cond t r.first c
    go true h = refl
    go false h = omega arith

-- the next marked record t is the next one r of its day, whose last clock was a; the clock of the merged day is at c by then
module _ (t : AtClock) (ts : List AtClock) (r : Record) (rs : List Record) (a c : ℕ) (own : t ∷ ts ≡ timed a (r ∷ rs)) (low : a ≤ c) (high : c ≤ t.clock) where
  is : t ≡ record { clock = clock_after a r; held = r }
  is = ap (head_or t) own

  same_clock : clock_after c t.held ≡ t.clock
  same_clock = subst (λ (z : AtClock). clock_after c z.held ≡ z.clock) (sym is) (after_same a c r low (subst (λ (z : AtClock). c ≤ z.clock) is high))

  its_rest : ts ≡ timed (clock_after a r) rs
  its_rest = ap tail_of own

  its_clock : clock_after a r ≤ t.clock
  its_clock = subst (λ (z : AtClock). clock_after a r ≤ z.clock) (sym is) (le_refl _)

home : (ms : List (Bool × AtClock)) (xs ys : List Record) (a b c : ℕ) → firsts ms ≡ timed a xs → seconds ms ≡ timed b ys → climbs c (unmarked ms) ≡ true → a ≤ c → b ≤ c
    → timed c (held_of (unmarked ms)) ≡ unmarked ms
home [] xs ys a b c first second rises low below = refl
home ((true, t) ∷ ms) [] ys a b c first second rises low below = absurd (none t (firsts ms) first)
home ((true, t) ∷ ms) (x ∷ xs) ys a b c first second rises low below =
    let up = both {a = leb c t.clock} {b = climbs t.clock (unmarked ms)} rises in
    let high : c ≤ t.clock = leb-true c t.clock up.0 in
    let rest = home ms xs ys (clock_after a x) b t.clock (its_rest t (firsts ms) x xs a c first low high) second up.1
    (its_clock t (firsts ms) x xs a c first low high) (omega arith) in
    rw (same_clock t (firsts ms) x xs a c first low high, rest)
home ((false, t) ∷ ms) xs [] a b c first second rises low below = absurd (none t (seconds ms) second)
home ((false, t) ∷ ms) xs (y ∷ ys) a b c first second rises low below =
    let up = both {a = leb c t.clock} {b = climbs t.clock (unmarked ms)} rises in
    let high : c ≤ t.clock = leb-true c t.clock up.0 in
    let rest = home ms xs ys a (clock_after b y) t.clock first (its_rest t (seconds ms) y ys b c second below high) up.1
    (omega arith) (its_clock t (seconds ms) y ys b c second below high) in
    rw (same_clock t (seconds ms) y ys b c second below high, rest)

-- ---- clocks in order

orderly-climbs : (c : ℕ) (rs : List Record) → orderly c rs ≡ true → climbs c (timed c rs) ≡ true
orderly-climbs c [] h = refl
orderly-climbs c (r ∷ rs) h =
    let p = both {a = leb c (clock_after c r)} h in
    and-true p.0 (orderly-climbs (clock_after c r) rs (both {a = leb (clock_after c r) max_clock} p.1).1)

abbrev Early : List AtClock → Type 0
Early = Each (λ t. t.clock ≤ max_clock)

orderly_early : (c : ℕ) (rs : List Record) → orderly c rs ≡ true → Early (timed c rs)
orderly_early c [] h = tt
orderly_early c (r ∷ rs) h =
    let up = both {a = leb c (clock_after c r)} h in
    let top = both {a = leb (clock_after c r) max_clock} up.1 in
    (leb-true (clock_after c r) max_clock top.0, orderly_early (clock_after c r) rs top.1)

climbs-orderly : (c : ℕ) (rs : List Record) → climbs c (timed c rs) ≡ true → Early (timed c rs) → orderly c rs ≡ true
climbs-orderly c [] h e = refl
climbs-orderly c (r ∷ rs) h e =
    let p = both {a = leb c (clock_after c r)} h in
    and-true p.0 (and-true (le-leb (clock_after c r) max_clock e.0) (climbs-orderly (clock_after c r) rs p.1 e.1))

opens : (ms : List (Bool × AtClock)) (xs ys : List Record) → firsts ms ≡ timed 0 xs → seconds ms ≡ timed 0 ys → opens_with_clock xs ≡ true → opens_with_clock ys ≡ true
    → opens_with_clock (held_of (unmarked ms)) ≡ true
opens [] xs ys f s p q = refl
opens ((true, t) ∷ ms) [] ys f s p q = absurd (none t (firsts ms) f)
opens ((true, t) ∷ ms) (x ∷ xs) ys f s p q = subst (λ (z : AtClock). is_clock z.held ≡ true) (sym (ap (head_or t) f)) p
opens ((false, t) ∷ ms) xs [] f s p q = absurd (none t (seconds ms) s)
opens ((false, t) ∷ ms) xs (y ∷ ys) f s p q = subst (λ (z : AtClock). is_clock z.held ≡ true) (sym (ap (head_or t) s)) q

-- a day that may be merged, as facts
pub mergeable_facts : (rs : List Record) → mergeable rs ≡ true → (opens_with_clock rs ≡ true) × (orderly 0 rs ≡ true)
unfolding mergeable
mergeable_facts rs h = both {a = opens_with_clock rs} h

pub mergeable-climbs : (rs : List Record) → mergeable rs ≡ true → climbs 0 (timed 0 rs) ≡ true
mergeable-climbs rs h = orderly-climbs 0 rs (mergeable_facts rs h).1

module _ (xs ys out : List Record) (m : Merged xs ys out) where
  -- in every merged day each record has the clock that it had at home
  pub merged_home : timed 0 out ≡ unmarked m.marked
  merged_home = rw m.all (home m.marked xs ys 0 0 0 m.first m.second m.rises (omega arith) (omega arith))

  -- it can be merged again
  pub merged_mergeable : mergeable xs ≡ true → mergeable ys ≡ true → mergeable out ≡ true
  unfolding mergeable
  merged_mergeable h k =
      let x = mergeable_facts xs h in
      let y = mergeable_facts ys k in
      let early : Early (timed 0 out) =
      subst Early (sym merged_home)
      (each_marked (λ t. t.clock ≤ max_clock) m.marked (subst Early (sym m.first) (orderly_early 0 xs x.1)) (subst Early (sym m.second) (orderly_early 0 ys y.1))) in
      let rises : climbs 0 (timed 0 out) ≡ true = subst (λ (z : List AtClock). climbs 0 z ≡ true) (sym merged_home) m.rises in
      let first : opens_with_clock out ≡ true = subst (λ (z : List Record). opens_with_clock z ≡ true) (sym m.all) (opens m.marked xs ys m.first m.second x.0 y.0) in
      and-true first (climbs-orderly 0 out rises early)

  -- what holds of each record of both days holds of each record of the merged day
  pub merged_each : (P : Record → Type 0) → Each P xs → Each P ys → Each P out
  merged_each P h k =
      let of : (rs : List Record) → Each P rs → Each (λ t. P t.held) (timed 0 rs) = λ rs g. each_held P (timed 0 rs) (subst (Each P) (sym (held_timed 0 rs)) g) in
      subst (Each P) (sym m.all)
      (held_each P (unmarked m.marked)
      (each_marked (λ t. P t.held) m.marked
      (subst (Each (λ t. P t.held)) (sym m.first) (of xs h)) (subst (Each (λ t. P t.held)) (sym m.second) (of ys k))))
