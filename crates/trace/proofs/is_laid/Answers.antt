-- What is left of the layout at each day, and what is passed, give the whole.
use native.Mathlib.Omega.{arith}
use mathlib.Core.Path.{◌≡◌, sym, ap, ◌∙◌}
use Prim.Native.Nat.{ℕ, ◌+◌, ◌-◌}
use native.Mathlib.Nat.{sub-zero}
use Rattle.model.specs.Trace.{pair_start, day_start, day_length, laid}
use Rattle.days.specs.declared.Pair.{Pair}
use Rattle.trace.specs.TraceLaws.{laid-past, laid_apart, laid_meets, laid_end}
use Rattle.trace.proofs.is_laid.Goals as goal
use Rattle.trace.proofs.is_laid.Goals.{After-pair_at-pair, Else-pair-at}

-- the pair that was read is the day's
starts : (c : After-pair_at-pair) → c.pair_at-pair.result.start ≡ day_start c.args.trace.now c.loop-j.j
starts c = ap (λ (p : Pair). p.start) c.pair_at-pair.ensures

-- a day that starts where it must leaves the rest of the layout
meets : (c : Else-pair-at) → let a = c.args in
    laid a.trace.now c.loop-j.at c.loop-j.j (a.days - c.loop-j.j) ≡ laid a.trace.now (c.loop-j.at + c.pair_at-pair.result.length) (c.loop-j.j + 1) (a.days - (c.loop-j.j + 1))
meets c =
    let a = c.args in
    let sized : c.pair_at-pair.result.length ≡ day_length a.trace.now c.loop-j.j = ap (λ (p : Pair). p.length) c.pair_at-pair.ensures in
    laid_meets a.trace.now a.days c.loop-j.at c.loop-j.j c.loop-j-test.true (sym (starts (goal.at.Else-pair-at c).After-pair_at-pair) ∙ c.if-pair-at.false)
    ∙ ap (λ (n : ℕ). laid a.trace.now (c.loop-j.at + n) (c.loop-j.j + 1) (a.days - (c.loop-j.j + 1))) (sym sized)

pub loop-j-init : goal.loop-j-init
loop-j-init c = let a = c.args in (omega arith, ap (laid a.trace.now (pair_start a.days) 0) (sub-zero a.days))

pub returns-then-pair-at : goal.returns-then-pair-at
returns-then-pair-at c =
    let a = c.args in
    sym (laid_apart a.trace.now a.days c.loop-j.at c.loop-j.j c.loop-j-test.true (λ e. c.if-pair-at.true (starts (goal.at.returns-then-pair-at c).After-pair_at-pair ∙ e))) ∙ c.loop-j.invariant.1

pub returns-then-trace-at : goal.returns-then-trace-at
returns-then-trace-at c =
    let a = c.args in
    let none = laid-past a.trace.now (a.days - (c.loop-j.j + 1)) (c.loop-j.at + c.pair_at-pair.result.length) (c.loop-j.j + 1) (omega (arith, c.if-trace-at.true, c.loop-j.invariant.0)) in
    sym none ∙ sym (meets (goal.at.returns-then-trace-at c).Else-pair-at) ∙ c.loop-j.invariant.1

pub loop-j-preserved : goal.loop-j-preserved
loop-j-preserved c = (omega arith, sym (meets (goal.at.loop-j-preserved c).Else-pair-at) ∙ c.loop-j.invariant.1)

pub returns : goal.returns
returns c =
    let a = c.args in
    sym (laid_end a.trace.now a.days c.loop-j.at c.loop-j.j c.loop-j-test.false) ∙ c.loop-j.invariant.1
