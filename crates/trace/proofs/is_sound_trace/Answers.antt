-- Each way out of the tests is one case of the definition.
use native.Mathlib.Omega.{arith}
use mathlib.Core.Path.{sym, ◌∙◌}
use Rattle.model.specs.Trace.{day_count, pair_start}
use Rattle.trace.specs.TraceLaws.{laid-past, unsound-none, unsound_many, unsound-layout, sound-days}
use Rattle.trace.proofs.is_sound_trace.Goals as goal

pub returns-then-trace-eq0 : goal.returns-then-trace-eq0
returns-then-trace-eq0 c = unsound-none c.args.trace.now c.if-trace-eq0.true

pub returns-then-days-gt-MAX_DAYS : goal.returns-then-days-gt-MAX_DAYS
returns-then-days-gt-MAX_DAYS c =
    let trace = c.args.trace.now in
    unsound_many trace (omega arith)

pub returns-then-trace-days : goal.returns-then-trace-days
returns-then-trace-days c =
    let trace = c.args.trace.now in
    unsound-layout trace (laid-past trace (day_count trace) (pair_start (day_count trace)) 0 (omega arith))

pub returns-then-not-is_laid : goal.returns-then-not-is_laid
returns-then-not-is_laid c =
    let trace = c.args.trace.now in
    unsound-layout trace (sym c.is_laid.ensures ∙ c.if-not-is_laid.true)

pub are_sound_days-requires : goal.are_sound_days-requires
are_sound_days-requires c = (omega arith, sym c.is_laid.ensures ∙ c.if-not-is_laid.false)

pub returns : goal.returns
returns c =
    let trace = c.args.trace.now in
    c.are_sound_days.ensures
    ∙ sound-days trace (omega arith) (omega arith) (sym c.is_laid.ensures ∙ c.if-not-is_laid.false)
