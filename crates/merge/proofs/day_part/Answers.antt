-- Each day of a sound trace lies in it, so the part is its words.
use native.Mathlib.Omega.{arith}
use mathlib.Core.Path.{◌≡◌, ap, ◌∙◌}
use lib.ListN.{take, drop}
use Rattle.model.specs.Trace.{pair_start, day_count}
use Rattle.days.specs.declared.Pair.{Pair}
use Rattle.days.specs.Pair.{pair_at}
use Rattle.trace.specs.TraceLaws.{sound_facts, laid_lies}
use Rattle.merge.proofs.day_part.Goals as goal
use Rattle.merge.proofs.day_part.Goals.{After-pair_at}

-- the pair that was read is the day's
pair_is : (c : After-pair_at) → let a = c.args in c.pair_at.result ≡ pair_at a.trace.now a.day
pair_is c = c.pair_at.ensures

pub pair_at-requires : goal.pair_at-requires
pair_at-requires c = let s = sound_facts _ c.requires.0 in omega (arith, s.pairs, c.requires.1)

pub day_at-requires : goal.day_at-requires
day_at-requires c =
    let trace = c.args.trace.now in
    rw (pair_is (goal.at.day_at-requires c).After-pair_at) (laid_lies trace (day_count trace) (pair_start (day_count trace)) 0 c.args.day (sound_facts trace c.requires.0).days (omega arith) (omega (arith, c.requires.1)))

pub returns : goal.returns
returns c =
    let trace = c.args.trace.now in
    c.day_at.ensures ∙ ap (λ (p : Pair). take p.length (drop p.start trace)) (pair_is (goal.at.returns c).After-pair_at)
