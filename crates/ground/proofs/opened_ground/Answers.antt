-- The level found is one of the half in which the window opens, and it serves; the limit and F go by it.
use Prim.Native.Nat.{◌≤◌}
use native.Mathlib.Omega.{arith}
use Rattle.block.specs.Steps.{index_serves}
use Rattle.ground.specs.Reads.{ground-opened}
use Rattle.ground.proofs.opened_ground.Goals as goal
use Rattle.ground.proofs.opened_ground.Goals.{After-finest-level}

-- the level found is one of the half
found : (c : After-finest-level) → c.finest-level.result ≤ c.args.opened.shape.last
found c =
    rw c.finest-level.ensures (index_serves c.args.opened.shape c.args.block.now c.requires.0 c.parity-parity.result (omega arith) c.offset.result).0

pub error_limit-limit-requires : goal.error_limit-limit-requires
error_limit-limit-requires c =
    (c.requires.0.proper.limits.high_k, omega (arith, found (goal.at.error_limit-limit-requires c).After-finest-level, c.requires.0.proper.last, c.requires.0.proper.limits.high_m))

pub finer_than-finer-requires : goal.finer_than-finer-requires
finer_than-finer-requires c =
    record { sized = record { proper = c.requires.0.proper; size = c.requires.0.size }; half = omega arith; index = found (goal.at.finer_than-finer-requires c).After-finest-level }

pub returns : goal.returns
returns c =
    let a = c.args in
    rw (
      ← ground-opened a.opened.shape a.opened.clock a.window a.block.now (λ e. omega (arith, c.requires.1)),
      c.window_sum-sum.ensures,
      c.error_limit-limit.ensures,
      c.finer_than-finer.ensures,
      c.finest-level.ensures,
      c.offset.ensures,
      c.parity-parity.ensures,
      c.interval.ensures,
      c.opening-start.ensures,
    )
