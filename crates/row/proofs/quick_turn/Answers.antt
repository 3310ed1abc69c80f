-- Each row and each seam is that of the definition.
use Rattle.std.proofs.Common.{arith}
use Rattle.quick_laws.specs.Rows.{quick_turn}
use Rattle.row.proofs.quick_turn.Goals as goal

pub seam_at-requires : goal.seam_at-requires
seam_at-requires c = omega (arith, c.requires)

pub seam_at-requires-2 : goal.seam_at-requires-2
seam_at-requires-2 c = omega (arith, c.requires)

pub seam_at-requires-3 : goal.seam_at-requires-3
seam_at-requires-3 c = omega (arith, c.requires)

pub end_at-requires : goal.end_at-requires
end_at-requires c = omega (arith, c.requires)

pub returns : goal.returns
unfolding quick_turn
returns c =
    rw (
      c.end_at.ensures,
      c.seam_at-3.ensures,
      c.seam_at-2.ensures,
      c.seam_at.ensures,
      c.quick_row-4.ensures,
      c.quick_row-3.ensures,
      c.quick_row-2.ensures,
      c.quick_row.ensures,
    )
