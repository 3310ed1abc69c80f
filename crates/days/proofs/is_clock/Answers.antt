-- The number of the kind is that which names it.
use Rattle.std.proofs.Common.{refl, ◌∙◌}
use Rattle.days.specs.declared.Kind.TheVariants.{Clock}
use Rattle.days.specs.Kind.{named}
use Rattle.days.proofs.is_clock.Goals as goal

pub returns : goal.returns
returns c = c.eq.ensures ∙ rw c.kind_of.ensures (named _ Clock refl refl refl c.args.it.kind)
