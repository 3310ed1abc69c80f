-- The number of the kind is that which names it.
use Rattle.std.proofs.Common.{refl, ◌∙◌}
use Rattle.days.specs.declared.Kind.TheVariants.{Delivery}
use Rattle.days.specs.Kind.{named}
use Rattle.days.proofs.is_delivery.Goals as goal

pub returns : goal.returns
returns c = c.eq.ensures ∙ rw c.kind_of.ensures (named _ Delivery refl refl refl c.args.it.kind)
