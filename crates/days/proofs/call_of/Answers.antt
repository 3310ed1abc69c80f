-- Each arm is one case of the definition.
use Rattle.days.specs.Kind.{call_by_kind}
use Rattle.days.proofs.call_of.Goals as goal

pub returns-in-Clock : goal.returns-in-Clock
returns-in-Clock c = rw c.in-Clock.is at (call_by_kind c.args.it _ (rw c.kind_of.ensures at c.unwrap_or.ensures))

pub returns-in-Delivery : goal.returns-in-Delivery
returns-in-Delivery c = rw c.in-Delivery.is at (call_by_kind c.args.it _ (rw c.kind_of.ensures at c.unwrap_or.ensures))

pub returns-in-Query : goal.returns-in-Query
returns-in-Query c = rw c.in-Query.is at (call_by_kind c.args.it _ (rw c.kind_of.ensures at c.unwrap_or.ensures))
