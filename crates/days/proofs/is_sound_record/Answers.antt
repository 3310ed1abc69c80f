-- Each way out of the tests is one case of the definition.
use Rattle.std.proofs.Common.{sym, ◌∙◌}
use Rattle.model.specs.Trace.{sound_record}
use Rattle.days.proofs.is_sound_record.Goals as goal

pub returns-then-is_clock : goal.returns-then-is_clock
unfolding sound_record
returns-then-is_clock c = rw (sym c.is_clock.ensures ∙ c.if-is_clock.true)

pub returns-then-is_delivery : goal.returns-then-is_delivery
unfolding sound_record
returns-then-is_delivery c =
    c.if-is_delivery.true ∙ rw (sym c.is_clock.ensures ∙ c.if-is_clock.false, sym c.is_delivery.ensures ∙ c.if-is_delivery.true)

pub returns-else-is_delivery : goal.returns-else-is_delivery
unfolding sound_record
returns-else-is_delivery c =
    rw (c.is_query.ensures, sym c.is_clock.ensures ∙ c.if-is_clock.false, sym c.is_delivery.ensures ∙ c.if-is_delivery.false)
