-- Invariant: what is collected so far, continued over the slots from `next` on, is what all slots from `from` on give.
use Rattle.std.proofs.Common.{◌≡◌, ◌-◌}
use Rattle.model.specs.Words.{slots}
use Rattle.quick_laws.specs.Quick.{quick_each}
use Rattle.turns.proofs.quick_rest.Given as goal

abbrev pub invariant-loop-next : goal.invariant-loop-next
invariant-loop-next l =
    quick_each l.least l.most l.seen (slots l.level l.next (l.count - l.next)) ≡ quick_each l.least l.most l.initial.seen (slots l.level l.from (l.count - l.from))
