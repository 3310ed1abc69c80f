-- Invariant: what is lent is within the buffer, and no byte waits before a read.
use Rattle.std.proofs.Common.{◌≡◌, ◌≤◌, length}
use Rattle.bench.proofs.serve.Given as goal

abbrev pub invariant-loop : goal.invariant-loop
invariant-loop l = (l.session.lent ≤ length l.book) × (l.session.used ≡ 0)
