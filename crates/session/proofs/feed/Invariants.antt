-- Invariant: feeding the bytes that are left to the state is feeding all of them to the first state.
use mathlib.Core.Path.{◌≡◌}
use mathlib.Core.List.{foldl}
use Prim.Native.Nat.{◌+◌, ◌*◌, ◌≤◌}
use lib.ListN.{length, drop}
use Rattle.session.specs.Session.{feed_byte, bench_of}
use Rattle.session.proofs.feed.Given as goal

abbrev pub invariant-loop-byte : goal.invariant-loop-byte
invariant-loop-byte l =
    (l.session.lent ≤ length l.book) × (l.session.used ≤ l.initial.session.used + 32 * l.byte-index)
    × (foldl feed_byte (bench_of l.session l.book l.out) (drop l.byte-index l.bytes) ≡ foldl feed_byte (bench_of l.initial.session l.initial.book l.initial.out) l.bytes)
