-- The span holds the slot, and in it the buckets that end at or before x come first.
use Rattle.std.proofs.Common.{◌≤◌, ◌-◌, length, take, drop, rules, arith}
use Rattle.model.specs.Words.{decode_level}
use Rattle.std.proofs.lemmas.List.Sorted.{IsPartitionPoint-from_clause}
use Rattle.scan.specs.Search.{ends_by, parted, found}
use Rattle.scan.proofs.find.Goals as goal

pub returns : goal.returns
unfolding decode_level
returns c =
    let a = c.args in
    let span = c.gallop-span in
    let all = c.slots.result.now in
    let read = c.slots.ensures in
    let inside : span.result.high ≤ length all = omega arith in
    let part = take (span.result.high - span.result.low) (drop span.result.low all) in
    let point = IsPartitionPoint-from_clause (ends_by a.x) part _ c.partition_point.ensures.partitioned
    (parted a.level.now a.x all span.result.low span.result.high read.0 read.1 inside c.requires.1) (λ w r f k. search rules) in
    found a.level.now a.x all span.result.low span.result.high read.0 read.1 inside c.requires.1 _
    span.ensures.0 span.ensures.1 c.partition_point.ensures.bound point
