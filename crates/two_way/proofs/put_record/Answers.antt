-- Four words follow those that stood before.
use borrow.Author.Rules.{rules}
use lib.ListN.{length-set}
use Rattle.merge_laws.specs.Merging.{take_record}
use Rattle.two_way.proofs.put_record.Goals as goal

pub bounds-out-at-2 : goal.bounds-out-at-2
bounds-out-at-2 c = simp length-set (search rules)

pub bounds-out-at-3 : goal.bounds-out-at-3
bounds-out-at-3 c = simp length-set (search rules)

pub bounds-out-at-4 : goal.bounds-out-at-4
bounds-out-at-4 c = simp length-set (search rules)

pub returns : goal.returns
returns c = take_record c.args.out.now c.args.to c.args.it c.requires
