-- The three words are tested in order, as in the definition.
use Rattle.std.proofs.Math.Bool.{and_assoc}
use Rattle.book.proofs.head.is_blank.Goals as goal

pub returns : goal.returns
returns c = rw and_assoc
