use Rattle.std.proofs.Common.{rules}
use Rattle.laws.specs.BookWords.{length-block_part}
use Rattle.laws.specs.Proper.{Sized}
use Rattle.sweep.specs.Sweeps.{cleared, cleared_size}
use Rattle.sweep.proofs.clear_blocks.Goals as goal

pub rewrite_blocks-requires-clause-callable : goal.rewrite_blocks-requires-clause-callable
rewrite_blocks-requires-clause-callable c grade h block e =
    let s = c.args.s in
    let sized : Sized s block.now = rw e (record { proper = c.requires.1; size = length-block_part s grade h c.args.book.now c.requires.0 }) in
    search rules

pub rewrite_blocks-requires-clause-rewrites : goal.rewrite_blocks-requires-clause-rewrites
rewrite_blocks-requires-clause-rewrites c =
    let s = c.args.s in
    (λ _. cleared s 0, record { leaves = λ block after p. search rules; sized = λ grade h. cleared_size s c.requires.1 grade })

pub returns : goal.returns
returns c =
    let s = c.args.s in
    c.rewrite_blocks.ensures (λ _. cleared s 0) (record { leaves = λ block after p. search rules; sized = λ grade h. cleared_size s c.requires.1 grade })
