use Rattle.std.proofs.Common.{rules}
use Rattle.model.specs.Block.{advance}
use Rattle.model.specs.Words.{decode_block, encode_block}
use Rattle.laws.specs.BookWords.{length-block_part}
use Rattle.laws.specs.Proper.{Whole}
use Rattle.sweep.specs.Sweeps.{advanced_size}
use Rattle.sweep.proofs.advance_blocks.Goals as goal

pub rewrite_blocks-requires-clause-callable : goal.rewrite_blocks-requires-clause-callable
rewrite_blocks-requires-clause-callable c grade h block e =
    let s = c.args.s in
    let b = c.requires in
    let whole : Whole s block.now = rw e (record { proper = b.proper; size = length-block_part s grade h c.args.book.now b.size; sound = b.sound grade h }) in
    search rules

pub rewrite_blocks-requires-clause-rewrites : goal.rewrite_blocks-requires-clause-rewrites
rewrite_blocks-requires-clause-rewrites c =
    let a = c.args in (
      λ ws. encode_block a.s (advance a.s a.old a.new (decode_block a.s ws)),
      record { leaves = λ block after p. search rules; sized = advanced_size a.s a.old a.new a.book.now c.requires },
    )

pub returns : goal.returns
returns c =
    let a = c.args in
    c.rewrite_blocks.ensures (λ ws. encode_block a.s (advance a.s a.old a.new (decode_block a.s ws)))
    (record { leaves = λ block after p. search rules; sized = advanced_size a.s a.old a.new a.book.now c.requires })
