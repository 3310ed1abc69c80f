-- What the calls give is what the definition says.
use Rattle.std.proofs.Common.{ap, ◌∙◌, unwrap_or}
use Rattle.lines.specs.declared.Line.{Line}
use Rattle.lines.specs.Bytes.{finished}
use Rattle.session.specs.SessionLaws.{line_ended}
use Rattle.session.proofs.end_line.Goals as goal

pub returns-clause-bench : goal.returns-clause-bench
returns-clause-bench c =
    let s = c.args.s in
    let line = c.unwrap_or-line.ensures ∙ ap (λ (first : Line). unwrap_or s.line first) c.start.ensures in
    line_ended s c.args.book.now c.answer_line-answered.new.book c.args.out.now c.append.new.out c.finish.result c.answer_line-answered.result c.append.result
    (c.finish.ensures ∙ ap finished line) c.answer_line-answered.ensures.book_after c.append.ensures.out_after
