-- The line is written after the bytes that wait, and is short.
use mathlib.Core.List.{List}
use Prim.Native.Nat.{ℕ, ◌-◌}
use native.Mathlib.Omega.{arith}
use lib.ListN.{length, take, drop}
use Rattle.text.specs.TextLaws.{written_short}
use Rattle.lent.specs.Said.{said_text}
use Rattle.session.specs.SessionLaws.{said_short, room_behind, text_behind}
use Rattle.session.proofs.append.Goals as goal

pub overflow_add-result : goal.overflow_add-result
overflow_add-result c =
    omega (arith, written_short (said_text c.args.said) _ c.spell-added.ensures.value (said_short c.args.said), c.requires)

pub returns : goal.returns
returns c =
    let text = said_text c.args.said in
    let out = c.args.out.now in
    let used = c.args.used in
    let room : List ℕ = take (length out - used) (drop used out) in record {
      out_after = text_behind text out room c.spell-added.new.out _ used c.spell-added.result (omega arith) (room_behind out used c.requires) c.spell-added.ensures.value c.spell-added.ensures.out_after;
      bounds = omega (arith, written_short text _ c.spell-added.ensures.value (said_short c.args.said));
    }
