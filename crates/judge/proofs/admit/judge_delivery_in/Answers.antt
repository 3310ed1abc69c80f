-- The tests are those of the refusals that are left, in their order; after 8 the sum with 2^k cannot wrap.
use native.Mathlib.Omega.{arith}
use borrow.Author.Tests.{le-leb, lt-ltb, le-ltb}
use mathlib.Core.Bool.{false, cond, not}
use mathlib.Core.Path.{◌≡◌, sym, ◌∙◌, ap}
use Prim.Native.Nat.{◌+◌, ◌^◌, ◌≤◌}
use lib.Dec.{ltb}
use lib.Pow.{pow_mono}
use Rattle.model.specs.declared.Call.TheVariants.{Delivery}
use Rattle.model.specs.Block.{late}
use Rattle.book.specs.Head.{told_judgement}
use Rattle.book.specs.Judgement.{first_refusal}
use Rattle.judge.specs.Judge.{first_here, first_later, room_refusal, delivery_judges, open_proper, open_clock}
use Rattle.judge.proofs.admit.judge_delivery_in.Goals as goal
use Rattle.judge.proofs.admit.judge_delivery_in.Goals.{After-is_outside-outside}

-- the refusals that are left, by the test of the volume
told : (c : After-is_outside-outside) → let a = c.args in
    first_refusal a.book.now (Delivery a.grade a.stamp a.volume) ≡ cond (not (ltb a.grade a.opened.shape.g)) 3 (cond c.is_outside-outside.result 4
    (cond (ltb a.opened.clock a.stamp) 8 (cond (late a.opened.shape a.opened.clock a.stamp) 9 (room_refusal a.opened.shape a.book.now a.grade a.stamp a.volume))))
told c =
    delivery_judges c.args.book.now c.args.opened.shape c.args.opened.clock c.requires c.args.grade c.args.stamp c.args.volume ∙ rw c.is_outside-outside.ensures

pub returns-then-not-known : goal.returns-then-not-known
returns-then-not-known c = told_judgement _ _ _ (told (goal.at.returns-then-not-known c).After-is_outside-outside ∙ first_here _ _ (ap not (le-ltb c.args.grade c.args.opened.shape.g (omega (arith, c.from.ensures, c.if-not-known.true)))))

pub returns-then-outside : goal.returns-then-outside
returns-then-outside c = told_judgement _ _ _ (told (goal.at.returns-then-outside c).After-is_outside-outside ∙ first_later _ _ (ap not (lt-ltb c.args.grade c.args.opened.shape.g (omega (arith, c.from.ensures, c.if-not-known.false)))) ∙ first_here _ _ c.if-outside.true)

pub returns-then-opened-stamp : goal.returns-then-opened-stamp
returns-then-opened-stamp c =
    let a = c.args in
    let fair : c.is_outside-outside.result ≡ false = cc in
    told_judgement _ _ _ (told (goal.at.returns-then-opened-stamp c).After-is_outside-outside ∙ first_later _ _ (ap not (lt-ltb c.args.grade c.args.opened.shape.g (omega (arith, c.from.ensures, c.if-not-known.false)))) ∙ first_later _ _ fair ∙ first_here _ _ (lt-ltb a.opened.clock a.stamp c.if-opened-stamp.true))

pub power-requires : goal.power-requires
power-requires c =
    omega (arith, (open_proper c.args.book.now c.args.opened.shape c.args.opened.clock c.requires).limits.high_k)

pub overflow_add-stamp : goal.overflow_add-stamp
overflow_add-stamp c =
    omega (arith, c.power.ensures, pow_mono (open_proper c.args.book.now c.args.opened.shape c.args.opened.clock c.requires).limits.high_k, open_clock c.args.book.now c.args.opened.shape c.args.opened.clock c.requires, c.if-opened-stamp.false)

pub returns-then-stamp-power : goal.returns-then-stamp-power
returns-then-stamp-power c =
    let a = c.args in
    let gone : a.stamp + 2 ^ a.opened.shape.k ≤ a.opened.clock = omega (arith, c.power.ensures, c.if-stamp-power.true) in
    told_judgement _ _ _ (told (goal.at.returns-then-stamp-power c).After-is_outside-outside ∙ first_later _ _ (ap not (lt-ltb c.args.grade c.args.opened.shape.g (omega (arith, c.from.ensures, c.if-not-known.false)))) ∙ first_later _ _ c.if-outside.false ∙ first_later _ _ (le-ltb a.opened.clock a.stamp c.if-opened-stamp.false) ∙ first_here _ _ (le-leb (a.stamp + 2 ^ a.opened.shape.k) a.opened.clock gone))

pub judge_room-requires : goal.judge_room-requires
judge_room-requires c =
    record {
      book = c.requires;
      inside = (omega (arith, c.from.ensures, c.if-not-known.false));
      fair = sym c.is_outside-outside.ensures ∙ c.if-outside.false;
      come = c.if-opened-stamp.false;
      early = omega (arith, c.power.ensures, c.if-stamp-power.false);
    }
