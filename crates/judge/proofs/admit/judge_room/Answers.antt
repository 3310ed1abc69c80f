-- The tests are those of the two refusals that are left, in their order.
use mathlib.Core.Bool.{true, cond, not}
use mathlib.Core.Path.{◌≡◌, ◌∙◌, ap}
use Rattle.model.specs.declared.Call.TheVariants.{Delivery}
use Rattle.book.specs.Head.{told_judgement}
use Rattle.book.specs.Judgement.{first_refusal}
use Rattle.judge.specs.Judge.{first_here, first_later, due_judges, due_inside}
use Rattle.judge.proofs.admit.judge_room.Goals as goal
use Rattle.judge.proofs.admit.judge_room.Goals.{After-block_full-full}

-- the refusals that are left, by the tests of the block
room : (c : After-block_full-full) → let a = c.args in
    first_refusal a.book.now (Delivery a.grade a.stamp a.volume) ≡ cond (not c.block_sound-sound.result) 11 (cond c.block_full-full.result 12 0)
room c = due_judges c.requires ∙ rw (c.block_sound-sound.ensures, c.block_full-full.ensures)

pub block_sound-sound-requires : goal.block_sound-sound-requires
block_sound-sound-requires c = due_inside c.requires

pub block_full-full-requires : goal.block_full-full-requires
block_full-full-requires c = due_inside c.requires

pub returns-then-not-sound : goal.returns-then-not-sound
returns-then-not-sound c = told_judgement _ _ _ (room (goal.at.returns-then-not-sound c).After-block_full-full ∙ first_here _ _ (ap not c.if-not-sound.true))

pub returns-then-full : goal.returns-then-full
returns-then-full c =
    let sound : c.block_sound-sound.result ≡ true = cc in
    told_judgement _ _ _ (room (goal.at.returns-then-full c).After-block_full-full ∙ first_later _ _ (ap not sound) ∙ first_here _ _ c.if-full.true)

pub returns : goal.returns
returns c =
    let book = c.requires.book in
    told_judgement _ _ _ (room (goal.at.returns c).After-block_full-full ∙ first_later _ _ (ap not c.if-not-sound.false) ∙ first_later _ _ c.if-full.false, book.same, book.now)
