-- SPECIFICATION 6: each refusal of each call at both sides of its limit, and the order of the refusals, as tables that the definitions meet.
-- Assumes nothing.
use Rattle.std.specs.Prelude.{Bool, true, false, ◌≡◌, refl, List, [], ◌∷◌, ◌++◌, map, ℕ, ◌+◌, ◌-◌, ◌*◌, ltb, eqb, set, replicate, take}
use Rattle.shape.specs.Limits.{within, shaped}
use Rattle.shape.specs.Layout.{book_words, block_words, block_start, level_start}
use Rattle.model.specs.declared.Call.{Call}
use Rattle.model.specs.declared.Call.TheVariants.{Make, Clock, Delivery, Query}
use Rattle.model.specs.declared.Refusal.TheVariants.{Shape, Length, Grade, Volume, Window, Limit, Head, Ahead, Late, Back, Block, Full, Trace, Day, Room, Order, Output}
use Rattle.model.specs.Words.{decode_half, decode_block}
use Rattle.model.specs.Sound.{sound_head, sound_level, sound_half, sound_block}
use Rattle.model.specs.Reply.{number_of}
use Rattle.model.specs.Calls.{View, first_of, refusals, book_view}
use Rattle.model.specs.Claim.{Each}
use Rattle.model.specs.WordsTable.{two_grades}

-- the number of each of the code's refusals
pub numbers : map number_of (Shape ∷ Length ∷ Grade ∷ Volume ∷ Window ∷ Limit ∷ Head ∷ Ahead ∷ Late ∷ Back ∷ Block ∷ Full ∷ Trace ∷ Day ∷ Room ∷ Order ∷ Output ∷ [])
    ≡ 1 ∷ 2 ∷ 3 ∷ 4 ∷ 5 ∷ 6 ∷ 7 ∷ 8 ∷ 9 ∷ 10 ∷ 11 ∷ 12 ∷ 13 ∷ 14 ∷ 15 ∷ 16 ∷ 17 ∷ []
numbers = refl

-- a call, and the number that it is refused under, 0 where it is accepted
pub record RefusalRow : Type 0 where
  pub view : View
  pub call : Call
  pub number : ℕ

abbrev pub MeetsRefusal : RefusalRow → Type 0
MeetsRefusal r = first_of (refusals r.view r.call) ≡ r.number

-- ---- a book of which only this is known: shape 3, 2, 16, 2, which needs 556 words; clock 20

-- how many words are lent, whether the head is sound, and which blocks are. The total of a half is 100 × grade + 20 - stamp, by a stamp of its interval
abbrev seen : ℕ → Bool → (ℕ → Bool) → View
seen lent head_sound block_sound = record {
  lent = lent;
  head_sound = head_sound;
  shape = shaped 3 2 16 2;
  clock = 20;
  block_sound = block_sound;
  total = λ grade stamp. 100 * grade + (20 - stamp);
}

-- every block is sound, and there is none past the last grade
abbrev both : ℕ → Bool
both grade = ltb grade 2

-- no block is sound
abbrev neither : ℕ → Bool
neither grade = false

-- the block of one grade alone is sound
abbrev only : ℕ → ℕ → Bool
only sound grade = eqb grade sound

abbrev on : View → Call → ℕ → RefusalRow
on view call number = record { view = view; call = call; number = number }

-- on a sound book
abbrev gives : Call → ℕ → RefusalRow
gives call number = on (seen 556 true both) call number

abbrev pub refusals_table : List RefusalRow
refusals_table =
    -- a delivery that each of its conditions refuses, except that 8 and 9 never hold together; one after another they are taken away
    on (seen 7 false neither) (Delivery 2 21 65536) 2
    ∷ on (seen 8 false neither) (Delivery 2 21 65536) 7
    ∷ on (seen 555 true neither) (Delivery 2 21 65536) 2
    ∷ on (seen 557 true neither) (Delivery 2 21 65536) 2
    ∷ on (seen 556 true neither) (Delivery 2 21 65536) 3
    ∷ on (seen 556 true neither) (Delivery 1 21 65536) 4
    ∷ on (seen 556 true neither) (Delivery 1 12 65536) 4
    ∷ on (seen 556 true neither) (Delivery 1 21 65535) 8
    ∷ on (seen 556 true neither) (Delivery 1 12 65535) 9
    ∷ on (seen 556 true neither) (Delivery 1 20 65535) 11
    ∷ on (seen 556 true both) (Delivery 1 20 65535) 12
    -- 3: the grades are 0 and 1
    ∷ gives (Delivery 2 20 1) 3
    ∷ gives (Delivery 1 20 1) 0
    -- 4: a volume is 1 to 65,535
    ∷ gives (Delivery 0 20 0) 4
    ∷ gives (Delivery 0 20 65535) 0
    ∷ gives (Delivery 0 20 65536) 4
    -- 3 before a volume of 0, and that before 8 and 9
    ∷ gives (Delivery 2 20 0) 3
    ∷ gives (Delivery 0 21 0) 4
    ∷ gives (Delivery 0 12 0) 4
    -- 8 and 9: a stamp is 13 to 20
    ∷ gives (Delivery 0 21 1) 8
    ∷ gives (Delivery 0 13 1) 0
    ∷ gives (Delivery 0 12 1) 9
    -- 12: the total reaches 65,536, and passes it, by the total of the stamp's half and of the grade
    ∷ gives (Delivery 0 19 65535) 0
    ∷ gives (Delivery 0 18 65535) 12
    ∷ gives (Delivery 1 20 65436) 0
    ∷ gives (Delivery 1 20 65437) 12
    -- a question in the same way
    ∷ on (seen 7 false neither) (Query 2 9) 2
    ∷ on (seen 8 false neither) (Query 2 9) 7
    ∷ on (seen 555 true neither) (Query 2 9) 2
    ∷ on (seen 557 true neither) (Query 2 9) 2
    ∷ on (seen 556 true neither) (Query 2 9) 3
    ∷ on (seen 556 true neither) (Query 1 9) 5
    ∷ on (seen 556 true neither) (Query 1 8) 11
    -- 3, and 5: a window is 0 to 8
    ∷ gives (Query 2 8) 3
    ∷ gives (Query 1 8) 0
    ∷ gives (Query 0 9) 5
    ∷ gives (Query 0 0) 0
    -- a clock in the same way. 6 and 10 never hold together, since the clock of a sound head is at most 2,000,000,000
    ∷ on (seen 7 false neither) (Clock 2000000001) 2
    ∷ on (seen 8 false neither) (Clock 2000000001) 7
    ∷ on (seen 555 true neither) (Clock 2000000001) 2
    ∷ on (seen 555 true neither) (Clock 19) 2
    ∷ on (seen 557 true neither) (Clock 19) 2
    ∷ on (seen 556 true neither) (Clock 2000000001) 6
    ∷ on (seen 556 true neither) (Clock 19) 10
    ∷ on (seen 556 true neither) (Clock 20) 11
    -- 6 and 10: a new clock is 20 to 2,000,000,000
    ∷ gives (Clock 2000000001) 6
    ∷ gives (Clock 2000000000) 0
    ∷ gives (Clock 20) 0
    ∷ gives (Clock 19) 10
    -- 11: a delivery and a question inspect the block of their grade and no other, a clock inspects all
    ∷ on (seen 556 true (only 0)) (Delivery 0 20 1) 0
    ∷ on (seen 556 true (only 0)) (Delivery 1 20 1) 11
    ∷ on (seen 556 true (only 0)) (Query 0 1) 0
    ∷ on (seen 556 true (only 0)) (Query 1 1) 11
    ∷ on (seen 556 true (only 0)) (Clock 20) 11
    ∷ on (seen 556 true (only 1)) (Delivery 0 20 1) 11
    ∷ on (seen 556 true (only 1)) (Delivery 1 20 1) 0
    ∷ on (seen 556 true (only 1)) (Query 0 1) 11
    ∷ on (seen 556 true (only 1)) (Query 1 1) 0
    ∷ on (seen 556 true (only 1)) (Clock 20) 11
    -- a make of the least and of the largest shape, and of the two that document 01 names, on any words that are as many as it needs
    ∷ on (seen 42 false neither) (Make 2 2 1 1) 0
    ∷ on (seen 1229624 false neither) (Make 20 1024 24 8) 0
    ∷ on (seen 90 false neither) (Make 2 2 4 1) 0
    ∷ on (seen 66260 false neither) (Make 20 441 24 1) 0
    -- 2: a word less, a word more; no words
    ∷ on (seen 41 false neither) (Make 2 2 1 1) 2
    ∷ on (seen 43 false neither) (Make 2 2 1 1) 2
    ∷ on (seen 0 false neither) (Make 2 2 1 1) 2
    -- 1: one number below its limit, one above it; 1 before 2
    ∷ on (seen 42 true both) (Make 1 2 1 1) 1
    ∷ on (seen 0 true both) (Make 2 1 1 1) 1
    ∷ on (seen 0 true both) (Make 2 2 0 1) 1
    ∷ on (seen 0 true both) (Make 2 2 1 0) 1
    ∷ on (seen 42 true both) (Make 21 2 1 1) 1
    ∷ on (seen 0 true both) (Make 2 1025 1 1) 1
    ∷ on (seen 0 true both) (Make 2 2 25 1) 1
    ∷ on (seen 0 true both) (Make 2 2 1 9) 1
    ∷ []

pub refusals_table-holds : Each MeetsRefusal refusals_table
unfolding refusals within book_words block_words
refusals_table-holds = (refl, (refl, (refl, (refl, (refl, (refl, (refl, (refl, (refl, (refl, (refl, (refl, (refl, (refl, (refl, (refl, (refl, (refl, (refl, (refl, (refl, (refl, (refl, (refl, (refl, (refl, (refl, (refl, (refl, (refl, (refl, (refl, (refl, (refl, (refl, (refl, (refl, (refl, (refl, (refl, (refl, (refl, (refl, (refl, (refl, (refl, (refl, (refl, (refl, (refl, (refl, (refl, (refl, (refl, (refl, (refl, (refl, (refl, (refl, (refl, (refl, (refl, (refl, (refl, (refl, (refl, (refl, (refl, (refl, (refl, (refl, (refl, (refl, (refl, tt))))))))))))))))))))))))))))))))))))))))))))))))))))))))))))))))))))))))))

-- ---- what a book's words say to the refusals

abbrev after : List ℕ → Call → ℕ → RefusalRow
after ws call number = on (book_view ws) call number

-- two grades with clock 6, where M is 1. Grade 0 has 1 at stamp 3 in its even half, grade 1 has 2 at stamp 6 in its odd half
abbrev pub words_table : List RefusalRow
words_table =
    -- the shape, the clock, and the totals by grade and half
    after two_grades (Delivery 2 6 1) 3
    ∷ after two_grades (Query 1 4) 0
    ∷ after two_grades (Query 1 5) 5
    ∷ after two_grades (Clock 5) 10
    ∷ after two_grades (Clock 6) 0
    ∷ after two_grades (Delivery 0 7 1) 8
    ∷ after two_grades (Delivery 0 2 1) 9
    ∷ after two_grades (Delivery 0 3 1) 0
    ∷ after two_grades (Delivery 0 3 2) 12
    ∷ after two_grades (Delivery 0 6 2) 0
    ∷ after two_grades (Delivery 1 3 2) 0
    ∷ after two_grades (Delivery 1 6 1) 12
    -- how many words there are, and a head
    ∷ after (replicate 7 0) (Query 0 0) 2
    ∷ after (replicate 8 0) (Query 0 0) 7
    ∷ after (take 8 two_grades) (Query 0 0) 2
    ∷ after (take 75 two_grades) (Query 0 0) 2
    ∷ after (two_grades ++ 0 ∷ []) (Query 0 0) 2
    ∷ after (set two_grades 7 1) (Query 0 0) 7
    -- grade 0 damaged, in its first word and in its last
    ∷ after (set two_grades 8 2) (Delivery 0 6 1) 11
    ∷ after (set two_grades 8 2) (Query 0 1) 11
    ∷ after (set two_grades 8 2) (Delivery 1 3 1) 0
    ∷ after (set two_grades 8 2) (Query 1 4) 0
    ∷ after (set two_grades 8 2) (Clock 6) 11
    ∷ after (set two_grades 41 1) (Delivery 0 3 1) 11
    ∷ after (set two_grades 41 1) (Query 0 4) 11
    ∷ after (set two_grades 41 1) (Delivery 1 3 1) 0
    ∷ after (set two_grades 41 1) (Query 1 4) 0
    -- grade 1 damaged in the same two places
    ∷ after (set two_grades 42 1) (Delivery 1 6 1) 11
    ∷ after (set two_grades 42 1) (Query 1 1) 11
    ∷ after (set two_grades 42 1) (Delivery 0 3 1) 0
    ∷ after (set two_grades 42 1) (Query 0 4) 0
    ∷ after (set two_grades 75 1) (Delivery 1 3 1) 11
    ∷ after (set two_grades 75 1) (Query 1 4) 11
    ∷ after (set two_grades 75 1) (Delivery 0 3 1) 0
    ∷ after (set two_grades 75 1) (Query 0 4) 0
    ∷ after (set two_grades 75 1) (Clock 6) 11
    ∷ []

pub words_table-holds : Each MeetsRefusal words_table
unfolding refusals book_view decode_block decode_half sound_head within sound_block sound_half sound_level book_words block_words block_start level_start
words_table-holds = (refl, (refl, (refl, (refl, (refl, (refl, (refl, (refl, (refl, (refl, (refl, (refl, (refl, (refl, (refl, (refl, (refl, (refl, (refl, (refl, (refl, (refl, (refl, (refl, (refl, (refl, (refl, (refl, (refl, (refl, (refl, (refl, (refl, (refl, (refl, (refl, tt))))))))))))))))))))))))))))))))))))
