-- SPECIFICATION 20, the ground of a sum: the level used, F of the next finer level, the limit of error. Assumes nothing.
use Rattle.std.specs.Prelude.{Result, true, cond, List, [], ◌∷◌, ◌≡◌, ℕ, ◌+◌, ◌-◌, ◌*◌, ◌^◌, ◌≤◌, ◌<◌, eqb, length, get_or}
use Rattle.shape.specs.declared.Shape.{Shape}
use Rattle.shape.specs.Limits.{Reply, accepted}
use Rattle.model.specs.declared.Call.TheVariants.{Query}
use Rattle.model.specs.declared.Finer.{Finer}
use Rattle.model.specs.declared.Finer.TheVariants.{WindowZero, LevelZero, First}
use Rattle.model.specs.declared.Ground.{Ground}
use Rattle.model.specs.declared.Refusal.{Refusal}
use Rattle.model.specs.Level.{Level, level_of}
use Rattle.model.specs.Block.{Block, interval, offset_of, opening, half_of, serving, serving_index, window_sum}
use Rattle.model.specs.Words.{shape_of, clock_of}
use Rattle.model.specs.Sound.{sound_book}
use Rattle.model.specs.Calls.{answered, refusals, book_view, block_at}
use Rattle.model.specs.Reply.{reply_by}

abbrev pub first_at : List Level → ℕ → ℕ  -- SPECIFICATION 20.1: F of level i
first_at levels i = (get_or levels i (level_of 0 [])).first

abbrev pub opened_levels : Shape → ℕ → ℕ → Block → List Level  -- SPECIFICATION 20.1: the levels of the half in whose interval a window above 0 opens
opened_levels s clock window b = (half_of (interval s (opening clock window)) b).levels

abbrev pub level_for : Shape → ℕ → ℕ → Block → ℕ  -- SPECIFICATION 20.1: the level used; level 0 for window 0
level_for s clock window b = cond (eqb window 0) 0 (serving_index (offset_of s (opening clock window)) (opened_levels s clock window b))

abbrev pub error_limit : ℕ → ℕ → ℕ  -- SPECIFICATION 20.1: the limit of error of a level: 0 on level 0, else 2^level × (k + 1)
error_limit k level = cond (eqb level 0) 0 (2 ^ level * (k + 1))

abbrev pub finer_than : List Level → ℕ → Finer  -- SPECIFICATION 20.1: F of the next finer level; level 0 has none
finer_than levels level = cond (eqb level 0) LevelZero (First (first_at levels (level - 1)))

unfoldable pub ground_of : Shape → ℕ → ℕ → Block → Ground  -- SPECIFICATION 20.1: the ground of a window's sum
ground_of s clock window b = record {
  sum = window_sum s clock window b;
  level = level_for s clock window b;
  limit = error_limit s.k (level_for s clock window b);
  finer = cond (eqb window 0) WindowZero (finer_than (opened_levels s clock window b) (level_for s clock window b));
}

abbrev pub finer_values : Finer → List ℕ  -- SPECIFICATION 20.2: which case it is, and F or 0
finer_values WindowZero = 0 ∷ 0 ∷ []
finer_values LevelZero = 1 ∷ 0 ∷ []
finer_values (First first) = 2 ∷ first ∷ []

abbrev pub ground_values : Ground → List ℕ  -- SPECIFICATION 20.2: the five values of a ground
ground_values g = g.sum ∷ g.level ∷ g.limit ∷ finer_values g.finer

abbrev pub ground_reply : Result Ground Refusal → Reply  -- SPECIFICATION 20.2: the number, and the values of a ground that is given
ground_reply = reply_by (λ g. accepted (ground_values g))

abbrev pub ground_at : List ℕ → ℕ → ℕ → Ground  -- SPECIFICATION 20.2: the ground by what a book's words say
ground_at ws grade window = ground_of (shape_of ws) (clock_of ws) window (block_at ws grade)

unfoldable pub ground : List ℕ → ℕ → ℕ → Reply  -- SPECIFICATION 20.2: on words of any length and content; refused as a question is
ground ws grade window = answered (refusals (book_view ws) (Query grade window)) (accepted (ground_values (ground_at ws grade window)))

pub record Finest (a : ℕ) (levels : List Level) (i : ℕ) : Type 0 where  -- SPECIFICATION 20.3: level i is the finest with F at most a
  pub among : i < length levels
  pub held : first_at levels i ≤ a
  pub past : (j : ℕ) → j < i → a < first_at levels j  -- F of every finer level is past a

unfoldable pub GroundTrue : Type 0  -- SPECIFICATION 20.3: on words of any length and content
GroundTrue = (ws : List ℕ) (grade window : ℕ) →
    let s = shape_of ws in
    let a = offset_of s (opening (clock_of ws) window) in
    let levels = opened_levels s (clock_of ws) window (block_at ws grade) in
    let level = get_or (ground ws grade window).values 1 0 in
    -- a sound book gives a ground of each of its grades and each window of at most 2^k
    (sound_book ws ≡ true → grade < s.g → window ≤ 2 ^ s.k → (ground ws grade window).number ≡ 0)
    -- if it is given for a window above 0, the level named is the finest with F at most the opening's offset, and it is the one that is summed
    × ((ground ws grade window).number ≡ 0 → 0 < window → Finest a levels level × (get_or levels level (level_of 0 []) ≡ serving a levels))
