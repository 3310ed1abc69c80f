-- The words that make leaves, and what holds of the ledger after each accepted call. Rests on the block as a function of the ledger.
use Rattle.std.specs.Prelude.{Bool, true, false, ◌≡◌, refl, List, [], ◌∷◌, ◌++◌, ℕ, ◌+◌, ◌*◌, ◌^◌, ◌≤◌, ◌<◌}
use Rattle.std.proofs.Math.Bool.{cond}
use Rattle.std.proofs.Common.{sym, ap₂, ◌∙◌, le_refl, mul-le-mul_right, arith, pow_pos, eqb-true}
use Rattle.std.proofs.Math.Path.{ap}
use Rattle.shape.specs.declared.Shape.{Shape}
use Rattle.shape.specs.Limits.{shaped, within}
use Rattle.shape.specs.LimitsLaws.{Limits, both, within_limits}
use Rattle.model.specs.Block.{Half, interval, empty_half}
use Rattle.model.specs.Words.{block_part, encode_head, encode_block, decode_block, join}
use Rattle.model.specs.Sound.{max_clock}
use Rattle.model.specs.Calls.{block_at, made}
use Rattle.model.specs.Ledger.{Entry, Ledger, ledger_of, volume_of, of_grade, of_interval}
use Rattle.model.specs.Claim.{Each}
use Rattle.laws.specs.Parts.{up_from_cong, replicate_up_from}
use Rattle.laws.specs.BookWords.{book_of}
use Rattle.ledger.specs.Grown.{half_for-none}
use Rattle.ledger.specs.Served.{served}
use Rattle.ledger.specs.Book.{half_at, block_for}
use Rattle.ledger.specs.State.{Good, words_of, words_shape, words_block}

-- words with the same blocks, grade by grade, are the same
pub words_of_cong : (s : Shape) (clock : ℕ) (es : List Entry) (f : ℕ → List ℕ)
    → ((grade : ℕ) → grade < s.g → f grade ≡ encode_block s (block_for s clock es (of_grade grade))) → book_of s clock f ≡ words_of (ledger_of s clock es)
unfolding words_of
words_of_cong s clock es f h =
    ap (λ (blocks : List (List ℕ)). encode_head s clock ++ join blocks)
    (up_from_cong f (λ grade. encode_block s (block_for s clock es (of_grade grade))) 0 s.g (λ grade low high. h grade (omega arith)))

-- ---- make

empty_block : (s : Shape) (clock grade : ℕ) → block_for s clock [] (of_grade grade) ≡ record { even = empty_half s; odd = empty_half s }
unfolding block_for
empty_block s clock grade = ap₂ (λ (x y : Half). record { even = x; odd = y }) (empty 0) (empty 1)
  where
    empty : (parity : ℕ) → half_at s clock [] (of_grade grade) parity ≡ empty_half s
    empty parity = half_for-none s (of_interval s (of_grade grade) (served (interval s clock) parity)) [] tt

pub made_words : (s : Shape) → made s ≡ words_of (ledger_of s 0 [])
unfolding made
made_words s =
    let block : List ℕ = encode_block s (record { even = empty_half s; odd = empty_half s }) in
    rw (replicate_up_from block 0 s.g) (words_of_cong s 0 [] (λ grade. block) (λ grade h. ap (encode_block s) (sym (empty_block s 0 grade))))

pub made_good : (k n m g : ℕ) → within k n m g ≡ true → Good (ledger_of (shaped k n m g) 0 [])
made_good k n m g h =
    let limits : Limits k n m g = within_limits k n m g h in
    let twice : 2 * 2 ^ m ≤ n * 2 ^ m = mul-le-mul_right (2 ^ m) limits.low_n in
    record {
      limits = limits;
      formed = refl;
      last = le_refl m;
      reach = omega (arith, pow_pos m);
      early = omega arith;
      past = tt;
      few = λ grade j. omega arith;
    }

module _ (l : Ledger) (good : Good l) where
  abbrev s : Shape
  s = l.shape

  abbrev clock : ℕ
  clock = l.clock

  abbrev es : List Entry
  es = l.entries

  abbrev ws : List ℕ
  ws = words_of l

  pub block-is : (grade : ℕ) → grade < s.g → block_at ws grade ≡ block_for s clock es (of_grade grade)
  block-is grade h = ap (λ (z : Shape). decode_block z (block_part z grade ws)) (words_shape l good) ∙ words_block l good grade h

  -- ---- clock

  module _ (to : ℕ) (up : clock ≤ to) where
    later : (fs : List Entry) → Each (λ e. e.stamp ≤ clock) fs → Each (λ e. e.stamp ≤ to) fs
    later [] h = tt
    later (e ∷ fs) h = (omega (arith, h.0), later fs h.1)

    pub clocked_good : to ≤ max_clock → Good (ledger_of s to es)
    clocked_good early = record {
      limits = good.limits;
      formed = good.formed;
      last = good.last;
      reach = good.reach;
      early = early;
      past = later es good.past;
      few = good.few;
    }

  -- ---- delivery

  module _ (e : Entry) (inside : e.grade < s.g) (low : e.stamp ≤ clock) (high : clock < e.stamp + 2 ^ s.k) where
    pub delivered_good : volume_of (of_interval s (of_grade e.grade) (interval s e.stamp)) es + e.volume ≤ 2 ^ s.m
        → Good (ledger_of s clock (e ∷ es))
    delivered_good room = record {
      limits = good.limits;
      formed = good.formed;
      last = good.last;
      reach = good.reach;
      early = good.early;
      past = (low, good.past);
      few = few;
    }
      where
        few : (grade j : ℕ) → volume_of (of_interval s (of_grade grade) j) (e ∷ es) ≤ 2 ^ s.m
        few grade j = go (of_interval s (of_grade grade) j e) refl
          where
            go : (t : Bool) → of_interval s (of_grade grade) j e ≡ t → cond t e.volume 0 + volume_of (of_interval s (of_grade grade) j) es ≤ 2 ^ s.m
            go false h = omega (arith, good.few grade j)
            go true h =
                let parts = both h in
                let same : volume_of (of_interval s (of_grade e.grade) (interval s e.stamp)) es ≡ volume_of (of_interval s (of_grade grade) j) es =
                rw (eqb-true e.grade grade parts.0, eqb-true (interval s e.stamp) j parts.1) in
                omega arith
