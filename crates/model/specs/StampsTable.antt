-- SPECIFICATION 9.8: the different stamps of some windows, beside the sums of the book and of the ledger, as one table that the definitions meet;
-- and what the claim demands by them. Assumes nothing.
use Rattle.std.specs.Prelude.{◌≡◌, refl, List, [], ◌∷◌, ◌++◌, ℕ, ◌≤◌, replicate}
use Rattle.shape.specs.declared.Shape.{Shape}
use Rattle.shape.specs.Limits.{Reply, accepted, within, shaped}
use Rattle.shape.specs.Layout.{book_words, block_words, block_start, level_start}
use Rattle.model.specs.declared.Call.{Call}
use Rattle.model.specs.declared.Call.TheVariants.{Make, Clock, Delivery, Query}
use Rattle.model.specs.Level.{unit, insert}
use Rattle.model.specs.Block.{empty_half, deliver_half, deliver, advance, answer, window_sum}
use Rattle.model.specs.Words.{decode_level, decode_half, decode_block, encode_level, encode_block}
use Rattle.model.specs.Sound.{sound_head, sound_level, sound_half, sound_block}
use Rattle.model.specs.Calls.{refusals, book_view, made, clocked, delivered, perform}
use Rattle.model.specs.Replay.{left_by}
use Rattle.model.specs.Ledger.{Ledger, ledger_of, of_grade, ledger_view, enter}
use Rattle.model.specs.Stamps.{different_stamps}
use Rattle.model.specs.Claim.{Turn, Each, Quiet, Short}
use Rattle.model.specs.Table.{example_shape, entered, d, p₂, p₃, p₇}

-- a question, how many different stamps count for it, and the sums of the book and of the ledger
pub record StampsRow : Type 0 where
  pub grade : ℕ
  pub window : ℕ
  pub stamps : ℕ
  pub book : ℕ
  pub exact : ℕ

-- calls after the make of a shape, on as many words as it needs, and the questions that come next
pub record StampsRows : Type 0 where
  pub shape : Shape
  pub calls : List Call
  pub rows : List StampsRow

abbrev MeetsRow : ℕ → List ℕ → Ledger → StampsRow → Type 0
MeetsRow lent ws l r =
    let call = Query r.grade r.window in
    (different_stamps l (of_grade r.grade) r.window ≡ r.stamps)
    × (((perform ws call).reply ≡ accepted (r.book ∷ [])) × ((enter lent l call).reply ≡ accepted (r.exact ∷ [])))

abbrev pub MeetsStamps : StampsRows → Type 0
MeetsStamps t =
    let s = t.shape in
    let lent = book_words s in
    let calls = Make s.k s.n s.m s.g ∷ t.calls in
    Each (MeetsRow lent (left_by (replicate lent 0) calls) (entered lent (ledger_of s 0 []) calls)) t.rows

abbrev row : ℕ → ℕ → ℕ → ℕ → ℕ → StampsRow
row grade window stamps book exact = record { grade = grade; window = window; stamps = stamps; book = book; exact = exact }

abbrev of : Shape → List Call → List StampsRow → StampsRows
of s calls rows = record { shape = s; calls = calls; rows = rows }

-- in all of these shapes n is 2
abbrev pub stamps_table : List StampsRows
stamps_table =
    -- P7, whose five deliveries have the stamps 0, 3, 1, 1 and 2. One stamp more than n, and the sum is off; two more, and it is right
    of example_shape (Clock 3 ∷ p₇) (row 0 0 0 0 0 ∷ row 0 1 1 1 1 ∷ row 0 2 2 3 3 ∷ row 0 3 3 4 5 ∷ row 0 4 4 8 8 ∷ [])
    -- P2: the window is wider than n and has n stamps. P3: one more, and the sum is right all the same
    ∷ of example_shape (Clock 3 ∷ p₂) (row 0 4 2 4 4 ∷ [])
    ∷ of example_shape (Clock 3 ∷ p₃) (row 0 4 3 5 5 ∷ [])
    -- a window that opens in the interval before: what was delivered in the current interval does not count
    ∷ of example_shape (Clock 5 ∷ d 3 1 ∷ d 4 1 ∷ d 5 1 ∷ []) (row 0 3 1 3 3 ∷ [])
    ∷ of example_shape (Clock 3 ∷ p₇ ++ Clock 4 ∷ d 4 1 ∷ []) (row 0 3 2 4 4 ∷ row 0 4 3 5 6 ∷ [])
    -- nor does what was delivered two intervals ago, at the same offsets
    ∷ of example_shape (Clock 3 ∷ p₇ ++ Clock 11 ∷ d 9 1 ∷ []) (row 0 4 1 1 1 ∷ row 0 0 0 0 0 ∷ [])
    -- nor does what was refused, as more than the interval holds, or what was delivered before the last make
    ∷ of example_shape (Clock 3 ∷ p₂ ++ d 1 13 ∷ []) (row 0 4 2 4 4 ∷ [])
    ∷ of example_shape (Clock 3 ∷ p₇ ++ Make 2 2 4 1 ∷ Clock 3 ∷ d 2 1 ∷ []) (row 0 4 1 1 1 ∷ [])
    -- what was delivered before the opening does not count
    ∷ of (shaped 3 2 4 1) (Clock 7 ∷ d 0 2 ∷ d 7 1 ∷ d 1 1 ∷ d 5 3 ∷ d 2 1 ∷ []) (row 0 4 2 4 4 ∷ row 0 8 5 8 8 ∷ [])
    -- nor does what was delivered for another grade
    ∷ of (shaped 2 2 4 2) (Clock 3 ∷ d 1 2 ∷ Delivery 1 0 1 ∷ d 3 1 ∷ Delivery 1 2 1 ∷ []) (row 0 4 2 3 3 ∷ row 1 4 2 2 2 ∷ [])
    -- a stamp counts once, whatever its volumes are and whatever was delivered in between
    ∷ of example_shape (Clock 3 ∷ d 1 1 ∷ d 3 1 ∷ d 3 2 ∷ d 3 1 ∷ d 1 2 ∷ []) (row 0 4 2 7 7 ∷ [])
    -- openings in an odd interval, at its first tick and after it; and at the last tick of the interval before
    ∷ of example_shape (Clock 3 ∷ p₇ ++ Clock 6 ∷ d 4 1 ∷ d 6 2 ∷ []) (row 0 2 1 2 2 ∷ row 0 3 2 3 3 ∷ row 0 4 1 4 4 ∷ [])
    -- a make of another k
    ∷ of example_shape (Clock 3 ∷ p₇ ++ Make 3 2 4 1 ∷ Clock 7 ∷ d 1 1 ∷ d 6 1 ∷ []) (row 0 8 2 2 2 ∷ [])
    -- a window that exceeds the clock by more than 1
    ∷ of example_shape (Clock 1 ∷ d 1 1 ∷ d 0 2 ∷ []) (row 0 4 2 3 3 ∷ [])
    ∷ []

pub stamps_table-holds : Each MeetsStamps stamps_table
unfolding perform refusals book_view made clocked delivered sound_head sound_block sound_half sound_level within encode_block encode_level decode_block decode_half decode_level empty_half deliver deliver_half advance answer window_sum unit insert block_words book_words block_start level_start enter ledger_view
stamps_table-holds = (
  ((refl, (refl, refl)), ((refl, (refl, refl)), ((refl, (refl, refl)), ((refl, (refl, refl)), ((refl, (refl, refl)), tt))))),
  (
    ((refl, (refl, refl)), tt),
    (
      ((refl, (refl, refl)), tt),
      (
        ((refl, (refl, refl)), tt),
        (
          ((refl, (refl, refl)), ((refl, (refl, refl)), tt)),
          (
            ((refl, (refl, refl)), ((refl, (refl, refl)), tt)),
            (
              ((refl, (refl, refl)), tt),
              (
                ((refl, (refl, refl)), tt),
                (
                  ((refl, (refl, refl)), ((refl, (refl, refl)), tt)),
                  (
                    ((refl, (refl, refl)), ((refl, (refl, refl)), tt)),
                    (
                      ((refl, (refl, refl)), tt),
                      (
                        ((refl, (refl, refl)), ((refl, (refl, refl)), ((refl, (refl, refl)), tt))),
                        (
                          ((refl, (refl, refl)), tt),
                          (
                            ((refl, (refl, refl)), tt),
                            tt,
                          ),
                        ),
                      ),
                    ),
                  ),
                ),
              ),
            ),
          ),
        ),
      ),
    ),
  ),
)

-- what the claim demands of any reply to an answered question: it is the ledger's where at most n different stamps count, and where the window
-- is at most n
pub exact_demanded : (ws : List ℕ) (l : Ledger) (grade window sum : ℕ) (reply : Reply) → reply.number ≡ 0 →
    let exact = accepted (sum ∷ []) in
    let t : Turn = record { call = Query grade window; words = ws; ledger = l; book = reply; exact = exact } in
    (different_stamps l (of_grade grade) window ≤ l.shape.n → Quiet t → reply ≡ exact) × (window ≤ l.shape.n → Short t → reply ≡ exact)
exact_demanded ws l grade window sum reply number = (λ few quiet. quiet number few, λ w short. short number w)
