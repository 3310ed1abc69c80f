-- How many words a book and its parts take, and where they start: SPECIFICATION 3.6. Assumes nothing.
use Rattle.std.specs.Prelude.{ℕ, ◌+◌, ◌*◌}
use Rattle.shape.specs.declared.Shape.{Shape}

-- the words of the book's head: SPECIFICATION 3.2
abbrev pub head_len : ℕ
head_len = 8

-- the words of a block before its levels: the totals of its two halves (SPECIFICATION 3.3)
abbrev pub block_head_len : ℕ
block_head_len = 2

-- where the total of a half stands in the block; parity 0 is the even half, 1 the odd one
abbrev pub total_start : ℕ → ℕ
total_start parity = parity

-- the words of a level before its slots: its count and its first kept offset (SPECIFICATION 3.5)
abbrev pub level_head_len : ℕ
level_head_len = 2

-- the words of a slot ('place' in the customer's paper): offset, width, weight (SPECIFICATION 3.5)
abbrev pub slot_len : ℕ
slot_len = 3

-- where slot j starts in its level
abbrev pub slot_start : ℕ → ℕ
slot_start j = level_head_len + slot_len * j

-- a level has n slots
abbrev pub level_words : Shape → ℕ
level_words s = slot_start s.n

-- a block is its totals and the levels of two halves
unfoldable pub block_words : Shape → ℕ
block_words s = block_head_len + 2 * (s.last + 1) * level_words s

-- a book is its head and a block for each grade
unfoldable pub book_words : Shape → ℕ
book_words s = head_len + s.g * block_words s

-- where the block of a grade starts in the book
unfoldable pub block_start : Shape → ℕ → ℕ
block_start s grade = head_len + grade * block_words s

-- where a level starts in the block, in the half of a parity
unfoldable pub level_start : Shape → ℕ → ℕ → ℕ
level_start s parity i = block_head_len + (parity * (s.last + 1) + i) * level_words s
