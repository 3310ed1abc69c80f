-- A book whose blocks are rewritten one after another, from grade 0 on, as the loops over the grades do. Rests on lists in parts.
use Rattle.std.specs.Prelude.{◌≡◌, take}
use Rattle.std.proofs.Math.Path.{sym, ap}
use Rattle.std.proofs.Common.{◌∙◌, add-one, take-append-drop, drop_of_length-le, take_at, drop_at}
use mathlib.Core.List.{List, [], ◌∷◌, ◌++◌, append_assoc, append-nil}
use Prim.Native.Nat.{ℕ, suc, ◌+◌, ◌≤◌, ◌<◌}
use Rattle.std.proofs.Math.Nat.{zero-add, suc-mul}
use native.Mathlib.Omega.{arith}
use Rattle.std.proofs.Math.ListN.{length, drop, length-append}
use Rattle.std.proofs.Math.Seq.{drop-append-add, drop-drop, length-take-le}
use Rattle.shape.specs.declared.Shape.{Shape}
use Rattle.shape.specs.Layout.{head_len, block_words, block_start, book_words}
use Rattle.model.specs.Block.{up_from}
use Rattle.model.specs.Words.{join, block_part, with_block}
use Rattle.laws.specs.Parts.{length-join, up_from_append, join_append}

-- the words after the first c blocks were replaced by f's; the head and the other blocks stay
unfoldable pub swept : Shape → (ℕ → List ℕ) → ℕ → List ℕ → List ℕ
swept s f c ws = (take head_len ws ++ join (up_from f 0 c)) ++ drop (block_start s c) ws

module _ (s : Shape) (f : ℕ → List ℕ) (ws : List ℕ) (size : length ws ≡ book_words s) (sized : (j : ℕ) → j < s.g → length (f j) ≡ block_words s) where
  start_none : block_start s 0 ≡ head_len
  unfolding block_start
  start_none = omega arith

  start_next : (c : ℕ) → block_start s (suc c) ≡ block_start s c + block_words s
  unfolding block_start
  start_next c = omega (arith, suc-mul c (block_words s))

  start_last : block_start s s.g ≡ length ws
  unfolding block_start book_words
  start_last = sym size

  long : head_len ≤ length ws
  unfolding book_words
  long = omega arith

  pub swept_none : swept s f 0 ws ≡ ws
  unfolding swept
  swept_none = rw (start_none, append-nil (take head_len ws)) (take-append-drop head_len ws)

  module _ (c : ℕ) (low : c ≤ s.g) where
    abbrev done : List ℕ
    done = take head_len ws ++ join (up_from f 0 c)

    length-done : length done ≡ block_start s c
    unfolding block_start
    length-done =
        simp length-append (omega (arith, length-take-le head_len ws long, length-join f (block_words s) 0 c (λ j l h. sized j (omega arith))))

    -- block c has not changed yet
    pub swept-part : block_part s c (swept s f c ws) ≡ block_part s c ws
    unfolding swept
    swept-part = ap (take (block_words s)) (drop_at done (drop (block_start s c) ws) (block_start s c) length-done)

  -- block c is rewritten next
  pub swept-more : (c : ℕ) → c < s.g → with_block s c (f c) (swept s f c ws) ≡ swept s f (suc c) ws
  unfolding swept
  swept-more c low =
      let start : ℕ = block_start s c in
      let front : List ℕ = done c (omega arith) in
      let size_front : length front ≡ start = length-done c (omega arith) in
      let parts : join (up_from f 0 (suc c)) ≡ join (up_from f 0 c) ++ f c =
      ap (λ (n : ℕ). join (up_from f 0 n)) (sym (add-one c)) ∙ ap join (rw zero-add at (up_from_append f 0 c 1))
      ∙ join_append (up_from f 0 c) (f c ∷ []) ∙ ap (λ (z : List ℕ). join (up_from f 0 c) ++ z) (append-nil (f c)) in
      let rest : drop (start + block_words s) (front ++ drop start ws) ≡ drop (block_start s (suc c)) ws =
      rw (← size_front, drop-append-add front (drop (length front) ws) (block_words s), drop-drop, size_front, start_next c) in
      rw (take_at front (drop start ws) start size_front, rest, parts)
      (sym (append_assoc front (f c) (drop (block_start s (suc c)) ws))
      ∙ ap (λ (z : List ℕ). z ++ drop (block_start s (suc c)) ws) (append_assoc (take head_len ws) (join (up_from f 0 c)) (f c)))

  pub swept_all : swept s f s.g ws ≡ take head_len ws ++ join (up_from f 0 s.g)
  unfolding swept
  swept_all = rw (drop_of_length-le ws {i = block_start s s.g} (omega (arith, start_last))) (append-nil _)
