-- The bench program, read byte by byte, writes what the protocol says, in whatever parts the input comes. Assumes nothing.
use Rattle.std.specs.Prelude.{Bool, true, false, cond, ◌≡◌, refl, ℕ, eqb}
use mathlib.Core.List.{List, [], ◌∷◌, ◌++◌, foldl, foldl-append, append-nil, append_assoc}
use Rattle.std.proofs.Common.{⊎_elim, sym, ap, ◌∙◌, eq-eqb, ne_eqb}
use Rattle.model.specs.Words.{join}
use Rattle.laws.specs.Cond.{eq_or_ne}
use Rattle.grammar.specs.Grammar.{grammar}
use Rattle.lines.specs.Bytes.{started, stepped, read_line}
use Rattle.lent.specs.Lent.{after_line}
use Rattle.session.specs.Protocol.{newline, buffer_words, zero_buffer, with_byte, lines_of, parsed_of, printed, output}
use Rattle.session.specs.Session.{Bench, initial, end_line, add_byte, feed_byte, end_input, written_out, in_parts}
use Rattle.session.specs.SessionLaws.{at_newline, at_other}

-- ---- a line that has begun

abbrev non_empty : List ℕ → Bool
non_empty [] = false
non_empty (byte ∷ bytes) = true

-- the program after these bytes of a line
abbrev mid_line : List ℕ → List ℕ → ℕ → List ℕ → Bench
mid_line bytes words lent out = record { line = foldl stepped started bytes; begun = non_empty bytes; words = words; lent = lent; out = out }

-- the bytes of a line that has begun, put before the lines that follow
abbrev with_bytes : List ℕ → List (List ℕ) → List (List ℕ)
with_bytes [] lines = lines
with_bytes (byte ∷ bytes) lines = with_byte byte (with_bytes bytes lines)

front_line : (bytes : List ℕ) (lines : List (List ℕ)) → with_bytes bytes ([] ∷ lines) ≡ bytes ∷ lines
front_line [] lines = refl
front_line (byte ∷ bytes) lines = ap (with_byte byte) (front_line bytes lines)

front_last : (byte : ℕ) (bytes : List ℕ) → with_bytes (byte ∷ bytes) [] ≡ (byte ∷ bytes) ∷ []
front_last byte [] = refl
front_last byte (next ∷ bytes) = ap (with_byte byte) (front_last next bytes)

front_byte : (bytes : List ℕ) (byte : ℕ) (lines : List (List ℕ)) → with_bytes (bytes ++ byte ∷ []) lines ≡ with_bytes bytes (with_byte byte lines)
front_byte [] byte lines = refl
front_byte (first ∷ bytes) byte lines = ap (with_byte first) (front_byte bytes byte lines)

more_non_empty : (bytes : List ℕ) (byte : ℕ) → non_empty (bytes ++ byte ∷ []) ≡ true
more_non_empty [] byte = refl
more_non_empty (first ∷ bytes) byte = refl

-- ---- each step

module _ (bytes words : List ℕ) (lent : ℕ) (out : List ℕ) where
  line_end : end_line (mid_line bytes words lent out)
      ≡ (let after = after_line words lent (parsed_of (grammar bytes)) in mid_line [] after.words after.lent (out ++ after.text))
  unfolding end_line
  line_end = rw (read_line bytes)

  line_more : (byte : ℕ) → add_byte (mid_line bytes words lent out) byte ≡ mid_line (bytes ++ byte ∷ []) words lent out
  unfolding add_byte
  line_more byte = rw (foldl-append stepped started bytes (byte ∷ []), more_non_empty bytes byte)

-- the lines of an input that starts with a newline, and of one that starts with another byte
module _ (byte : ℕ) (bytes input : List ℕ) where
  newline_lines : byte ≡ newline → with_bytes bytes (lines_of (byte ∷ input)) ≡ bytes ∷ lines_of input
  newline_lines e = rw (eq-eqb byte newline e) (front_line bytes (lines_of input))

  other_lines : (byte ≡ newline → ⊥) → with_bytes bytes (lines_of (byte ∷ input)) ≡ with_bytes (bytes ++ byte ∷ []) (lines_of input)
  other_lines e = rw (ne_eqb byte newline e) (sym (front_byte bytes byte (lines_of input)))

-- from any state on, with this input to come, the program writes what the protocol says
abbrev Right : List ℕ → Type 0
Right input =
    (bytes words : List ℕ) (lent : ℕ) (out : List ℕ)
    → (end_input (foldl feed_byte (mid_line bytes words lent out) input)).out ≡ out ++ printed words lent (with_bytes bytes (lines_of input))

right_end : Right []
right_end [] words lent out = sym (append-nil out)
right_end (byte ∷ bytes) words lent out =
    ap (λ (b : Bench). b.out) (line_end (byte ∷ bytes) words lent out) ∙ rw (front_last byte bytes, append-nil)

module _ (byte : ℕ) (input : List ℕ) (rest : Right input) (bytes words : List ℕ) (lent : ℕ) (out : List ℕ) where
  to : {b c : Bench} → b ≡ c → (end_input (foldl feed_byte b input)).out ≡ (end_input (foldl feed_byte c input)).out
  to e = ap (λ (x : Bench). (end_input (foldl feed_byte x input)).out) e

  from : {these those : List (List ℕ)} → these ≡ those → out ++ printed words lent those ≡ out ++ printed words lent these
  from e = ap (λ (lines : List (List ℕ)). out ++ printed words lent lines) (sym e)

  abbrev Goal : Type 0
  Goal = (end_input (foldl feed_byte (mid_line bytes words lent out) (byte ∷ input))).out ≡ out ++ printed words lent (with_bytes bytes (lines_of (byte ∷ input)))

  right_newline : byte ≡ newline → Goal
  right_newline e =
      let after = after_line words lent (parsed_of (grammar bytes)) in
      to (at_newline (mid_line bytes words lent out) byte e ∙ line_end bytes words lent out)
      ∙ rest [] after.words after.lent (out ++ after.text)
      ∙ append_assoc out after.text (printed after.words after.lent (lines_of input))
      ∙ from (newline_lines byte bytes input e)

  right_other : (byte ≡ newline → ⊥) → Goal
  right_other e =
      to (at_other (mid_line bytes words lent out) byte e ∙ line_more bytes words lent out byte)
      ∙ rest (bytes ++ byte ∷ []) words lent out
      ∙ from (other_lines byte bytes input e)

right : (input : List ℕ) → Right input
right [] = right_end
right (byte ∷ input) = λ bytes words lent out.
    let rest = right input in
    ⊎_elim (right_newline byte input rest bytes words lent out) (right_other byte input rest bytes words lent out) (eq_or_ne byte newline)

-- the bytes that wait at the end are the output of the protocol
pub session_output : (input : List ℕ) → (end_input (foldl feed_byte initial input)).out ≡ output input
unfolding initial output
session_output input = right input [] zero_buffer buffer_words []

-- a line is answered when its newline has been read: no later byte is waited for
pub line_output : (input : List ℕ) → (foldl feed_byte initial (input ++ newline ∷ [])).out ≡ output (input ++ newline ∷ [])
unfolding end_line
line_output input = rw (← session_output (input ++ newline ∷ []), foldl-append feed_byte initial input (newline ∷ []))

-- ---- the input in parts

-- more bytes before those that wait
behind : List ℕ → Bench → Bench
behind front b = record { line = b.line; begun = b.begun; words = b.words; lent = b.lent; out = front ++ b.out }

end_behind : (front : List ℕ) (b : Bench) → end_line (behind front b) ≡ behind front (end_line b)
unfolding behind end_line
end_behind front b = rw append_assoc

feed_behind : (front input : List ℕ) (b : Bench) → foldl feed_byte (behind front b) input ≡ behind front (foldl feed_byte b input)
unfolding behind add_byte
feed_behind front [] b = refl
feed_behind front (byte ∷ input) b =
    ap (λ (x : Bench). foldl feed_byte x input) (go (eqb byte newline)) ∙ feed_behind front input (feed_byte b byte)
  where
    go : (t : Bool) → cond t (end_line (behind front b)) (add_byte (behind front b) byte) ≡ behind front (cond t (end_line b) (add_byte b byte))
    go true = end_behind front b
    go false = refl

last_behind : (front : List ℕ) (b : Bench) → (end_input (behind front b)).out ≡ front ++ (end_input b).out
unfolding behind
last_behind front b = go b.begun
  where
    go : (t : Bool) → (cond t (end_line (behind front b)) (behind front b)).out ≡ front ++ (cond t (end_line b) b).out
    go true = ap (λ (x : Bench). x.out) (end_behind front b)
    go false = refl

parts_whole : (b : Bench) (parts : List (List ℕ)) → in_parts b parts ≡ (end_input (foldl feed_byte b (join parts))).out
unfolding behind written_out
parts_whole b [] = refl
parts_whole b (part ∷ parts) =
    let after = foldl feed_byte b part in
    let kept : behind after.out (written_out after) ≡ after = rw append-nil in
    ap (λ (l : List ℕ). after.out ++ l) (parts_whole (written_out after) parts)
    ∙ sym (last_behind after.out (foldl feed_byte (written_out after) (join parts)))
    ∙ ap (λ (x : Bench). (end_input x).out) (sym (feed_behind after.out (join parts) (written_out after)))
    ∙ ap (λ (x : Bench). (end_input (foldl feed_byte x (join parts))).out) kept
    ∙ ap (λ (x : Bench). (end_input x).out) (sym (foldl-append feed_byte b part (join parts)))

-- in whatever parts the input comes, what is written is the output of the protocol
pub parts_output : (parts : List (List ℕ)) → in_parts initial parts ≡ output (join parts)
parts_output parts = parts_whole initial parts ∙ session_output (join parts)
