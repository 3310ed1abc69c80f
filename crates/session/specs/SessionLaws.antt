-- What the parts of the code give is what the definitions say. Assumes nothing.
use Rattle.std.specs.Prelude.{Option, Result, Some, None, unwrap_or, true, false, List, ◌++◌, ◌≡◌, ℕ, ◌+◌, ◌-◌, ◌≤◌, length, take, drop}
use Rattle.std.proofs.Common.{append_assoc, sym, ap, ◌∙◌, arith, le-ltb, eq-eqb, ne_eqb, length-drop, length-take-le}
use Rattle.std.proofs.lemmas.List.{length-replicate}
use Rattle.std.proofs.Math.Seq.{take-append-add, take-append_seam}
use Rattle.model.specs.declared.Call.{Call}
use Rattle.model.specs.declared.Answer.{Answer}
use Rattle.model.specs.declared.Refusal.{Refusal}
use Rattle.grammar.specs.Grammar.{reading_of}
use Rattle.lines.specs.declared.Line.{Line}
use Rattle.lines.specs.Bytes.{started, stepped, finished}
use Rattle.model.specs.Reply.{reply_of}
use Rattle.text.specs.Text.{written, stored}
use Rattle.text.specs.TextLaws.{text_short, unread_short}
use Rattle.lent.specs.declared.Answered.{Answered}
use Rattle.lent.specs.Lent.{After, after_line}
use Rattle.lent.specs.Said.{said_text, after_of}
use Rattle.session.specs.declared.Session.{Session}
use Rattle.session.specs.Protocol.{newline, buffer_words, zero_buffer}
use Rattle.session.specs.Parsing.{parsed_reading}
use Rattle.session.specs.Session.{Bench, initial, end_line, add_byte, feed_byte, end_input, bench_of}

zero-length : length zero_buffer ≡ buffer_words
unfolding zero_buffer
zero-length = length-replicate {A = ℕ} buffer_words 0

-- before the first byte
pub start-initial : (words out : List ℕ) → words ≡ zero_buffer
    → bench_of (record { line = None; lent = length words; used = 0 }) words out ≡ initial
unfolding initial
start-initial words out w = rw (w, zero-length)

pub said_short : (s : Option (Result Answer Refusal)) → length (said_text s) ≤ 32
unfolding said_text
said_short (Some a) = text_short (reply_of a)
said_short None = unread_short

-- the output after the bytes that wait has room for a text
pub room_behind : (out : List ℕ) (used : ℕ) → used + 32 ≤ length out → 32 ≤ length (take (length out - used) (drop used out))
room_behind out used h = rw (length-take-le (length out - used) (drop used out) (omega (arith, length-drop used out))) (omega arith)

-- writing a text there
pub text_behind : (text out room last rest : List ℕ) (used added : ℕ) → used ≤ length out → 32 ≤ length room → added ≡ written text room
    → last ≡ stored text room → take (used + added) (take used out ++ (last ++ rest)) ≡ take used out ++ text
unfolding written stored
text_behind text out room last rest used added h long a l =
    let more = drop (length text) room ++ rest in
    let test = le-ltb (length room) 32 long in
    let shown : last ++ rest ≡ text ++ more = rw (l, test) (append_assoc text (drop (length text) room) rest) in
    let counted : added ≡ length text = rw (a, test) in
    let front : length (take used out) ≡ used = length-take-le used out h in
    rw (counted, shown)
    (ap (λ (k : ℕ). take (k + length text) (take used out ++ (text ++ more))) (sym front)
    ∙ take-append-add (take used out) (text ++ more) (length text)
    ∙ ap (λ (l : List ℕ). take used out ++ l) (take-append_seam text more))

-- a whole line
pub line_ended : (s : Session) (ws left out exit : List ℕ) (p : Option Call) (a : Answered) (used : ℕ)
    → reading_of p ≡ finished (unwrap_or s.line started) → after_of a left ≡ after_line ws s.lent p → take used exit ≡ take s.used out ++ said_text a.said
    → bench_of (record { line = None; lent = a.lent; used = used }) left exit ≡ end_line (bench_of s ws out)
unfolding end_line
line_ended s ws left out exit p a used r l t =
    rw (t, ← r, parsed_reading p)
    (ap (λ (x : After). record { line = started; begun = false; words = x.words; lent = x.lent; out = take s.used out ++ x.text }) l)

-- a byte of the line
pub byte_added : (s : Session) (line : Line) (words out : List ℕ) (byte : ℕ) → line ≡ stepped (unwrap_or s.line started) byte
    → bench_of (record { line = Some line; lent = s.lent; used = s.used }) words out ≡ add_byte (bench_of s words out) byte
unfolding add_byte
byte_added s line words out byte l = rw l

-- ---- the cases of a byte and of the end

module _ (b : Bench) where
  pub at_newline : (byte : ℕ) → byte ≡ newline → feed_byte b byte ≡ end_line b
  at_newline byte e = rw (eq-eqb byte newline e)

  pub at_other : (byte : ℕ) → (byte ≡ newline → ⊥) → feed_byte b byte ≡ add_byte b byte
  at_other byte e = rw (ne_eqb byte newline e)

  pub at_end : b.begun ≡ true → end_input b ≡ end_line b
  at_end e = rw e

  pub at_end_none : b.begun ≡ false → end_input b ≡ b
  at_end_none e = rw e
