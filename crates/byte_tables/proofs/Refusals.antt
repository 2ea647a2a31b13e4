-- Which refusals a byte table gives: 1, 3, 4, 6 to 9, 11, 16 and 21, and no other.
use Rattle.std.proofs.Common.{◌≡◌, refl, ℕ, ◌-◌, Bool, true, false, ◌||◌, List, [], ◌∷◌, length, get_or, Option, None, Some, Result, Ok, Err, eqb, ltb}
use Rattle.basics.specs.Ascii.{ascii}
use Rattle.basics.specs.Choice.{if_some, if_ok}
use Rattle.basics.specs.Refusals.{number_of}
use Rattle.basics.specs.declared.Refusal.{Refusal}
use Rattle.basics.proofs.Tests.{either, by_cases}
use Rattle.scalars.specs.Characters.{is_charset}
use Rattle.utf8.specs.Utf8.{utf8}
use Rattle.utf8.specs.declared.BadSequence.{BadSequence}
use Rattle.lines.specs.Words.{word_at, bytes_of, is_missing, same_bytes, is_over}
use Rattle.lines.specs.Texts.{line_limit, valid_opening, opening_of, if_directive, Step, next, stop, rejected, run_text}
use Rattle.lines.specs.declared.LineFault.{LineFault}
use Rattle.lines.specs.declared.Parsed.{Parsed}
use Rattle.lines.specs.declared.Word.{Word}
use Rattle.lines.specs.declared.Opening.{Opening}
use Rattle.lines.specs.declared.Opening.TheVariants as G
use Rattle.lines.proofs.Texts.{StopsBy, RefusedBy, run_refused}
use Rattle.dots.specs.Dots.{dots_at}
use Rattle.operands.specs.Operands.{operand_word, ended, dots_fault, dots_operand_at}
use Rattle.attributes.specs.Reader.{dot_number, state_in, state_at, dot_at}
use Rattle.attributes.specs.Compile.{is_named, with_dot}
use Rattle.attributes.specs.declared.State.TheVariants.{Unnamed}
use Rattle.attributes.specs.declared.States.{States}
use Rattle.attributes.specs.declared.States.TheVariants.{WithFixed}
use Rattle.attributes.specs.declared.DotStates.{DotStates}
use Rattle.attributes.specs.declared.DotLine.{DotLine}
use Rattle.byte_tables.specs.Reader.{form_byte, byte_at, byte_line, table_line, read_table_line}
use Rattle.byte_tables.specs.Compile.{begun, with_dots, with_byte, with_line, step, compiled_bytes}
use Rattle.byte_tables.specs.declared.SoFar.{SoFar}
use Rattle.byte_tables.specs.declared.TableLine.{TableLine}
use Rattle.byte_tables.specs.declared.TableLine.TheVariants.{Skip, Dot, Byte}

abbrev pub given : List ℕ
given = 1 ∷ 3 ∷ 4 ∷ 6 ∷ 7 ∷ 8 ∷ 9 ∷ 11 ∷ 16 ∷ 21 ∷ []

abbrev is_in : ℕ → List ℕ → Bool
is_in n [] = false
is_in n (m ∷ ms) = eqb n m || is_in n ms

abbrev pub Given : Refusal → Type 0
Given refusal = is_in (number_of refusal) given ≡ true

-- what is at fault is so by one of these
abbrev Of : {A : Type 0} → Result A LineFault → Type 0
Of (Ok a) = Unit {0}
Of (Err fault) = Given fault.refusal

-- what follows from a value, of which so much holds
of_ok : {A B : Type 0} (r : Result A LineFault) (more : A → Result B LineFault) → Of r → ((a : A) → Of (more a)) → Of (if_ok r more)
of_ok (Ok a) more h each = each a
of_ok (Err fault) more h each = h

of_some : {A B : Type 0} (m : Option A) (none : Result B LineFault) (some : A → Result B LineFault) → Of none → ((a : A) → Of (some a))
    → Of (if_some m none some)
of_some None none some h each = h
of_some (Some a) none some h each = each a

module _ (charset : ℕ) (line : List ℕ) where
  of_operand : (at : ℕ) → Of (operand_word line at)
  unfolding operand_word
  of_operand at = either Of (is_missing (word_at line at)) refl tt

  of_ended : (at : ℕ) → Of (ended line at)
  unfolding ended
  of_ended at = either Of (is_over line at) tt refl

  -- a `dot` line
  of_state_at : (states : States) (at : ℕ) → Of (state_at states line at)
  unfolding state_at
  of_state_at states at =
      of_ok (operand_word line at) _ (of_operand at)
      (λ w. of_some (state_in states (bytes_of line w)) _ _ refl (λ state. of_ok (ended line w.end) _ (of_ended w.end) (λ u. tt)))

  of_dot_at : (states : States) (at left : ℕ) → Of (dot_at states line at left)
  unfolding dot_at
  of_dot_at states at left =
      of_ok (operand_word line at) _ (of_operand at)
      (λ w. of_some (dot_number (bytes_of line w)) _ _ refl (λ dot. of_ok (state_at states line w.end) _ (of_state_at states w.end) (λ state. tt)))

  -- a byte line
  of_byte_at : (at : ℕ) → Of (byte_at charset line at)
  unfolding byte_at
  of_byte_at at = of_ok (operand_word line at) _ (of_operand at) (λ w. of_some (form_byte charset (bytes_of line w)) _ _ refl (λ byte. tt))

  of_cell : (read : Option (Parsed ℕ)) (left : ℕ) → Of (dots_fault read left)
  of_cell None left = refl
  of_cell (Some p) left = tt

  of_dots_at : (at : ℕ) → Of (dots_operand_at line at)
  unfolding dots_operand_at
  of_dots_at at = of_ok (operand_word line at) _ (of_operand at) (λ w. of_cell (dots_at line w.start) (length line - w.start))

  of_byte_line : (at left : ℕ) → Of (byte_line charset line at left)
  unfolding byte_line
  of_byte_line at left =
      of_ok (byte_at charset line at) _ (of_byte_at at)
      (λ byte. of_ok (dots_operand_at line byte.after) _ (of_dots_at byte.after) (λ cell. of_ok (ended line cell.after) _ (of_ended cell.after) (λ u. tt)))

  -- any line
  of_table_line : Of (table_line charset line)
  unfolding table_line
  of_table_line =
      let w : Word = word_at line 0 in
      let left : ℕ = length line - w.start in
      either Of (same_bytes (bytes_of line w) (ascii "dot")) (of_ok (dot_at WithFixed line w.end left) _ (of_dot_at WithFixed w.end left) (λ d. tt))
      (either Of (same_bytes (bytes_of line w) (ascii "byte")) (of_byte_line w.end left) (of_byte_line w.start left))

  of_valid : (v : Result Unit BadSequence) → Of (valid_opening line v)
  of_valid (Err bad) = refl
  of_valid (Ok u) = tt

  of_opening : Of (opening_of line)
  unfolding opening_of
  of_opening = either Of (ltb line_limit (length line)) refl (of_valid (utf8 line))

  of_read : (o : Result Opening LineFault) → Of o → Of (if_directive o (Ok Skip) (table_line charset line))
  of_read (Err fault) h = h
  of_read (Ok G.Skip) h = tt
  of_read (Ok G.Directive) h = of_table_line

-- 11 is the one that what stands already gives
of_dot : (f : DotStates) (d : DotLine) → StopsBy Given (with_dot f d)
of_dot f d = either (λ (a : Step DotStates). StopsBy Given a) (is_named (get_or f.places d.dot Unnamed)) refl tt

of_dots_step : (s : SoFar) (a : Step DotStates) → StopsBy Given a → StopsBy Given (with_dots s a)
of_dots_step s (next dots) h = tt
of_dots_step s (stop refusal left) h = h

of_byte_step : (s : SoFar) (earlier : Option ℕ) (byte cell left : ℕ) → StopsBy Given (with_byte s earlier byte cell left)
of_byte_step s None byte cell left = tt
of_byte_step s (Some c) byte cell left = refl

of_line : (s : SoFar) (read : Result TableLine LineFault) → Of read → StopsBy Given (with_line s read)
of_line s (Err fault) h = h
of_line s (Ok Skip) h = tt
of_line s (Ok (Dot d)) h = of_dots_step s (with_dot s.dots d) (of_dot s.dots d)
of_line s (Ok (Byte byte cell left)) h = of_byte_step s (get_or s.slots byte None) byte cell left

of_step : (charset : ℕ) (s : SoFar) (line : List ℕ) → StopsBy Given (step charset s line)
unfolding step read_table_line
of_step charset s line = of_line s (read_table_line charset line) (of_read charset line (opening_of line) (of_opening charset line))

-- so 2, 5, 10, 12, 13, 17 and 18 never occur
pub bytes_refusals : (charset : ℕ) (text : List ℕ) {refusal : Refusal} {n column : ℕ} → compiled_bytes charset text ≡ rejected refusal n column → Given refusal
unfolding compiled_bytes
bytes_refusals charset text e =
    let read : RefusedBy Given (run_text (step charset) begun text) = run_refused Given (step charset) (of_step charset) begun text refl in
    let each : RefusedBy Given (compiled_bytes charset text) = by_cases (is_charset charset) (λ q. rw q read) (λ q. rw q refl) in
    rw e at each
