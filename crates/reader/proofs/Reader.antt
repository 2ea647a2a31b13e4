-- Each way through the reading of a line: what the calls answered, put into the definitions.
use Prim.Native.Nat.{ℕ, zero, suc, ◌-◌, ◌≤◌, ◌<◌}
use mathlib.Core.Path.{◌≡◌, ◌∙◌}
use mathlib.Core.Bool.{Bool, true, false}
use mathlib.Core.List.{List}
use native.Mathlib.Numerals.{sub-one}
use native.Mathlib.Omega.{arith}
use lib.ListN.{length, take, drop, length-drop}
use lib.Seq.{take_all}
use Rattle.std.specs.Prelude.{Option, Result, Ok, Err}
use Rattle.basics.specs.Ascii.{ascii}
use Rattle.basics.specs.Choice.{if_some, if_ok}
use Rattle.basics.proofs.Tests.{chosen}
use Rattle.lines.specs.declared.LineFault.{LineFault}
use Rattle.lines.specs.Texts.{fault}
use Rattle.basics.specs.declared.Refusal.TheVariants.{UnknownDirective}
use Rattle.lines.specs.Words.{word_at, bytes_of, same_bytes}
use Rattle.lines.specs.declared.Word.{Word}
use Rattle.blocks.specs.Blocks.{inert}
use Rattle.blocks.specs.declared.BlockLine.{BlockLine}
use Rattle.blocks.specs.declared.BlockLine.TheVariants.{Else, EndIf}
use Rattle.blocks.specs.declared.Around.{Around}
use Rattle.definitions.specs.declared.Definition.{Definition}
use Rattle.reader.specs.Reader.{directive_of, after_directive, front_of, without_effect, if_holds, read_from, block_line, read_first}
use Rattle.reader.specs.Internal.{FrontWithin}
use Rattle.reader.specs.declared.Directive.{Directive}
use Rattle.reader.specs.declared.Reading.{Reading}
use Rattle.reader.specs.declared.Reading.TheVariants.{Block}
use Rattle.reader.specs.declared.Front.{Front}
use Rattle.reader.specs.declared.Front.TheVariants.{Whole, Condition}

-- ---- conditions

-- a condition needs no more than that there is room
pub front_room : (f : Result Front LineFault) (room n : ℕ) → FrontWithin f 1 n → (room ≡ 0 → ⊥) → FrontWithin f room n
front_room (Err fault) room n h q = tt
front_room (Ok (Whole reading)) room n h q = tt
front_room (Ok (Condition holds rest)) room n h q = (omega arith, h.1)

module _ (f : Result Front LineFault) (holds : Bool) (rest room n : ℕ) (h : FrontWithin f room n) (q : f ≡ Ok (Condition holds rest)) where
  front_within : (0 < room) × (rest ≤ n)
  front_within = rw q at h

  pub rest_within : rest ≤ n
  rest_within = front_within.1

  pub some_room : 0 < room
  some_room = front_within.0

  -- the room for conditions falls
  pub room_falls : (m : ℕ) → room ≡ m → room - 1 < m
  room_falls m z = let p = front_within in omega arith

-- ---- directives

pub front_read : (charset : ℕ) (ds : List Definition) (room : ℕ) (line : List ℕ) (w : Word) (d : Option Directive) (f : Result Front LineFault)
    → w ≡ word_at line 0 → d ≡ directive_of (bytes_of line w)
    → f ≡ if_some d (fault UnknownDirective (length line - w.start)) (λ k. after_directive charset ds room line k w.end (length line - w.start))
    → f ≡ front_of charset ds room line
unfolding front_of
front_read charset ds room line w d f g h z = rw (← g, ← h) z

pub read_whole : (charset : ℕ) (ds : List Definition) (room : ℕ) (line : List ℕ) (reading : Reading)
    → Ok (Whole reading) ≡ front_of charset ds room line → Ok reading ≡ read_from charset ds room line
unfolding read_from
read_whole charset ds zero line reading e = rw (← e)
read_whole charset ds (suc room) line reading e = rw (← e)

pub read_fault : (charset : ℕ) (ds : List Definition) (room : ℕ) (line : List ℕ) (fault : LineFault) → Err fault ≡ front_of charset ds room line
    → Err fault ≡ read_from charset ds room line
unfolding read_from
read_fault charset ds zero line fault e = rw (← e)
read_fault charset ds (suc room) line fault e = rw (← e)

-- the rest of a line as `&line[rest..]` has it
part_rest : (line : List ℕ) (rest : ℕ) → take (length line - rest) (drop rest line) ≡ drop rest line
part_rest line rest = take_all (length line - rest) (drop rest line) (simp length-drop (omega arith))

pub read_further : (charset : ℕ) (ds : List Definition) (room : ℕ) (line : List ℕ) (holds : Bool) (rest : ℕ) (more r : Result Reading LineFault)
    → Ok (Condition holds rest) ≡ front_of charset ds room line → 0 < room
    → more ≡ read_from charset ds (room - 1) (take (length line - rest) (drop rest line)) → r ≡ if_ok more (λ reading. Ok (if_holds holds reading))
    → r ≡ read_from charset ds room line
unfolding read_from
read_further charset ds zero line holds rest more r e p g z = absurd (omega arith)
read_further charset ds (suc room) line holds rest more r e p g z = z ∙ rw (← e, g, part_rest, sub-one)

-- ---- the first word

-- a block behind a failed condition
pub inert_block : {reading : Reading} {read made : BlockLine} → reading ≡ Block read → made ≡ inert read → Block made ≡ without_effect reading
inert_block q e = rw (q, e)

pub ruleset unmet = (chosen, inert_block)

-- w is the first word, a and b are what calls answered of it
module _ (charset : ℕ) (ds : List Definition) (around : Around) (line : List ℕ) (w : Word) (r : Result Reading LineFault) (a : Bool)
    (e : w ≡ word_at line 0) (p : a ≡ same_bytes (bytes_of line w) (ascii "else")) where
  pub first_else : a ≡ true → r ≡ block_line around.turns Else line w.end (length line - w.start) → r ≡ read_first charset ds around line
  unfolding read_first
  first_else q z = rw (← e, ← p, q) z

  module _ (b : Bool) (n : a ≡ false) (t : b ≡ same_bytes (bytes_of line w) (ascii "endIf")) where
    pub first_end : b ≡ true → r ≡ block_line around.closes EndIf line w.end (length line - w.start) → r ≡ read_first charset ds around line
    unfolding read_first
    first_end q z = rw (← e, ← p, n, ← t, q) z

    pub first_other : (more : Result Reading LineFault) → b ≡ false → more ≡ read_from charset ds around.room line
        → r ≡ if_ok more (λ reading. Ok (if_holds around.taken reading)) → r ≡ read_first charset ds around line
    unfolding read_first
    first_other more q y z = rw (← e, ← p, n, ← t, q, ← y) z

pub ruleset first = (first_else, first_end, first_other)
