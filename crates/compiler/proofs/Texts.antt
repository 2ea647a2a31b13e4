-- What an accepted text takes: its definitions are admitted and in range, and bytes after a text go on from where it left off; and how far the
-- column of a refused one goes.
use Prim.Native.Nat.{ℕ, suc, ◌+◌, ◌-◌, ◌≤◌, ◌<◌}
use mathlib.Core.Path.{◌≡◌, refl, sym, ◌∙◌}
use mathlib.Core.Bool.{Bool, true, false}
use mathlib.Core.List.{List, [], ◌∷◌, ◌++◌, append-nil}
use native.Mathlib.Omega.{arith}
use lib.Dec.{ltb}
use lib.ListN.{length, drop}
use lib.Seq.{append_snoc}
use borrow.Author.Tests.{lt-ltb, ltb-false, le-ltb}
use Rattle.std.specs.Prelude.{Result, Ok, Err}
use Rattle.lines.specs.declared.LineFault.{LineFault}
use Rattle.basics.specs.Choice.{pick}
use Rattle.basics.specs.Refusals.{answered, refused}
use Rattle.basics.specs.declared.Refusal.TheVariants.{TextTooLong, LineTooLong}
use Rattle.basics.proofs.Tests.{either}
use Rattle.scalars.specs.Characters.{is_charset}
use Rattle.lines.specs.Lines.{lines_of, without_cr, is_ended}
use Rattle.lines.specs.Texts.{text_limit, line_limit, opening_of, next, stop, Outcome, accepted, rejected, on_step, run_lines, run_text, outcome_column}
use Rattle.lines.proofs.Texts.{lines_append, run_keeps, run_append, run_column}
use Rattle.blocks.specs.declared.OpenBlock.{OpenBlock}
use Rattle.blocks.proofs.Stacks.{after_alike}
use Rattle.definitions.specs.declared.Definition.{Definition}
use Rattle.definitions.proofs.Admission.{Admits}
use Rattle.pairs.specs.Words.{table_words, image_of}
use Rattle.table.proofs.Readback.{AllInRange}
use Rattle.compiler.specs.Compile.{line_effect, SoFar, begun, with_effect, step, closed_by, closing, compiled, and_after, effects_within, effects}
use Rattle.compiler.specs.Compile.{compiled_count, compile_reply, compile_column, compile_words}
use Rattle.reader.specs.Reader.{read_line}
use Rattle.reader.specs.declared.Reading.{Reading}
use Rattle.reader.specs.declared.Reading.TheVariants.{NoEffect, Define, Block}
use Rattle.compiler.proofs.Effects.{effect_in_range, effect_admitted}

-- after the definitions ds those of rs take effect, and gs are all
pub record Took (ds gs rs : List Definition) : Type 0 where
  pub after : gs ≡ ds ++ rs
  pub admits : Admits ds rs
  pub fit : AllInRange rs

-- lines that are all accepted take what takes effect at them
pub run_took : (charset : ℕ) (ls : List (List ℕ)) (n : ℕ) (s : SoFar) {g : SoFar} → run_lines (step charset) ls n s ≡ accepted g
    → Took s.definitions g.definitions (effects_within charset s.definitions s.blocks ls)
unfolding run_lines step effects_within
run_took charset [] n s e = record { after = cc (append-nil s.definitions); admits = tt; fit = tt }
run_took charset (l ∷ ls) n s {g} e = go (λ t. run_took charset ls (n + 1) t) (line_effect charset s.definitions s.blocks (without_cr l)) refl e
  where
    go : ((t : SoFar) → run_lines (step charset) ls (n + 1) t ≡ accepted g
        → Took t.definitions g.definitions (effects_within charset t.definitions t.blocks ls))
        → (r : Result Reading LineFault) → line_effect charset s.definitions s.blocks (without_cr l) ≡ r
        → on_step (with_effect s r) (without_cr l) n (λ t. run_lines (step charset) ls (n + 1) t) ≡ accepted g
        → Took s.definitions g.definitions (and_after s.definitions s.blocks r (λ ds bs. effects_within charset ds bs ls))
    go ih (Err fault) p e = record { after = cc; admits = tt; fit = tt }
    go ih (Ok NoEffect) p e = ih _ e
    go ih (Ok (Block read)) p e = ih _ e
    go ih (Ok (Define d left)) p e =
        let rest = ih _ e in
        record {
          after = rw append_snoc at rest.after;
          admits = (effect_admitted charset s.definitions s.blocks (without_cr l) p, rest.admits);
          fit = (effect_in_range charset s.definitions s.blocks (without_cr l) p, rest.fit);
        }

-- each open block has the line that opened it
abbrev Alike : SoFar → Type 0
Alike s = length s.blocks ≡ length s.starts

step_alike : (charset : ℕ) (s : SoFar) (line : List ℕ) (s' : SoFar) → step charset s line ≡ next s' → Alike s → Alike s'
unfolding step
step_alike charset s line s' e h = go (line_effect charset s.definitions s.blocks line) e
  where
    go : (r : Result Reading LineFault) → with_effect s r ≡ next s' → Alike s'
    go (Err fault) e = cc
    go (Ok NoEffect) e = cc
    go (Ok (Define d left)) e = cc
    go (Ok (Block read)) e = cc (after_alike read (s.lines + 1) s.blocks s.starts h)

-- an accepted text is not too long, its lines are accepted, and no block is open behind them
pub record AcceptedText (charset : ℕ) (text : List ℕ) (ds : List Definition) : Type 0 where
  pub short : length text ≤ text_limit
  pub left : SoFar
  pub lines : run_lines (step charset) (lines_of text) 1 begun ≡ accepted left
  pub none : left.blocks ≡ []
  pub all : left.definitions ≡ ds

lines_accepted : (charset : ℕ) (text : List ℕ) (o : Outcome SoFar) {ds : List Definition} → length text ≤ text_limit
    → run_lines (step charset) (lines_of text) 1 begun ≡ o → closing o ≡ accepted ds → AcceptedText charset text ds
lines_accepted charset text (rejected refusal line column) h p e = absurd (let z : ◌≡◌ {A = ℕ} 0 1 = cc in omega arith)
lines_accepted charset text (accepted s) {ds} h p e =
    go s.blocks refl s.starts (run_keeps (step charset) Alike (step_alike charset) (lines_of text) 1 begun p refl) e
  where
    go : (bs : List OpenBlock) → s.blocks ≡ bs → (starts : List ℕ) → length s.blocks ≡ length starts → closed_by starts s.definitions ≡ accepted ds
        → AcceptedText charset text ds
    go bs q (line ∷ starts) a e = absurd (let z : ◌≡◌ {A = ℕ} 0 1 = cc in omega arith)
    go [] q [] a e = record { short = h; left = s; lines = p; none = q; all = cc }
    go (b ∷ bs) q [] a e = absurd (let z : suc (length bs) ≡ 0 = rw q at a in omega arith)

pub text_accepted : (charset : ℕ) (text : List ℕ) {ds : List Definition} → compiled charset text ≡ accepted ds → AcceptedText charset text ds
unfolding compiled run_text
text_accepted charset text {ds} e = go (ltb text_limit (length text)) refl e
  where
    go : (b : Bool) → ltb text_limit (length text) ≡ b
        → closing (pick b (rejected TextTooLong 0 0) (run_lines (step charset) (lines_of text) 1 begun)) ≡ accepted ds → AcceptedText charset text ds
    go true p e = absurd (let z : ◌≡◌ {A = ℕ} 0 1 = cc in omega arith)
    go false p e = lines_accepted charset text (run_lines (step charset) (lines_of text) 1 begun) (ltb-false text_limit (length text) p) refl e

-- an accepted text takes all its definitions
pub whole_took : (charset : ℕ) (text : List ℕ) {ds : List Definition} → compiled charset text ≡ accepted ds → Took [] ds ds
whole_took charset text e =
    let a = text_accepted charset text e in
    let r = rw a.all at (run_took charset (lines_of text) 1 begun a.lines) in
    rw (← r.after) at r

-- bytes after a text that is empty or ends in LF take what takes effect at their lines, after the text's definitions
pub grown_took : (charset : ℕ) (text more : List ℕ) {ds gs : List Definition} → is_ended text ≡ true → compiled charset text ≡ accepted ds
    → compiled charset (text ++ more) ≡ accepted gs
    → Took ds gs (effects charset ds (lines_of more))
grown_took charset text more {ds} {gs} ended p q =
    let a = text_accepted charset text p in
    let b = text_accepted charset (text ++ more) q in
    let run = sym (run_append (step charset) (lines_of text) (lines_of more) 1 begun a.lines) ∙ (rw (lines_append text more ended) at b.lines) in
    rw (a.all, a.none, b.all) at (run_took charset (lines_of more) (1 + length (lines_of text)) a.left run)

-- ---- the compile call

-- what is known of a text that the call answers with a count, for a slice of so many words
pub record AnsweredText (charset : ℕ) (text : List ℕ) (words count : ℕ) : Type 0 where
  pub known : is_charset charset ≡ true
  pub enough : table_words ≤ words
  pub short : length text ≤ text_limit
  pub definitions : List Definition
  pub compiles : compiled charset text ≡ accepted definitions
  pub counts : length definitions ≡ count

pub text_answered : (charset : ℕ) (text : List ℕ) (words : ℕ) {count : ℕ} → compile_reply charset text words ≡ answered count
    → AnsweredText charset text words count
unfolding compile_reply
text_answered charset text words {count} e = go (is_charset charset) (ltb words table_words) refl refl e
  where
    on_outcome : (o : Outcome (List Definition)) → compiled charset text ≡ o → is_charset charset ≡ true → table_words ≤ words
        → compiled_count o ≡ answered count → AnsweredText charset text words count
    on_outcome (accepted ds) p k h e =
        record { known = k; enough = h; short = (text_accepted charset text p).short; definitions = ds; compiles = p; counts = cc }
    on_outcome (rejected refusal line column) p k h e = absurd (let z : ◌≡◌ {A = ℕ} 0 1 = cc in omega arith)

    go : (known few : Bool) → is_charset charset ≡ known → ltb words table_words ≡ few
        → pick known (pick few (refused 2 0) (compiled_count (compiled charset text))) (refused 21 0) ≡ answered count
        → AnsweredText charset text words count
    go true true k p e = absurd (let z : ◌≡◌ {A = ℕ} 0 1 = cc in omega arith)
    go true false k p e = on_outcome (compiled charset text) refl k (ltb-false words table_words p) e
    go false few k p e = absurd (let z : ◌≡◌ {A = ℕ} 0 1 = cc in omega arith)

-- the slice holds the image of the text's definitions, and beyond it what it held
pub accepted_words : (charset : ℕ) (text ws : List ℕ) {ds : List Definition} → is_charset charset ≡ true → table_words ≤ length ws
    → compiled charset text ≡ accepted ds
    → compile_words charset text ws ≡ image_of charset ds ++ drop table_words ws
unfolding compile_words
accepted_words charset text ws known enough e =
    rw (known, le-ltb (length ws) table_words enough, le-ltb text_limit (length text) (text_accepted charset text e).short, e)

-- ---- columns

step_long : (charset : ℕ) (s : SoFar) (line : List ℕ) → line_limit < length line → step charset s line ≡ stop LineTooLong (length line - line_limit)
unfolding step line_effect read_line opening_of
step_long charset s line h = rw (lt-ltb line_limit (length line) h)

-- no column lies beyond the first byte that a line has too many
pub text_column : (charset : ℕ) (text : List ℕ) (words : ℕ) → compile_column charset text words ≤ line_limit + 1
unfolding compile_column compiled
text_column charset text words =
    let Few : ℕ → Type 0 = λ column. column ≤ line_limit + 1 in
    let read : Few (outcome_column (compiled charset text)) =
    closed (run_text (step charset) begun text) (run_column (step charset) (step_long charset) begun text) in
    either Few (is_charset charset) (either Few (ltb words table_words) (omega arith) read) (omega arith)
  where
    ended : (starts : List ℕ) (ds : List Definition) → outcome_column (closed_by starts ds) ≤ line_limit + 1
    ended [] ds = omega arith
    ended (line ∷ starts) ds = omega arith

    closed : (o : Outcome SoFar) → outcome_column o ≤ line_limit + 1 → outcome_column (closing o) ≤ line_limit + 1
    closed (accepted s) h = ended s.starts s.definitions
    closed (rejected refusal line column) h = h
