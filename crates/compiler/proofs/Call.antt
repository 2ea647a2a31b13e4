-- The compile call: the loop over the lines of a text, with the words that they fill and the blocks that they open, and what the call answers and writes.
use Prim.Native.Nat.{ℕ, ◌+◌, ◌≤◌, ◌<◌}
use mathlib.Core.Path.{◌≡◌, refl, sym, ap, ◌∙◌}
use mathlib.Core.Bool.{true, false}
use mathlib.Core.List.{List, [], ◌∷◌, ◌++◌}
use native.Mathlib.Omega.{arith}
use lib.ListN.{length, drop, replicate}
use borrow.Author.Tests.{lt-ltb, le-ltb}
use Rattle.std.specs.Prelude.{Option, None, Some, Result, Ok, Err}
use Rattle.basics.specs.declared.Refusal.TheVariants.{ShortSlice, TextTooLong, UnclosedBlock, UnknownCharset}
use Rattle.scalars.specs.Characters.{is_charset}
use Rattle.lines.specs.Lines.{lines_of, without_cr}
use Rattle.lines.specs.Texts.{text_limit, Step, accepted, run_lines, run_text, compiled_reply, compiled_column, rejection_of}
use Rattle.lines.specs.declared.LineFault.{LineFault}
use Rattle.lines.specs.declared.Rejection.{Rejection}
use Rattle.lines.proofs.Texts.{lines_read, line_refused, line_read, lines_few}
use Rattle.blocks.specs.Internal.{stack, starts_of, first_of}
use Rattle.pairs.specs.Words.{pair_words, table_words, charset_of, definitions}
use Rattle.table.specs.Internal.{Written}
use Rattle.table.proofs.Written.{empty_charset, empty_beyond, same_charset, same_beyond, written_length}
use Rattle.compiler.specs.Compile.{SoFar, begun, step, closing, compiled, compile_reply, compile_column, compile_words}
use Rattle.compiler.specs.Internal.{standing, first_state, Leaves, Settled}
use Rattle.compiler.specs.declared.State.{State}
use Rattle.compiler.proofs.Effects.{step_counts}

-- ---- the lines

-- where the loop has come to: what the text gives is what the lines ls that are left give, after the words and the state of those before. It began with empty
pub record Come (text empty ws : List ℕ) (s : State) (ls : List (List ℕ)) : Type 0 where
  pub gives : run_text (step (charset_of empty)) begun text ≡ run_lines (step (charset_of empty)) ls (s.lines + 1) (standing ws s)
  pub few : s.lines + length ls ≤ text_limit
  pub written : Written ws s.count
  pub beyond : drop pair_words ws ≡ drop pair_words empty
  pub same : length ws ≡ length empty

pub come_first : (text empty : List ℕ) (s : State) (ls : List (List ℕ)) → ls ≡ lines_of text → Written empty 0 → length text ≤ text_limit → s ≡ first_state
    → Come text empty empty s ls
unfolding definitions run_text stack
come_first text empty s ls all w short q =
    rw (q, all) (record { gives = rw (le-ltb _ _ short); few = omega (arith, lines_few text); written = w; beyond = refl; same = refl })

module _ (text empty ws : List ℕ) (s : State) (ls : List (List ℕ)) (here : Come text empty ws s ls) where
  abbrev steps : SoFar → List ℕ → Step SoFar
  steps = step (charset_of empty)

  -- the set that the words are for stays, and so does what lies beyond the table
  set_stays : charset_of ws ≡ charset_of empty
  set_stays = same_charset ws empty here.beyond

  beyond_stays : drop table_words ws ≡ drop table_words empty
  beyond_stays = same_beyond ws empty here.beyond

  pub come_end : {r : Result ℕ Rejection} {last : List ℕ} → ls ≡ [] → Settled (closing (accepted (standing ws s))) ws r last
      → Settled (compiled (charset_of empty) text) empty r last
  unfolding compiled
  come_end h t =
      let gives = lines_read steps (run_text steps begun text) ls (s.lines + 1) (standing ws s) here.gives h in
      record { answer = t.answer ∙ rw gives; column = t.column ∙ rw gives; words = t.words ∙ rw (gives, set_stays, beyond_stays) }

  -- the next line leaves new
  module _ (line : List ℕ) (more : List (List ℕ)) (next : ls ≡ line ∷ more) (new : List ℕ) where
    pub come_on : (t : State) → Leaves ws s (without_cr line) (Ok tt) t new → length new ≡ length ws → Come text empty new t more
    come_on t left same =
        let does = rw set_stays at left.does in
        let counts = step_counts (charset_of empty) (standing ws s) (without_cr line) (sym does) in
        record {
          gives = rw (← counts) at
              (line_read steps (run_text steps begun text) ls (s.lines + 1) (standing ws s) here.gives line more next (Ok (standing new t)) does
              (standing new t) refl);
          few = omega (arith, ap length next, counts, here.few);
          written = left.written;
          beyond = left.beyond ∙ here.beyond;
          same = same ∙ here.same;
        }

    -- the words are zeroed
    pub come_refused : (fault : LineFault) → {t : State} → Leaves ws s (without_cr line) (Err fault) t new → t ≡ s
        → {rejection : Rejection} {last : List ℕ} → rejection ≡ rejection_of fault line (t.lines + 1)
        → last ≡ replicate table_words 0 ++ drop table_words new → Settled (compiled (charset_of empty) text) empty (Err rejection) last
    unfolding compiled
    come_refused fault left same c z =
        let does = rw set_stays at left.does in
        let gives = line_refused steps (run_text steps begun text) ls (s.lines + 1) (standing ws s) here.gives line more next (Err fault) does fault refl in
        rw (c, same) (record { answer = rw gives; column = rw gives; words = z ∙ rw (gives, same_beyond new ws left.beyond, beyond_stays) })

-- ---- the end of the text

-- o is what a call answered of the line that opened the innermost block
module _ (ws : List ℕ) (s : State) (o : Option ℕ) (first : o ≡ first_of (starts_of s.blocks)) where
  pub end_closed : Written ws s.count → o ≡ None → Settled (closing (accepted (standing ws s))) ws (Ok s.count) ws
  end_closed w e = go (starts_of s.blocks) refl (sym first ∙ e)
    where
      go : (starts : List ℕ) → starts_of s.blocks ≡ starts → first_of starts ≡ None → Settled (closing (accepted (standing ws s))) ws (Ok s.count) ws
      go [] q h = record { answer = rw (q, written_length ws s.count w); column = rw q; words = rw q w.image }
      go (line ∷ outer) q h = absurd (let z : ◌≡◌ {A = ℕ} 0 1 = cc in omega arith)

  -- the words are zeroed
  pub end_open : (place : ℕ) {last : List ℕ} → o ≡ Some place → last ≡ replicate table_words 0 ++ drop table_words ws
      → Settled (closing (accepted (standing ws s))) ws (Err (record { refusal = UnclosedBlock; line = place; column = 0 })) last
  end_open place {last} e z = go (starts_of s.blocks) refl (sym first ∙ e)
    where
      go : (starts : List ℕ) → starts_of s.blocks ≡ starts → first_of starts ≡ Some place
          → Settled (closing (accepted (standing ws s))) ws (Err (record { refusal = UnclosedBlock; line = place; column = 0 })) last
      go [] q h = absurd (let z : ◌≡◌ {A = ℕ} 0 1 = cc in omega arith)
      go (opened ∷ outer) q h = let same : opened ≡ place = cc in record { answer = rw (q, same); column = rw q; words = z ∙ rw q }

-- ---- the call

-- what the call is to ensure: its answer, the column, and the words that it leaves
pub record Ensured (charset : ℕ) (text entry : List ℕ) (r : Result ℕ Rejection) (ws : List ℕ) : Type 0 where
  pub answer : compiled_reply r ≡ compile_reply charset text (length entry)
  pub column : compiled_column r ≡ compile_column charset text (length entry)
  pub words : ws ≡ compile_words charset text entry

module _ (charset : ℕ) (text entry : List ℕ) where
  pub no_set : false ≡ is_charset charset → Ensured charset text entry (Err (record { refusal = UnknownCharset; line = 0; column = 0 })) entry
  unfolding compile_reply compile_column compile_words
  no_set unknown = record { answer = rw (← unknown); column = rw (← unknown); words = rw (← unknown) }

  module _ (known : true ≡ is_charset charset) where
    pub too_few : length entry < table_words → Ensured charset text entry (Err (record { refusal = ShortSlice; line = 0; column = 0 })) entry
    unfolding compile_reply compile_column compile_words
    too_few h = record { answer = rw (← known, lt-ltb _ _ h); column = rw (← known, lt-ltb _ _ h); words = rw (← known, lt-ltb _ _ h) }

    module _ (enough : table_words ≤ length entry) where
      pub too_long : text_limit < length text → Ensured charset text entry (Err (record { refusal = TextTooLong; line = 0; column = 0 })) entry
      unfolding compile_reply compile_column compile_words compiled run_text
      too_long h = record {
        answer = rw (← known, le-ltb _ _ enough, lt-ltb _ _ h);
        column = rw (← known, le-ltb _ _ enough, lt-ltb _ _ h);
        words = rw (← known, le-ltb _ _ enough, lt-ltb _ _ h);
      }

      -- the lines are read into empty words for the set
      pub all_read : (empty : List ℕ) → empty ≡ replicate pair_words 0 ++ charset ∷ 0 ∷ drop table_words entry → length text ≤ text_limit
          → {r : Result ℕ Rejection} {ws : List ℕ} → Settled (compiled (charset_of empty) text) empty r ws → Ensured charset text entry r ws
      unfolding compile_reply compile_column compile_words
      all_read empty q short read =
          let set = empty_charset (drop table_words entry) empty charset q in
          record {
            answer = read.answer ∙ rw (set, ← known, le-ltb _ _ enough);
            column = read.column ∙ rw (set, ← known, le-ltb _ _ enough);
            words = read.words ∙ rw (set, empty_beyond (drop table_words entry) empty charset q, ← known, le-ltb _ _ enough, le-ltb _ _ short);
          }
