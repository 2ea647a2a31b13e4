-- The three ways through the compile call, and what naming the present edition comes to.
use Prim.Native.Nat.{ℕ}
use mathlib.Core.Path.{◌≡◌, refl}
use mathlib.Core.List.{List}
use lib.ListN.{length}
use borrow.Author.Tests.{eq-eqb, ne_eqb}
use Rattle.std.specs.Prelude.{Result, Err}
use Rattle.basics.specs.declared.Refusal.TheVariants.{UnknownEdition}
use Rattle.lines.specs.Texts.{outcome_column, compiled_reply, compiled_column}
use Rattle.lines.specs.declared.Rejection.{Rejection}
use Rattle.compiler.specs.Compile.{compile_reply, compile_column, compile_words}
use Rattle.byte_tables.specs.Compile.{compiled_bytes, bytes_reply, no_cells, outcome_cells}
use Rattle.editions.specs.Editions.{edition_reply, edition_column, edition_words, edition_cells}

-- what the call is to ensure: its answer, the column, the lent words, and the cells
pub record Ensured (edition charset : ℕ) (text ws : List ℕ) (answer : Result ℕ Rejection) (left cells : List ℕ) : Type 0 where
  pub answer_is : compiled_reply answer ≡ edition_reply edition charset text (length ws)
  pub column : compiled_column answer ≡ edition_column edition charset text (length ws)
  pub words : left ≡ edition_words edition charset text ws
  pub cells_are : cells ≡ edition_cells edition charset text

module _ (edition charset : ℕ) (text ws : List ℕ) (answer : Result ℕ Rejection) {cells : List ℕ} where
  pub in_present : (found : Result ℕ Rejection) {left : List ℕ} → edition ≡ 2 → compiled_reply found ≡ compile_reply charset text (length ws)
      → compiled_column found ≡ compile_column charset text (length ws)
      → left ≡ compile_words charset text ws → answer ≡ found → cells ≡ no_cells → Ensured edition charset text ws answer left cells
  unfolding edition_reply edition_column edition_words edition_cells
  in_present found e p c w a none =
      record {
        answer_is = rw (eq-eqb edition 2 e, a) p;
        column = rw (eq-eqb edition 2 e, a) c;
        words = rw (eq-eqb edition 2 e) w;
        cells_are = rw (eq-eqb edition 2 e) none;
      }

  pub in_first : (edition ≡ 2 → ⊥) → edition ≡ 1 → compiled_reply answer ≡ bytes_reply (compiled_bytes charset text)
      → compiled_column answer ≡ outcome_column (compiled_bytes charset text)
      → cells ≡ outcome_cells (compiled_bytes charset text) → Ensured edition charset text ws answer ws cells
  unfolding edition_reply edition_column edition_words edition_cells
  in_first n e p c all =
      record {
        answer_is = rw (ne_eqb edition 2 n, eq-eqb edition 1 e) p;
        column = rw (ne_eqb edition 2 n, eq-eqb edition 1 e) c;
        words = rw (ne_eqb edition 2 n, eq-eqb edition 1 e);
        cells_are = rw (ne_eqb edition 2 n, eq-eqb edition 1 e) all;
      }

  pub in_no_other : (edition ≡ 2 → ⊥) → (edition ≡ 1 → ⊥) → answer ≡ Err (record { refusal = UnknownEdition; line = 0; column = 0 })
      → cells ≡ no_cells → Ensured edition charset text ws answer ws cells
  unfolding edition_reply edition_column edition_words edition_cells
  in_no_other n m a none =
      record {
        answer_is = rw (ne_eqb edition 2 n, ne_eqb edition 1 m, a);
        column = rw (ne_eqb edition 2 n, ne_eqb edition 1 m, a);
        words = rw (ne_eqb edition 2 n, ne_eqb edition 1 m);
        cells_are = rw (ne_eqb edition 2 n, ne_eqb edition 1 m) none;
      }

-- a caller that names the present edition has the compile call of text tables, in answer, column and words
module _ (charset : ℕ) (text ws : List ℕ) where
  pub present_reply : edition_reply 2 charset text (length ws) ≡ compile_reply charset text (length ws)
  unfolding edition_reply
  present_reply = refl

  pub present_column : edition_column 2 charset text (length ws) ≡ compile_column charset text (length ws)
  unfolding edition_column
  present_column = refl

  pub present_words : edition_words 2 charset text ws ≡ compile_words charset text ws
  unfolding edition_words
  present_words = refl
