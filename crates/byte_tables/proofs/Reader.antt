-- The first word of a line: what the calls answered, put into the definition.
use Rattle.std.proofs.Common.{◌≡◌, ℕ, ◌-◌, List, Result, Ok, length}
use Rattle.basics.specs.Ascii.{ascii}
use Rattle.basics.proofs.Tests.{chosen, on_value, on_result}
use Rattle.basics.specs.Choice.{pick, if_ok}
use Rattle.lines.specs.Words.{word_at, bytes_of, same_bytes}
use Rattle.lines.specs.declared.LineFault.{LineFault}
use Rattle.lines.specs.declared.Word.{Word}
use Rattle.attributes.specs.Reader.{dot_at}
use Rattle.attributes.specs.declared.States.TheVariants.{WithFixed}
use Rattle.byte_tables.specs.Reader.{byte_line, table_line}
use Rattle.byte_tables.specs.declared.TableLine.{TableLine}
use Rattle.byte_tables.specs.declared.TableLine.TheVariants.{Dot}

pub first_word : (charset : ℕ) (line : List ℕ) (w : Word) (r : Result TableLine LineFault) → w ≡ word_at line 0
    → r ≡ pick (same_bytes (bytes_of line w) (ascii "dot")) (if_ok (dot_at WithFixed line w.end (length line - w.start)) (λ d. Ok (Dot d)))
    (pick (same_bytes (bytes_of line w) (ascii "byte")) (byte_line charset line w.end (length line - w.start))
    (byte_line charset line w.start (length line - w.start)))
    → r ≡ table_line charset line
unfolding table_line
first_word charset line w r e h = rw (← e) h

-- each way through what calls answered
pub ruleset ways = (on_result, on_value)

pub ruleset on_word = (first_word, chosen, on_result)
