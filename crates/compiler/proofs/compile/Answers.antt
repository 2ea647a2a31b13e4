use Rattle.std.proofs.Common.{arith, Err}
use Rattle.table.proofs.Written.{empty_written}
use Rattle.compiler.proofs.Call.{Ensured, no_set, too_few, too_long, all_read}
use Rattle.compiler.proofs.compile.Goals as goal

pub returns-then-not-is_charset : goal.returns-then-not-is_charset
returns-then-not-is_charset c =
    let e : Ensured c.args.charset c.args.text.now c.args.words.now (Err c.into.result) c.args.words.now =
    rw c.into.ensures (no_set _ _ _ c.if-not-is_charset.ensures) in
    record { answer = e.answer; column = e.column; words = e.words }

pub returns-then-words-lt-TABLE_WORDS : goal.returns-then-words-lt-TABLE_WORDS
returns-then-words-lt-TABLE_WORDS c =
    let e : Ensured c.args.charset c.args.text.now c.args.words.now (Err c.into-then-words-lt-TABLE_WORDS.result) c.args.words.now =
    rw c.into-then-words-lt-TABLE_WORDS.ensures (too_few _ _ _ c.if-not-is_charset.ensures (omega arith)) in
    record { answer = e.answer; column = e.column; words = e.words }

pub returns-then-text-gt-TEXT_LIMIT : goal.returns-then-text-gt-TEXT_LIMIT
returns-then-text-gt-TEXT_LIMIT c =
    let e : Ensured c.args.charset c.args.text.now c.args.words.now (Err c.into-then-text-gt-TEXT_LIMIT.result) c.args.words.now =
    rw c.into-then-text-gt-TEXT_LIMIT.ensures (too_long _ _ _ c.if-not-is_charset.ensures (omega arith) (omega arith)) in
    record { answer = e.answer; column = e.column; words = e.words }

pub read_lines-requires-clause-empty : goal.read_lines-requires-clause-empty
read_lines-requires-clause-empty c = search empty_written

pub returns : goal.returns
returns c =
    let e : Ensured c.args.charset c.args.text.now c.args.words.now c.read_lines.result c.read_lines.new.words =
    all_read _ _ _ c.if-not-is_charset.ensures (omega arith) _ c.make_empty.ensures (omega arith) c.read_lines.ensures in
    record { answer = e.answer; column = e.column; words = e.words }
