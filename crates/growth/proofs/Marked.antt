-- The cases that document 01 marks with *: one claim over their table, closed by computation, from the bytes of a text to the answers.
use Rattle.std.proofs.Common.{◌≡◌, true, refl}
use Rattle.attributes.specs.Cells.{cell_from}
use Rattle.attributes.specs.Compile.{read_dot_line, dot_step, compiled_attributes}
use Rattle.attributes.specs.Reader.{attribute_of, state_of, dot_number, state_at, dot_at, dot_line}
use Rattle.blocks.specs.Blocks.{around_of}
use Rattle.compiler.specs.Compile.{line_effect, step, compiled, compile_reply, compile_words}
use Rattle.reader.specs.Reader.{condition_of, directive_of, finished, dots_line, alias_line, front_of, if_holds, read_from, read_first, read_line}
use Rattle.definitions.specs.Definitions.{find, found_in, explicit, alias_of, walk_within, walk}
use Rattle.definitions.specs.Effects.{verdict_of}
use Rattle.growth.specs.Marked.{marked, words_for, comes_out, every_one}
use Rattle.lines.specs.Lines.{lines_of, without_cr}
use Rattle.lines.specs.Texts.{opening_of, run_lines, run_text}
use Rattle.lines.specs.Words.{is_blank, first_from, first_at, word_at, same_bytes, is_over}
use Rattle.lookup.specs.Calls.{lookup_reply}
use Rattle.rules.specs.Rules.{candidates, choose, rules_from3, lookup}
use Rattle.characters.specs.Characters.{digit_of, with_digit, digits_from, plain_of, short_of, radix_of, word_number, character_of, operand_of}
use Rattle.dots.specs.Dots.{raise_by, raise, raise_inside, ends_at, digits_at, inside_at, cell_at, dots_at}
use Rattle.operands.specs.Operands as O
use Rattle.operands.specs.Operands.{character_at, dots_operand_at}
use Rattle.table.specs.Check.{zero_from, check_from, check_of, lent_table}
use Rattle.pairs.specs.Words.{words_of, is_sound_word, meaning_of, definitions}
use Rattle.typing.specs.Typing.{filled_from}
use Rattle.scalars.specs.Characters.{is_charset, character_by, local_of, stands_for}
use Rattle.utf8.specs.Utf8.{after_first, after_further, utf8_from}

pub marked_cases : every_one marked ≡ true
unfolding cell_from read_dot_line dot_step compiled_attributes attribute_of state_of dot_number O.ended state_at dot_at dot_line around_of read_first
    read_line line_effect step compiled compile_reply compile_words condition_of directive_of finished dots_line alias_line front_of if_holds
    read_from find found_in explicit alias_of walk_within walk verdict_of words_for comes_out every_one lines_of without_cr opening_of run_lines
    run_text is_blank first_from first_at word_at same_bytes is_over lookup_reply candidates choose rules_from3 lookup digit_of with_digit digits_from
    plain_of short_of radix_of word_number character_of operand_of raise_by raise raise_inside ends_at digits_at inside_at cell_at dots_at
    O.operand_word character_at dots_operand_at zero_from check_from check_of lent_table words_of is_sound_word meaning_of definitions filled_from
    is_charset character_by local_of stands_for after_first after_further utf8_from
marked_cases = refl
