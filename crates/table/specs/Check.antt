-- A lent slice is a compiled table exactly if pairs from the front are sound definitions, the rest up to 2,048 words
-- are zero, and behind them stand a local character set and a zero.
use Rattle.std.specs.Prelude.{ℕ, ◌+◌, Bool, not, ◌&&◌, List, [], ◌∷◌, ◌++◌, length, get_or, take, eqb, ltb}
use Rattle.basics.specs.Choice.{pick}
use Rattle.basics.specs.Refusals.{Reply, answered, refused}
use Rattle.scalars.specs.Characters.{is_braille, is_operand, is_charset}
use Rattle.definitions.specs.declared.Definition.{Definition}
use Rattle.definitions.specs.Effects.{definition_limit, is_defined, closes_loop}
use Rattle.pairs.specs.Words.{pair_words, table_words, is_sound_word, definition_of, definitions, charset_of}
use Rattle.std.specs.Prelude.{Result, Ok, Err}

abbrev pub is_zero_pair : ℕ → ℕ → Bool
is_zero_pair c w = eqb c 0 && eqb w 0

-- a character that may have a definition: what an operand can stand for, but none of the braille row
abbrev pub is_definable : ℕ → Bool
is_definable c = is_operand c && not (is_braille c)

-- a sound pair by itself: a character that may have a definition, a good kind and number
abbrev pub is_sound_pair : ℕ → ℕ → Bool
is_sound_pair c w = is_definable c && is_sound_word w

-- and after the definitions before it: no character that an earlier pair has, no alias that closes a loop
abbrev pub is_fresh : List Definition → Definition → Bool
is_fresh ds d = not (is_defined ds d.character) && not (closes_loop ds d)

-- behind a zero pair, the pairs from the k-th on: one that isn't zero is at fault
unfoldable pub zero_from : ℕ → ℕ → List ℕ → Result ℕ ℕ
zero_from n k [] = Ok n
zero_from n k (c ∷ []) = Ok n
zero_from n k (c ∷ w ∷ ws) =
    let rest : Result ℕ ℕ = zero_from n (k + 1) ws in
    pick (is_zero_pair c w) rest (Err k)

-- the pairs behind so many definitions
unfoldable pub check_from : List Definition → List ℕ → Result ℕ ℕ
check_from ds [] = Ok (length ds)
check_from ds (c ∷ []) = Ok (length ds)
check_from ds (c ∷ w ∷ ws) =
    let zeros : Result ℕ ℕ = zero_from (length ds) (length ds + 1) ws in
    let rest : Result ℕ ℕ = check_from (ds ++ definition_of c w ∷ []) ws in
    pick (is_zero_pair c w) zeros
    (pick (is_sound_pair c w && is_fresh ds (definition_of c w)) rest
    (Err (length ds)))

-- the two words behind the pairs: a set that there is, then zero
abbrev pub is_sound_end : ℕ → ℕ → Bool
is_sound_end charset last = is_charset charset && eqb last 0

-- they are at fault as a pair behind all others
abbrev pub and_end : Bool → Result ℕ ℕ → Result ℕ ℕ
and_end sound (Ok n) = pick sound (Ok n) (Err definition_limit)
and_end sound (Err pair) = Err pair

unfoldable pub check_of : List ℕ → Result ℕ ℕ
check_of ws = and_end (is_sound_end (charset_of ws) (get_or ws (pair_words + 1) 0)) (check_from [] (take pair_words ws))

abbrev pub checked_table : List ℕ → Result ℕ ℕ → Reply (List Definition)
checked_table ws (Ok n) = answered (definitions n ws)
checked_table ws (Err pair) = refused 15 pair

-- the definitions of the table that a lent slice is: 2 for a slice under 2,050 words, else 15 at the first pair at
-- fault
unfoldable pub lent_table : List ℕ → Reply (List Definition)
lent_table ws =
    let checked : Reply (List Definition) = checked_table ws (check_of ws) in
    pick (ltb (length ws) table_words) (refused 2 0) checked
