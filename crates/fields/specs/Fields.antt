-- The fields of a case, and the numbers that they stand for.
use Rattle.std.specs.Prelude.{ℕ, ◌+◌, ◌-◌, ◌*◌, ◌%◌, ◌==◌, nat_lt, nat_le, if◌then◌else◌}
use Rattle.std.specs.Prelude.{List, Option, length, take, drop, fold}
use Rattle.std.specs.List.{position, before_first, after_first, prefix_len, suffix_len}
use Rattle.lines.specs.Words.{is_blank}

-- without the blanks at the end, and without those at both ends
abbrev pub end_trimmed : List ℕ → List ℕ
end_trimmed field = take (length field - suffix_len is_blank field) field

abbrev pub trimmed : List ℕ → List ℕ
trimmed field =
    let front : List ℕ = end_trimmed field in
    drop (prefix_len is_blank front) front

-- where the first mark stands
abbrev pub mark_place : ℕ → List ℕ → Option ℕ
mark_place mark line = position (λ b. b == mark) line

-- the first field of a line, and what stands behind its mark: nothing where there is none
abbrev pub first_field : ℕ → List ℕ → List ℕ
first_field mark line = trimmed (before_first (λ b. b == mark) line)

abbrev pub behind_mark : ℕ → List ℕ → List ℕ
behind_mark mark line = after_first (λ b. b == mark) line

-- the value of a digit in hex; below 16 of any other byte too
abbrev pub hex_value : ℕ → ℕ
hex_value b = if nat_lt b 65 then b % 16 else (b % 16 + 9) % 16

-- a number with one digit more; one that has eight digits stays
abbrev pub with_digit : ℕ → ℕ → ℕ
with_digit n b = if nat_le 0x10000000 n then n else n * 16 + hex_value b

abbrev pub number_of : List ℕ → ℕ
number_of digits = fold with_digit 0 digits

-- a number from 2^31 on stands for the one that is as far below 2^64 as it is below 2^32
abbrev pub window_number_of : ℕ → ℕ
window_number_of n = if nat_lt n 0x80000000 then n else 0xFFFFFFFF00000000 + n
