use Rattle.std.proofs.Common.{◌≡◌, ℕ, ◌<◌, length, get_or}
use Rattle.writing.proofs.Numerals.{nth_digit}
use Rattle.writing.proofs.hex_digits.Given as goal

abbrev pub invariant-loop-i : goal.invariant-loop-i
invariant-loop-i l = (length l.digit-items ≡ 8) × ((k : ℕ) → k < l.i → get_or l.digit-items k 0 ≡ nth_digit l.n k)
