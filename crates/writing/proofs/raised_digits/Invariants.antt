use Rattle.std.proofs.Common.{◌≡◌, ◌+◌, ◌-◌, ◌≤◌, ◌++◌, length, take}
use Rattle.writing.specs.Writing.{raised_from}
use Rattle.writing.proofs.raised_digits.Given as goal

-- the digits of the raised dots before this one stand at the front
abbrev pub invariant-loop-digit : goal.invariant-loop-digit
invariant-loop-digit l = (l.digit ≤ 57) × (l.count + 49 ≤ l.digit) × (length l.bytes ≡ 8)
    × (take l.count l.bytes ++ raised_from (57 - l.digit) l.digit l.left ≡ raised_from 8 49 l.cell)
