use Rattle.std.proofs.Common.{◌≡◌, ◌<◌, drop}
use Rattle.characters.specs.Characters.{no_number, digits_from}
use Rattle.characters.specs.Internal.{radix}
use Rattle.characters.proofs.digits_of.Given as goal

-- the digits from here on, behind the number before them, are the whole number
abbrev pub invariant-loop-b : goal.invariant-loop-b
invariant-loop-b l =
    record { number : l.n < no_number; whole : digits_from (radix l.base) (drop l.b-index l.digits) l.n ≡ digits_from (radix l.base) l.digits 0 }
