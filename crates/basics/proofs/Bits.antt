-- The bits that numbers have between them.
use Prim.Native.Nat.{ℕ, ◌+◌, ◌≤◌, ◌<◌}
use mathlib.Core.Path.{◌≡◌, refl}
use mathlib.Core.List.{List, [], ◌∷◌}
use native.Mathlib.Omega.{arith}
use lib.Bits.{bit_or, or_add_and, and_le_l, and_le_r}
use Rattle.basics.specs.Internal.{bits_with}
use Rattle.std.specs.List.{fold}

-- bits are only added, so a number is never more than one that has its bits
pub or_more : (a b : ℕ) → (a ≤ bit_or a b) × (b ≤ bit_or a b)
or_more a b = (omega (arith, or_add_and a b, and_le_r a b), omega (arith, or_add_and a b, and_le_l a b))

pub bits_more : (ns : List ℕ) (bits : ℕ) → bits ≤ bits_with ns bits
unfolding bits_with
bits_more [] bits = omega arith
bits_more (n ∷ ns) bits = omega (arith, bits_more ns (bit_or bits n), (or_more bits n).0)

-- the bits of numbers, as a fold
pub bits_fold : (ns : List ℕ) (bits : ℕ) → fold bit_or bits ns ≡ bits_with ns bits
unfolding bits_with
bits_fold [] bits = refl
bits_fold (n ∷ ns) bits = bits_fold ns (bit_or bits n)
