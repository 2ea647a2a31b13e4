use Prim.Native.Nat.{◌-◌, ◌≤◌}
use mathlib.Core.Path.{◌≡◌}
use lib.ListN.{length, drop}
use Rattle.utf8.specs.Utf8.{utf8, utf8_from}
use Rattle.utf8.proofs.Utf8.{StartWithin}
use Rattle.utf8.proofs.check_utf8.Given as goal

-- from i on, with what was read before it, the line is as the whole; and what is bad began before i
abbrev pub invariant-loop-i : goal.invariant-loop-i
invariant-loop-i l = (l.i ≤ length l.line) × (utf8_from (drop l.i l.line) l.i l.p ≡ utf8 l.line) × StartWithin l.p l.i

abbrev pub decreases-loop-i : goal.decreases-loop-i
decreases-loop-i l = length l.line - l.i
