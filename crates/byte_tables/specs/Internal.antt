-- What the code knows beyond the rules: a dot that is read is one of eight, and how it says what a line leaves.
use Rattle.std.specs.Prelude.{Result, Ok, Err}
use Rattle.lines.specs.declared.LineFault.{LineFault}
use Rattle.attributes.specs.Internal.{DotWithin}
use Rattle.byte_tables.specs.declared.SoFar.{SoFar}
use Rattle.byte_tables.specs.declared.TableLine.{TableLine}
use Rattle.byte_tables.specs.declared.TableLine.TheVariants.{Skip, Dot, Byte}

abbrev pub LineWithin : TableLine → Type 0
LineWithin Skip = Unit {0}
LineWithin (Dot d) = DotWithin d
LineWithin (Byte byte cell left) = Unit {0}

-- the state after a line, by what a call that takes the line answers and leaves; a fault stands
abbrev pub left_by : Result Unit LineFault → SoFar → Result SoFar LineFault
left_by (Ok u) s = Ok s
left_by (Err fault) s = Err fault
