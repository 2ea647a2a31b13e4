use Rattle.std.proofs.Common.{◌≡◌, drop}
use Rattle.scalars.specs.Characters.{byte_by}
use Rattle.scalars.proofs.byte_by.Given as goal

-- what the rows from here on say is what all say
abbrev pub invariant-loop-byte : goal.invariant-loop-byte
invariant-loop-byte l = byte_by (drop l.byte-index l.rows) l.c ≡ byte_by l.rows l.c
