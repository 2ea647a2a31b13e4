use Rattle.std.proofs.Common.{◌≡◌, length}
use Rattle.lookup.proofs.Buffers.{filled_to}
use Rattle.codes.specs.Codes.{cell_count, entry_code}
use Rattle.codes.proofs.put_entries.Given as goal

-- what the first i cells type is written, and the buffer keeps its length
abbrev pub invariant-loop-i : goal.invariant-loop-i
invariant-loop-i l = (length l.typed-items ≡ cell_count) × (length l.codes ≡ length l.initial.codes)
    × (l.codes ≡ filled_to entry_code l.typed-items l.i l.initial.codes)
