use Rattle.std.proofs.Common.{ℕ, ◌≡◌}
use Rattle.definitions.specs.Definitions.{table}
use Rattle.rules.specs.Internal.{lookup_by}
use Rattle.lookup.proofs.Buffers.{filled_to}
use Rattle.by_order.proofs.fill_kept.Given as goal

-- Each buffer is filled up to i, by the same rules.
abbrev pub invariant-loop-i : goal.invariant-loop-i
invariant-loop-i g l =
    let by = l.initial.memory.by in
    record {
      same : l.memory.by ≡ by;
      cells : l.cells ≡ filled_to
          (λ (x : ℕ). (lookup_by by.charset (table (g.T.Finder.definitions by.finder)) by.last x).cell) l.characters l.i l.initial.cells;
      rules : l.rules ≡ filled_to
          (λ (x : ℕ). (lookup_by by.charset (table (g.T.Finder.definitions by.finder)) by.last x).rule) l.characters l.i l.initial.rules;
    }
