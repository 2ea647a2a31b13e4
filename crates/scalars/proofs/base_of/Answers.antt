use Rattle.std.proofs.Common.{◌≡◌, ◌-◌, refl, arith, rules, get_or}
use borrow.Author.Tests.{ne_eqb}
use Rattle.scalars.specs.declared.TheConstants.{BASES}
use Rattle.scalars.proofs.Ranges.{throughout, on_letters}
use Rattle.scalars.proofs.base_of.Goals as goal

pub returns-in-32 : goal.returns-in-32
unfolding throughout
returns-in-32 c = rw c.in-32.is at (on_letters BASES c.args.c refl (omega arith) (omega arith))

pub returns-in_default-BASES : goal.returns-in_default-BASES
unfolding throughout
returns-in_default-BASES c =
    let other : get_or BASES (c.args.c - 0xC0) 0 ≡ 32 → ⊥ = search rules in
    rw c.from.ensures (rw (ne_eqb _ 32 other) at (on_letters BASES c.args.c refl (omega arith) (omega arith)))
