use Rattle.characters.specs.Internal.{radix}
use Rattle.characters.proofs.Digits.{digits_on, digits_over, digits_end}
use Rattle.characters.proofs.digits_of.Goals as goal

pub returns-in_err-n : goal.returns-in_err-n
returns-in_err-n c =
    rw c.from_residual.ensures
    (digits_over (radix c.args.base) c.args.digits.now c.loop-b.b-index c.loop-b.n c.loop-b.invariant.whole c.loop-b-test.true c.in_err-n.ensures.value)

pub loop-b-preserved : goal.loop-b-preserved
loop-b-preserved c =
    record {
      number = c.in_ok-n.ensures.number;
      whole = digits_on (radix c.args.base) c.args.digits.now c.loop-b.b-index c.loop-b.n c.loop-b.invariant.whole c.in_ok-n.n
          c.loop-b-test.true c.in_ok-n.ensures.value;
    }

pub returns : goal.returns
returns c = digits_end (radix c.args.base) c.args.digits.now c.loop-b.b-index c.loop-b.n c.loop-b.invariant.whole c.loop-b-test.false
