use Rattle.std.proofs.Common.{arith}
use Rattle.ordered.proofs.Checks.{check_begins, pair_unsound, pair_loops, pair_passes, pairs_over}
use Rattle.ordered.proofs.check_pairs.Goals as goal

pub loop-k-init : goal.loop-k-init
loop-k-init c = search check_begins

pub returns-then-not-is_sound_pair : goal.returns-then-not-is_sound_pair
returns-then-not-is_sound_pair c =
    pair_unsound _ _ _ c.requires.size c.requires.few c.loop-k.invariant (omega arith) c.if-not-is_sound_pair.ensures

pub returns-then-closes_loop : goal.returns-then-closes_loop
returns-then-closes_loop c =
    pair_loops _ _ _ c.requires.size c.requires.few c.loop-k.invariant (omega arith) _ c.args.all.now.in_order.ordered
    c.if-not-is_sound_pair.ensures _ c.meaning_of-meaning.ensures c.if-closes_loop.ensures

pub loop-k-preserved : goal.loop-k-preserved
loop-k-preserved c =
    pair_passes _ _ _ c.requires.size c.requires.few c.loop-k.invariant (omega arith) _ c.args.all.now.in_order.ordered
    c.if-not-is_sound_pair.ensures _ c.meaning_of-meaning.ensures c.if-closes_loop.ensures

pub returns : goal.returns
returns c = pairs_over _ _ _ c.requires.size c.requires.few c.loop-k.invariant (omega arith) (omega arith) c.zero_from.ensures
