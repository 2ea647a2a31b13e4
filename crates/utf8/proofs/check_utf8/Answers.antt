use Rattle.std.proofs.Common.{rules, refl}
use Rattle.utf8.proofs.Utf8.{byte_on, resumed, start_on}
use Rattle.utf8.proofs.check_utf8.Goals as goal

pub loop-i-init : goal.loop-i-init
loop-i-init c = (search rules, resumed _ _ _ _ c.after_ascii-i.ensures refl, tt)

pub loop-i-preserved : goal.loop-i-preserved
loop-i-preserved c = (search rules, search (resumed, byte_on), search (start_on, rules))
