use Rattle.std.proofs.Common.{refl}
use Rattle.attributes.specs.Reader.{attribute_of}
use Rattle.attributes.proofs.Reader.{row_none, row_found, row_other}
use Rattle.attributes.proofs.attribute_of.Goals as goal

pub loop-text-init : goal.loop-text-init
unfolding attribute_of
loop-text-init c = refl

pub returns-then-same_bytes : goal.returns-then-same_bytes
returns-then-same_bytes c = search row_found

pub loop-text-preserved : goal.loop-text-preserved
loop-text-preserved c = search row_other

pub returns : goal.returns
returns c = search row_none
