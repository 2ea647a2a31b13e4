use Rattle.std.proofs.Common.{◌≡◌, drop}
use Rattle.attributes.specs.Reader.{attribute_of}
use Rattle.attributes.proofs.Reader.{attribute_by}
use Rattle.attributes.proofs.attribute_of.Given as goal

-- the rows that are left say what all of them say
abbrev pub invariant-loop-text : goal.invariant-loop-text
invariant-loop-text l = attribute_by (drop l.text-index l.text-items) l.name ≡ attribute_of l.name
