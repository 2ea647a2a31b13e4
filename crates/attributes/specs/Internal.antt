-- What the code knows beyond the rules: a dot that is read is one of eight, and how it says what a text gives.
use Rattle.std.specs.Prelude.{◌<◌, Result, Ok, Err}
use Rattle.lines.specs.Texts.{Outcome, accepted, rejected}
use Rattle.lines.specs.declared.Rejection.{Rejection}
use Rattle.attributes.specs.declared.DotLine.{DotLine}

abbrev pub DotWithin : DotLine → Type 0
DotWithin d = d.dot < 8

-- what the code answers of a text, as what the text gives
abbrev pub text_gives : {S : Type 0} → Result S Rejection → Outcome S
text_gives (Ok s) = accepted s
text_gives (Err e) = rejected e.refusal e.line e.column
