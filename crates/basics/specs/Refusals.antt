-- The refusals by number, and what any call answers in the numbers of the papers.
use Rattle.std.specs.Prelude.{ℕ, Result, Ok, Err}
use Rattle.basics.specs.declared.Refusal.{Refusal}
use Rattle.basics.specs.declared.Refusal.TheVariants as R
use Rattle.basics.specs.declared.Refused.{Refused}

-- document 01's table "Numbers of refusal", and behind it those of document 02
abbrev pub number_of : Refusal → ℕ
number_of R.TextTooLong = 1
number_of R.ShortSlice = 2
number_of R.LineTooLong = 3
number_of R.NotUtf8 = 4
number_of R.UnknownDirective = 5
number_of R.MissingOperand = 6
number_of R.BadCharacter = 7
number_of R.BadDots = 8
number_of R.TrailingText = 9
number_of R.TooManyConditions = 10
number_of R.AlreadyDefined = 11
number_of R.AliasLoop = 12
number_of R.TableFull = 13
number_of R.NotScalar = 14
number_of R.NotTable = 15
number_of R.BadState = 16
number_of R.StrayBlockWord = 17
number_of R.UnclosedBlock = 18
number_of R.BeyondPage = 19
number_of R.UnknownEdition = 20
number_of R.UnknownCharset = 21
number_of R.BrailleRow = 22
number_of R.WrongOrder = 23

-- what a call answers: its value, or the number and the place of its refusal
pub data Reply (A : Type 0) : Type 0 where
  answered : A → Reply A
  refused : ℕ → ℕ → Reply A

-- the number and place of each refusal of a call, and its value
abbrev pub reply_of : {A : Type 0} → Result A Refused → Reply A
reply_of (Ok a) = answered a
reply_of (Err e) = refused (number_of e.refusal) e.place

-- a call that goes on with the value of an earlier answer; a refusal stands
abbrev pub and_then : {A B : Type 0} → Reply A → (A → Reply B) → Reply B
and_then (answered a) more = more a
and_then (refused number place) more = refused number place
