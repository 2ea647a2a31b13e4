-- How every definition chooses: by a test, or by whether there is a value.
use Rattle.std.specs.Prelude.{Bool, true, false, Option, None, Some, Result, Ok, Err}

-- the first where the test holds, else the second
abbrev pub pick {ℓ} : {A : Type ℓ} → Bool → A → A → A
pick true a b = a
pick false a b = b

-- what follows from a value, and what from the lack of one
abbrev pub if_some {ℓ} : {A : Type 0} {B : Type ℓ} → Option A → B → (A → B) → B
if_some None none some = none
if_some (Some a) none some = some a

-- what follows from a value; a fault stands
abbrev pub if_ok : {A B E : Type 0} → Result A E → (A → Result B E) → Result B E
if_ok (Ok a) more = more a
if_ok (Err e) more = Err e
