-- The lines of a text: a text that grows, the next line by position, a loop over them, and how far columns go.
use Prim.Native.Nat.{ℕ, suc, ◌+◌, ◌-◌, ◌≤◌, ◌<◌}
use Rattle.std.specs.Prelude.{min}
use mathlib.Core.Path.{◌≡◌, refl, ◌∙◌}
use Rattle.std.proofs.lemmas.List.{take_rest, drop_min}
use mathlib.Core.Bool.{Bool, true, false}
use mathlib.Core.List.{List, [], ◌∷◌, ◌++◌}
use native.Mathlib.Nat.{add-zero}
use native.Mathlib.Numerals.{add-one}
use native.Mathlib.Omega.{arith}
use lib.Dec.{eqb, ltb}
use lib.ListN.{length, take, drop}
use borrow.Author.Tests.{ltb-true, ltb-false, lt-ltb, le-ltb}
use Rattle.basics.specs.Choice.{pick}
use Rattle.basics.proofs.Tests.{by_cases, either}
use Rattle.basics.specs.declared.Refusal.{Refusal}
use Rattle.basics.specs.declared.Refusal.TheVariants.{TextTooLong, LineTooLong}
use Rattle.lines.specs.Lines.{LF, with_byte, lines_of, without_cr, is_ended}
use Rattle.lines.specs.Texts.{text_limit, line_limit, Step, next, stop, column_of, Outcome, accepted, rejected, on_step, run_lines, run_text}
use Rattle.lines.specs.Texts.{outcome_reply, outcome_column, compiled_reply, compiled_column, rejection_of}
use Rattle.lines.specs.Internal.{to_lf, LineEnd, step_of, lines_left}
use Rattle.lines.specs.declared.LineFault.{LineFault}
use Rattle.lines.specs.declared.Rejection.{Rejection}
use Rattle.std.specs.Prelude.{Result, Ok, Err, Some}
use Rattle.std.specs.Borrow.{Bor}
use Rattle.std.specs.Iterator.{YieldsFirstRef}
use Rattle.std.specs.Iterator.Adapters.{enumerate_source, enumerate_count, enumerate_steps}
use Rattle.std.specs.declared.iter.Enumerate.{Enumerate}
use Rattle.lines.specs.declared.TextLines.{TextLines}

-- ---- the next line, by position

byte_line_lem : (b : ℕ) (d : List ℕ) → with_byte b (lines_of d) ≡ (b ∷ take (to_lf d) d) ∷ lines_of (drop (suc (to_lf d)) d)
unfolding lines_of to_lf
byte_line_lem b [] = refl
byte_line_lem b (c ∷ r) = by_cases (eqb c LF) (λ q. rw q) (λ q. rw (q, byte_line_lem c r, add-one (to_lf r)))

next_line : (d : List ℕ) → 0 < length d → lines_of d ≡ take (to_lf d) d ∷ lines_of (drop (suc (to_lf d)) d)
unfolding lines_of to_lf
next_line [] h = absurd (omega arith)
next_line (b ∷ bs) h = by_cases (eqb b LF) (λ q. rw q) (λ q. rw (q, byte_line_lem b bs, add-one (to_lf bs)))

-- a text's first line, which ends at e, and the lines behind it, from m on
pub first_line : (text : List ℕ) (e m : ℕ) → 0 < length text → LineEnd text 0 e → m ≡ min (e + 1) (length text)
    → lines_of text ≡ take e text ∷ lines_of (take (length text - m) (drop m text))
first_line text e m some ends h =
    let at : to_lf text ≡ e = omega (arith, ends.is) in
    next_line text some ∙ rw (take_rest text m, h, drop_min (e + 1) text, at, add-one e)

pub no_line : (text : List ℕ) → length text ≡ 0 → lines_of text ≡ []
unfolding lines_of
no_line [] h = refl
no_line (b ∷ bs) h = absurd (omega arith)

-- ---- a text and the same with bytes after it

pick_append : (t : Bool) (b : ℕ) (d : List ℕ) (ms : List (List ℕ)) → 0 < length d
    → pick t ([] ∷ (lines_of d ++ ms)) (with_byte b (lines_of d ++ ms)) ≡ pick t ([] ∷ lines_of d) (with_byte b (lines_of d)) ++ ms
pick_append true b d ms h = refl
pick_append false b d ms h = rw (next_line d h)

-- bytes after a text that is empty or ends in LF begin new lines
pub lines_append : (t e : List ℕ) → is_ended t ≡ true → lines_of (t ++ e) ≡ lines_of t ++ lines_of e
unfolding lines_of
lines_append [] e h = refl
lines_append (b ∷ []) e h = rw h
lines_append (b ∷ c ∷ r) e h = rw (lines_append (c ∷ r) e h) (pick_append (eqb b LF) b (c ∷ r) (lines_of e) (omega arith))

-- ---- the lines one after another

module _ {S : Type 0} (step : S → List ℕ → Step S) where
  -- what each line keeps of a state, all lines keep
  pub run_keeps : (P : S → Type 0) → ((s : S) (line : List ℕ) (s' : S) → step s line ≡ next s' → P s → P s')
      → (ls : List (List ℕ)) (n : ℕ) (s : S) {g : S} → run_lines step ls n s ≡ accepted g → P s → P g
  unfolding run_lines
  run_keeps P keeps [] n s {g} e h = let same : s ≡ g = cc in rw same at h
  run_keeps P keeps (l ∷ ls) n s {g} e h = go (λ s'. run_keeps P keeps ls (n + 1) s') (step s (without_cr l)) refl e
    where
      go : ((s' : S) → run_lines step ls (n + 1) s' ≡ accepted g → P s' → P g) → (a : Step S) → step s (without_cr l) ≡ a
          → on_step a (without_cr l) n (λ s'. run_lines step ls (n + 1) s') ≡ accepted g → P g
      go ih (stop r left) q e = absurd (let z : ◌≡◌ {A = ℕ} 0 1 = cc in omega arith)
      go ih (next s') q e = ih s' e (keeps s (without_cr l) s' q h)

  -- where the first lines leave a state, the others go on from it
  pub run_append : (xs ys : List (List ℕ)) (n : ℕ) (s : S) {s' : S} → run_lines step xs n s ≡ accepted s'
      → run_lines step (xs ++ ys) n s ≡ run_lines step ys (n + length xs) s'
  unfolding run_lines
  run_append [] ys n s e = cc (add-zero n)
  run_append (x ∷ xs) ys n s {s'} e = go (λ s. run_append xs ys (n + 1) s) (step s (without_cr x)) e
    where
      go : ((s : S) → run_lines step xs (n + 1) s ≡ accepted s' → run_lines step (xs ++ ys) (n + 1) s ≡ run_lines step ys ((n + 1) + length xs) s')
          → (a : Step S) → on_step a (without_cr x) n (λ s. run_lines step xs (n + 1) s) ≡ accepted s'
          → on_step a (without_cr x) n (λ s. run_lines step (xs ++ ys) (n + 1) s) ≡ run_lines step ys (n + suc (length xs)) s'
      go ih (stop r left) e = cc
      go ih (next s₁) e =
          let same : (n + 1) + length xs ≡ n + suc (length xs) = omega arith in
          rw same at (ih s₁ e)

-- a rejection as what a text gives
abbrev pub outcome_of : {S : Type 0} → Rejection → Outcome S
outcome_of e = rejected e.refusal e.line e.column

-- what the code answered of a fault
pub refused_as : {S : Type 0} (whole : Outcome S) (here : List ℕ) (n : ℕ) (fault : LineFault) (e : Rejection)
    → e ≡ rejection_of fault here n → whole ≡ outcome_of (rejection_of fault here n)
    → rejected e.refusal e.line e.column ≡ whole
refused_as whole here n fault e q h = rw (q, h)

-- a loop over the lines of a text: what it gives is what the lines that are left give, the first of them the n-th, from the state s
module _ {S : Type 0} (step : S → List ℕ → Step S) (whole : Outcome S) (ls : List (List ℕ)) (n : ℕ) (s : S) (here : whole ≡ run_lines step ls n s) where
  pub lines_read : ls ≡ [] → whole ≡ accepted s
  unfolding run_lines
  lines_read q = here ∙ rw q

  -- o is what was answered of the next of them
  module _ (line : List ℕ) (more : List (List ℕ)) (q : ls ≡ line ∷ more) (o : Result S LineFault) (does : step_of o ≡ step s (without_cr line)) where
    pub line_refused : (fault : LineFault) → o ≡ Err fault → whole ≡ outcome_of (rejection_of fault line n)
    unfolding run_lines
    line_refused fault e = here ∙ rw (q, ← does, e)

    pub line_read : (s' : S) → o ≡ Ok s' → whole ≡ run_lines step more (n + 1) s'
    unfolding run_lines
    line_read s' e = here ∙ rw (q, ← does, e)

-- a text has no more lines than bytes
pub lines_few : (text : List ℕ) → length (lines_of text) ≤ length text
unfolding lines_of
lines_few [] = omega arith
lines_few (b ∷ bs) = by_cases (eqb b LF) (λ q. rw q (omega (arith, lines_few bs))) (λ q. rw q (go (lines_of bs) (lines_few bs)))
  where
    go : (ls : List (List ℕ)) → length ls ≤ length bs → length (with_byte b ls) ≤ length (b ∷ bs)
    go [] h = omega arith
    go (l ∷ ls) h = omega (arith, h)

-- a `for` over the lines of a text, with their numbers: what the lines that are left give, from the state s
abbrev pub Gives : {S : Type 0} → (S → List ℕ → Step S) → Outcome S → Enumerate TextLines → S → Type 0
Gives step whole it s = whole ≡ run_lines step (lines_left (enumerate_source it)) (enumerate_count it + 1) s

abbrev pub left_count : Enumerate TextLines → ℕ
left_count it = length (lines_left (enumerate_source it))

-- it begins with all of them
module _ (text : List ℕ) (it e : Enumerate TextLines) (ls : TextLines) (is : it ≡ e) (source : enumerate_source e ≡ ls) (count : enumerate_count e ≡ 0)
    (all : lines_left ls ≡ lines_of text) where
  pub walk_few : left_count it ≤ length text
  walk_few = rw (is, source, all) (lines_few text)

  pub walk_short : (limit : ℕ) → length text < limit → enumerate_count it + left_count it < limit
  walk_short limit h = let none : enumerate_count it ≡ 0 = rw is count in omega (arith, walk_few)

  pub walk_first : {S : Type 0} (step : S → List ℕ → Step S) (s : S) → length text ≤ text_limit → Gives step (run_text step s text) it s
  unfolding run_text
  walk_first step s short = rw (le-ltb _ _ short, is, source, count, all)

module _ {S : Type 0} (step : S → List ℕ → Step S) (whole : Outcome S) (it : Enumerate TextLines) (s : S) (here : Gives step whole it s) where
  -- the next line, the i-th from 0 on; o is what was answered of it
  module _ (line : Bor (List ℕ)) (i : ℕ) (on : Enumerate TextLines) (gives : enumerate_steps (YieldsFirstRef lines_left) it (Some (i, line)) on)
      (o : Result S LineFault) (does : step_of o ≡ step s (without_cr line.now)) where
    pub walk_refused : (fault : LineFault) → o ≡ Err fault → whole ≡ outcome_of (rejection_of fault line.now (i + 1))
    walk_refused fault e = rw gives.1 (line_refused step whole _ _ s here line.now _ gives.0 o does fault e)

    pub walk_on : (s' : S) → o ≡ Ok s' → Gives step whole on s'
    walk_on s' e = rw gives.2 (line_read step whole _ _ s here line.now _ gives.0 o does s' e)

-- a text that is too long, of which no line is read
module _ {S : Type 0} (step : S → List ℕ → Step S) (s : S) (text : List ℕ) where
  pub text_long : text_limit < length text → run_text step s text ≡ rejected TextTooLong 0 0
  unfolding run_text
  text_long h = rw (lt-ltb _ _ h)

-- a call that hands its table back by value: its answer, the column, and the table, by what the text gives
module _ {S A : Type 0} (count : S → ℕ) (table : Outcome S → A) where
  abbrev pub Ensured : Outcome S → Result ℕ Rejection → A → Type 0
  Ensured outcome answer handed = (compiled_reply answer ≡ outcome_reply count outcome)
      × ((compiled_column answer ≡ outcome_column outcome) × (handed ≡ table outcome))

  pub text_accepted : (outcome : Outcome S) (s : S) {handed : A} → outcome ≡ accepted s → handed ≡ table (accepted s) → Ensured outcome (Ok (count s)) handed
  text_accepted outcome s q e = rw q (refl, (refl, e))

  pub text_refused : (outcome : Outcome S) {e : Rejection} {answer : Result ℕ Rejection} {handed : A}
      → outcome ≡ outcome_of e → answer ≡ Err e → handed ≡ table (outcome_of e) → Ensured outcome answer handed
  text_refused outcome q a p = (rw (q, a), (rw (q, a), rw q p))

-- ---- which refusals there are

-- what holds of 1 and of each line's refusal holds of a text's
module _ {S : Type 0} (P : Refusal → Type 0) where
  abbrev pub StopsBy : Step S → Type 0
  StopsBy (next s) = Unit {0}
  StopsBy (stop refusal left) = P refusal

  abbrev pub RefusedBy : Outcome S → Type 0
  RefusedBy (accepted s) = Unit {0}
  RefusedBy (rejected refusal n column) = P refusal

  module _ (step : S → List ℕ → Step S) (each : (s : S) (line : List ℕ) → StopsBy (step s line)) where
    on_stop : (a : Step S) (line : List ℕ) (n : ℕ) (rest : S → Outcome S) → StopsBy a → ((s : S) → RefusedBy (rest s)) → RefusedBy (on_step a line n rest)
    on_stop (next s) line n rest h more = more s
    on_stop (stop refusal left) line n rest h more = h

    lines_refused : (ls : List (List ℕ)) (n : ℕ) (s : S) → RefusedBy (run_lines step ls n s)
    unfolding run_lines
    lines_refused [] n s = tt
    lines_refused (l ∷ ls) n s =
        on_stop (step s (without_cr l)) (without_cr l) n (λ s'. run_lines step ls (n + 1) s') (each s (without_cr l)) (λ s'. lines_refused ls (n + 1) s')

    pub run_refused : (s : S) (text : List ℕ) → P TextTooLong → RefusedBy (run_text step s text)
    unfolding run_text
    run_refused s text h = either RefusedBy (ltb text_limit (length text)) h (lines_refused (lines_of text) 1 s)

-- ---- columns

-- where a line that is too long is refused at the first byte too many, no column lies beyond that byte
module _ {S : Type 0} (step : S → List ℕ → Step S)
    (long : (s : S) (line : List ℕ) → line_limit < length line → step s line ≡ stop LineTooLong (length line - line_limit)) where
  line_column : (s : S) (line : List ℕ) (refusal : Refusal) (left : ℕ) → step s line ≡ stop refusal left → column_of line left ≤ line_limit + 1
  line_column s line refusal left e =
      by_cases (ltb line_limit (length line))
      (λ q.
      let over = ltb-true line_limit (length line) q in
      let stops = long s line over in
      let same : left ≡ length line - line_limit = cc in
      omega arith)
      (λ q. omega (arith, ltb-false line_limit (length line) q))

  lines_column : (ls : List (List ℕ)) (n : ℕ) (s : S) → outcome_column (run_lines step ls n s) ≤ line_limit + 1
  unfolding run_lines
  lines_column [] n s = omega arith
  lines_column (l ∷ ls) n s = go (λ s'. lines_column ls (n + 1) s') (step s (without_cr l)) refl
    where
      go : ((s' : S) → outcome_column (run_lines step ls (n + 1) s') ≤ line_limit + 1) → (a : Step S) → step s (without_cr l) ≡ a
          → outcome_column (on_step a (without_cr l) n (λ s'. run_lines step ls (n + 1) s')) ≤ line_limit + 1
      go ih (next s') q = ih s'
      go ih (stop refusal left) q = line_column s (without_cr l) refusal left q

  pub run_column : (s : S) (text : List ℕ) → outcome_column (run_text step s text) ≤ line_limit + 1
  unfolding run_text
  run_column s text =
      either (λ (o : Outcome S). outcome_column o ≤ line_limit + 1) (ltb text_limit (length text)) (omega arith) (lines_column (lines_of text) 1 s)
