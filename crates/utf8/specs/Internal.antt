-- What the code knows beyond the rules: where an answered position lies, and which bytes are passed at once.
use Rattle.std.specs.Prelude.{ℕ, ◌+◌, ◌≤◌, ◌≡◌, List, [], ◌∷◌, length, drop, ltb, Result, IfErr}
use Rattle.basics.specs.Choice.{pick}
use Rattle.utf8.specs.declared.Utf8State.{Utf8State}
use Rattle.utf8.specs.declared.Utf8State.TheVariants.{Between, Inside, Broken}
use Rattle.utf8.specs.declared.BadSequence.{BadSequence}

-- the position that is answered lies within so many bytes
abbrev pub BadWithin : Result Unit BadSequence → ℕ → Type 0
BadWithin r n = IfErr r (λ bad. bad.start ≤ n)

-- of the bytes that are left, the first of them at i: the position of the first that is not ASCII, or the end
unfoldable pub ascii_end : List ℕ → ℕ → ℕ
ascii_end [] i = i
ascii_end (b ∷ bs) i =
    let rest : ℕ = ascii_end bs (i + 1) in
    pick (ltb b 0x80) rest i

-- where the reading goes on: between two characters it passes the ASCII bytes
abbrev pub resume_from : List ℕ → ℕ → Utf8State → ℕ
resume_from bs i Between = ascii_end bs i
resume_from bs i (Inside left low high start) = i
resume_from bs i (Broken start) = i

-- a position where the reading goes on that stands at `at`
pub record Resumed (line : List ℕ) (at : ℕ) (p : Utf8State) (r : ℕ) : Type 0 where
  pub is : r ≡ resume_from (drop at line) at p
  pub from : at ≤ r
  pub within : r ≤ length line
