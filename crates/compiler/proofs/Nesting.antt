-- The innermost block tells for all: a line is taken only inside halves that are all taken.
use Prim.Native.Nat.{ℕ}
use mathlib.Core.Path.{◌≡◌, refl}
use mathlib.Core.Bool.{Bool, true, false}
use mathlib.Core.List.{List, [], ◌∷◌}
use native.Mathlib.Omega.{arith}
use Rattle.std.specs.Prelude.{Result, Ok, Err}
use Rattle.lines.specs.declared.LineFault.{LineFault}
use Rattle.basics.proofs.Tests.{same_twice}
use Rattle.lines.specs.Texts.{next, accepted, run_lines}
use Rattle.lines.proofs.Texts.{run_keeps}
use Rattle.blocks.specs.Blocks.{is_taken, around_of, blocks_after}
use Rattle.blocks.specs.declared.OpenBlock.{OpenBlock}
use Rattle.blocks.specs.declared.BlockLine.{BlockLine}
use Rattle.blocks.specs.declared.BlockLine.TheVariants.{Open, Else, EndIf}
use Rattle.reader.specs.declared.Reading.{Reading}
use Rattle.reader.specs.declared.Reading.TheVariants.{NoEffect, Define, Block}
use Rattle.compiler.specs.Compile.{line_effect, SoFar, begun, with_effect, step}
use Rattle.compiler.proofs.Effects.{effect_no_half}

-- a block that opened in lines not taken has no half that is
abbrev Nested : List OpenBlock → Type 0
Nested [] = Unit
Nested (b ∷ bs) = ((around_of bs).taken ≡ false → (b.first ≡ false) × (b.second ≡ false)) × Nested bs

after_nested : (read : BlockLine) (bs : List OpenBlock)
    → ((first second : Bool) → read ≡ Open first second → (around_of bs).taken ≡ false → (first ≡ false) × (second ≡ false)) → Nested bs
    → Nested (blocks_after read bs)
after_nested (Open first second) bs opens h = (λ untaken. opens first second refl untaken, h)
after_nested Else [] opens h = tt
after_nested Else (b ∷ bs) opens h = h
after_nested EndIf [] opens h = tt
after_nested EndIf (b ∷ bs) opens h = h.1

step_nested : (charset : ℕ) (s : SoFar) (line : List ℕ) (s' : SoFar) → step charset s line ≡ next s' → Nested s.blocks → Nested s'.blocks
unfolding step
step_nested charset s line s' e h = go (line_effect charset s.definitions s.blocks line) refl e
  where
    go : (r : Result Reading LineFault) → line_effect charset s.definitions s.blocks line ≡ r → with_effect s r ≡ next s' → Nested s'.blocks
    go (Err fault) p e = absurd (let z : ◌≡◌ {A = ℕ} 0 1 = cc in omega arith)
    go (Ok NoEffect) p e = let same : s.blocks ≡ s'.blocks = cc in rw same at h
    go (Ok (Define d left)) p e = let same : s.blocks ≡ s'.blocks = cc in rw same at h
    go (Ok (Block read)) p e =
        let same : blocks_after read s.blocks ≡ s'.blocks = cc in
        rw same at
        (after_nested read s.blocks (λ first second q untaken. effect_no_half charset s.definitions s.blocks line untaken (rw q at p)) h)

abbrev AllTaken : List OpenBlock → Type 0
AllTaken [] = Unit
AllTaken (b ∷ bs) = (is_taken b ≡ true) × AllTaken bs

all_taken : (bs : List OpenBlock) → Nested bs → (around_of bs).taken ≡ true → AllTaken bs
unfolding around_of
all_taken [] h t = tt
all_taken (b ∷ bs) h t = (t, all_taken bs h.1 (outer (around_of bs).taken refl))
  where
    outer : (v : Bool) → (around_of bs).taken ≡ v → (around_of bs).taken ≡ true
    outer true e = e
    outer false e =
        let none = h.0 e in
        let false-true = rw (none.0, none.1, same_twice) at t in
        absurd (let z : ◌≡◌ {A = ℕ} 0 1 = cc in omega arith)

-- behind any lines of a text: where the next one is taken, each block around it is in a half that is
pub taken_within : (charset : ℕ) (ls : List (List ℕ)) {s : SoFar} → run_lines (step charset) ls 1 begun ≡ accepted s
    → (around_of s.blocks).taken ≡ true → AllTaken s.blocks
taken_within charset ls {s} run t = all_taken s.blocks (run_keeps (step charset) (λ s. Nested s.blocks) (step_nested charset) ls 1 begun run tt) t
