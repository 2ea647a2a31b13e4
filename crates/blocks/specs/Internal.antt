-- What the code knows beyond the rules: the open blocks stand in an array, and a block opens only where there is room.
use Rattle.std.specs.Prelude.{ℕ, zero, suc, ◌<◌, ◌≡◌, false, List, [], ◌∷◌, Option, None, Some, get_or, map, replicate}
use Prim.Native.Nat.{zero-le}
use Rattle.blocks.specs.Blocks.{depth_limit, open_block, blocks_after, starts_after}
use Rattle.blocks.specs.declared.OpenBlock.{OpenBlock}
use Rattle.blocks.specs.declared.Level.{Level}
use Rattle.blocks.specs.declared.Blocks.{Blocks}
use Rattle.blocks.specs.declared.BlockLine.{BlockLine}
use Rattle.blocks.specs.declared.BlockLine.TheVariants.{Open, Else, EndIf}

-- the first places of an array as a stack, the last of them on top
unfoldable pub stack : {A : Type 0} → A → List A → ℕ → List A
stack d xs zero = []
stack d xs (suc n) = get_or xs n d ∷ stack d xs n

-- what is on top of a stack
abbrev pub first_of : {A : Type 0} → List A → Option A
first_of [] = None
first_of (x ∷ xs) = Some x

abbrev pub level : OpenBlock → ℕ → Level
level block start = record { block = block; start = start }

-- what stands in the places that no block has
abbrev pub unused : Level
unused = level (open_block false false false) 0

-- no block open
abbrev pub no_blocks : Blocks
no_blocks = record { levels = replicate depth_limit unused; depth = 0; within = zero-le }

-- the open blocks with the lines that opened them, the innermost first
abbrev pub levels_of : Blocks → List Level
levels_of s = stack unused s.levels s.depth

abbrev pub blocks_of : Blocks → List OpenBlock
blocks_of s = map (λ (l : Level). l.block) (levels_of s)

abbrev pub starts_of : Blocks → List ℕ
starts_of s = map (λ (l : Level). l.start) (levels_of s)

-- there is room for what a line opens
abbrev pub RoomFor : ℕ → BlockLine → Type 0
RoomFor room (Open first second) = 0 < room
RoomFor room Else = Unit {0}
RoomFor room EndIf = Unit {0}

-- r is what a line of that number left
pub record Changed (s : Blocks) (line : BlockLine) (number : ℕ) (r : Blocks) : Type 0 where
  pub blocks : blocks_of r ≡ blocks_after line (blocks_of s)
  pub starts : starts_of r ≡ starts_after line number (starts_of s)
