-- Blocks: a condition without a further directive governs the lines up to `endIf`, with `else` between. What a line has
-- to know of the blocks that are open around it, and what a line does to them.
use Rattle.std.specs.Prelude.{ℕ, ◌-◌, Bool, true, false, not, List, [], ◌∷◌, length, drop}
use Rattle.basics.specs.Choice.{pick}
use Rattle.blocks.specs.declared.OpenBlock.{OpenBlock}
use Rattle.blocks.specs.declared.BlockLine.{BlockLine}
use Rattle.blocks.specs.declared.BlockLine.TheVariants.{Open, Else, EndIf}
use Rattle.blocks.specs.declared.Around.{Around}

-- open blocks and the conditions of a line together are at most 8
abbrev pub depth_limit : ℕ
depth_limit = 8

-- an open block: whether its first half is taken, whether its second is, and whether `else` is past
abbrev pub open_block : Bool → Bool → Bool → OpenBlock
open_block first second past = record { first = first; second = second; past = past }

-- whether lines at this place in a block are taken
abbrev pub is_taken : OpenBlock → Bool
is_taken b = pick b.past b.second b.first

-- how many conditions a line may have, whether it is taken, whether `else` and whether `endIf` may stand
abbrev pub around : ℕ → Bool → Bool → Bool → Around
around room taken turns closes = record { room = room; taken = taken; turns = turns; closes = closes }

-- by the open blocks, the innermost first. Whether a line is taken goes by the innermost alone, since a block that
-- opens in lines not taken has no half that is
unfoldable pub around_of : List OpenBlock → Around
around_of [] = around depth_limit true false false
around_of (b ∷ bs) = around (depth_limit - length (b ∷ bs)) (is_taken b) (not b.past) true

-- a line that opens a block behind a failed condition, or inside lines not taken: the block still opens, and neither of
-- its halves is taken
abbrev pub inert : BlockLine → BlockLine
inert (Open first second) = Open false false
inert Else = Else
inert EndIf = EndIf

-- the open blocks after a line
abbrev pub blocks_after : BlockLine → List OpenBlock → List OpenBlock
blocks_after (Open first second) bs = open_block first second false ∷ bs
blocks_after Else [] = []
blocks_after Else (b ∷ bs) = open_block b.first b.second true ∷ bs
blocks_after EndIf bs = drop 1 bs

-- and the numbers of the lines that opened them
abbrev pub starts_after : BlockLine → ℕ → List ℕ → List ℕ
starts_after (Open first second) number starts = number ∷ starts
starts_after Else number starts = starts
starts_after EndIf number starts = drop 1 starts
