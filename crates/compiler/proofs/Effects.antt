-- What takes effect at a line: it is what the line gives, in range, and admitted, and a block had room; and what it leaves of the words and the state.
use Prim.Native.Nat.{ℕ, ◌+◌, ◌-◌, ◌*◌, ◌<◌}
use mathlib.Core.Path.{◌≡◌, refl, sym}
use mathlib.Core.Bool.{Bool, false}
use mathlib.Core.List.{List}
use native.Mathlib.Omega.{arith}
use lib.ListN.{length}
use Rattle.std.specs.Prelude.{Result, Ok, Err}
use Rattle.basics.specs.Choice.{if_ok}
use Rattle.basics.specs.declared.Refusal.{Refusal}
use Rattle.lines.specs.declared.LineFault.{LineFault}
use Rattle.lines.specs.Texts.{next}
use Rattle.blocks.specs.Blocks.{depth_limit, around_of}
use Rattle.blocks.specs.Internal.{blocks_of, RoomFor, Changed}
use Rattle.blocks.specs.declared.OpenBlock.{OpenBlock}
use Rattle.blocks.specs.declared.Blocks.{Blocks}
use Rattle.blocks.specs.declared.BlockLine.{BlockLine}
use Rattle.blocks.specs.declared.BlockLine.TheVariants.{Open}
use Rattle.blocks.proofs.Stacks.{room_left}
use Rattle.definitions.specs.declared.Definition.{Definition}
use Rattle.definitions.specs.Effects.{definition_limit, verdict_of}
use Rattle.definitions.proofs.Admission.{admissible}
use Rattle.pairs.specs.Words.{kind_unit, word_of, charset_of, definitions}
use Rattle.table.specs.Internal.{Written}
use Rattle.table.proofs.Readback.{InRange}
use Rattle.table.proofs.Written.{written_length, stored, store_fits, stored_more, stored_written, stored_beyond}
use Rattle.reader.specs.Reader.{read_line}
use Rattle.reader.specs.declared.Reading.{Reading}
use Rattle.reader.specs.declared.Reading.TheVariants.{NoEffect, Define, Block}
use Rattle.reader.proofs.InRange.{line_in_range, line_had_room, line_no_half}
use Rattle.compiler.specs.Compile.{judged, effect_of, line_effect, SoFar, with_effect, step}
use Rattle.compiler.specs.Internal.{Leaves}
use Rattle.compiler.specs.declared.State.{State}

module _ (charset : ℕ) (ds : List Definition) (bs : List OpenBlock) (line : List ℕ) where
  -- the definition that takes effect at a line
  module _ {d : Definition} {left : ℕ} where
    effect_read : line_effect charset ds bs line ≡ Ok (Define d left)
        → (read_line charset ds (around_of bs) line ≡ Ok (Define d left)) × (verdict_of ds d ≡ Ok tt)
    unfolding line_effect
    effect_read e = go (read_line charset ds (around_of bs) line) e
      where
        judge : (v : Result (Unit {0}) Refusal) (d₁ : Definition) (left₁ : ℕ) → verdict_of ds d₁ ≡ v → judged v d₁ left₁ ≡ Ok (Define d left)
            → (◌≡◌ {A = Result Reading LineFault} (Ok (Define d₁ left₁)) (Ok (Define d left))) × (verdict_of ds d ≡ Ok tt)
        judge (Ok u) d₁ left₁ p e = (e, let q : verdict_of ds d ≡ Ok u = cc in q)
        judge (Err refusal) d₁ left₁ p e = (cc, cc)

        go : (r : Result Reading LineFault) → if_ok r (λ reading. effect_of ds reading) ≡ Ok (Define d left)
            → (r ≡ Ok (Define d left)) × (verdict_of ds d ≡ Ok tt)
        go (Err fault) e = (cc, cc)
        go (Ok NoEffect) e = (cc, cc)
        go (Ok (Define d₁ left₁)) e = judge (verdict_of ds d₁) d₁ left₁ refl e
        go (Ok (Block read)) e = (cc, cc)

    pub effect_in_range : line_effect charset ds bs line ≡ Ok (Define d left) → InRange d
    effect_in_range e = line_in_range charset ds (around_of bs) line (effect_read e).0

    pub effect_admitted : line_effect charset ds bs line ≡ Ok (Define d left) → verdict_of ds d ≡ Ok tt
    effect_admitted e = (effect_read e).1

  -- what a line does to the open blocks: a block that opens had room and, where the line is not taken, no half that is
  effect_block : {read : BlockLine} → line_effect charset ds bs line ≡ Ok (Block read) → read_line charset ds (around_of bs) line ≡ Ok (Block read)
  unfolding line_effect
  effect_block {read} e = go (read_line charset ds (around_of bs) line) e
    where
      judge : (v : Result (Unit {0}) Refusal) (d : Definition) (left : ℕ) → judged v d left ≡ Ok (Block read)
          → ◌≡◌ {A = Result Reading LineFault} (Ok (Define d left)) (Ok (Block read))
      judge (Ok u) d left e = e
      judge (Err refusal) d left e = cc

      go : (r : Result Reading LineFault) → if_ok r (λ reading. effect_of ds reading) ≡ Ok (Block read) → r ≡ Ok (Block read)
      go (Err fault) e = cc
      go (Ok NoEffect) e = cc
      go (Ok (Define d left)) e = judge (verdict_of ds d) d left e
      go (Ok (Block other)) e = e

  effect_had_room : {read : BlockLine} → line_effect charset ds bs line ≡ Ok (Block read) → RoomFor (around_of bs).room read
  effect_had_room e = line_had_room charset ds (around_of bs) line (effect_block e)

  pub effect_no_half : {first second : Bool} → (around_of bs).taken ≡ false → line_effect charset ds bs line ≡ Ok (Block (Open first second))
      → (first ≡ false) × (second ≡ false)
  effect_no_half untaken e = line_no_half charset ds (around_of bs) line untaken (effect_block e)

-- a line that is not refused is counted
pub step_counts : (charset : ℕ) (s : SoFar) (line : List ℕ) {s' : SoFar} → step charset s line ≡ next s' → s'.lines ≡ s.lines + 1
unfolding step
step_counts charset s line {s'} e = go (line_effect charset s.definitions s.blocks line) e
  where
    go : (r : Result Reading LineFault) → with_effect s r ≡ next s' → s'.lines ≡ s.lines + 1
    go (Err fault) e = cc
    go (Ok NoEffect) e = cc
    go (Ok (Define d left)) e = cc
    go (Ok (Block read)) e = cc

-- what a line does to words and a state that are ready
module _ (ws : List ℕ) (s : State) (w : Written ws s.count) (line : List ℕ) where
  abbrev Does : Result Reading LineFault → Type 0
  Does r = r ≡ line_effect (charset_of ws) (definitions s.count ws) (blocks_of s.blocks) line

  pub leaves_refused : (fault : LineFault) → Does (Err fault) → Leaves ws s line (Err fault) s ws
  unfolding step
  leaves_refused fault e = record { does = rw (← e); written = w; beyond = refl }

  pub leaves_skipped : Does (Ok NoEffect) → Leaves ws s line (Ok tt) (record { count = s.count; lines = s.lines + 1; blocks = s.blocks }) ws
  unfolding step
  leaves_skipped e = record { does = rw (← e); written = w; beyond = refl }

  module _ {read : BlockLine} (e : Does (Ok (Block read))) where
    pub had_room : RoomFor (depth_limit - s.blocks.depth) read
    had_room = rw (room_left s.blocks) at (effect_had_room (charset_of ws) (definitions s.count ws) (blocks_of s.blocks) line (sym e))

    pub leaves_changed : {new : Blocks} → Changed s.blocks read (s.lines + 1) new
        → Leaves ws s line (Ok tt) (record { count = s.count; lines = s.lines + 1; blocks = new }) ws
    unfolding step
    leaves_changed h = record { does = rw (← e, h.blocks, h.starts); written = w; beyond = refl }

  module _ {d : Definition} {left : ℕ} (e : Does (Ok (Define d left))) where
    fits : InRange d
    fits = effect_in_range (charset_of ws) (definitions s.count ws) (blocks_of s.blocks) line (sym e)

    room : s.count < definition_limit
    room =
        omega (
          arith,
          written_length ws s.count w,
          (admissible (definitions s.count ws) d (effect_admitted (charset_of ws) (definitions s.count ws) (blocks_of s.blocks) line (sym e))).room,
        )

    pub put_room : 2 * s.count + 1 < length ws
    put_room = (store_fits ws s.count w d room fits).0

    pub put_small : word_of d.meaning < 4 * kind_unit
    put_small = (store_fits ws s.count w d room fits).1

    pub leaves_stored : {new : List ℕ} → new ≡ stored ws s.count d
        → Leaves ws s line (Ok tt) (record { count = s.count + 1; lines = s.lines + 1; blocks = s.blocks }) new
    unfolding step
    leaves_stored z =
        rw z (record {
          does = rw (← e, stored_more ws s.count w d room fits);
          written = stored_written ws s.count w d room fits;
          beyond = stored_beyond ws s.count w d room fits;
        })
