-- The open blocks in their array, as a stack.
use Rattle.std.proofs.Common.{◌≡◌, refl, sym, ap, ℕ, zero, suc, ◌+◌, ◌-◌, ◌≤◌, ◌<◌, Bool, true, false, not, List, [], ◌∷◌, map, length, get_or}
use Rattle.std.proofs.Common.{take, set, None, Some, arith, add-one, leb}
use lib.ListN.{length-map, length-drop}
use Rattle.std.proofs.lemmas.List.{get_or-take}
use lib.Seq.{length-take-le, get_or-set_same, get_or-set_other}
use borrow.Author.Tests.{leb-true, leb-false}
use Rattle.std.specs.List.{slice_get}
use Rattle.std.proofs.lemmas.Option.{slice_get-get_or}
use Rattle.basics.proofs.Tests.{by_cases}
use Rattle.blocks.specs.Blocks.{depth_limit, open_block, is_taken, around, around_of, blocks_after, starts_after}
use Rattle.blocks.specs.Internal.{stack, first_of, level, unused, levels_of, blocks_of, RoomFor, Changed}
use Rattle.blocks.specs.declared.Level.{Level}
use Rattle.blocks.specs.declared.OpenBlock.{OpenBlock}
use Rattle.blocks.specs.declared.Blocks.{Blocks}
use Rattle.blocks.specs.declared.BlockLine.{BlockLine}
use Rattle.blocks.specs.declared.BlockLine.TheVariants.{Open, Else, EndIf}

-- ---- the first n places of xs as a stack

module _ {A : Type 0} (d : A) (xs : List A) where
  stack_below : (n : ℕ) (a : A) (m : ℕ) → m ≤ n → stack d (set xs n a) m ≡ stack d xs m
  unfolding stack
  stack_below n a zero l = refl
  stack_below n a (suc m) l = rw (get_or-set_other xs n m a d (λ q. omega arith), stack_below n a m (omega arith))

  -- one more on top
  stack_put : (n : ℕ) (a : A) → n < length xs → stack d (set xs n a) (n + 1) ≡ a ∷ stack d xs n
  unfolding stack
  stack_put n a h = rw (add-one n, get_or-set_same xs n a d h, stack_below n a n (omega arith))

  stack_top : (n m : ℕ) → n ≡ m + 1 → stack d xs n ≡ get_or xs m d ∷ stack d xs m
  unfolding stack
  stack_top n m e = rw (e, add-one m)

  -- another on top
  stack_changed : (n m : ℕ) (a : A) → n ≡ m + 1 → n ≤ length xs → stack d (set xs m a) n ≡ a ∷ stack d xs m
  stack_changed n m a e h = rw e (stack_put m a (omega arith))

  stack_none : (n : ℕ) → n ≤ 0 → stack d xs n ≡ []
  unfolding stack
  stack_none zero h = refl
  stack_none (suc n) h = absurd (omega arith)

  pub stack_length : (n : ℕ) → length (stack d xs n) ≡ n
  unfolding stack
  stack_length zero = refl
  stack_length (suc n) = ap suc (stack_length n)

  -- the last of the first n places
  pub last_on_top : (n : ℕ) → n ≤ length xs → slice_get (take n xs) (length (take n xs) - 1) ≡ first_of (stack d xs n)
  unfolding stack
  last_on_top zero h = refl
  last_on_top (suc n) h =
      let size : length (take (suc n) xs) ≡ suc n = length-take-le (suc n) xs h in
      let last : length (take (suc n) xs) - 1 ≡ n = omega arith in
      rw (last, slice_get-get_or (take (suc n) xs) n d (omega arith), get_or-take (suc n) xs n d (omega arith))

-- ---- what a line has to know of them

abbrev starts_in : List Level → List ℕ
starts_in ls = map (λ (l : Level). l.start) ls

abbrev blocks_in : List Level → List OpenBlock
blocks_in ls = map (λ (l : Level). l.block) ls

pub around_none : (n : ℕ) (ls : List Level) → length ls ≡ n → first_of ls ≡ None → around (depth_limit - n) true false false ≡ around_of (blocks_in ls)
unfolding around_of
around_none n [] e q = rw (sym e)
around_none n (l ∷ ls) e q = cc

pub around_some : (n : ℕ) (ls : List Level) (l : Level) (t : Bool) → length ls ≡ n → first_of ls ≡ Some l → t ≡ is_taken l.block
    → around (depth_limit - n) t (not l.block.past) true ≡ around_of (blocks_in ls)
unfolding around_of
around_some n [] l t e q h = cc
around_some n (k ∷ ls) l t e q h =
    let same : k ≡ l = cc in
    rw (h, sym e, same, length-map ls (λ (l : Level). l.block))

room_in : (ls : List Level) (n : ℕ) → length ls ≡ n → (around_of (blocks_in ls)).room ≡ depth_limit - n
unfolding around_of
room_in [] n e = rw (sym e)
room_in (l ∷ ls) n e = rw (sym e, length-map ls (λ (l : Level). l.block))

pub room_left : (s : Blocks) → (around_of (blocks_of s)).room ≡ depth_limit - s.depth
room_left s = room_in (levels_of s) s.depth (stack_length unused s.levels s.depth)

-- ---- what a line does to them: r is what it left of s

-- the second half of a level
abbrev turned : Level → Level
turned l = level (open_block l.block.first l.block.second true) l.start

module _ (s r : Blocks) (number : ℕ) (size : length s.levels ≡ depth_limit) where
  pub changed_open : (first second : Bool) → s.depth < depth_limit → r.levels ≡ set s.levels s.depth (level (open_block first second false) number)
      → r.depth ≡ s.depth + 1
      → Changed s (Open first second) number r
  changed_open first second h p q =
      let new = level (open_block first second false) number in
      let e : levels_of r ≡ new ∷ levels_of s = rw (p, q) (stack_put unused s.levels s.depth new (omega arith)) in
      record { blocks = ap blocks_in e; starts = ap starts_in e }

  -- nothing is open
  module _ (h : s.depth ≤ 0) (q : r.depth ≤ 0) where
    none_left : levels_of r ≡ []
    none_left = stack_none unused r.levels r.depth q

    none_open : levels_of s ≡ []
    none_open = stack_none unused s.levels s.depth h

    pub turned_none : Changed s Else number r
    turned_none = record { blocks = rw (none_left, none_open); starts = rw (none_left, none_open) }

    pub closed_none : Changed s EndIf number r
    closed_none = record { blocks = rw (none_left, none_open); starts = rw (none_left, none_open) }

  -- a block is open
  module _ (top : ℕ) (h : s.depth ≡ top + 1) where
    open_level : levels_of s ≡ get_or s.levels top unused ∷ stack unused s.levels top
    open_level = stack_top unused s.levels s.depth top h

    pub turned_changed : r.levels ≡ set s.levels top (turned (get_or s.levels top unused)) → r.depth ≡ s.depth → Changed s Else number r
    turned_changed p q =
        let e : levels_of r ≡ turned (get_or s.levels top unused) ∷ stack unused s.levels top =
        rw (p, q) (stack_changed unused s.levels s.depth top (turned (get_or s.levels top unused)) h (omega (arith, s.within))) in
        record { blocks = rw (e, open_level); starts = rw (e, open_level) }

    pub closed_changed : r.levels ≡ s.levels → r.depth ≡ top → Changed s EndIf number r
    closed_changed p q =
        let e : levels_of r ≡ stack unused s.levels top = rw (p, q) in
        record { blocks = rw (e, open_level); starts = rw (e, open_level) }

  pub closed_any : r.levels ≡ s.levels → r.depth ≡ s.depth - 1 → Changed s EndIf number r
  closed_any p q =
      by_cases (leb s.depth 0)
      (λ e. closed_none (leb-true s.depth 0 e) (omega (arith, leb-true s.depth 0 e)))
      (λ e. closed_changed (s.depth - 1) (omega (arith, leb-false s.depth 0 e)) p q)

-- each open block has the line that opened it
pub after_alike : (line : BlockLine) (number : ℕ) (bs : List OpenBlock) (starts : List ℕ) → length bs ≡ length starts
    → length (blocks_after line bs) ≡ length (starts_after line number starts)
after_alike (Open first second) number bs starts e = ap suc e
after_alike Else number [] starts e = e
after_alike Else number (b ∷ bs) starts e = e
after_alike EndIf number bs starts e = rw (length-drop 1 bs, length-drop 1 starts, e)

-- by what a match told of the line
pub room_told : (line : BlockLine) (first second : Bool) (n : ℕ) → RoomFor (depth_limit - n) line → line ≡ Open first second → n < depth_limit
room_told line first second n h q = let p : 0 < depth_limit - n = rw q at h in omega arith

pub changed_as : {s r : Blocks} {number : ℕ} {line other : BlockLine} → Changed s other number r → line ≡ other → Changed s line number r
changed_as h q = rw q h
