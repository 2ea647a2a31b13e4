-- The cells of the 256 bytes.
use Rattle.std.proofs.Common.{◌≡◌, refl, ap, ◌∙◌, sym, ℕ, zero, suc, ◌+◌, ◌<◌, List, [], ◌∷◌, Option, None, length, get_or, set, ⊎_elim, arith}
use Rattle.std.proofs.Common.{get_or-set_same, get_or-set_other}
use Rattle.std.proofs.lemmas.Bool.{cases_eq}
use Rattle.std.proofs.lemmas.List.{length-set}
use Rattle.std.proofs.lemmas.List.FromFn.{fill_by_all}
use Rattle.attributes.specs.declared.State.{State}
use Rattle.byte_tables.specs.Compile.{shown_by, cells_from}

pub cells_length : (places : List State) (owns : List (Option ℕ)) (byte : ℕ) → length (cells_from places owns byte) ≡ length owns
unfolding cells_from
cells_length places [] byte = refl
cells_length places (s ∷ ss) byte = ap suc (cells_length places ss (byte + 1))

-- the cell of one byte
pub cell_at : (places : List State) (owns : List (Option ℕ)) (byte i : ℕ) → i < length owns
    → get_or (cells_from places owns byte) i 0 ≡ shown_by places (get_or owns i None) (byte + i)
unfolding cells_from
cell_at places [] byte i h = absurd (omega arith)
cell_at places (s ∷ ss) byte zero h = let same : byte + 0 ≡ byte = omega arith in rw same
cell_at places (s ∷ ss) byte (suc i) h =
    let same : (byte + 1) + i ≡ byte + suc i = omega arith in
    rw same at (cell_at places ss (byte + 1) i (omega arith))

-- an array that has the cell of each byte
cells_written : (places : List State) (owns : List (Option ℕ)) (cells : List ℕ) → length owns ≡ 256 → length cells ≡ 256
    → ((k : ℕ) → k < 256 → get_or cells k 0 ≡ shown_by places (get_or owns k None) k) → cells ≡ cells_from places owns 0
cells_written places owns cells size long each =
    let own : ℕ → ℕ = (λ k. shown_by places (get_or owns k None) k) in
    let all = cells_from places owns 0 in
    let here : (k : ℕ) → k < 256 → get_or all k 0 ≡ own k =
    (λ k h. let zero-on : 0 + k ≡ k = omega arith in rw zero-on at (cell_at places owns 0 k (omega arith))) in
    fill_by_all own cells 256 0 long each ∙ sym (fill_by_all own all 256 0 (omega (arith, cells_length places owns 0)) here)

-- the last byte's cell is written, behind those of all others
pub last_written : (places : List State) (owns : List (Option ℕ)) (cells : List ℕ) (byte : ℕ) {v : ℕ} → length owns ≡ 256 → length cells ≡ 256
    → ((k : ℕ) → k < byte → get_or cells k 0 ≡ shown_by places (get_or owns k None) k) → byte ≡ 255 → v ≡ shown_by places (get_or owns byte None) byte
    → set cells byte v ≡ cells_from places owns 0
last_written places owns cells byte {v} size long each last own =
    cells_written places owns (set cells byte v) size (length-set cells byte v ∙ long)
    (λ k h.
    ⊎_elim (λ same. rw same (get_or-set_same cells byte v 0 (omega arith) ∙ own))
    (λ other. get_or-set_other cells byte k v 0 other ∙ each k (omega arith)) (cases_eq k byte))
