-- Compiling a listing gives the words that were listed.
use Rattle.std.proofs.Common.{◌≡◌, ℕ, suc, ◌+◌, ◌*◌, ◌≤◌, List, [], ◌∷◌, ◌++◌, length, take, drop, map, Ok}
use Rattle.std.proofs.Common.{refl, ap, ◌∙◌, length-append, arith}
use mathlib.Core.List.{append-nil}
use native.Mathlib.Nat.{add-zero}
use lib.Seq.{append_snoc, take_at}
use borrow.Author.Tests.{le-ltb}
use Rattle.basics.specs.Refusals.{answered}
use Rattle.lines.specs.Lines.{lines_of, without_cr}
use Rattle.lines.specs.Texts.{text_limit, next, accepted, run_lines, run_text}
use Rattle.definitions.specs.declared.Definition.{Definition}
use Rattle.definitions.specs.Effects.{verdict_of}
use Rattle.definitions.proofs.Admission.{Admits, admits_limit}
use Rattle.pairs.specs.Words.{table_words, pairs_of, image_of, charset_of, definitions}
use Rattle.table.specs.Check.{lent_table}
use Rattle.table.proofs.Readback.{InRange, AllInRange, Lent, lent_table_lem, pairs_length}
use Rattle.compiler.specs.Compile.{line_effect, SoFar, so_far, step, compiled, compile_reply}
use Rattle.compiler.proofs.Texts.{accepted_words}
use Rattle.editions.specs.Editions.{edition_reply, edition_words}
use Rattle.listing.specs.Listing.{line_of, listing}
use Rattle.round_trip.specs.RoundTrip.{ListsBack}
use Rattle.round_trip.proofs.Bytes.{plain_lines, plain_cr}
use Rattle.round_trip.proofs.Lines.{listed_back}

-- the definitions so far, where no block is open
abbrev so : List Definition → ℕ → SoFar
so ds n = so_far ds [] [] n

module _ (charset : ℕ) where
  listing_lines : (ds : List Definition) → AllInRange ds → lines_of (listing ds) ≡ map line_of ds
  unfolding listing lines_of
  listing_lines [] f = refl
  listing_lines (d ∷ ds) f = rw (plain_lines (line_of d) (listing ds) (listed_back charset [] d f.0).plain, listing_lines ds f.1)

  listing_short : (ds : List Definition) → AllInRange ds → length (listing ds) ≤ 28 * length ds
  unfolding listing
  listing_short [] f = omega arith
  listing_short (d ∷ ds) f = omega (arith, length-append (line_of d) (10 ∷ listing ds), (listed_back charset [] d f.0).short, listing_short ds f.1)

  step_listed : (ds : List Definition) (n : ℕ) (d : Definition) → InRange d → verdict_of ds d ≡ Ok tt
      → step charset (so ds n) (without_cr (line_of d)) ≡ next (so (ds ++ d ∷ []) (n + 1))
  unfolding step line_effect
  step_listed ds n d f v = let b = listed_back charset ds d f in rw (plain_cr (line_of d) b.plain, b.reads, v)

  run_listed : (rs ds : List Definition) (n k : ℕ) → Admits ds rs → AllInRange rs
      → run_lines (step charset) (map line_of rs) n (so ds k) ≡ accepted (so (ds ++ rs) (k + length rs))
  unfolding run_lines
  run_listed [] ds n k h f = cc (append-nil ds, add-zero k)
  run_listed (d ∷ rs) ds n k h f =
      let size : k + 1 + length rs ≡ k + suc (length rs) = omega arith in
      rw (step_listed ds k d f.0 h.0) (rw (append_snoc ds d rs, size) at (run_listed rs (ds ++ d ∷ []) (n + 1) (k + 1) h.1 f.1))

  -- a listing compiles to the definitions that it lists
  listing_compiled : (ds : List Definition) → Admits [] ds → AllInRange ds → compiled charset (listing ds) ≡ accepted ds
  unfolding compiled run_text
  listing_compiled ds h f =
      let short : length (listing ds) ≤ text_limit = omega (arith, listing_short ds f, admits_limit ds h) in
      rw (le-ltb text_limit (length (listing ds)) short, listing_lines ds f, run_listed ds [] 1 0 h f)

module _ (ws slice : List ℕ) (enough : table_words ≤ length slice) where
  from_lent : (n : ℕ) → Lent ws n → ListsBack ws slice (definitions n ws)
  unfolding edition_reply edition_words compile_reply
  from_lent n l =
      let ds = definitions n ws in
      let set = charset_of ws in
      let e = listing_compiled set ds l.admits l.in_range in
      let size : length (image_of set ds) ≡ table_words =
      omega (arith, length-append (pairs_of ds) (set ∷ 0 ∷ []), pairs_length ds (admits_limit ds l.admits)) in
      let listed : take table_words ws ≡ image_of set ds = ap (take table_words) l.image ∙ take_at (image_of set ds) (drop table_words ws) table_words size in
      record {
        short = listing_short set ds l.in_range;
        count = rw (l.charset, le-ltb (length slice) table_words enough, e);
        words = rw listed (accepted_words set (listing ds) slice l.charset enough e);
      }

  -- the claim: for every lent slice that passes the check, whether it was compiled or not
  pub lists_back : (ds : List Definition) → lent_table ws ≡ answered ds → ListsBack ws slice ds
  lists_back ds e = lent_table_lem (λ rs. ListsBack ws slice rs) ws ds from_lent e
