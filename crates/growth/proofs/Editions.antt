-- Demand 3 of the compile call that names its edition and its set: the claim, word for word, of the words that it leaves in the present edition.
use Rattle.std.proofs.Common.{◌≡◌, ℕ, true, List, ◌++◌, length}
use Rattle.basics.specs.Refusals.{answered}
use Rattle.scalars.specs.Characters.{is_scalar}
use Rattle.lines.specs.Lines.{is_ended}
use Rattle.editions.specs.Editions.{edition_reply, edition_words}
use Rattle.growth.specs.Growth.{Lookups, Typings}
use Rattle.growth.proofs.Growth.{never_spoils}

pub present_never_spoils : (charset : ℕ) (text more slice slice' : List ℕ) → is_ended text ≡ true
    → (count : ℕ) → edition_reply 2 charset text (length slice) ≡ answered count → (count' : ℕ)
    → edition_reply 2 charset (text ++ more) (length slice') ≡ answered count'
    → ((c : ℕ) → is_scalar c ≡ true
    → Lookups charset text more (edition_words 2 charset text slice) (edition_words 2 charset (text ++ more) slice') c)
    × Typings (edition_words 2 charset text slice) (edition_words 2 charset (text ++ more) slice')
unfolding edition_reply edition_words
present_never_spoils charset text more slice slice' ended count accepts count' accepts' =
    let kept = never_spoils charset text more slice slice' (record { ended = ended; count = count; accepts = accepts; count' = count'; accepts' = accepts' }) in
    (kept.shown, kept.typed)
