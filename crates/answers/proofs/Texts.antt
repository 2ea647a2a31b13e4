-- How a text grows.
use Rattle.std.proofs.Common.{◌≡◌, ℕ, ◌+◌, ◌-◌, ◌≤◌, min, List, ◌++◌, length, take, ap, sym, ◌∙◌, arith}
use Rattle.std.proofs.lemmas.Slice.{take-put_mid}
use Rattle.std.proofs.lemmas.List.{length-take-le, take_min}
use Rattle.std.proofs.Math.Seq.{take-append-add}
use borrow.Rule.Slice.PartMut.{put_mid}

-- as many bytes as there is room for, put behind the first n of a buffer of 256
pub text_more :
    (bytes more : List ℕ) (n count k : ℕ) → length bytes ≡ 256 → n ≤ 256 → count ≡ min (length more) (256 - n)
    → take (n + count) (put_mid n k bytes (take count more)) ≡ take 256 (take n bytes ++ more)
text_more bytes more n count k size few is =
    let front : length (take n bytes) ≡ n = length-take-le n bytes (omega arith) in
    let put : length (take count more) ≡ count = length-take-le count more (omega arith) in
    let least : count ≡ min (256 - n) (length more) = omega arith in
    let some : take count more ≡ take (256 - n) more = ap (λ m. take m more) least ∙ take_min (256 - n) more in
    let whole : 256 ≡ length (take n bytes) + (256 - n) = omega arith in
    take-put_mid n k bytes (take count more) (n + count) (omega arith) (omega arith)
    ∙ ap (λ l. take n bytes ++ l) some
    ∙ sym (ap (λ m. take m (take n bytes ++ more)) whole ∙ take-append-add (take n bytes) more (256 - n))
