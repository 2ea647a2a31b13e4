-- What a text holds.
use Rattle.std.specs.Prelude.{ℕ, List, take}
use Rattle.answers.specs.declared.Text.{Text}

abbrev pub bytes_of : Text → List ℕ
bytes_of text = take text.length text.bytes
