-- Not to be believed: words of inner contracts, on which no contract of what users call rests.
-- A text by value: 48 bytes of which the first `len` are the text, zeros behind them.
use Rattle.std.specs.Prelude.{ℕ, ◌+◌, ◌-◌, List, ◌++◌, length, replicate}
use Rattle.std.proofs.lemmas.List.Edits.{sets}
use Rattle.texts.specs.declared.Text.{Text}

unfoldable pub held : List ℕ → Text
held t = record { bytes = t ++ replicate (48 - length t) 0; len = length t }

-- bytes stored behind a text
unfoldable pub added : Text → List ℕ → Text
added t s = record { bytes = sets t.bytes t.len s; len = t.len + length s }
