-- What a writer has after a text was written to it, or a proper front of the text, where a write failed.
use Rattle.std.specs.Prelude.{◌<◌, ℕ, List, Option, length, take}
use Rattle.std.specs.Io.KnownBytes.{Appends}

-- known bytes grow by the first bytes of the text, and not by all of them
abbrev pub AppendsFront : Option (List ℕ) → Option (List ℕ) → List ℕ → Type 0
AppendsFront old new text = (count : ℕ) × (count < length text) × Appends old new (take count text)
