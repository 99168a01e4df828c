-- Texts in parts, so that none has to lie in one piece.
use Rattle.std.specs.Prelude.{ℕ, List, map, Vec}
use Rattle.std.specs.declared.alloc.Global.{Global}
use Rattle.std.specs.List.{flat_map}

-- the bytes of each part of a text, and of the whole
abbrev pub texts_of : List (Vec ℕ Global) → List (List ℕ)
texts_of parts = map (λ part. part.items) parts

abbrev pub whole_text : List (Vec ℕ Global) → List ℕ
whole_text parts = flat_map (λ part. part.items) parts
