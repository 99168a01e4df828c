-- Texts in parts, with some more.
use Rattle.std.proofs.Common.{◌≡◌, ◌∙◌, ◌++◌, ◌∷◌, [], ℕ, List, Vec, ap, append-nil}
use Rattle.std.specs.declared.alloc.Global.{Global}
use Rattle.std.proofs.lemmas.List.Concat.{flat_map-append}
use Rattle.lrc_text.specs.Parts.{whole_text}

abbrev Part : Type 0
Part = Vec ℕ Global

pub joined : (parts more all : List Part) → all ≡ parts ++ more → whole_text all ≡ whole_text parts ++ whole_text more
joined parts more all is = ap whole_text is ∙ flat_map-append (λ (part : Part). part.items) parts more

pub pushed : (parts all : List Part) (part : Part) → all ≡ parts ++ part ∷ [] → whole_text all ≡ whole_text parts ++ part.items
pushed parts all part is = joined parts (part ∷ []) all is ∙ ap (λ (l : List ℕ). whole_text parts ++ l) (append-nil part.items)
