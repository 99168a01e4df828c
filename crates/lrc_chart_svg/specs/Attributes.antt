-- What the attributes of an element say.
use Rattle.std.specs.Prelude.{ℕ, List, codes, map}
use Rattle.lrc_svg.specs.declared.element.Attribute.{Attribute}
use Rattle.lrc_svg.specs.declared.name.Key.{Key}
use Rattle.lrc_chart_svg.specs.declared.style.Anchor.{Anchor}
use Rattle.lrc_chart_svg.specs.declared.style.Anchor.TheVariants.{Start, End}

-- their names, in order, each with its value
abbrev pub said : List Attribute → List (Key × List ℕ)
said attributes = map (λ attribute. (attribute.key, attribute.value.items)) attributes

-- the value that says whether words begin or end at their place
unfoldable pub anchor_word : Anchor → List ℕ
anchor_word Start = codes "start"
anchor_word End = codes "end"
