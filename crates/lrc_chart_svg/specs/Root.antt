-- The root of a drawing: how large it is, and the letters of its words.
use Rattle.std.specs.Prelude.{◌≡◌, ℕ, List, [], ◌∷◌, ◌++◌, codes, decimal}
use Rattle.lrc_chart_model.specs.declared.picture.Picture.{Picture}
use Rattle.lrc_svg.specs.declared.element.Attribute.{Attribute}
use Rattle.lrc_svg.specs.declared.name.Key.{Key}
use Rattle.lrc_svg.specs.declared.name.Key.TheVariants as keys
use Rattle.lrc_chart_svg.specs.Attributes.{said}
use Rattle.lrc_chart_svg.specs.Heights.{picture_high}
use Rattle.lrc_chart_svg.specs.Plan.{plan_of}
use Rattle.lrc_chart_svg.specs.Sizes.{picture_wide}

-- what is said of a whole of this size: all of it is shown, from its corner on, pixel by pixel, and words are 12 pixels high
abbrev pub whole_said : (wide high : ℕ) → List (Key × List ℕ)
whole_said wide high =
    (keys.Space, codes "http://www.w3.org/2000/svg") ∷ (keys.View, codes "0 0 " ++ decimal wide ++ codes " " ++ decimal high)
    ∷ (keys.Width, decimal wide) ∷ (keys.Height, decimal high) ∷ (keys.Family, codes "DejaVu Sans Mono, Menlo, Consolas, monospace")
    ∷ (keys.FontSize, codes "12") ∷ []

-- these are the attributes of the root, in order, and no other
abbrev pub IsRootOf : Picture → List Attribute → Type 0
IsRootOf picture attributes = said attributes ≡ whole_said (picture_wide (plan_of picture) picture) (picture_high (plan_of picture) picture)
