-- The names of elements and attributes, as they stand in the text.
use Rattle.std.specs.Prelude.{ℕ, List, codes}
use Rattle.lrc_svg.specs.declared.name.Tag.{Tag}
use Rattle.lrc_svg.specs.declared.name.Tag.TheVariants as tags
use Rattle.lrc_svg.specs.declared.name.Key.{Key}
use Rattle.lrc_svg.specs.declared.name.Key.TheVariants as keys

unfoldable pub tag_word : Tag → List ℕ
tag_word tags.Picture = codes "svg"
tag_word tags.Hint = codes "title"
tag_word tags.Group = codes "g"
tag_word tags.Box = codes "rect"
tag_word tags.Line = codes "line"
tag_word tags.Path = codes "path"
tag_word tags.Label = codes "text"

unfoldable pub key_word : Key → List ℕ
key_word keys.Space = codes "xmlns"
key_word keys.View = codes "viewBox"
key_word keys.Width = codes "width"
key_word keys.Height = codes "height"
key_word keys.X = codes "x"
key_word keys.Y = codes "y"
key_word keys.FromX = codes "x1"
key_word keys.FromY = codes "y1"
key_word keys.ToX = codes "x2"
key_word keys.ToY = codes "y2"
key_word keys.Points = codes "d"
key_word keys.Fill = codes "fill"
key_word keys.Stroke = codes "stroke"
key_word keys.StrokeWidth = codes "stroke-width"
key_word keys.Dashes = codes "stroke-dasharray"
key_word keys.Family = codes "font-family"
key_word keys.FontSize = codes "font-size"
key_word keys.Weight = codes "font-weight"
key_word keys.Anchor = codes "text-anchor"
