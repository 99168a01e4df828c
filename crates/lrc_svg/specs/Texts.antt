-- The text of a picture.
use Rattle.std.specs.Prelude.{ℕ, ◌==◌, ◌&&◌, List, [], ◌∷◌, ◌++◌, codes, nat_le, if◌then◌else◌}
use Rattle.std.specs.List.{flat_map}
use Rattle.lrc_svg.specs.declared.element.Attribute.{Attribute}
use Rattle.lrc_svg.specs.declared.element.Content.{Content, Row_of-Content, end_of-Content, more_of-Content}
use Rattle.lrc_svg.specs.declared.element.Content.TheVariants.{Text, Element'}
use Rattle.lrc_svg.specs.declared.element.Document.{Document}
use Rattle.lrc_svg.specs.declared.name.Tag.{Tag}
use Rattle.lrc_svg.specs.declared.name.Tag.TheVariants.{Picture}
use Rattle.lrc_svg.specs.Names.{key_word, tag_word}

-- a byte of a text: the signs of the form by their names, what is not printable ASCII as a question mark, and else itself
abbrev pub byte_text : ℕ → List ℕ
byte_text byte =
    if byte == 38 then codes "&amp;"
    else if byte == 60 then codes "&lt;"
    else if byte == 62 then codes "&gt;"
    else if byte == 34 then codes "&quot;"
    else if nat_le 32 byte && nat_le byte 126 then byte ∷ []
    else codes "?"

abbrev pub escaped : List ℕ → List ℕ
escaped words = flat_map byte_text words

abbrev pub attribute_text : Attribute → List ℕ
attribute_text attribute = codes " " ++ key_word attribute.key ++ codes "=\"" ++ escaped attribute.value.items ++ codes "\""

abbrev pub attributes_text : List Attribute → List ℕ
attributes_text attributes = flat_map attribute_text attributes

-- what an element begins with, and ends with
abbrev pub open_text : Tag → List Attribute → List ℕ
open_text tag attributes = codes "<" ++ tag_word tag ++ attributes_text attributes ++ codes ">"

abbrev pub close_text : Tag → List ℕ
close_text tag = codes "</" ++ tag_word tag ++ codes ">"

-- what stands in an element: words, or an element with what stands in it
abbrev mutual
  pub content_text : Content → List ℕ
  content_text (Text words) = escaped words.items
  content_text (Element' tag attributes shape inside) = open_text tag attributes.items ++ row_text inside ++ close_text tag

  pub row_text : {m : _} → Row_of-Content m → List ℕ
  row_text end_of-Content = []
  row_text (more_of-Content first more) = content_text first ++ row_text more

-- a picture
abbrev pub document_text : Document → List ℕ
document_text document =
    open_text Picture document.attributes.items ++ flat_map content_text document.inside.items ++ close_text Picture ++ codes "\n"
