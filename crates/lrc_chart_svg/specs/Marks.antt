-- What a reader sees in a tree of elements, read off it in order: words with their places, straight lines with those of their ends, boxes
-- with their places, sizes and borders, paths with their places and strokes, hints, and which of these are one element.
use Rattle.std.specs.Prelude.{ℕ, ◌==◌, ◌&&◌, ◌||◌, Bool, true, false, not, List, [], ◌∷◌, ◌++◌, cond, map, nat_eq, nat_le}
use Rattle.std.specs.List.{flat_map}
use lib.Pointwise.{pointwise}
use Rattle.lrc_svg.specs.declared.element.Attribute.{Attribute}
use Rattle.lrc_svg.specs.declared.element.Content.{Content, Row_of-Content, end_of-Content, more_of-Content}
use Rattle.lrc_svg.specs.declared.element.Content.TheVariants.{Text, Element'}
use Rattle.lrc_svg.specs.declared.name.Key.{Key}
use Rattle.lrc_svg.specs.declared.name.Key.TheVariants as keys
use Rattle.lrc_svg.specs.declared.name.Tag.{Tag}
use Rattle.lrc_svg.specs.declared.name.Tag.TheVariants as tags

pub data Mark : Type 0 where
  -- words: how far they are from the left, how far down their foot is, whether they begin or end there, and what they are; the letters
  -- are those that the whole names, for no element in it names others
  word : (left foot anchor words : List ℕ) → Mark
  -- a straight line: how far from the left and how far down it begins, the same of where it ends, and the lengths of its dashes
  stroke : (from_left from to_left to dashes : List ℕ) → Mark
  hint : (words : List ℕ) → Mark
  -- a box: how far from the left and how far down its corner is, how wide and how high it is, how wide its border is, and the lengths of
  -- the border's dashes
  box : (left top wide high border dashes : List ℕ) → Mark
  -- a path: how far from the left and how far down it starts, its strokes from there, and the lengths of their dashes
  path : (left start strokes dashes : List ℕ) → Mark
  -- what stands between these two is one element
  begins : Mark
  ends : Mark
  -- an element that lacks an attribute of its kind, or names one twice or one of another kind, as letters of its own; a picture within
  -- another, of a size of its own; or what stands in an element in which no reader draws anything
  unreadable : Mark

-- the number of a name
abbrev pub key_number : Key → ℕ
key_number keys.Space = 0
key_number keys.View = 1
key_number keys.Width = 2
key_number keys.Height = 3
key_number keys.X = 4
key_number keys.Y = 5
key_number keys.FromX = 6
key_number keys.FromY = 7
key_number keys.ToX = 8
key_number keys.ToY = 9
key_number keys.Points = 10
key_number keys.Fill = 11
key_number keys.Stroke = 12
key_number keys.StrokeWidth = 13
key_number keys.Dashes = 14
key_number keys.Family = 15
key_number keys.FontSize = 16
key_number keys.Weight = 17
key_number keys.Anchor = 18

-- whether one of these attributes has the name of this number
abbrev pub names_key : ℕ → List Attribute → Bool
names_key number [] = false
names_key number (first ∷ more) = (key_number first.key == number) || names_key number more

-- whether each is named once
abbrev pub named_once : List Attribute → Bool
named_once [] = true
named_once (first ∷ more) = not (names_key (key_number first.key) more) && named_once more

-- the names of an element's attributes, in order, each by its number; no element names letters
abbrev pub names_of : Tag → List ℕ
names_of tags.Label =
    key_number keys.X ∷ key_number keys.Y ∷ key_number keys.Anchor ∷ key_number keys.Fill ∷ key_number keys.Weight ∷ []
names_of tags.Line =
    key_number keys.FromX ∷ key_number keys.FromY ∷ key_number keys.ToX ∷ key_number keys.ToY ∷ key_number keys.Stroke
    ∷ key_number keys.StrokeWidth ∷ key_number keys.Dashes ∷ []
names_of tags.Box =
    key_number keys.X ∷ key_number keys.Y ∷ key_number keys.Width ∷ key_number keys.Height ∷ key_number keys.Fill ∷ key_number keys.Stroke
    ∷ key_number keys.StrokeWidth ∷ key_number keys.Dashes ∷ []
names_of tags.Path =
    key_number keys.Points ∷ key_number keys.Fill ∷ key_number keys.Stroke ∷ key_number keys.StrokeWidth ∷ key_number keys.Dashes ∷ []
names_of tags.Hint = []
names_of tags.Group = []
names_of tags.Picture = []

-- whether an element's attributes are these and no other
abbrev pub has_its_own : Tag → List Attribute → Bool
has_its_own tag attributes = pointwise nat_eq (map (λ attribute. key_number attribute.key) attributes) (names_of tag)

-- how far from the left a box or words are, and how far down
abbrev pub is_left : Key → Bool
is_left keys.X = true
is_left other = false

abbrev pub is_down : Key → Bool
is_down keys.Y = true
is_down other = false

abbrev pub is_wide : Key → Bool
is_wide keys.Width = true
is_wide other = false

abbrev pub is_high : Key → Bool
is_high keys.Height = true
is_high other = false

abbrev pub is_space : Key → Bool
is_space keys.Space = true
is_space other = false

abbrev pub is_from_left : Key → Bool
is_from_left keys.FromX = true
is_from_left other = false

abbrev pub is_from : Key → Bool
is_from keys.FromY = true
is_from other = false

abbrev pub is_to_left : Key → Bool
is_to_left keys.ToX = true
is_to_left other = false

abbrev pub is_to : Key → Bool
is_to keys.ToY = true
is_to other = false

abbrev pub is_anchor : Key → Bool
is_anchor keys.Anchor = true
is_anchor other = false

abbrev pub is_border : Key → Bool
is_border keys.StrokeWidth = true
is_border other = false

abbrev pub is_dashes : Key → Bool
is_dashes keys.Dashes = true
is_dashes other = false

abbrev is_points : Key → Bool
is_points keys.Points = true
is_points other = false

-- the value of the first attribute of such a name
abbrev pub attribute_value : (Key → Bool) → List Attribute → List ℕ
attribute_value is [] = []
attribute_value is (first ∷ more) = cond (is first.key) first.value.items (attribute_value is more)

abbrev pub is_digit : ℕ → Bool
is_digit byte = nat_le 48 byte && nat_le byte 57

abbrev pub begins_with_digit : List ℕ → Bool
begins_with_digit [] = false
begins_with_digit (first ∷ more) = is_digit first

-- the digits that a text begins with, and what stands behind them
abbrev pub digits_first : List ℕ → List ℕ
digits_first [] = []
digits_first (first ∷ more) = cond (is_digit first) (first ∷ digits_first more) []

abbrev pub behind_digits : List ℕ → List ℕ
behind_digits [] = []
behind_digits (first ∷ more) = cond (is_digit first) (behind_digits more) (first ∷ more)

-- what stands behind this byte, with which a text begins
abbrev pub behind_byte : ℕ → List ℕ → List ℕ
behind_byte byte [] = []
behind_byte byte (first ∷ more) = cond (first == byte) more []

-- the points of a path from the height where it starts: behind an `M`, which is 77, the place from the left, and a blank
abbrev pub from_height : (points : List ℕ) → List ℕ
from_height points = behind_byte 32 (behind_digits (behind_byte 77 points))

abbrev pub path_of : (points dashes : List ℕ) → Mark
path_of points dashes =
    path (digits_first (behind_byte 77 points)) (digits_first (from_height points)) (behind_digits (from_height points)) dashes

-- what an element shows by itself, with these words in it
abbrev pub own : Tag → List Attribute → (words : List ℕ) → List Mark
own tags.Label attributes words =
    word (attribute_value is_left attributes) (attribute_value is_down attributes) (attribute_value is_anchor attributes) words ∷ []
own tags.Line attributes words =
    stroke (attribute_value is_from_left attributes) (attribute_value is_from attributes) (attribute_value is_to_left attributes)
    (attribute_value is_to attributes) (attribute_value is_dashes attributes) ∷ []
own tags.Hint attributes words = hint words ∷ []
own tags.Box attributes words =
    box (attribute_value is_left attributes) (attribute_value is_down attributes) (attribute_value is_wide attributes)
    (attribute_value is_high attributes) (attribute_value is_border attributes)
    (attribute_value is_dashes attributes) ∷ []
own tags.Path attributes words = path_of (attribute_value is_points attributes) (attribute_value is_dashes attributes) ∷ []
own tags.Group attributes words = begins ∷ []
own tags.Picture attributes words = unreadable ∷ []

-- what it shows behind what stands in it
abbrev pub behind : Tag → List Mark
behind tags.Group = ends ∷ []
behind other = []

-- marks where no reader draws any
abbrev pub undrawn : List Mark → List Mark
undrawn [] = []
undrawn (first ∷ more) = unreadable ∷ []

-- what is seen of these marks in it: a group alone holds elements
abbrev pub held : Tag → (inside : List Mark) → List Mark
held tags.Group inside = inside
held other inside = undrawn inside

-- what it shows, with these words and marks in it
abbrev pub shown_marks : Tag → List Attribute → (words : List ℕ) → (inside : List Mark) → List Mark
shown_marks tag attributes words inside =
    cond (has_its_own tag attributes) (own tag attributes words ++ held tag inside ++ behind tag) (unreadable ∷ [])

-- words that stand alone
abbrev pub plain_words : Content → List ℕ
plain_words (Text words) = words.items
plain_words (Element' tag attributes shape inside) = []

abbrev pub row_words : {m : _} → Row_of-Content m → List ℕ
row_words end_of-Content = []
row_words (more_of-Content first more) = plain_words first ++ row_words more

abbrev pub all_words : List Content → List ℕ
all_words contents = flat_map plain_words contents

abbrev mutual
  pub marks : Content → List Mark
  marks (Text words) = []
  marks (Element' tag attributes shape inside) = shown_marks tag attributes.items (row_words inside) (row_marks inside)

  pub row_marks : {m : _} → Row_of-Content m → List Mark
  row_marks end_of-Content = []
  row_marks (more_of-Content first more) = marks first ++ row_marks more

-- what all these show, where elements may stand: in a group, and in the picture itself
abbrev pub all_marks : List Content → List Mark
all_marks contents = flat_map marks contents
