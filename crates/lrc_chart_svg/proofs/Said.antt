-- Names and values of attributes, read off what the attributes say.
use Rattle.std.proofs.Common.{◌≡◌, ◌∙◌, ◌++◌, ◌∷◌, [], ◌==◌, ◌&&◌, ◌||◌, ◌<◌, ◌^◌, ℕ, Bool, List, false, true, ap, ap₂, append-nil, decimal, refl}
use Rattle.std.specs.Prelude.{cond, map, nat_eq, not}
use lib.Pointwise.{pointwise}
use Rattle.std.proofs.lemmas.List.{map-append}
use Rattle.lrc_svg.specs.declared.element.Attribute.{Attribute}
use Rattle.lrc_svg.specs.declared.name.Key.{Key}
use Rattle.lrc_svg.specs.declared.name.Key.TheVariants as keys
use Rattle.lrc_svg.specs.declared.name.Tag.{Tag}
use Rattle.lrc_svg.specs.declared.name.Tag.TheVariants as tags
use Rattle.lrc_chart_svg.specs.Attributes.{said}
use Rattle.lrc_chart_svg.specs.Marks.{Mark, attribute_value, begins_with_digit, behind_digits, box, digits_first, from_height, has_its_own}
use Rattle.lrc_chart_svg.specs.Marks.{is_anchor, is_border, is_dashes, is_down, is_from, is_from_left, is_high, is_left, is_to, is_to_left}
use Rattle.lrc_chart_svg.specs.Marks.{is_wide, key_number, named_once, names_key, names_of, own, path, path_of, stroke, undrawn, word}
use Rattle.lrc_chart_svg.proofs.Points.{left_is, start_is, strokes_are, written}

abbrev Saying : Type 0
Saying = Key × List ℕ

-- the same of what is said as of the attributes that say it
abbrev names_said : ℕ → List Saying → Bool
names_said number [] = false
names_said number (first ∷ more) = (key_number first.0 == number) || names_said number more

abbrev pub said_once : List Saying → Bool
said_once [] = true
said_once (first ∷ more) = not (names_said (key_number first.0) more) && said_once more

abbrev pub value_said : (Key → Bool) → List Saying → List ℕ
value_said is [] = []
value_said is (first ∷ more) = cond (is first.0) first.1 (value_said is more)

names_are : (number : ℕ) (a : List Attribute) → names_key number a ≡ names_said number (said a)
names_are number [] = refl
names_are number (first ∷ more) = ap (λ b. (key_number first.key == number) || b) (names_are number more)

once_is : (a : List Attribute) → named_once a ≡ said_once (said a)
once_is [] = refl
once_is (first ∷ more) = ap₂ (λ (b c : Bool). not b && c) (names_are (key_number first.key) more) (once_is more)

pub value_is : (is : Key → Bool) (a : List Attribute) → attribute_value is a ≡ value_said is (said a)
value_is is [] = refl
value_is is (first ∷ more) = ap (λ l. cond (is first.key) first.value.items l) (value_is is more)

-- an attribute more
pub one_more : (old : List Attribute) (a : Attribute) → said (old ++ a ∷ []) ≡ said old ++ (a.key, a.value.items) ∷ []
one_more old a = map-append _ old (a ∷ [])

-- what the first and the next attributes say
pub said_in_two : (none middle all : List Attribute) (a b : List Saying) → none ≡ [] → said middle ≡ said none ++ a → said all ≡ said middle ++ b
    → said all ≡ a ++ b
said_in_two none middle all a b empty first second = second ∙ ap (λ l. l ++ b) (first ∙ ap (λ n. said n ++ a) empty)

pub said_in_one : (none all : List Attribute) (a : List Saying) → none ≡ [] → said all ≡ said none ++ a → said all ≡ a
said_in_one none all a empty first = first ∙ ap (λ n. said n ++ a) empty

pub once_by : (a : List Attribute) (s : List Saying) → said a ≡ s → said_once s ≡ true → named_once a ≡ true
once_by a s is once = once_is a ∙ ap said_once is ∙ once

-- an element has the attributes of its kind if it says so
numbers_are : (a : List Attribute) → map (λ attribute. key_number attribute.key) a ≡ map (λ (one : Saying). key_number one.0) (said a)
numbers_are [] = refl
numbers_are (first ∷ more) = ap (λ l. key_number first.key ∷ l) (numbers_are more)

pub own_by : (tag : Tag) (a : List Attribute) (s : List Saying) → said a ≡ s
    → pointwise nat_eq (map (λ (one : Saying). key_number one.0) s) (names_of tag) ≡ true → has_its_own tag a ≡ true
own_by tag a s is own =
    ap (λ l. pointwise nat_eq l (names_of tag)) (numbers_are a ∙ ap (map (λ (one : Saying). key_number one.0)) is) ∙ own

-- what labels, lines, boxes and paths show by what their attributes say
pub label_shows : (a : List Attribute) (words told x y anchor : List ℕ) (more : List Saying)
    → said a ≡ (keys.X, x) ∷ (keys.Y, y) ∷ (keys.Anchor, anchor) ∷ more → words ≡ told → own tags.Label a words ≡ word x y anchor told ∷ []
label_shows a words told x y anchor more is told_is =
    ap₂ (λ l m. word l m (attribute_value is_anchor a) words ∷ []) (value_is is_left a ∙ ap (value_said is_left) is)
    (value_is is_down a ∙ ap (value_said is_down) is)
    ∙ ap₂ (λ l m. word x y l m ∷ []) (value_is is_anchor a ∙ ap (value_said is_anchor) is) told_is

pub line_shows : (a : List Attribute) (x y u v stroke_of width dashes : List ℕ)
    → said a ≡ (keys.FromX, x) ∷ (keys.FromY, y) ∷ (keys.ToX, u) ∷ (keys.ToY, v) ∷ (keys.Stroke, stroke_of) ∷ (keys.StrokeWidth, width)
    ∷ (keys.Dashes, dashes) ∷ [] → own tags.Line a [] ≡ stroke x y u v dashes ∷ []
line_shows a x y u v stroke_of width dashes is =
    ap₂ (λ l m. stroke l m (attribute_value is_to_left a) (attribute_value is_to a) (attribute_value is_dashes a) ∷ [])
    (value_is is_from_left a ∙ ap (value_said is_from_left) is) (value_is is_from a ∙ ap (value_said is_from) is)
    ∙ ap₂ (λ l m. stroke x y l m (attribute_value is_dashes a) ∷ []) (value_is is_to_left a ∙ ap (value_said is_to_left) is)
    (value_is is_to a ∙ ap (value_said is_to) is)
    ∙ ap (λ d. stroke x y u v d ∷ []) (value_is is_dashes a ∙ ap (value_said is_dashes) is)

pub box_shows : (a : List Attribute) (x y u v fill stroke_of width dashes : List ℕ)
    → said a ≡ (keys.X, x) ∷ (keys.Y, y) ∷ (keys.Width, u) ∷ (keys.Height, v) ∷ (keys.Fill, fill) ∷ (keys.Stroke, stroke_of)
    ∷ (keys.StrokeWidth, width) ∷ (keys.Dashes, dashes) ∷ [] → own tags.Box a [] ≡ box x y u v width dashes ∷ []
box_shows a x y u v fill stroke_of width dashes is =
    ap₂
    (λ l m.
    box l m (attribute_value is_wide a) (attribute_value is_high a) (attribute_value is_border a) (attribute_value is_dashes a) ∷ [])
    (value_is is_left a ∙ ap (value_said is_left) is) (value_is is_down a ∙ ap (value_said is_down) is)
    ∙ ap₂ (λ l m. box x y l m (attribute_value is_border a) (attribute_value is_dashes a) ∷ [])
    (value_is is_wide a ∙ ap (value_said is_wide) is) (value_is is_high a ∙ ap (value_said is_high) is)
    ∙ ap₂ (λ l m. box x y u v l m ∷ []) (value_is is_border a ∙ ap (value_said is_border) is)
    (value_is is_dashes a ∙ ap (value_said is_dashes) is)

pub path_shows : (a : List Attribute) (x y : ℕ) (strokes fill stroke_of width dashes : List ℕ) → x < 10 ^ 64 → y < 10 ^ 64
    → begins_with_digit strokes ≡ false
    → said a ≡ (keys.Points, written x y strokes) ∷ (keys.Fill, fill) ∷ (keys.Stroke, stroke_of) ∷ (keys.StrokeWidth, width)
    ∷ (keys.Dashes, dashes) ∷ [] → own tags.Path a [] ≡ path (decimal x) (decimal y) strokes dashes ∷ []
path_shows a x y strokes fill stroke_of width dashes few some none is =
    ap₂ (λ p d. path_of p d ∷ []) (value_is _ a ∙ ap (value_said _) is) (value_is _ a ∙ ap (value_said _) is)
    ∙ ap (λ n. path n (digits_first (from_height (written x y strokes))) (behind_digits (from_height (written x y strokes))) dashes ∷ [])
    (left_is x y strokes few)
    ∙ ap₂ (λ l m. path (decimal x) l m dashes ∷ []) (start_is x y strokes few some none) (strokes_are x y strokes few some none)

-- an element in which nothing shows anything
pub shows_alone : (old shown by_itself inside : List Mark) → by_itself ≡ shown → inside ≡ []
    → old ++ by_itself ++ undrawn inside ++ [] ≡ old ++ shown
shows_alone old shown by_itself inside is none =
    append-nil (old ++ by_itself ++ undrawn inside) ∙ ap₂ (λ (o i : List Mark). old ++ o ++ undrawn i) is none ∙ append-nil (old ++ shown)
