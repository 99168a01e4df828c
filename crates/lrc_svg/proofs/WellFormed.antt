-- The text of a picture is read to its end.
use Rattle.std.proofs.Common.{◌≡◌, ◌∙◌, ◌++◌, ℕ, List, [], ◌∷◌, Bool, true, false, ap, append_assoc, fold, refl, inl, inr}
use Rattle.std.specs.Prelude.{codes, cond, ◌==◌, ◌&&◌, nat_le}
use Rattle.std.specs.List.{flat_map}
use Rattle.std.proofs.lemmas.Bool.{cases_Bool, cases_eq, ne_eqb}
use Rattle.lrc_svg.specs.declared.element.Attribute.{Attribute}
use Rattle.lrc_svg.specs.declared.element.Content.{Content, Row_of-Content, end_of-Content, more_of-Content}
use Rattle.lrc_svg.specs.declared.element.Content.TheVariants.{Text, Element'}
use Rattle.lrc_svg.specs.declared.element.Document.{Document}
use Rattle.lrc_svg.specs.declared.name.Tag.{Tag}
use Rattle.lrc_svg.specs.declared.name.Tag.TheVariants as tags
use Rattle.lrc_svg.specs.declared.name.Key.{Key}
use Rattle.lrc_svg.specs.declared.name.Key.TheVariants as keys
use Rattle.lrc_svg.specs.Names.{key_word, tag_word}
use Rattle.lrc_svg.specs.Reading.{Reader, begun, broken, done, inside, is_text_byte, key, naming, reader_behind, reads, sign, start}
use Rattle.lrc_svg.specs.Reading.{value, value_sign, valued}
use Rattle.lrc_svg.specs.Texts.{attribute_text, attributes_text, byte_text, close_text, content_text, document_text, escaped}
use Rattle.lrc_svg.specs.Texts.{open_text, row_text}

fold_append : {A B : Type 0} (f : B → A → B) (from : B) (a b : List A) → fold f from (a ++ b) ≡ fold f (fold f from a) b
fold_append f from [] b = refl
fold_append f from (x ∷ a) b = fold_append f (f from x) a b

-- one text behind another
after : (reader middle end : Reader) (a b : List ℕ) → reads reader a ≡ middle → reads middle b ≡ end → reads reader (a ++ b) ≡ end
after reader middle end a b first second = fold_append reader_behind reader a b ∙ ap (λ r. reads r b) first ∙ second

-- ---- texts and values

-- what a byte is written as, by what it is
abbrev text_by : (a l g q p : Bool) → ℕ → List ℕ
text_by a l g q p byte =
    cond a (codes "&amp;") (cond l (codes "&lt;") (cond g (codes "&gt;") (cond q (codes "&quot;") (cond p (byte ∷ []) (codes "?")))))

abbrev printable : ℕ → Bool
printable byte = nat_le 32 byte && nat_le byte 126

by_all : (byte : ℕ) (p : Bool) → (byte == 38) ≡ false → (byte == 60) ≡ false → (byte == 62) ≡ false → (byte == 34) ≡ false → printable byte ≡ p
    → byte_text byte ≡ cond p (byte ∷ []) (codes "?")
by_all byte p a l g q is =
    ap (λ x. text_by x (byte == 60) (byte == 62) (byte == 34) (printable byte) byte) a
    ∙ ap (λ x. text_by false x (byte == 62) (byte == 34) (printable byte) byte) l
    ∙ ap (λ x. text_by false false x (byte == 34) (printable byte) byte) g
    ∙ ap (λ x. text_by false false false x (printable byte) byte) q
    ∙ ap (λ x. text_by false false false false x byte) is

text_byte : (byte : ℕ) → (byte == 62) ≡ false → printable byte ≡ true → is_text_byte byte ≡ true
text_byte byte g is = ap (λ x. cond x false (printable byte)) g ∙ is

-- a reader that stays where it is behind what texts and values are written as
record Stays (reader : Reader) : Type 0 where
  ampersand : reads reader (codes "&amp;") ≡ reader
  less : reads reader (codes "&lt;") ≡ reader
  greater : reads reader (codes "&gt;") ≡ reader
  quote : reads reader (codes "&quot;") ≡ reader
  question : reads reader (codes "?") ≡ reader
  plain : (byte : ℕ) → (byte == 38) ≡ false → (byte == 60) ≡ false → (byte == 34) ≡ false → is_text_byte byte ≡ true → reader_behind reader byte ≡ reader

module _ (reader : Reader) (stays : Stays reader) where
  stays_at : (byte : ℕ) → reads reader (byte_text byte) ≡ reader
  stays_at byte =
      elim (cases_eq byte 38) [
        | inl is ↦ ap (λ b. reads reader (byte_text b)) is ∙ stays.ampersand
        | inr a ↦ elim (cases_eq byte 60) [
          | inl is ↦ ap (λ b. reads reader (byte_text b)) is ∙ stays.less
          | inr l ↦ elim (cases_eq byte 62) [
            | inl is ↦ ap (λ b. reads reader (byte_text b)) is ∙ stays.greater
            | inr g ↦ elim (cases_eq byte 34) [
              | inl is ↦ ap (λ b. reads reader (byte_text b)) is ∙ stays.quote
              | inr q ↦
                  let no_a = ne_eqb byte 38 a in
                  let no_l = ne_eqb byte 60 l in
                  let no_g = ne_eqb byte 62 g in
                  let no_q = ne_eqb byte 34 q in
                  elim (cases_Bool (printable byte)) [
                    | inl shown ↦
                        ap (reads reader) (by_all byte true no_a no_l no_g no_q shown)
                        ∙ stays.plain byte no_a no_l no_q (text_byte byte no_g shown)
                    | inr hidden ↦ ap (reads reader) (by_all byte false no_a no_l no_g no_q hidden) ∙ stays.question
                  ]
            ]
          ]
        ]
      ]

  stays_behind : (words : List ℕ) → reads reader (escaped words) ≡ reader
  stays_behind [] = refl
  stays_behind (byte ∷ words) = after reader reader reader (byte_text byte) (escaped words) (stays_at byte) (stays_behind words)

stays_inside : (around : List (List ℕ)) → Stays (inside around)
stays_inside around = record {
  ampersand = refl;
  less = refl;
  greater = refl;
  quote = refl;
  question = refl;
  plain = λ byte a l q is.
      ap (λ x. cond x (begun around) (cond (byte == 38) (sign around []) (cond (is_text_byte byte) (inside around) broken))) l
      ∙ ap (λ x. cond x (sign around []) (cond (is_text_byte byte) (inside around) broken)) a
      ∙ ap (λ x. cond x (inside around) broken) is;
}

stays_value : (around : List (List ℕ)) (name : List ℕ) → Stays (value around name)
stays_value around name = record {
  ampersand = refl;
  less = refl;
  greater = refl;
  quote = refl;
  question = refl;
  plain = λ byte a l q is.
      ap (λ x. cond x (valued around name)
      (cond (byte == 60) broken (cond (byte == 38) (value_sign around name []) (cond (is_text_byte byte) (value around name) broken)))) q
      ∙ ap (λ x. cond x broken (cond (byte == 38) (value_sign around name []) (cond (is_text_byte byte) (value around name) broken))) l
      ∙ ap (λ x. cond x (value_sign around name []) (cond (is_text_byte byte) (value around name) broken)) a
      ∙ ap (λ x. cond x (value around name) broken) is;
}

-- ---- names

key_read : (k : Key) (around : List (List ℕ)) (name : List ℕ) → reads (key around name []) (key_word k ++ codes "=\"") ≡ value around name
unfolding key_word
key_read keys.Space around name = refl
key_read keys.View around name = refl
key_read keys.Width around name = refl
key_read keys.Height around name = refl
key_read keys.X around name = refl
key_read keys.Y around name = refl
key_read keys.FromX around name = refl
key_read keys.FromY around name = refl
key_read keys.ToX around name = refl
key_read keys.ToY around name = refl
key_read keys.Points around name = refl
key_read keys.Fill around name = refl
key_read keys.Stroke around name = refl
key_read keys.StrokeWidth around name = refl
key_read keys.Dashes around name = refl
key_read keys.Family around name = refl
key_read keys.FontSize around name = refl
key_read keys.Weight around name = refl
key_read keys.Anchor around name = refl

tag_read : (t : Tag) (around : List (List ℕ)) → reads (begun around) (tag_word t) ≡ naming around (tag_word t)
unfolding tag_word
tag_read tags.Picture around = refl
tag_read tags.Hint around = refl
tag_read tags.Group around = refl
tag_read tags.Box around = refl
tag_read tags.Line around = refl
tag_read tags.Path around = refl
tag_read tags.Label around = refl

closed_root : (t : Tag) → reads (inside (tag_word t ∷ [])) (close_text t) ≡ done
unfolding tag_word
closed_root tags.Picture = refl
closed_root tags.Hint = refl
closed_root tags.Group = refl
closed_root tags.Box = refl
closed_root tags.Line = refl
closed_root tags.Path = refl
closed_root tags.Label = refl

closed_inside : (t : Tag) (next : List ℕ) (around : List (List ℕ))
    → reads (inside (tag_word t ∷ next ∷ around)) (close_text t) ≡ inside (next ∷ around)
unfolding tag_word
closed_inside tags.Picture next around = refl
closed_inside tags.Hint next around = refl
closed_inside tags.Group next around = refl
closed_inside tags.Box next around = refl
closed_inside tags.Line next around = refl
closed_inside tags.Path next around = refl
closed_inside tags.Label next around = refl

-- ---- elements

-- behind the name of an element, and behind a value of it, an attribute begins alike
record Ready (around : List (List ℕ)) (name : List ℕ) (reader : Reader) : Type 0 where
  blank : reader_behind reader 32 ≡ key around name []
  end : reader_behind reader 62 ≡ inside (name ∷ around)

module _ (around : List (List ℕ)) (name : List ℕ) where
  attribute_read : (reader : Reader) → Ready around name reader → (a : Attribute) → reads reader (attribute_text a) ≡ valued around name
  attribute_read reader ready a =
      let words = escaped a.value.items in
      let front = key_word a.key ++ codes "=\"" in
      let in_value : reads reader (32 ∷ front) ≡ value around name =
      ap (λ r. reads r front) ready.blank ∙ key_read a.key around name in
      let behind_words : reads reader ((32 ∷ front) ++ words) ≡ value around name =
      after reader (value around name) (value around name) (32 ∷ front) words in_value
      (stays_behind (value around name) (stays_value around name) a.value.items) in
      after reader (value around name) (valued around name) ((32 ∷ front) ++ words) (codes "\"") behind_words refl

  attributes_read : (reader : Reader) → Ready around name reader → (all : List Attribute)
      → reads reader (attributes_text all ++ codes ">") ≡ inside (name ∷ around)
  attributes_read reader ready [] = ready.end
  attributes_read reader ready (a ∷ all) =
      ap (reads reader) (append_assoc (attribute_text a) (attributes_text all) (codes ">"))
      ∙ after reader (valued around name) (inside (name ∷ around)) (attribute_text a) (attributes_text all ++ codes ">")
      (attribute_read reader ready a) (attributes_read (valued around name) (record { blank = refl; end = refl }) all)

begun_read : (t : Tag) (all : List Attribute) (around : List (List ℕ))
    → reads (begun around) ((tag_word t ++ attributes_text all) ++ codes ">") ≡ inside (tag_word t ∷ around)
begun_read t all around =
    ap (reads (begun around)) (append_assoc (tag_word t) (attributes_text all) (codes ">"))
    ∙ after (begun around) (naming around (tag_word t)) (inside (tag_word t ∷ around)) (tag_word t) (attributes_text all ++ codes ">")
    (tag_read t around)
    (attributes_read around (tag_word t) (naming around (tag_word t)) (record { blank = refl; end = refl }) all)

opened_inside : (t : Tag) (all : List Attribute) (around : List (List ℕ)) → reads (inside around) (open_text t all) ≡ inside (tag_word t ∷ around)
opened_inside t all around = begun_read t all around

opened_root : (t : Tag) (all : List Attribute) → reads start (open_text t all) ≡ inside (tag_word t ∷ [])
opened_root t all = begun_read t all []

mutual
  content_read : (c : Content) (top : List ℕ) (around : List (List ℕ))
      → reads (inside (top ∷ around)) (content_text c) ≡ inside (top ∷ around)
  content_read (Text words) top around = stays_behind (inside (top ∷ around)) (stays_inside (top ∷ around)) words.items
  content_read (Element' tag attributes shape row) top around =
      let now = inside (top ∷ around) in
      let within = inside (tag_word tag ∷ top ∷ around) in
      after now within now (open_text tag attributes.items ++ row_text row) (close_text tag)
      (after now within within (open_text tag attributes.items) (row_text row)
      (opened_inside tag attributes.items (top ∷ around)) (row_read row (tag_word tag) (top ∷ around)))
      (closed_inside tag top around)

  row_read : {m : _} (row : Row_of-Content m) (top : List ℕ) (around : List (List ℕ))
      → reads (inside (top ∷ around)) (row_text row) ≡ inside (top ∷ around)
  row_read end_of-Content top around = refl
  row_read (more_of-Content first more) top around =
      after (inside (top ∷ around)) (inside (top ∷ around)) (inside (top ∷ around)) (content_text first) (row_text more)
      (content_read first top around) (row_read more top around)

contents_read : (all : List Content) (top : List ℕ) (around : List (List ℕ))
    → reads (inside (top ∷ around)) (flat_map content_text all) ≡ inside (top ∷ around)
contents_read [] top around = refl
contents_read (first ∷ more) top around =
    after (inside (top ∷ around)) (inside (top ∷ around)) (inside (top ∷ around)) (content_text first) (flat_map content_text more)
    (content_read first top around) (contents_read more top around)

pub well_formed : (document : Document) → reads start (document_text document) ≡ done
well_formed document =
    let root = tag_word tags.Picture in
    let head = open_text tags.Picture document.attributes.items in
    let within = flat_map content_text document.inside.items in
    let foot = close_text tags.Picture in
    let open_root = inside (root ∷ []) in
    let at_foot : reads start (head ++ within) ≡ open_root =
    after start open_root open_root head within (opened_root tags.Picture document.attributes.items)
    (contents_read document.inside.items root []) in
    let behind_foot : reads start ((head ++ within) ++ foot) ≡ done =
    after start open_root done (head ++ within) foot at_foot (closed_root tags.Picture) in
    after start done done ((head ++ within) ++ foot) (codes "\n") behind_foot refl
