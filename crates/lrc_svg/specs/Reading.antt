-- A reader of elements, byte by byte, that keeps which elements are open. What it reads to the end is well-formed (XML 1.0, W3C 2008):
-- one root, each element closed by its own name, names that begin with a letter, each value between quotation marks, and the signs of the
-- form in texts and values by their names alone. It does not look whether an element names an attribute twice.
use Rattle.std.specs.Prelude.{◌≡◌, ℕ, ◌==◌, ◌&&◌, ◌||◌, Bool, true, false, List, [], ◌∷◌, ◌++◌, codes, fold, nat_le, if◌then◌else◌}

-- Where the reader is. The names of the elements that are open stand innermost first.
pub data Reader : Type 0 where
  -- before the root
  start : Reader
  -- among what stands in an element
  inside : (around : List (List ℕ)) → Reader
  -- in the name of a sign there
  sign : (around : List (List ℕ)) → (name : List ℕ) → Reader
  -- behind a `<`
  begun : (around : List (List ℕ)) → Reader
  -- in the name of an element that begins
  naming : (around : List (List ℕ)) → (name : List ℕ) → Reader
  -- in the name of an attribute of it
  key : (around : List (List ℕ)) → (name attribute : List ℕ) → Reader
  -- behind the `=` of one
  given : (around : List (List ℕ)) → (name : List ℕ) → Reader
  -- in the value of one
  value : (around : List (List ℕ)) → (name : List ℕ) → Reader
  -- in the name of a sign there
  value_sign : (around : List (List ℕ)) → (name word : List ℕ) → Reader
  -- behind the value of one
  valued : (around : List (List ℕ)) → (name : List ℕ) → Reader
  -- in the name of an element that ends
  ending : (around : List (List ℕ)) → (name : List ℕ) → Reader
  -- behind the root
  done : Reader
  -- the text is not well-formed
  broken : Reader

-- a letter, with which a name begins
abbrev pub is_name_start : ℕ → Bool
is_name_start byte = (nat_le 97 byte && nat_le byte 122) || (nat_le 65 byte && nat_le byte 90)

-- a letter, a digit or a hyphen
abbrev pub is_name_byte : ℕ → Bool
is_name_byte byte = is_name_start byte || ((nat_le 48 byte && nat_le byte 57) || (byte == 45))

-- a byte with which a name may go on that is read so far
abbrev pub goes_on : (name : List ℕ) → ℕ → Bool
goes_on [] byte = is_name_start byte
goes_on (first ∷ more) byte = is_name_byte byte

-- a byte that may stand for itself in a text: printable ASCII, and no `>`
abbrev pub is_text_byte : ℕ → Bool
is_text_byte byte = if byte == 62 then false else nat_le 32 byte && nat_le byte 126

abbrev pub same_name : List ℕ → List ℕ → Bool
same_name [] [] = true
same_name [] (b ∷ second) = false
same_name (a ∷ first) [] = false
same_name (a ∷ first) (b ∷ second) = (a == b) && same_name first second

-- the names of the signs
abbrev pub is_sign : List ℕ → Bool
is_sign name =
    same_name name (codes "amp") || (same_name name (codes "lt") || (same_name name (codes "gt") || same_name name (codes "quot")))

abbrev pub is_some_name : List ℕ → Bool
is_some_name [] = false
is_some_name (first ∷ more) = true

-- the element that is open innermost ends; behind the root nothing is open
abbrev pub reader_behind_end : (around : List (List ℕ)) → (name : List ℕ) → Reader
reader_behind_end [] name = broken
reader_behind_end (top ∷ []) name = if same_name top name then done else broken
reader_behind_end (top ∷ next ∷ around) name = if same_name top name then inside (next ∷ around) else broken

-- the reader behind one byte more: `<` is 60, `>` 62, `/` 47, `=` 61, `"` 34, `&` 38, `;` 59, a blank 32 and a line's end 10
abbrev pub reader_behind : Reader → ℕ → Reader
reader_behind start byte = if byte == 60 then begun [] else broken
reader_behind (inside around) byte =
    if byte == 60 then begun around else if byte == 38 then sign around [] else if is_text_byte byte then inside around else broken
reader_behind (sign around name) byte =
    if is_name_byte byte then sign around (name ++ byte ∷ []) else if (byte == 59) && is_sign name then inside around else broken
reader_behind (begun around) byte = if byte == 47 then ending around [] else if is_name_start byte then naming around (byte ∷ []) else broken
reader_behind (naming around name) byte =
    if is_name_byte byte then naming around (name ++ byte ∷ [])
    else if byte == 32 then key around name []
    else if byte == 62 then inside (name ∷ around)
    else broken
reader_behind (key around name attribute) byte =
    if goes_on attribute byte then key around name (attribute ++ byte ∷ [])
    else if (byte == 61) && is_some_name attribute then given around name
    else broken
reader_behind (given around name) byte = if byte == 34 then value around name else broken
reader_behind (value around name) byte =
    if byte == 34 then valued around name
    else if byte == 60 then broken
    else if byte == 38 then value_sign around name []
    else if is_text_byte byte then value around name
    else broken
reader_behind (value_sign around name word) byte =
    if is_name_byte byte then value_sign around name (word ++ byte ∷ [])
    else if (byte == 59) && is_sign word then value around name
    else broken
reader_behind (valued around name) byte = if byte == 32 then key around name [] else if byte == 62 then inside (name ∷ around) else broken
reader_behind (ending around name) byte =
    if is_name_byte byte then ending around (name ++ byte ∷ []) else if byte == 62 then reader_behind_end around name else broken
reader_behind done byte = if byte == 10 then done else broken
reader_behind broken byte = broken

-- the reader behind these bytes
abbrev pub reads : Reader → List ℕ → Reader
reads reader bytes = fold reader_behind reader bytes

abbrev pub IsWellFormed : List ℕ → Type 0
IsWellFormed text = reads start text ≡ done
