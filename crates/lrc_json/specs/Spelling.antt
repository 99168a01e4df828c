-- How a text is spelled: as in JSON (RFC 8259) between quotation marks, and without a sign that markup begins with, so that
-- no text can end the element that the data stands in.
use Rattle.std.specs.Prelude.{◌==◌, ◌+◌, ◌-◌, ℕ, List, [], ◌∷◌, ◌++◌, codes, nat_le, if◌then◌else◌}
use Rattle.std.specs.List.{flat_map}

-- a number below 16 as a digit
abbrev pub digit_of : ℕ → ℕ
digit_of number = if nat_le 10 number then 87 + number else 48 + number

-- a byte below 32, by its number in four digits
abbrev pub control_text : ℕ → List ℕ
control_text byte =
    if nat_le 16 byte then codes "\\u001" ++ digit_of (byte - 16) ∷ []
    else codes "\\u000" ++ digit_of byte ∷ []

-- A byte of a text: quotation marks, backslashes and bytes below 32 by their escapes, the signs of markup by their numbers, else itself.
abbrev pub byte_text : ℕ → List ℕ
byte_text byte =
    if byte == 34 then codes "\\\""
    else if byte == 92 then codes "\\\\"
    else if byte == 60 then codes "\\u003c"
    else if byte == 62 then codes "\\u003e"
    else if byte == 38 then codes "\\u0026"
    else if byte == 8 then codes "\\b"
    else if byte == 9 then codes "\\t"
    else if byte == 10 then codes "\\n"
    else if byte == 12 then codes "\\f"
    else if byte == 13 then codes "\\r"
    else if nat_le 32 byte then byte ∷ []
    else control_text byte

abbrev pub spelled : List ℕ → List ℕ
spelled text = flat_map byte_text text

-- a text with its quotation marks
unfoldable pub quoted : List ℕ → List ℕ
quoted text = codes "\"" ++ spelled text ++ codes "\""
