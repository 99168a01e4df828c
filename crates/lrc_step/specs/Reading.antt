-- A reader of a text between quotation marks, byte by byte, as JSON (RFC 8259) has it, of numbers below 256 alone.
use Rattle.std.specs.Prelude.{ℕ, ◌==◌, ◌&&◌, ◌+◌, ◌-◌, ◌*◌, List, [], ◌∷◌, ◌++◌, Option, None, Some, fold, nat_le, if◌then◌else◌}

-- where the reader is, and what it has read
pub data Reader : Type 0 where
  -- among the bytes of the text
  plain : (text : List ℕ) → Reader
  -- behind a backslash
  escape : (text : List ℕ) → Reader
  -- behind `\u` and so many digits of this number
  digits : (text : List ℕ) → (count number : ℕ) → Reader
  -- behind the quotation mark that ends the text
  ended : (text : List ℕ) → Reader
  -- this is no text
  broken : Reader

-- the number of a small digit, of sixteen
abbrev pub number_of : ℕ → Option ℕ
number_of byte =
    if nat_le 48 byte && nat_le byte 57 then Some (byte - 48)
    else if nat_le 97 byte && nat_le byte 102 then Some (byte - 87)
    else None

-- what an escape of one sign stands for
abbrev pub escaped_by : ℕ → Option ℕ
escaped_by byte =
    if byte == 34 then Some 34
    else if byte == 92 then Some 92
    else if byte == 47 then Some 47
    else if byte == 98 then Some 8
    else if byte == 102 then Some 12
    else if byte == 110 then Some 10
    else if byte == 114 then Some 13
    else if byte == 116 then Some 9
    else None

-- the reader behind one more digit
abbrev pub behind_digit : List ℕ → ℕ → ℕ → Option ℕ → Reader
behind_digit text count number None = broken
behind_digit text count number (Some digit) =
    if count == 3 then plain (text ++ (number * 16 + digit) ∷ []) else digits text (1 + count) (number * 16 + digit)

abbrev pub behind_escape : List ℕ → Option ℕ → Reader
behind_escape text None = broken
behind_escape text (Some byte) = plain (text ++ byte ∷ [])

-- the reader behind one more byte
abbrev pub reader_behind : Reader → ℕ → Reader
reader_behind (plain text) byte =
    if byte == 34 then ended text
    else if byte == 92 then escape text
    else if nat_le 32 byte then plain (text ++ byte ∷ [])
    else broken
reader_behind (escape text) byte = if byte == 117 then digits text 0 0 else behind_escape text (escaped_by byte)
reader_behind (digits text count number) byte = behind_digit text count number (number_of byte)
reader_behind (ended text) byte = broken
reader_behind broken byte = broken

-- the reader behind these bytes
abbrev pub reads : Reader → List ℕ → Reader
reads reader bytes = fold reader_behind reader bytes
