-- The lines that comments behind acts name.
use Rattle.std.specs.Prelude.{◌≡◌, ◌≤◌, ◌<◌, ◌⊎◌, ℕ, ◌-◌, ◌==◌, not, List, [], codes, drop, get_or, if◌then◌else◌, length, slice_index}
use Rattle.std.specs.Char.{is_ascii_digit}
use Rattle.std.specs.List.{before_first, position_or_len, starts_with}
use Rattle.lrc_text.specs.Digits.{IsNumber}

-- the comment of a line, from its sign # on
abbrev pub comment_of : List ℕ → List ℕ
comment_of line = drop (position_or_len (λ byte. byte == 35) line) line

-- the digits at the beginning of a text
abbrev pub front_digits : List ℕ → List ℕ
front_digits text = before_first (λ byte. not (is_ascii_digit byte)) text

-- the digits at once behind `# line ` at the beginning of a comment
abbrev pub digits_in : List ℕ → List ℕ
digits_in comment =
    if starts_with (λ a b. a == b) comment (codes "# line ") then front_digits (drop (length (codes "# line ")) comment) else []

-- the comment of the line names this number, by one to nine digits
pub record Names (line : List ℕ) (number : ℕ) : Type 0 where
  pub few : length (digits_in (comment_of line)) ≤ 9
  pub says : IsNumber (digits_in (comment_of line)) 999999999 number

-- the line told of an act that stands on this line of a text, which has this number: the one that its comment names, or else its own
abbrev pub IsLineTold : List ℕ → ℕ → ℕ → Type 0
IsLineTold line number told = Names line told ⊎ (((other : ℕ) → ¬ Names line other) × (told ≡ number))

-- for each act, on the line with this number among the lines of a text, counted from 1, the line that is told of it
pub record AreLinesTold (lines : List (List ℕ)) (numbers told : List ℕ) : Type 0 where
  pub all : length told ≡ length numbers
  pub each : (k : ℕ) → k < length numbers
      → IsLineTold (get_or lines (slice_index numbers k - 1) []) (slice_index numbers k) (slice_index told k)
