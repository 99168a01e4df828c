-- The first lines of a trace, and what is kept of them.
use Rattle.std.specs.Prelude.{◌≡◌, ℕ, ◌+◌, ◌<◌, ◌≤◌, List, [], ◌∷◌, ◌++◌, length}
use Rattle.lrc_races_lines.specs.Line.{longest_line}
use Rattle.lrc_races_text.specs.declared.asked.Sought.{Sought}
use Rattle.lrc_races_text.specs.declared.fault.Fault.{Fault}
use Rattle.lrc_races_text.specs.declared.fault.Fault.TheVariants.{BadEvent}
use Rattle.lrc_races_text.specs.declared.form.Form.{Form}
use Rattle.lrc_races_text.specs.Says.{IsBad, IsWhyText}
use Rattle.lrc_races_text.specs.Session.{FailsLine, Text}
use Rattle.lrc_races_text.specs.Told.{IsCut}
use Rattle.lrc_races_front.specs.declared.front.Front.{Front}

-- that a value is kept of lines of a trace in a form, all of which are good
abbrev pub Keeping : Type 0 → Type 1
Keeping K = Form → List (List ℕ) → K → Type 0

-- whatever races are sought, one line more is kept
abbrev pub HasTaken : {K : Type 0} → (Sought → Keeping K) → Form → List ℕ → ℕ → K → K → Type 0
HasTaken Has form line number before after = (sought : Sought) (lines : List (List ℕ)) → number ≡ length lines + 1 → Has sought form lines before
    → Has sought form (lines ++ line ∷ []) after

-- A line that is bad leaves what is kept as it was. Of a fault that memory ran out nothing is said.
pub record IsBadLine {K : Type 0} (form : Form) (line : List ℕ) (number : ℕ) (before after : K) (fault : Fault) : Type 0 where
  pub fails : FailsLine form line number fault
  pub same : (other : ℕ) (why : Text) → fault ≡ BadEvent other why → after ≡ before

-- Of these lines the first bad one has this number, counted from 1, and this text says why it is bad; this is kept of the lines
-- before it.
pub record IsBadAt {K : Type 0} (Has : Keeping K) (form : Form) (lines : List (List ℕ)) (number : ℕ) (text : List ℕ) (kept : K) : Type 0 where
  pub before : List (List ℕ)
  pub line : List ℕ
  pub after : List (List ℕ)
  pub whole : lines ≡ before ++ line ∷ after
  pub counted : number ≡ length before + 1
  pub good : Has form before kept
  pub bad : IsBad form line
  pub why : IsWhyText form number line text

-- These lines have come whole, and this rest of the next one.
pub record IsAt {K : Type 0} (Has : Keeping K) (form : Form) (last : ℕ) (lines : List (List ℕ)) (rest : List ℕ) (front : Front K) : Type 0 where
  pub same_form : front.form ≡ form
  pub same_last : front.last ≡ last
  pub same_rest : front.rest.items ≡ rest
  pub short : length rest ≤ longest_line
  pub counted : front.lines ≡ length lines
  pub kept : Has form lines front.kept

-- These bytes have come, and the last line that is wanted is not among them.
pub record HasRead {K : Type 0} (Has : Keeping K) (form : Form) (last : ℕ) (bytes : List ℕ) (front : Front K) : Type 0 where
  pub lines : List (List ℕ)
  pub rest : List ℕ
  pub cut : IsCut bytes lines rest
  pub few : length lines < last
  pub at : IsAt Has form last lines rest front

-- The last line that is wanted is among these bytes. What is kept is kept of the lines up to it.
pub record HasCome {K : Type 0} (Has : Keeping K) (form : Form) (last : ℕ) (bytes : List ℕ) (front : Front K) : Type 0 where
  pub lines : List (List ℕ)
  pub more : List (List ℕ)
  pub rest : List ℕ
  pub cut : IsCut bytes (lines ++ more) rest
  pub counted : length lines ≡ last
  pub kept : Has form lines front.kept

-- all lines of a trace that has ended: what stands behind its last line feed is one too, if it is not empty
abbrev pub all_lines : List (List ℕ) → List ℕ → List (List ℕ)
all_lines lines [] = lines
all_lines lines (byte ∷ rest) = lines ++ (byte ∷ rest) ∷ []

-- These bytes are a whole trace of at most so many lines, and all of it is kept.
pub record HasAll {K : Type 0} (Has : Keeping K) (form : Form) (last : ℕ) (bytes : List ℕ) (front : Front K) : Type 0 where
  pub lines : List (List ℕ)
  pub rest : List ℕ
  pub cut : IsCut bytes lines rest
  pub few : length (all_lines lines rest) ≤ last
  pub counted : front.lines ≡ length (all_lines lines rest)
  pub kept : Has form (all_lines lines rest) front.kept

-- The first bad line of these bytes, none behind the last that is wanted: one that has come whole, or one that goes on behind the
-- bytes and is too long already.
pub data IsBadIn {K : Type 0} (Has : Keeping K) (form : Form) (last : ℕ) (bytes : List ℕ) (number : ℕ) (text : List ℕ) (kept : K) : Type 0 where
  bad_line : (lines : List (List ℕ)) (rest : List ℕ) → IsCut bytes lines rest → number ≤ last → IsBadAt Has form lines number text kept
      → IsBadIn Has form last bytes number text kept
  bad_rest : (lines : List (List ℕ)) (rest : List ℕ) → IsCut bytes lines rest → number ≤ last → longest_line < length rest
      → IsBadAt Has form (lines ++ rest ∷ []) number text kept → IsBadIn Has form last bytes number text kept

-- What stands behind the last line feed of a whole trace is bad.
pub record IsBadLast {K : Type 0} (Has : Keeping K) (form : Form) (last : ℕ) (bytes : List ℕ) (number : ℕ) (text : List ℕ) (kept : K) : Type 0 where
  pub lines : List (List ℕ)
  pub rest : List ℕ
  pub cut : IsCut bytes lines rest
  pub few : number ≤ last
  pub bad : IsBadAt Has form (all_lines lines rest) number text kept
