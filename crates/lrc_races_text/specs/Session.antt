-- What a session keeps of the bytes that it has read.
use Rattle.std.specs.Prelude.{◌≡◌, ◌≢◌, ℕ, ◌+◌, ◌<◌, ◌≤◌, List, [], ◌∷◌, ◌++◌, length, Vec}
use Rattle.std.specs.declared.alloc.Global.{Global}
use Rattle.lrc_races_lines.specs.declared.line.Line.{Line}
use Rattle.lrc_races_lines.specs.declared.line.Line.TheVariants.{Nothing, Event, Bad}
use Rattle.lrc_races_lines.specs.Cause.{line_too_long, why_text}
use Rattle.lrc_races_lines.specs.Line.{longest_line, Saying, saying_of}
use Rattle.lrc_races_text.specs.declared.asked.Asked.{Asked}
use Rattle.lrc_races_text.specs.declared.form.Form.{Form}
use Rattle.lrc_races_text.specs.declared.fault.Fault.{Fault}
use Rattle.lrc_races_text.specs.declared.fault.Fault.TheVariants as faults
use Rattle.lrc_races_text.specs.declared.halt.Halt.{Halt}
use Rattle.lrc_races_text.specs.declared.halt.Halt.TheVariants.{BadEvent, IllFormed}
use Rattle.lrc_races_text.specs.declared.ill.Ill.{Ill}
use Rattle.lrc_races_text.specs.declared.judged.Judged.{Judged}
use Rattle.lrc_races_text.specs.declared.session.Session.{Session}
use Rattle.lrc_races_text.specs.Says.{Said, Say, Says, SaysNothing, IsBad, IsWhyText}
use Rattle.lrc_races_text.specs.Judged.{HasJudged, IsIllOne}
use Rattle.lrc_races_text.specs.Told.{IsOneLine, IsCut, IsToldOf, Tells, Stops, Ends, Fails}

-- a text of the program's own
abbrev pub Text : Type 0
Text = Vec ℕ Global

-- what a line is read as, in this form
abbrev pub ReadsIn : Form → List ℕ → Line → Type 0
ReadsIn form line Nothing = SaysNothing form line
ReadsIn form line (Event named) = Says form line (saying_of named)
ReadsIn form line Bad = IsBad form line

-- the line with this number says these events, one or none
pub data LineSays (form : Form) (number : ℕ) (line : List ℕ) : List Said → Type 0 where
  says_none : SaysNothing form line → LineSays form number line []
  says_one : {saying : Saying} → Says form line saying → LineSays form number line (record { line = number; saying = saying } ∷ [])

-- the line is judged, and what is told of it is added
abbrev pub HasTakenLine : Form → Asked → List ℕ → ℕ → Judged → List ℕ → Judged → List ℕ → Type 0
HasTakenLine form asked line number before old after new = (all : List Said) (told : List ℕ) → HasJudged form asked all told before
    → (said : List Said) × (more : List ℕ) × LineSays form number line said × (new ≡ old ++ more) × HasJudged form asked (all ++ said) (told ++ more) after

-- These lines have come whole, and this rest of the next one, and this is told of them.
pub record IsAt (form : Form) (asked : Asked) (lines : List (List ℕ)) (rest told : List ℕ) (session : Session) : Type 0 where
  pub same_form : session.form ≡ form
  pub same_asked : session.asked ≡ asked
  pub same_rest : session.rest.items ≡ rest
  pub short : length rest ≤ longest_line
  pub counted : session.lines ≡ length lines
  pub said : List Said
  pub says : Say form 1 lines said
  pub judged : HasJudged form asked said told session.judged

-- the next line is whole, with this part more
abbrev pub HasCompleted : Session → List ℕ → List ℕ → List ℕ → Session → Type 0
HasCompleted before part old new after = (form : Form) (asked : Asked) (lines : List (List ℕ)) (rest told : List ℕ) → IsAt form asked lines rest told before
    → (more : List ℕ) × (new ≡ old ++ more) × IsAt form asked (lines ++ (rest ++ part) ∷ []) [] (told ++ more) after

-- or it is bad
abbrev pub IsBadLine : Session → List ℕ → Halt → Type 0
IsBadLine before part halt = (form : Form) (asked : Asked) (lines : List (List ℕ)) (rest told : List ℕ) → IsAt form asked lines rest told before
    → (line : ℕ) (why : Text) → halt ≡ BadEvent line why → (line ≡ length lines + 1) × IsBad form (rest ++ part)
    × (IsOneLine (rest ++ part) → IsWhyText form (length lines + 1) (rest ++ part) why.items)

-- Strictness is asked for, and behind these lines, of which this is told, this one says the first event that no program would give.
pub record IsIllNext (form : Form) (asked : Asked) (lines : List (List ℕ)) (line told : List ℕ) (number : ℕ) (text : List ℕ) : Type 0 where
  pub said : List Said
  pub good : Say form 1 lines said
  pub tells : IsToldOf form asked said told
  pub saying : Saying
  pub says : Says form line saying
  pub one : IsIllOne asked said (record { line = length lines + 1; saying = saying }) number text

-- or it does so
abbrev pub IsIllRest : Session → List ℕ → Halt → Type 0
IsIllRest before part halt = (form : Form) (asked : Asked) (lines : List (List ℕ)) (rest told : List ℕ) → IsAt form asked lines rest told before
    → (ill : Ill) → halt ≡ IllFormed ill → IsIllNext form asked lines (rest ++ part) told ill.line ill.why.items

-- this part more has come of the next line
abbrev pub HasKept : Session → List ℕ → Session → Type 0
HasKept before part after = (form : Form) (asked : Asked) (lines : List (List ℕ)) (rest told : List ℕ) → IsAt form asked lines rest told before
    → IsAt form asked lines (rest ++ part) told after

-- or it is too long
abbrev pub IsTooLong : Session → List ℕ → Halt → Type 0
IsTooLong before part halt = (form : Form) (asked : Asked) (lines : List (List ℕ)) (rest told : List ℕ) → IsAt form asked lines rest told before
    → (line : ℕ) (why : Text) → halt ≡ BadEvent line why → (line ≡ length lines + 1) × (longest_line < length (rest ++ part))
    × (why.items ≡ why_text line_too_long)

-- that is no event that no program would give
abbrev pub NeverIll : Halt → Type 0
NeverIll halt = (ill : Ill) → halt ≢ IllFormed ill

-- the session has read these bytes
pub record HasLines (form : Form) (asked : Asked) (bytes told : List ℕ) (session : Session) : Type 0 where
  pub lines : List (List ℕ)
  pub rest : List ℕ
  pub cut : IsCut bytes lines rest
  pub at : IsAt form asked lines rest told session

-- The session has read these bytes, and this is what it has told of them.
pub record HasRead (form : Form) (asked : Asked) (bytes told : List ℕ) (session : Session) : Type 0 where
  pub has_lines : HasLines form asked bytes told session
  pub tells : Tells form asked bytes told

-- Of the block this is left, and what is told of the lines before it is added.
pub record HasDone (form : Form) (asked : Asked) (bytes told block left old new : List ℕ) (after : Session) : Type 0 where
  pub done : List ℕ
  pub whole : block ≡ done ++ left
  pub more : List ℕ
  pub text : new ≡ old ++ more
  pub has_lines : HasLines form asked (bytes ++ done) (told ++ more) after

-- It has read a block more, and told what is to be told more.
abbrev pub HasGoneOn : Session → List ℕ → List ℕ → List ℕ → Session → Type 0
HasGoneOn before block old new after = (form : Form) (asked : Asked) (bytes told : List ℕ) → HasRead form asked bytes told before
    → (more : List ℕ) × (new ≡ old ++ more) × HasRead form asked (bytes ++ block) (told ++ more) after

-- It has told what is to be told of the lines before the one at which it halts.
abbrev pub IsStoppedAt : Session → List ℕ → List ℕ → List ℕ → Halt → Type 0
IsStoppedAt before block old new halt = (form : Form) (asked : Asked) (bytes told : List ℕ) → HasRead form asked bytes told before
    → (more : List ℕ) × (new ≡ old ++ more) × Stops form asked (bytes ++ block) halt (told ++ more)

-- It has told all of a trace.
abbrev pub HasEnded : Session → List ℕ → List ℕ → ℕ → Type 0
HasEnded before old new status = (form : Form) (asked : Asked) (bytes told : List ℕ) → HasRead form asked bytes told before
    → (more : List ℕ) × (new ≡ old ++ more) × Ends form asked bytes status (told ++ more)

-- It halts at the last line.
abbrev pub HasFailed : Session → List ℕ → List ℕ → Halt → Type 0
HasFailed before old new halt = (form : Form) (asked : Asked) (bytes told : List ℕ) → HasRead form asked bytes told before
    → (more : List ℕ) × (new ≡ old ++ more) × Fails form asked bytes halt (told ++ more)

-- the number of the line that comes next
abbrev pub IsNext : Session → ℕ → Type 0
IsNext session number = number ≡ session.lines + 1

-- a fault of this line is that it is bad, or else that memory ran out
abbrev pub FailsLine : Form → List ℕ → ℕ → Fault → Type 0
FailsLine form line number fault = (other : ℕ) (why : Text) → fault ≡ faults.BadEvent other why → (other ≡ number) × IsBad form line
    × (IsOneLine line → IsWhyText form number line why.items)

-- likewise a halt,
abbrev pub HaltsLine : Form → List ℕ → ℕ → Halt → Type 0
HaltsLine form line number halt = (other : ℕ) (why : Text) → halt ≡ BadEvent other why → (other ≡ number) × IsBad form line
    × (IsOneLine line → IsWhyText form number line why.items)

-- or that it says the first event that no program would give
abbrev pub IsIllLine : Form → Asked → List ℕ → ℕ → Judged → Halt → Type 0
IsIllLine form asked line number before halt = (all : List Said) (told : List ℕ) → HasJudged form asked all told before
    → (ill : Ill) → halt ≡ IllFormed ill → (saying : Saying) × Says form line saying
    × IsIllOne asked all (record { line = number; saying = saying }) ill.line ill.why.items
