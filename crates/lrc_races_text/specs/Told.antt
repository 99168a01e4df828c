-- What is told of a trace, from its bytes.
use Rattle.std.specs.Prelude.{◌≡◌, ℕ, ◌+◌, ◌<◌, ◌≤◌, ◌⊎◌, ◌==◌, if◌then◌else◌, true, List, [], ◌∷◌, ◌++◌, Option, None, flat_map, length}
use Rattle.lrc_races_trace.specs.declared.event.Event.{Event}
use Rattle.lrc_races_trace.specs.declared.event.Pair.{Pair}
use Rattle.lrc_races_trace.specs.declared.fault.Fault.{Fault as IllFormed}
use Rattle.lrc_races_trace.specs.declared.group.Group.{Group}
use Rattle.lrc_races_trace.specs.Formed.{IsFirstFault}
use Rattle.lrc_races_trace.specs.Groups.{AreGroups}
use Rattle.lrc_races_lines.specs.Line.{Saying, line_feed, longest_line}
use Rattle.lrc_races_lines.specs.Lacking.{Lacks}
use Rattle.lrc_races_text.specs.declared.asked.Asked.{Asked}
use Rattle.lrc_races_text.specs.declared.form.Form.{Form}
use Rattle.lrc_races_text.specs.declared.halt.Halt.{Halt}
use Rattle.lrc_races_text.specs.declared.halt.Halt.TheVariants as halts
use Rattle.lrc_races_text.specs.Says.{Said, Say, Says, IsFirstBad, IsWhyText}
use Rattle.lrc_races_text.specs.Ill.{IsFirstIll}
use Rattle.lrc_races_text.specs.Naming.{Naming, IsTrace}
use Rattle.lrc_races_text.specs.Sought.{AreSought}
use Rattle.lrc_races_text.specs.Layouts.{end_lines, pair_lines}

-- the text has no line feed, and none of the lines has
abbrev pub IsOneLine : List ℕ → Type 0
IsOneLine text = Lacks line_feed text

abbrev pub AreLines : List (List ℕ) → Type 0
AreLines [] = Unit {0}
AreLines (line ∷ lines) = IsOneLine line × AreLines lines

-- a line with its line feed
abbrev pub ended : List ℕ → List ℕ
ended line = line ++ line_feed ∷ []

-- The bytes are these whole lines, each with its line feed, and behind them this rest of a line.
pub record IsCut (bytes : List ℕ) (lines : List (List ℕ)) (rest : List ℕ) : Type 0 where
  pub whole : bytes ≡ flat_map ended lines ++ rest
  pub each : AreLines lines
  pub last : IsOneLine rest

-- where strictness is asked for, each of these events is one that a program would give
abbrev pub ArePermitted : Asked → List Event → Type 0
ArePermitted asked events = asked.strict ≡ true → IsFirstFault events (length events) None

-- The pairs that are told of what is said, and the text of them: a line for each, but no line where they are told in groups.
pub record IsToldOf (form : Form) (asked : Asked) (said : List Said) (told : List ℕ) : Type 0 where
  pub naming : Naming
  pub events : List Event
  pub pairs : List Pair
  pub trace : IsTrace said naming events
  pub permitted : ArePermitted asked events
  pub are_told : AreSought asked.sought events pairs
  pub text : told ≡ (if asked.group then [] else pair_lines asked.layout form naming pairs)

-- When these bytes have come, and none of their lines is bad, this is told.
pub record Tells (form : Form) (asked : Asked) (bytes told : List ℕ) : Type 0 where
  pub lines : List (List ℕ)
  pub rest : List ℕ
  pub cut : IsCut bytes lines rest
  pub short : length rest ≤ longest_line
  pub said : List Said
  pub says : Say form 1 lines said
  pub tells : IsToldOf form asked said told

-- The line with this number is the first bad one of those that have come whole; or they are good, and more has come of the next
-- one than a line may have. What is told is told of the lines before it.
pub record IsBadEvent (form : Form) (asked : Asked) (bytes : List ℕ) (line : ℕ) (told : List ℕ) : Type 0 where
  pub lines : List (List ℕ)
  pub rest : List ℕ
  pub cut : IsCut bytes lines rest
  pub said : List Said
  pub first : IsFirstBad form lines line said ⊎ (Say form 1 lines said × (line ≡ length lines + 1) × (longest_line < length rest))
  pub tells : IsToldOf form asked said told

-- This text says why the line with this number, or what has come of it, is bad.
pub record IsReason (form : Form) (bytes : List ℕ) (number : ℕ) (text : List ℕ) : Type 0 where
  pub lines : List (List ℕ)
  pub rest : List ℕ
  pub cut : IsCut bytes lines rest
  pub before : List (List ℕ)
  pub line : List ℕ
  pub after : List (List ℕ)
  pub whole : lines ++ rest ∷ [] ≡ before ++ line ∷ after
  pub counted : number ≡ length before + 1
  pub why : IsWhyText form number line text

-- Strictness is asked for, and of these lines the one with this number says the first event that no program would give, for which this
-- text says why. What is told is told of the lines before it.
pub record IsIllEvent (form : Form) (asked : Asked) (lines : List (List ℕ)) (number : ℕ) (text told : List ℕ) : Type 0 where
  pub strict : asked.strict ≡ true
  pub before : List (List ℕ)
  pub line : List ℕ
  pub after : List (List ℕ)
  pub whole : lines ≡ before ++ line ∷ after
  pub counted : number ≡ length before + 1
  pub said : List Said
  pub good : Say form 1 before said
  pub tells : IsToldOf form asked said told
  pub saying : Saying
  pub says : Says form line saying
  pub first : IsFirstIll (said ++ record { line = number; saying = saying } ∷ []) number text

-- that line has come whole
pub record HasIllEvent (form : Form) (asked : Asked) (bytes : List ℕ) (number : ℕ) (text told : List ℕ) : Type 0 where
  pub lines : List (List ℕ)
  pub rest : List ℕ
  pub cut : IsCut bytes lines rest
  pub ill : IsIllEvent form asked lines number text told

-- why no more is told of these bytes
abbrev pub Stops : Form → Asked → List ℕ → Halt → List ℕ → Type 0
Stops form asked bytes (halts.BadEvent line why) told = IsBadEvent form asked bytes line told × IsReason form bytes line why.items
Stops form asked bytes (halts.IllFormed ill) told = HasIllEvent form asked bytes ill.line ill.why.items told
Stops form asked bytes halts.NoMemory told = Unit {0}

-- All that is told of a trace: behind the pairs the groups, where they are asked for, the first event that no program would give,
-- and how many there are of all; and the status.
pub record IsWholeOf (form : Form) (asked : Asked) (said : List Said) (status : ℕ) (told : List ℕ) : Type 0 where
  pub naming : Naming
  pub events : List Event
  pub pairs : List Pair
  pub groups : List Group
  pub fault : Option IllFormed
  pub trace : IsTrace said naming events
  pub are_told : AreSought asked.sought events pairs
  pub are_groups : AreGroups (if asked.group then pairs else []) groups
  pub first_fault : IsFirstFault events (length events) fault
  pub permitted : ArePermitted asked events
  pub text : told ≡ (if asked.group then [] else pair_lines asked.layout form naming pairs)
      ++ end_lines asked.layout form naming groups fault (length pairs) (length events)
  pub answer : status ≡ (if length pairs == 0 then 0 else 3)

-- The bytes are a whole trace: what stands behind their last line feed is a line too.
pub record Ends (form : Form) (asked : Asked) (bytes : List ℕ) (status : ℕ) (told : List ℕ) : Type 0 where
  pub lines : List (List ℕ)
  pub rest : List ℕ
  pub cut : IsCut bytes lines rest
  pub said : List Said
  pub says : Say form 1 (lines ++ rest ∷ []) said
  pub tells : IsWholeOf form asked said status told

pub record IsBadTrace (form : Form) (asked : Asked) (bytes : List ℕ) (line : ℕ) (told : List ℕ) : Type 0 where
  pub lines : List (List ℕ)
  pub rest : List ℕ
  pub cut : IsCut bytes lines rest
  pub said : List Said
  pub first : IsFirstBad form (lines ++ rest ∷ []) line said
  pub tells : IsToldOf form asked said told

-- The bytes are a whole trace, and one of its lines says such an event.
pub record IsIllTrace (form : Form) (asked : Asked) (bytes : List ℕ) (number : ℕ) (text told : List ℕ) : Type 0 where
  pub lines : List (List ℕ)
  pub rest : List ℕ
  pub cut : IsCut bytes lines rest
  pub ill : IsIllEvent form asked (lines ++ rest ∷ []) number text told

-- why no more is told of a whole trace
abbrev pub Fails : Form → Asked → List ℕ → Halt → List ℕ → Type 0
Fails form asked bytes (halts.BadEvent line why) told = IsBadTrace form asked bytes line told × IsReason form bytes line why.items
Fails form asked bytes (halts.IllFormed ill) told = IsIllTrace form asked bytes ill.line ill.why.items told
Fails form asked bytes halts.NoMemory told = Unit {0}
