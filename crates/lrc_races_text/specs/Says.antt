-- What the lines of a trace say.
use Rattle.std.specs.Prelude.{◌≡◌, ℕ, ◌+◌, List, [], ◌∷◌, ◌++◌, length}
use Rattle.lrc_races_lines.specs.Cause.{Why, no_act, why_text, IsCause, IsCauseOf}
use Rattle.lrc_races_lines.specs.Line.{Saying, Says as SaysStd, SaysNothing as SaysNoStd}
use Rattle.lrc_races_text.specs.declared.form.Form.{Form}
use Rattle.lrc_races_text.specs.declared.form.Form.TheVariants.{Std, Acts}
use Rattle.lrc_races_text.specs.Acts.{SaysAct, SaysNoAct}

-- the line says the event, in this form, or it says nothing
abbrev pub Says : Form → List ℕ → Saying → Type 0
Says Std line saying = SaysStd line saying
Says Acts line saying = SaysAct line saying

abbrev pub SaysNothing : Form → List ℕ → Type 0
SaysNothing Std line = SaysNoStd line
SaysNothing Acts line = SaysNoAct line

-- the line has not its form
abbrev pub IsBad : Form → List ℕ → Type 0
IsBad form line = ¬ SaysNothing form line × ((saying : Saying) → ¬ Says form line saying)

-- why the line with this number has not its form: the first thing that is wrong with it. Of an act no more is said than that it is none.
abbrev pub IsCauseIn : Form → ℕ → List ℕ → Why → Type 0
IsCauseIn Std number line why = IsCause number line why
IsCauseIn Acts number line why = IsCauseOf number line (λ other. other ≡ no_act) why

-- this text says why
abbrev pub IsWhyText : Form → ℕ → List ℕ → List ℕ → Type 0
IsWhyText form number line text = (why : Why) × IsCauseIn form number line why × (text ≡ why_text why)

-- what is said, and the number of its line
pub record Said : Type 0 where
  pub line : ℕ
  pub saying : Saying

-- The lines from the one with this number on say these events, in their order. A line that says nothing says none.
pub data Say (form : Form) : ℕ → List (List ℕ) → List Said → Type 0 where
  no_line : {number : ℕ} → Say form number [] []
  blank_line : {number : ℕ} {line : List ℕ} {lines : List (List ℕ)} {said : List Said} → SaysNothing form line
      → Say form (number + 1) lines said → Say form number (line ∷ lines) said
  event_line : {number : ℕ} {line : List ℕ} {lines : List (List ℕ)} {said : List Said} {saying : Saying} → Says form line saying
      → Say form (number + 1) lines said → Say form number (line ∷ lines) (record { line = number; saying = saying } ∷ said)

-- Of the lines, the first bad one has this number, counted from 1, and those before it say these events.
pub record IsFirstBad (form : Form) (lines : List (List ℕ)) (number : ℕ) (said : List Said) : Type 0 where
  pub before : List (List ℕ)
  pub line : List ℕ
  pub after : List (List ℕ)
  pub whole : lines ≡ before ++ line ∷ after
  pub counted : number ≡ length before + 1
  pub good : Say form 1 before said
  pub bad : IsBad form line
