-- The text of a report: a claim on each line, or nothing, or a comment.
use Rattle.std.specs.Prelude.{◌≡◌, ℕ, ◌+◌, ◌<◌, ◌≤◌, List, [], ◌∷◌, ◌++◌, Result, Ok, Err, length}
use Rattle.lrc_races_lines.specs.Line.{IsBody, IsBlank}
use Rattle.lrc_text.specs.Lines.{lines_of}
use Rattle.lrc_races_score.specs.declared.report.LinedClaim.{LinedClaim}
use Rattle.lrc_races_score.specs.declared.report.Report.{Report}
use Rattle.lrc_races_score.specs.declared.report.ReportFault.{ReportFault}
use Rattle.lrc_races_score.specs.declared.report.ReportFault.TheVariants.{TooLong, BadClaim, NoMemory}
use Rattle.lrc_races_score.specs.Claims.{Statement, SpellsClaim, statement_of}

-- the line says nothing, or this claim
pub record SaysNothing (line : List ℕ) : Type 0 where
  pub body : List ℕ
  pub of : IsBody line body
  pub blank : IsBlank body

pub record Says (line : List ℕ) (claim : Statement) : Type 0 where
  pub body : List ℕ
  pub of : IsBody line body
  pub spells : SpellsClaim claim body

-- it is neither
pub record IsBad (line : List ℕ) : Type 0 where
  pub some : ¬ SaysNothing line
  pub none : (claim : Statement) → ¬ Says line claim

-- The lines from the one with this number on say these claims in order, each on the line with its number.
pub data SayClaims : ℕ → List (List ℕ) → List LinedClaim → Type 0 where
  no_lines : {number : ℕ} → SayClaims number [] []
  nothing : {number : ℕ} {line : List ℕ} {lines : List (List ℕ)} {claims : List LinedClaim} → SaysNothing line → SayClaims (number + 1) lines claims
      → SayClaims number (line ∷ lines) claims
  one_claim : {line : List ℕ} {lines : List (List ℕ)} {claim : LinedClaim} {claims : List LinedClaim} → Says line (statement_of claim.claim)
      → SayClaims (claim.line + 1) lines claims → SayClaims claim.line (line ∷ lines) (claim ∷ claims)

-- of the lines, the first bad one has this number, counted from 1
pub record IsFirstBad (lines : List (List ℕ)) (number : ℕ) : Type 0 where
  pub before : List (List ℕ)
  pub line : List ℕ
  pub after : List (List ℕ)
  pub whole : lines ≡ before ++ line ∷ after
  pub counted : number ≡ length before + 1
  pub good : (claims : List LinedClaim) × SayClaims 1 before claims
  pub bad : IsBad line

-- the longest text, in bytes
abbrev pub most_bytes : ℕ
most_bytes = 67108864

-- What a text comes to: it is too long; or the claims that its lines say, or the first line that is bad. Memory may run out.
abbrev pub ReadsReport : List ℕ → Result Report ReportFault → Type 0
ReadsReport text (Ok report) = (length text ≤ most_bytes) × SayClaims 1 (lines_of text) report.claims.items
ReadsReport text (Err TooLong) = most_bytes < length text
ReadsReport text (Err (BadClaim line)) = (length text ≤ most_bytes) × IsFirstBad (lines_of text) line
ReadsReport text (Err NoMemory) = Unit {0}
