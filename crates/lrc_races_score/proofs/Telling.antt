-- Lines that say claims, with one line more.
use Rattle.std.proofs.Common.{◌≡◌, ℕ, ◌+◌, ◌<◌, List, [], ◌∷◌, ◌++◌, drop, get_or, length, take, refl, sym, subst, arith}
use Rattle.std.specs.Prelude.{◌↔◌, IsTrue, Bool, true, false, Option, MatchBool, MatchOption, Some, None}
use Rattle.std.proofs.lemmas.Bool.{true≢false}
use Rattle.std.proofs.lemmas.List.{length-take-le}
use Rattle.lrc_text.proofs.Lines.{lines_at}
use Rattle.lrc_races_lines.specs.Line.{IsBody, IsBlank}
use Rattle.lrc_races_lines.proofs.Spelled.{one_body}
use Rattle.lrc_races_score.specs.declared.claim.Claim.{Claim}
use Rattle.lrc_races_score.specs.declared.report.LinedClaim.{LinedClaim}
use Rattle.lrc_races_score.specs.Claims.{Statement, statement_of, SpellsClaim}
use Rattle.lrc_races_score.specs.Report.{SaysNothing, Says, IsBad, SayClaims, no_lines, nothing, one_claim, IsFirstBad}

pub say_more : {number : ℕ} {lines : List (List ℕ)} {claims : List LinedClaim} (line : List ℕ) (claim : LinedClaim)
    → SayClaims number lines claims → Says line (statement_of claim.claim) → claim.line ≡ number + length lines
    → SayClaims number (lines ++ line ∷ []) (claims ++ claim ∷ [])
say_more {number} line claim no_lines h e =
    let same : claim.line ≡ number = omega (arith, e) in
    subst (λ (m : ℕ). SayClaims m (line ∷ []) (claim ∷ [])) same (one_claim h no_lines)
say_more line claim (nothing k n) h e = nothing k (say_more line claim n h (omega (arith, e)))
say_more line claim (one_claim k n) h e = one_claim k (say_more line claim n h (omega (arith, e)))

pub say_nothing : {number : ℕ} {lines : List (List ℕ)} {claims : List LinedClaim} (line : List ℕ) → SaysNothing line
    → SayClaims number lines claims → SayClaims number (lines ++ line ∷ []) claims
say_nothing line is no_lines = nothing is no_lines
say_nothing line is (nothing k n) = nothing k (say_nothing line is n)
say_nothing line is (one_claim k n) = one_claim k (say_nothing line is n)

pub first_bad : (lines : List (List ℕ)) (n m : ℕ) (line : List ℕ) (claims : List LinedClaim) → n ≡ m → (m < length lines) × (line ≡ get_or lines m line)
    → SayClaims 1 (take n lines) claims → IsBad line → IsFirstBad lines (n + 1)
first_bad lines n m line claims same turn said bad = record {
  before = take n lines;
  line = line;
  after = drop (n + 1) lines;
  whole = lines_at lines n m line same turn;
  counted = omega (arith, length-take-le n lines (omega arith));
  good = (claims, said);
  bad = bad;
}

-- whether a line says nothing, by its body
pub nothing_by : (line body : List ℕ) (r : Bool) → IsBody line body → (IsTrue r ↔ IsBlank body)
    → MatchBool r (SaysNothing line) (SaysNothing line → ⊥)
nothing_by line body true of says = record { body = body; of = of; blank = says.0 refl }
nothing_by line body false of says =
    λ h. true≢false (sym (says.1 (subst IsBlank (one_body h.of body of) h.blank)))

-- and what it claims
pub claim_by : (line body : List ℕ) (o : Option Claim) → IsBody line body
    → MatchOption o ((claim : Statement) → SpellsClaim claim body → ⊥) (λ claim. SpellsClaim (statement_of claim) body)
    → MatchOption o ((claim : Statement) → Says line claim → ⊥) (λ claim. Says line (statement_of claim))
claim_by line body None of none = λ claim h. none claim (subst (λ (b : List ℕ). SpellsClaim claim b) (one_body h.of body of) h.spells)
claim_by line body (Some claim) of spells = record { body = body; of = of; spells = spells }
