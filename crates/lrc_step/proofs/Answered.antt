-- What is printed of each act, and which acts race with it.
use Rattle.std.proofs.Common.{◌≡◌, ◌∙◌, ◌<◌, [], ℕ, List, None, Option, Some, Vec, ap, arith, inl, inr, length, map, subst, sym}
use Rattle.std.specs.Prelude.{option_map, slice_get, slice_index_or}
use Rattle.std.specs.declared.alloc.Global.{Global}
use Rattle.std.proofs.lemmas.List.{get_or-map, length-map}
use Rattle.std.proofs.lemmas.Option.{slice_get-get_or, slice_get-map, slice_get_cases, slice_get_within}
use Rattle.lrc_program.specs.declared.Program.{Program}
use Rattle.lrc_trace.specs.declared.act.Act.{Act}
use Rattle.lrc_page.specs.declared.size.Size.{Size}
use Rattle.lrc_text.specs.Parts.{texts_of}
use Rattle.lrc_why.specs.Spread.{OfEach}
use Rattle.lrc_why_text.specs.declared.asked.Asked.{Asked}
use Rattle.lrc_why_run.specs.Answers.{AnswersRun}
use Rattle.lrc_source.specs.Telling.{ReadText}
use Rattle.lrc_step.specs.ReasonLines.{asked_alone}
use Rattle.lrc_step.specs.Given.{IsGivenIfRead}
use Rattle.lrc_step.specs.Rivals.{AreRivals}
use Rattle.lrc_step.specs.declared.given.Given.{Given}
use Rattle.lrc_step.specs.declared.rivals.Rival.{Rival}

abbrev bytes_of : Vec ℕ Global → List ℕ
bytes_of part = part.items

-- each of these is answered
abbrev pub AreAnswers : ReadText → Program → ℕ → Size → List Act → List Asked → List (Vec ℕ Global) → Type 0
AreAnswers text program nodes page acts asked parts = OfEach (length asked) (λ place part. (one : Asked) → slice_get asked place ≡ Some one
    → AnswersRun text program nodes page acts one part.items) parts

pub answered : (text : ReadText) (program : Program) (nodes : ℕ) (page : Size) (acts : List Act) (positions : List ℕ) (asked : List Asked)
    (parts : List (Vec ℕ Global)) → asked ≡ map asked_alone positions → AreAnswers text program nodes page acts asked parts
    → (place position : ℕ) → slice_get positions place ≡ Some position
    → AnswersRun text program nodes page acts (asked_alone position) (slice_index_or (texts_of parts) place [])
answered text program nodes page acts positions asked parts are answers place position stands =
    let within : place < length positions = slice_get_within positions place position stands in
    let many : length asked ≡ length positions = ap length are ∙ length-map positions asked_alone in
    let all : length parts ≡ length asked = answers.all in
    let one : Asked = asked_alone position in
    let at : slice_get asked place ≡ Some one =
    ap (λ (list : List Asked). slice_get list place) are ∙ slice_get-map asked_alone positions place ∙ ap (option_map asked_alone) stands in
    elim ((slice_get_cases parts place).1) [
      | inl (part, lt, is, same) ↦ subst (λ (l : List ℕ). AnswersRun text program nodes page acts one l)
          (sym (get_or-map bytes_of parts place part [] lt ∙ ap bytes_of same)) (answers.each place part is one at)
      | inr (past, is) ↦ absurd (omega (arith, past))
    ]

abbrev pub rivals_of : Vec (Option Rival) Global → List (Option Rival)
rivals_of one = one.items

-- those of each position
abbrev pub AreFound : List Act → (lines : List ℕ) → (nodes : ℕ) → (positions : List ℕ) → List (Vec (Option Rival) Global) → Type 0
AreFound acts lines nodes positions found = OfEach (length positions) (λ place all. (position : ℕ) → slice_get positions place ≡ Some position
    → AreRivals acts lines nodes position all.items) found

pub rivals_found : (acts : List Act) (lines : List ℕ) (nodes : ℕ) (positions : List ℕ) (found : List (Vec (Option Rival) Global))
    → AreFound acts lines nodes positions found
    → (place position : ℕ) → slice_get positions place ≡ Some position
    → AreRivals acts lines nodes position (slice_index_or (map rivals_of found) place [])
rivals_found acts lines nodes positions found are place position stands =
    let within : place < length positions = slice_get_within positions place position stands in
    let many : length found ≡ length positions = are.all in
    elim ((slice_get_cases found place).1) [
      | inl (one, lt, is, same) ↦ subst (λ (l : List (Option Rival)). AreRivals acts lines nodes position l)
          (sym (get_or-map rivals_of found place one [] lt ∙ ap rivals_of same)) (are.each place one is position stands)
      | inr (past, is) ↦ absurd (omega (arith, past))
    ]

-- and the writes that each of them gives what it gives by
abbrev pub AreGiven : List Act → (positions : List ℕ) → List (Option Given) → Type 0
AreGiven acts positions given = OfEach (length positions) (λ place one. (position : ℕ) → slice_get positions place ≡ Some position
    → IsGivenIfRead acts position one) given

pub given_found : (acts : List Act) (positions : List ℕ) (given : List (Option Given)) → AreGiven acts positions given
    → (place position : ℕ) → slice_get positions place ≡ Some position → IsGivenIfRead acts position (slice_index_or given place None)
given_found acts positions given are place position stands =
    let within : place < length positions = slice_get_within positions place position stands in
    let many : length given ≡ length positions = are.all in
    are.each place (slice_index_or given place None) (slice_get-get_or given place None (omega (arith, within, many))) position stands
