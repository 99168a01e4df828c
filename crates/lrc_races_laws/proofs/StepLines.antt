-- The text of a run's trace in the form of RAPID says just its steps.
use Rattle.std.proofs.Common.{◌≡◌, ℕ, ◌+◌, ◌^◌, ◌<◌, ◌≤◌, List, [], ◌∷◌, ◌++◌, length, sym, subst, refl, ◌∙◌, ap, ap₂, arith, append_assoc}
use Rattle.std.proofs.Common.{append-nil, length-append}
use Rattle.std.specs.Prelude.{true, codes, decimal, flat_map, slice_index}
use Rattle.lrc_trace.specs.declared.act.Act.{Act}
use Rattle.lrc_trace.specs.declared.act.Deed.{Deed}
use Rattle.lrc_trace.specs.declared.act.Deed.TheVariants.{Quiet, Print, Read, Write, Acquire, Release, Arrive, Depart, Trap, End}
use Rattle.lrc_races_lines.specs.declared.line.Kind.TheVariants.{Idle}
use Rattle.lrc_races_lines.specs.Lacking.{Lacks}
use Rattle.lrc_races_lines.specs.Line.{IsName, IsBlank, SpellsEvent, with_target, placed, word, enclosed, unreturned, Says as SaysStd}
use Rattle.lrc_races_lines.proofs.Spelled.{lacks-append, seam-not-lacking, blank-first}
use Rattle.std.proofs.lemmas.Bool.{false≢true}
use Rattle.lrc_acts_text.specs.Rapid.{RapidStep, rapid_steps, step_line}
use Rattle.lrc_races_text.specs.declared.form.Form.TheVariants.{Std}
use Rattle.lrc_races_text.specs.Says.{Said, Say, no_line, event_line}
use Rattle.lrc_races_text.specs.Told.{AreLines, ended}
use Rattle.lrc_races_laws.specs.Said.{kind_of_deed, target_in_rapid, saying_in_rapid}
use Rattle.lrc_races_laws.proofs.Bytes.{tests_plain, plain_lacks, number_lacks, number_short, lettered, number_text}
use Rattle.lrc_races_laws.proofs.Fronts.{IsGood}

-- ---- the deeds that one step stands for

abbrev pub IsOneStep : Deed → Type 0
IsOneStep (Read w value) = Unit {0}
IsOneStep (Write w value) = Unit {0}
IsOneStep (Acquire l) = Unit {0}
IsOneStep (Release l) = Unit {0}
IsOneStep _ = ⊥

abbrev pub number_of : Deed → ℕ
number_of (Read w value) = w
number_of (Write w value) = w
number_of (Acquire l) = l
number_of (Release l) = l
number_of _ = 0

-- the step is the node's for this deed, whatever barriers the node has met
abbrev pub IsStepFor : RapidStep → ℕ → Deed → Type 0
IsStepFor s node deed = rapid_steps (record { locks = 0; nodes = 0; arrived = 0; departed = 0 }) s.position node deed ≡ s ∷ []

-- the step is that of the act, whose numbers have few digits
pub record IsDone (s : RapidStep) (act : Act) : Type 0 where
  pub is : IsStepFor s act.node act.deed
  pub one : IsOneStep act.deed
  pub node : act.node < 10 ^ 64
  pub number : number_of act.deed < 10 ^ 64

-- so are steps, one for one
pub data AreDone : List RapidStep → List Act → Type 0 where
  none_done : AreDone [] []
  more_done : {s : RapidStep} {steps : List RapidStep} {act : Act} {acts : List Act} → IsDone s act → AreDone steps acts
      → AreDone (s ∷ steps) (act ∷ acts)

abbrev pub AreFew : List ℕ → Type 0
AreFew lines = (k : ℕ) → slice_index lines k < 10 ^ 64

-- ---- the line of a step, without its line feed

abbrev pub operation_in : Deed → List ℕ
operation_in (Read w value) = codes "r(V" ++ decimal w
operation_in (Write w value) = codes "w(V" ++ decimal w
operation_in (Acquire l) = codes "acq(L" ++ decimal l
operation_in (Release l) = codes "rel(L" ++ decimal l
operation_in _ = []

abbrev pub body : ℕ → Act → List ℕ
body line act = codes "T" ++ decimal act.node ++ codes "|" ++ operation_in act.deed ++ codes ")|" ++ decimal line

first_line : (line : ℕ) (s : RapidStep) (text : List ℕ) (steps : List RapidStep) → steps ≡ s ∷ [] → flat_map (step_line line) steps ≡ text ++ []
    → step_line line s ≡ text
first_line line s text steps e f = sym (append-nil (step_line line s)) ∙ ap (flat_map (step_line line)) (sym e) ∙ f ∙ append-nil text

body_is : (line node : ℕ) (deed : Deed) (s : RapidStep) → IsOneStep deed → IsStepFor s node deed → step_line line s ≡ ended (body line (record { node = node; deed = deed }))
body_is line node (Read w value) s one e = first_line line s _ _ e refl
body_is line node (Write w value) s one e = first_line line s _ _ e refl
body_is line node (Acquire l) s one e = first_line line s _ _ e refl
body_is line node (Release l) s one e = first_line line s _ _ e refl
body_is line node Arrive s one e = absurd one
body_is line node Depart s one e = absurd one
body_is line node Quiet s one e = absurd one
body_is line node (Print value) s one e = absurd one
body_is line node (Trap cause) s one e = absurd one
body_is line node End s one e = absurd one

-- ---- no byte of a line is a line feed or a carriage return

module _ (x : ℕ) (low : x < 32) where
  worded : (front : List ℕ) (n : ℕ) → tests_plain front ≡ true → n < 10 ^ 64 → Lacks x (front ++ decimal n)
  worded front n plain few = lacks-append x front (decimal n) (plain_lacks x front low plain) (number_lacks x n (omega arith) few)

  operation_lacks : (deed : Deed) → number_of deed < 10 ^ 64 → Lacks x (operation_in deed)
  operation_lacks (Read w value) few = worded (codes "r(V") w refl few
  operation_lacks (Write w value) few = worded (codes "w(V") w refl few
  operation_lacks (Acquire l) few = worded (codes "acq(L") l refl few
  operation_lacks (Release l) few = worded (codes "rel(L") l refl few
  operation_lacks Arrive few = tt
  operation_lacks Depart few = tt
  operation_lacks Quiet few = tt
  operation_lacks (Print value) few = tt
  operation_lacks (Trap cause) few = tt
  operation_lacks End few = tt

  body_lacks : (line : ℕ) (act : Act) → line < 10 ^ 64 → act.node < 10 ^ 64 → number_of act.deed < 10 ^ 64 → Lacks x (body line act)
  body_lacks line act few node number =
      lacks-append x (codes "T" ++ decimal act.node ++ codes "|" ++ operation_in act.deed ++ codes ")|") (decimal line)
      (lacks-append x (codes "T" ++ decimal act.node ++ codes "|" ++ operation_in act.deed) (codes ")|")
      (lacks-append x (codes "T" ++ decimal act.node ++ codes "|") (operation_in act.deed)
      (lacks-append x (codes "T" ++ decimal act.node) (codes "|") (worded (codes "T") act.node refl node) (plain_lacks x (codes "|") low refl))
      (operation_lacks act.deed number))
      (plain_lacks x (codes ")|") low refl))
      (number_lacks x line (omega arith) few)

-- ---- what a line says

named_target : (deed : Deed) → IsOneStep deed → number_of deed < 10 ^ 64 → IsName (target_in_rapid deed)
named_target (Read w value) one few = lettered 86 w ((λ e. omega arith), (λ e. omega arith), (λ e. omega arith), (λ e. omega arith)) few
named_target (Write w value) one few = lettered 86 w ((λ e. omega arith), (λ e. omega arith), (λ e. omega arith), (λ e. omega arith)) few
named_target (Acquire l) one few = lettered 76 l ((λ e. omega arith), (λ e. omega arith), (λ e. omega arith), (λ e. omega arith)) few
named_target (Release l) one few = lettered 76 l ((λ e. omega arith), (λ e. omega arith), (λ e. omega arith), (λ e. omega arith)) few
named_target Arrive one few = absurd one
named_target Depart one few = absurd one
named_target Quiet one few = absurd one
named_target (Print value) one few = absurd one
named_target (Trap cause) one few = absurd one
named_target End one few = absurd one

acting : (deed : Deed) → IsOneStep deed → kind_of_deed deed ≡ Idle → ⊥
acting (Read w value) one e = cc
acting (Write w value) one e = cc
acting (Acquire l) one e = cc
acting (Release l) one e = cc
acting Arrive one e = absurd one
acting Depart one e = absurd one
acting Quiet one e = absurd one
acting (Print value) one e = absurd one
acting (Trap cause) one e = absurd one
acting End one e = absurd one

-- an operation with its parenthesis
closed : (deed : Deed) → IsOneStep deed → operation_in deed ++ 41 ∷ [] ≡ word (kind_of_deed deed) ++ enclosed (target_in_rapid deed)
closed (Read w value) one = refl
closed (Write w value) one = refl
closed (Acquire l) one = refl
closed (Release l) one = refl
closed Arrive one = absurd one
closed Depart one = absurd one
closed Quiet one = absurd one
closed (Print value) one = absurd one
closed (Trap cause) one = absurd one
closed End one = absurd one

bars : (t o l : List ℕ) → (((t ++ 124 ∷ []) ++ o) ++ 41 ∷ 124 ∷ []) ++ l ≡ (t ++ 124 ∷ (o ++ 41 ∷ [])) ++ 124 ∷ l
bars t o l =
    ap (λ x. (x ++ 41 ∷ 124 ∷ []) ++ l) (append_assoc t (124 ∷ []) o)
    ∙ ap (λ x. x ++ l) (append_assoc t (124 ∷ o) (41 ∷ 124 ∷ []))
    ∙ append_assoc t (124 ∷ (o ++ 41 ∷ 124 ∷ [])) l
    ∙ ap (λ x. t ++ 124 ∷ x) (append_assoc o (41 ∷ 124 ∷ []) l ∙ sym (append_assoc o (41 ∷ []) (124 ∷ l)))
    ∙ sym (append_assoc t (124 ∷ (o ++ 41 ∷ [])) (124 ∷ l))

module _ (line : ℕ) (s : RapidStep) (act : Act) (few : line < 10 ^ 64) (done : IsDone s act) where
  whole_body : body line act ≡ (codes "T" ++ decimal act.node ++ 124 ∷ (word (kind_of_deed act.deed) ++ enclosed (target_in_rapid act.deed))) ++ 124 ∷ decimal line
  whole_body =
      bars (codes "T" ++ decimal act.node) (operation_in act.deed) (decimal line)
      ∙ ap (λ o. (codes "T" ++ decimal act.node ++ 124 ∷ o) ++ 124 ∷ decimal line) (closed act.deed done.one)

  body_spelled : SpellsEvent (codes "T" ++ decimal act.node) (kind_of_deed act.deed) (target_in_rapid act.deed) (decimal line) (body line act)
  body_spelled =
      subst (λ b. SpellsEvent (codes "T" ++ decimal act.node) (kind_of_deed act.deed) (target_in_rapid act.deed) (decimal line) b) (sym whole_body)
      (placed (lettered 84 act.node ((λ e. omega arith), (λ e. omega arith), (λ e. omega arith), (λ e. omega arith)) done.node)
      (with_target (acting act.deed done.one) (named_target act.deed done.one done.number)) (number_text line few))

  operation_short : (deed : Deed) → number_of deed < 10 ^ 64 → length (operation_in deed) ≤ 70
  operation_short (Read w value) f = let h = number_short w f in omega arith
  operation_short (Write w value) f = let h = number_short w f in omega arith
  operation_short (Acquire l) f = let h = number_short l f in omega arith
  operation_short (Release l) f = let h = number_short l f in omega arith
  operation_short Arrive f = omega arith
  operation_short Depart f = omega arith
  operation_short Quiet f = omega arith
  operation_short (Print value) f = omega arith
  operation_short (Trap cause) f = omega arith
  operation_short End f = omega arith

  body_short : length (body line act) ≤ 4096
  body_short =
      let a = number_short act.node done.node in
      let b = operation_short act.deed done.number in
      let c = number_short line few in
      let d = length-append (codes "T" ++ decimal act.node ++ codes "|" ++ operation_in act.deed ++ codes ")|") (decimal line) in
      let e = length-append (codes "T" ++ decimal act.node ++ codes "|" ++ operation_in act.deed) (codes ")|") in
      let f = length-append (codes "T" ++ decimal act.node ++ codes "|") (operation_in act.deed) in
      let g = length-append (codes "T" ++ decimal act.node) (codes "|") in
      omega arith

  not_blank : IsBlank (body line act) → ⊥
  not_blank h =
      false≢true ((blank-first (body line act) (decimal act.node ++ codes "|" ++ operation_in act.deed ++ codes ")|" ++ decimal line) 84 refl).1 h)

  says_body : SaysStd (body line act) (saying_in_rapid line act.node act.deed)
  says_body = record {
    body = body line act;
    of = unreturned (λ front e. seam-not-lacking 13 front []
        (subst (λ b. Lacks 13 b) e (body_lacks 13 (omega arith) line act few done.node done.number)));
    short = body_short;
    no_comment = not_blank;
    spells = body_spelled;
  }

-- ---- all lines

-- what steps say, before which stand so many lines
abbrev pub steps_said : ℕ → List ℕ → List RapidStep → List Act → List Said
steps_said before lines [] acts = []
steps_said before lines (s ∷ steps) [] = []
steps_said before lines (s ∷ steps) (act ∷ acts) =
    record { line = before + 1; saying = saying_in_rapid (slice_index lines s.position) act.node act.deed } ∷ steps_said (before + 1) lines steps acts

abbrev pub bodies : List ℕ → List RapidStep → List Act → List (List ℕ)
bodies lines [] acts = []
bodies lines (s ∷ steps) [] = []
bodies lines (s ∷ steps) (act ∷ acts) = body (slice_index lines s.position) act ∷ bodies lines steps acts

module _ (lines : List ℕ) (few : AreFew lines) where
  bodies_whole : {steps : List RapidStep} {acts : List Act} → AreDone steps acts
      → flat_map (λ (s : RapidStep). step_line (slice_index lines s.position) s) steps ≡ flat_map ended (bodies lines steps acts)
  bodies_whole none_done = refl
  bodies_whole (more_done {s = s} {act = act} done rest) =
      ap₂ (λ (x y : List ℕ). x ++ y) (body_is (slice_index lines s.position) act.node act.deed s done.one done.is) (bodies_whole rest)

  bodies_lines : {steps : List RapidStep} {acts : List Act} → AreDone steps acts → AreLines (bodies lines steps acts)
  bodies_lines none_done = tt
  bodies_lines (more_done {s = s} {act = act} done rest) =
      (body_lacks 10 (omega arith) (slice_index lines s.position) act (few s.position) done.node done.number, bodies_lines rest)

  bodies_say : (before : ℕ) {steps : List RapidStep} {acts : List Act} → AreDone steps acts
      → Say Std (before + 1) (bodies lines steps acts) (steps_said before lines steps acts)
  bodies_say before none_done = no_line
  bodies_say before (more_done {s = s} {act = act} done rest) =
      event_line (says_body (slice_index lines s.position) s act (few s.position) done) (bodies_say (before + 1) rest)

  pub steps_good : {steps : List RapidStep} {acts : List Act} → AreDone steps acts
      → IsGood Std (flat_map (λ (s : RapidStep). step_line (slice_index lines s.position) s) steps) (bodies lines steps acts) (steps_said 0 lines steps acts)
  steps_good done = record { whole = bodies_whole done; each = bodies_lines done; says = bodies_say 0 done }
