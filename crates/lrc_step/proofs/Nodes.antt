-- Nodes that act.
use Rattle.std.proofs.Common.{◌≡◌, ◌∙◌, ◌<◌, ℕ, List, arith, get_or, inl, inr, length, map, subst, sym}
use Rattle.std.proofs.lemmas.List.{get_or-map, length-map}
use Rattle.std.proofs.lemmas.List.Elements.{Contains-get_or}
use Rattle.lrc_why_chains.specs.Writes.{AreExactly}
use Rattle.lrc_why_text.specs.declared.asked.Asked.{Asked}
use Rattle.lrc_why_run.specs.Answers.{IsAnswerable}
use Rattle.lrc_step.specs.ReasonLines.{asked_alone}
use Rattle.std.specs.Prelude.{All}
use Rattle.std.proofs.lemmas.Option.{same_Some, slice_get-get_or}
use Rattle.lrc_trace.specs.declared.act.Act.{Act}
use Rattle.lrc_trace.specs.declared.act.Deed.{Deed}
use Rattle.lrc_trace.specs.declared.act.Deed.TheVariants.{Read, Write}
use Rattle.lrc_trace.specs.Run.{IsDone, act_of}
use Rattle.lrc_trace.proofs.Positions.{Does-within}
use Rattle.lrc_why.specs.Positions.{IsRacing}
use Rattle.lrc_step.specs.declared.shown.Part.{Part}
use Rattle.lrc_step.specs.Told.{IsTold}

-- a node of an act that races is below the number of nodes
pub racing_below : (run : List Act) (nodes node position other : ℕ) → All (λ act. act.node < nodes) run → IsRacing run node position other → node < nodes
racing_below run nodes node position other few racing =
    let (deed, does) = racing.acts in
    let act : Act = act_of node deed in
    let within : other < length run = Does-within does in
    let same : get_or run other act ≡ act = same_Some (get_or run other act) act (sym (slice_get-get_or run other act within) ∙ does.stands) in
    subst (λ (a : Act). a.node < nodes) same (few other act within)

done_within : (run : List Act) (position : ℕ) (deed : Deed) → IsDone run position deed → position < length run
done_within run position deed (node, does) = Does-within does

-- an act of which it is told why it is as it is
pub told_within : (run : List Act) (part : Part) (position : ℕ) → IsTold run part position → position < length run
told_within run part position (shown, told) = elim told [
  | inl (word, value, done) ↦ done_within run position (Read word value) done
  | inr ((word, value, done), racer) ↦ done_within run position (Write word value) done
]

-- each is the position of an act
pub all_within : (acts : List Act) (part : Part) (positions : List ℕ) → AreExactly (IsTold acts part) positions
    → All (λ position. position < length acts) positions
all_within acts part positions are = λ k d lt.
    told_within acts part (get_or positions k d) ((are.exact (get_or positions k d)).0 (Contains-get_or positions k d lt))

-- it can be answered what is asked of each
pub answerable : (acts : List Act) (part : Part) (positions : List ℕ) → AreExactly (IsTold acts part) positions
    → All (IsAnswerable (length acts)) (map asked_alone positions)
answerable acts part positions are = λ k d lt.
    let many : length (map asked_alone positions) ≡ length positions = length-map positions asked_alone in
    let within : k < length positions = omega (arith, lt, many) in
    let position : ℕ = get_or positions k 0 in
    let there = told_within acts part position ((are.exact position).0 (Contains-get_or positions k 0 within)) in
    let here : IsAnswerable (length acts) (asked_alone position) = record { there = there; apart = tt } in
    subst (λ (a : Asked). IsAnswerable (length acts) a) (sym (get_or-map asked_alone positions k 0 d within)) here
