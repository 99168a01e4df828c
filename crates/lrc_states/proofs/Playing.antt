-- A run that is played again, one event further.
use Rattle.std.proofs.Common.{◌≡◌, ◌∙◌, ℕ, ◌+◌, ◌<◌, ◌≤◌, List, ◌++◌, Some, None, sym, ap, subst, length, arith, get_or, take}
use Rattle.std.specs.Prelude.{Result, Ok, Err, OnOk}
use Rattle.std.specs.Option.{option_to_list}
use Rattle.lrc_trace.specs.declared.act.Act.{Act}
use Rattle.lrc_protocol.specs.declared.event.Event.{Event}
use Rattle.lrc_protocol.specs.Turn.{TurnRecord}
use Rattle.std.proofs.lemmas.List.{length-append, take_all}
use Rattle.std.proofs.lemmas.Option.{same_Some}
use Rattle.lrc_protocol.specs.Run.{event_on, played, World}
use Rattle.lrc_replay.specs.Acts.{Plan}
use Rattle.lrc_replay.specs.Courses.{IsCourse, plan_of}
use Rattle.lrc_replay.specs.Replays.{IsMade, nodes_played}
use Rattle.lrc_replay.specs.Turns.{turn_by, turns_from}
use Rattle.lrc_replay.proofs.Turning.{goes_on, turns_on}
use Rattle.lrc_states.specs.declared.player.Player.{Player}
use Rattle.lrc_states.specs.Players.{AreKnown, IsPlayer, LeavesTurn}

-- the turn was made, and what it did is followed
pub followed : (plan : Plan) (acts : List Act) (turns : ℕ) (next : World) (made : TurnRecord) (old new : Player)
    → LeavesTurn plan acts turns next made old → new.plan ≡ old.plan → new.replay.nodes ≡ old.replay.nodes
    → new.replay.flight.items ≡ old.replay.flight.items ++ made.out → IsCourse plan (acts ++ option_to_list made.act) new.course
    → new.turns ≡ old.turns + 1 → new.shown ≡ old.shown → IsPlayer plan next (turns + 1) new
followed plan acts turns next made old new leaves plan_same nodes_same flight_is course turns_is shown_same = record {
  plan_is = ap plan_of plan_same ∙ leaves.plan_is;
  replay = record {
    nodes = ap (λ v. nodes_played v.items) nodes_same ∙ leaves.leaves.nodes;
    flight = flight_is ∙ leaves.leaves.flight;
  };
  course = subst (λ (l : List Act). IsCourse plan l new.course) (sym leaves.acts_are) course;
  counted = turns_is ∙ ap (λ n. n + 1) leaves.counted;
  known = subst (λ shown. AreKnown shown next) (sym shown_same) leaves.known;
}

-- an event that is skipped
pub passed_over : (plan : Plan) (world next : World) (event : Event) (turns : ℕ) (old new : Player) → IsPlayer plan world turns old
    → IsMade world event next None new.replay → new.plan ≡ old.plan → new.course ≡ old.course → new.turns ≡ old.turns
    → AreKnown new.shown world → IsPlayer plan next (turns + length (turn_by world event)) new
passed_over plan world next event turns old new is made plan_same course_same turns_same known =
    let none : turns + length (turn_by world event) ≡ turns = omega (arith, ap length made.0) in
    record {
      plan_is = ap plan_of plan_same ∙ is.plan_is;
      replay = made.2;
      course = subst (λ (w : World). IsCourse plan w.acts new.course) (sym made.1) (subst (IsCourse plan world.acts) (sym course_same) is.course);
      counted = turns_same ∙ is.counted ∙ sym none;
      known = subst (AreKnown new.shown) (sym made.1) known;
    }

-- an event whose turn is made, before it is followed
pub left_by : (plan : Plan) (world next : World) (event : Event) (turns : ℕ) (made : TurnRecord) (old new : Player) → IsPlayer plan world turns old
    → IsMade world event next (Some made) new.replay → new.plan ≡ old.plan → new.course ≡ old.course → new.turns ≡ old.turns
    → AreKnown new.shown next → LeavesTurn plan world.acts turns next made new
left_by plan world next event turns made old new is m plan_same course_same turns_same known = record {
  plan_is = ap plan_of plan_same ∙ is.plan_is;
  leaves = m.3;
  course = subst (IsCourse plan world.acts) (sym course_same) is.course;
  acts_are = m.2.acts ∙ ap (λ (t : TurnRecord). world.acts ++ option_to_list t.act) m.1;
  counted = turns_same ∙ is.counted;
  known = known;
}

-- its turn is one
pub one_turn : (world next : World) (event : Event) (turns : ℕ) (made : TurnRecord) (new : Player) → IsMade world event next (Some made) new.replay
    → turns + 1 ≡ turns + length (turn_by world event)
one_turn world next event turns made new m = let one = ap length m.2.is in omega (arith, one)

pub on_both : {E A : Type 0} {P Q R : Type 0} (r : Result A E) → OnOk r P → OnOk r Q → (P → Q → R) → OnOk r R
on_both (Ok x) one other leads = leads one other
on_both (Err e) one other leads = tt

-- ---- events one after another

-- so many events are played
abbrev pub IsPlayed : Plan → World → (turns : ℕ) → List Event → (k : ℕ) → Player → Type 0
IsPlayed plan world turns events k player =
    (now : World) × (played world (take k events) ≡ Some now) × IsPlayer plan now (turns + length (turns_from (Some world) (take k events))) player

pub plays_on : (plan : Plan) (world end : World) (turns : ℕ) (events : List Event) (k : ℕ) (d : Event) (old new : Player) → k < length events
    → played world events ≡ Some end → IsPlayed plan world turns events k old
    → ((now next : World) (t : ℕ) → IsPlayer plan now t old → event_on now (get_or events k d) ≡ Some next
    → IsPlayer plan next (t + length (turn_by now (get_or events k d))) new)
    → IsPlayed plan world turns events (k + 1) new
plays_on plan world end turns events k d old new within goes at plays =
    let next = goes_on world end events k d within goes at.0 at.1 in
    let before = turns_from (Some world) (take k events) in
    let here = turn_by at.0 (get_or events k d) in
    let more = ap length (turns_on world end events k d within goes at.0 at.1) in
    let many : turns + length before + length here ≡ turns + length (turns_from (Some world) (take (k + 1) events)) =
    omega (arith, more, length-append before here) in
    (next.0, next.2, subst (λ (n : ℕ). IsPlayer plan next.0 n new) many (plays at.0 next.0 (turns + length before) at.2 next.1))

pub played_all : (plan : Plan) (world end : World) (turns : ℕ) (events : List Event) (k : ℕ) (player : Player) → length events ≤ k
    → played world events ≡ Some end → IsPlayed plan world turns events k player
    → IsPlayer plan end (turns + length (turns_from (Some world) events)) player
played_all plan world end turns events k player past goes at =
    let all = take_all k events past in
    let same : at.0 ≡ end = same_Some at.0 end (sym at.1 ∙ ap (played world) all ∙ goes) in
    subst (λ (w : World). IsPlayer plan w (turns + length (turns_from (Some world) events)) player) same
    (subst (λ (l : List Event). IsPlayer plan at.0 (turns + length (turns_from (Some world) l)) player) all at.2)
