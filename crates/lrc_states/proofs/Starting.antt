-- Where the turns begin that are shown.
use Rattle.std.proofs.Common.{◌≡◌, ◌∙◌, ◌+◌, ◌<◌, ◌≤◌, ◌++◌, ℕ, List, Option, Some, None, ap, sym, subst, arith, length, get_or, take, drop}
use Rattle.std.specs.Option.{option_to_list}
use Rattle.std.proofs.lemmas.List.{drop_more, length-append, take-append-drop, take_all, drop_all}
use Rattle.lrc_program.specs.declared.Program.{Program}
use Rattle.lrc_protocol.specs.declared.event.Event.{Event}
use Rattle.lrc_protocol.specs.Node.{OptionsRecord}
use Rattle.lrc_protocol.specs.Turn.{TurnRecord}
use Rattle.lrc_protocol.specs.Run.{event_on, fresh_world, played, World}
use Rattle.lrc_replay.specs.Replays.{IsMade, IsReplay, nodes_played}
use Rattle.lrc_replay.specs.declared.replay.Replay.{Replay}
use Rattle.lrc_replay.proofs.Turning.{goes_on}
use Rattle.lrc_states.specs.States.{IsStart, MakesAct}

-- so many events are played, and so many acts are left up to the position
abbrev pub IsBefore : World → List Event → (k position left : ℕ) → Replay → Type 0
IsBefore start events k position left replay =
    (now : World) × (played start (take k events) ≡ Some now) × IsReplay replay now × (left + length now.acts ≡ position)

-- what an event comes to that makes a turn, or none
abbrev pub Makes : Event → Option TurnRecord → (old new : Replay) → Type 0
Makes event turn old new = (now next : World) → IsReplay old now → event_on now event ≡ Some next → IsMade now event next turn new

pub skips : (start end : World) (events : List Event) (k position left : ℕ) (d : Event) (o : Option TurnRecord) (old new : Replay) → k < length events
    → played start events ≡ Some end → IsBefore start events k position left old → o ≡ None → Makes (get_or events k d) o old new
    → IsBefore start events (k + 1) position left new
skips start end events k position left d o old new within goes at none makes =
    let next = goes_on start end events k d within goes at.0 at.1 in
    let made = subst (λ (t : Option TurnRecord). IsMade at.0 (get_or events k d) next.0 t new) none (makes at.0 next.0 at.2 next.1) in
    (next.0, next.2, made.2, ap (λ (w : World). left + length w.acts) made.1 ∙ at.3)

pub more_acts : (now next : World) (event : Event) (turn : TurnRecord) (new : Replay) → IsMade now event next (Some turn) new
    → length next.acts ≡ length now.acts + length (option_to_list turn.act)
more_acts now next event turn new made =
    let same = ap (λ (t : TurnRecord). length (option_to_list t.act)) made.1 in
    omega (arith, ap length made.2.acts, length-append now.acts (option_to_list made.0.made.act), same)

pub seeks : (start end : World) (events : List Event) (k position left rest acts : ℕ) (d : Event) (o : Option TurnRecord) (turn : TurnRecord) (old mid new : Replay)
    → k < length events → played start events ≡ Some end → IsBefore start events k position left old → o ≡ Some turn
    → Makes (get_or events k d) o old mid → new.nodes ≡ mid.nodes → new.flight.items ≡ mid.flight.items ++ turn.out → acts ≡ length (option_to_list turn.act) → rest + acts ≡ left
    → IsBefore start events (k + 1) position rest new
seeks start end events k position left rest acts d o turn old mid new within goes at some makes nodes flight acts_is rest_is =
    let next = goes_on start end events k d within goes at.0 at.1 in
    let made = subst (λ (t : Option TurnRecord). IsMade at.0 (get_or events k d) next.0 t mid) some (makes at.0 next.0 at.2 next.1) in
    let many = more_acts at.0 next.0 (get_or events k d) turn mid made in
    let replay : IsReplay new next.0 = record { nodes = ap (λ v. nodes_played v.items) nodes ∙ made.3.nodes; flight = flight ∙ made.3.flight } in
    (next.0, next.2, replay, omega (arith, many, acts_is, rest_is, at.3))

module _ (program : Program) (nodes : ℕ) (options : OptionsRecord) (events : List Event) (end : World)
    (goes : played (fresh_world program nodes options) events ≡ Some end) (k position left : ℕ) (old : Replay)
    (at : IsBefore (fresh_world program nodes options) events k position left old) where
  pub found : (acts : ℕ) (d : Event) (o : Option TurnRecord) (turn : TurnRecord) (mid : Replay) → k < length events → o ≡ Some turn
      → Makes (get_or events k d) o old mid
      → acts ≡ length (option_to_list turn.act) → left < acts → IsStart program nodes options (Some position) events k
  found acts d o turn mid within some makes acts_is few =
      let next = goes_on (fresh_world program nodes options) end events k d within goes at.0 at.1 in
      let made = subst (λ (t : Option TurnRecord). IsMade at.0 (get_or events k d) next.0 t mid) some (makes at.0 next.0 at.2 next.1) in
      let many = more_acts at.0 next.0 (get_or events k d) turn mid made in
      let begins : MakesAct at.0 position (drop k events) =
      subst (MakesAct at.0 position) (sym (drop_more events k d within)) (next.0, next.1, omega (arith, many, acts_is, few, at.3)) in
      (omega (arith, within), (at.0, record { split = sym (take-append-drop k events); stands = at.1; begins = (omega (arith, at.3), begins) }))

  pub passed : length events ≤ k → IsStart program nodes options (Some position) events (length events)
  passed past =
      let all = take_all k events past ∙ sym (take_all (length events) events (omega arith)) in
      let stands = ap (played (fresh_world program nodes options)) (sym all) ∙ at.1 in
      let begins : MakesAct at.0 position (drop (length events) events) = subst (MakesAct at.0 position) (sym (drop_all (length events) events (omega arith))) tt in
      (omega arith, (at.0, record { split = sym (take-append-drop (length events) events); stands = stands; begins = (omega (arith, at.3), begins) }))
