-- How a player goes along an order.
use Rattle.std.proofs.Common.{◌≡◌, ◌∙◌, ◌≤◌, ◌+◌, ◌++◌, ℕ, List, [], ◌∷◌, Option, Some, None, inl, inr, refl, sym, ap, ap₂, subst, length, get_or, take}
use Rattle.std.proofs.Common.{append-nil}
use Rattle.std.specs.Prelude.{◌⊎◌}
use Rattle.std.specs.Option.{option_to_list}
use Rattle.std.proofs.lemmas.List.{length_push, take_more}
use Rattle.std.proofs.lemmas.Option.{same_Some, slice_get-get_or, slice_get_within}
use Rattle.lrc_program.specs.declared.Program.{Program}
use Rattle.lrc_trace.specs.declared.act.Act.{Act}
use Rattle.lrc_protocol.specs.declared.event.Event.{Event}
use Rattle.lrc_protocol.specs.declared.event.Event.TheVariants.{Deliver, Run}
use Rattle.lrc_protocol.specs.Node.{OptionsRecord}
use Rattle.lrc_protocol.specs.Run.{Flying, World, event_on, fresh_world, run_of}
use Rattle.lrc_protocol.specs.Turn.{TurnRecord}
use Rattle.lrc_replay.specs.declared.replay.Replay.{Replay}
use Rattle.lrc_replay.specs.Replays.{IsMade, nodes_played}
use Rattle.lrc_replay.specs.Turns.{Turn}
use Rattle.lrc_along.specs.declared.limit.TheConstants.{MOST_EVENTS}
use Rattle.lrc_along.proofs.Events.{one_before}
use Rattle.lrc_exact_events.specs.declared.player.Player.{Player}
use Rattle.lrc_exact_events.specs.Drained.{AreAllDue, whole, astray, GoesOn, IsNext, MakesInTurn, due_event, event_due}
use Rattle.lrc_exact_events.specs.Playing.{AddsNext, IsPlayer, IsPlaying}

-- ---- the event that is due

pub due_delivers : (flight : List Flying) (next : Option Act) → (flight ≡ [] → ⊥) → Some (Deliver 0) ≡ due_event flight next
due_delivers [] next some = absurd (some refl)
due_delivers (sent ∷ flight) next some = refl

pub due_runs : (flight : List Flying) (next : Option Act) (act : Act) → flight ≡ [] → next ≡ Some act → Some (Run act.node) ≡ due_event flight next
due_runs flight next act none is = ap (λ o. due_event [] o) (sym is) ∙ ap (λ f. due_event f next) (sym none)

pub due_none : (flight : List Flying) (next : Option Act) → flight ≡ [] → next ≡ None → None ≡ due_event flight next
due_none flight next none is = ap (λ o. due_event [] o) (sym is) ∙ ap (λ f. due_event f next) (sym none)

-- ---- one event

-- a turn was made: what it sends is in flight, and its act is counted
pub played_so : (order : List Act) (event : Event) (world next : World) (made : TurnRecord) (old new : Player) (mid : Replay)
    → IsPlayer old world → IsMade world event next (Some made) mid → new.replay.nodes ≡ mid.nodes
    → new.replay.flight.items ≡ mid.flight.items ++ made.out
    → ((before : List Act) → old.acts ≡ length before → new.acts ≡ length (before ++ option_to_list made.act))
    → IsNext order old.acts made.act → IsPlayer new next × AddsNext order world next
played_so order event world next made old new mid is m same_nodes posted counted fits =
    let acts : next.acts ≡ world.acts ++ option_to_list made.act =
    m.2.acts ∙ ap (λ (t : TurnRecord). world.acts ++ option_to_list t.act) m.1 in (
      record {
        replay = record {
          nodes = ap (λ ns. nodes_played ns.items) same_nodes ∙ m.3.nodes;
          flight = posted ∙ m.3.flight;
        };
        acts = counted world.acts is.acts ∙ ap length (sym acts);
      },
      record { act = made.act; is = subst (λ k. IsNext order k made.act) is.acts fits; acts = acts },
    )

no_turn : (turn : Turn) → ◌≡◌ {A = List Turn} [] (turn ∷ []) → ⊥
no_turn turn is = cc

first_turn : (one other : Turn) → one ∷ [] ≡ other ∷ [] → one ≡ other
first_turn one other is = cc

-- an event that makes no turn does not go on
pub skipped_astray : (order : List Act) (event : Event) (world next : World) (mid : Replay) → IsMade world event next None mid → GoesOn order world event → ⊥
skipped_astray order event world next mid m on = no_turn on.0 (sym m.0 ∙ on.1)

-- nor does one whose turn makes another act
pub other_astray : (order : List Act) (event : Event) (world next : World) (made : TurnRecord) (old : Player) (mid : Replay)
    → IsPlayer old world → IsMade world event next (Some made) mid → (IsNext order old.acts made.act → ⊥) → GoesOn order world event → ⊥
other_astray order event world next made old mid is m other on =
    let same : m.0 ≡ on.0 = first_turn m.0 on.0 (sym m.2.is ∙ on.1) in
    let same_made : on.0.made ≡ made = ap (λ (t : Turn). t.made) (sym same) ∙ m.1 in
    other (subst (λ (t : TurnRecord). IsNext order old.acts t.act) same_made (subst (λ k. IsNext order k on.0.made.act) (sym is.acts) on.2))

-- ---- the first acts of an order

first_more : (order acts next : List Act) (act : Option Act) → acts ≡ take (length acts) order → IsNext order (length acts) act
    → next ≡ acts ++ option_to_list act → next ≡ take (length next) order
first_more order acts next None first is more =
    let same : next ≡ acts = more ∙ append-nil acts in
    subst (λ (l : List Act). l ≡ take (length l) order) (sym same) first
first_more order acts next (Some act) first is more =
    let within = slice_get_within order (length acts) act is in
    let at : get_or order (length acts) act ≡ act =
    same_Some (get_or order (length acts) act) act (sym (slice_get-get_or order (length acts) act within) ∙ is) in
    let long : length next ≡ length acts + 1 = ap length more ∙ length_push acts act in
    more ∙ ap (λ (l : List Act). l ++ act ∷ []) first ∙ ap (λ (a : Act). take (length acts) order ++ a ∷ []) (sym at)
    ∙ sym (take_more order (length acts) act within) ∙ ap (λ k. take k order) (sym long)

-- ---- events

-- of a list with one more, what stands at a place is the last, or stood there before
split_last : {X : Type 0} (xs before : List X) (x y : X) (after : List X) → xs ++ x ∷ [] ≡ before ++ y ∷ after
    → ((before ≡ xs) × (y ≡ x)) ⊎ ((rest : List X) × (xs ≡ before ++ y ∷ rest))
split_last [] [] x y after is = let same : y ≡ x = cc in inl (refl, same)
split_last [] (b ∷ []) x y after is = let never : [] ≡ y ∷ after = cc in cc
split_last [] (b ∷ c ∷ before) x y after is = let never : [] ≡ c ∷ before ++ y ∷ after = cc in cc
split_last (z ∷ xs) [] x y after is = let same : z ≡ y = cc in inr (xs, ap (λ w. w ∷ xs) same)
split_last (z ∷ xs) (b ∷ before) x y after is =
    let first : z ≡ b = cc in
    let others : xs ++ x ∷ [] ≡ before ++ y ∷ after = cc in
    elim (split_last xs before x y after others) [
      | inl same ↦ inl (ap₂ (λ w ws. w ∷ ws) (sym first) same.0, same.1)
      | inr more ↦ inr (more.0, ap₂ (λ w ws. w ∷ ws) first more.1)
    ]

module _ (program : Program) (nodes : ℕ) (options : OptionsRecord) (order : List Act) where
  all_due_more : (events : List Event) (event : Event) → AreAllDue program nodes options order events
      → ((world : World) → run_of program nodes options events ≡ Some world → event_due order world ≡ Some event)
      → AreAllDue program nodes options order (events ++ event ∷ [])
  all_due_more events event due last before after e world is runs = elim (split_last events before event e after is) [
    | inl same ↦ last world (ap (run_of program nodes options) (sym same.0) ∙ runs) ∙ ap Some (sym same.1)
    | inr more ↦ due before more.0 e world more.1 runs
  ]

  -- one event more that is due
  pub playing_more : (old new : Player) (event : Event) → IsPlaying program nodes options order old
      → ((world : World) → IsPlayer old world → Some event ≡ event_due order world)
      → ((world next : World) → IsPlayer old world → event_on world event ≡ Some next → IsPlayer new next × AddsNext order world next)
      → new.events.items ≡ old.events.items ++ event ∷ [] → IsPlaying program nodes options order new
  playing_more old new event playing due played noted = record {
    due = subst (AreAllDue program nodes options order) (sym noted)
        (all_due_more old.events.items event playing.due (λ world runs. sym (due world (playing.stands world runs))));
    stands = λ next runs. let p = before next runs in p.2.0;
    made = λ next runs.
        let p = before next runs in
        first_more order p.0.acts next.acts p.2.1.act (playing.made p.0 p.1) p.2.1.is p.2.1.acts;
  }
    where
      before : (next : World) → run_of program nodes options new.events.items ≡ Some next
          → (world : World) × (run_of program nodes options old.events.items ≡ Some world) × (IsPlayer new next × AddsNext order world next)
      before next runs =
          let b = one_before program nodes options old.events.items event next (ap (run_of program nodes options) (sym noted) ∙ runs) in
          (b.0, b.1, played b.0 next (playing.stands b.0 b.1) b.2)

  -- none is due
  pub ends_whole : (player : Player) → IsPlaying program nodes options order player → ((world : World) → IsPlayer player world → None ≡ event_due order world)
      → MakesInTurn program nodes options order player.events.items
  ends_whole player playing none = record {
    due = playing.due;
    made = playing.made;
    ends = λ world runs. inl (whole (sym (none world (playing.stands world runs))));
  }

  -- the one that is due leads away
  pub ends_astray : (player : Player) (event : Event) (events : List Event) → IsPlaying program nodes options order player
      → ((world : World) → IsPlayer player world → Some event ≡ event_due order world)
      → ((world next : World) → IsPlayer player world → event_on world event ≡ Some next → GoesOn order world event → ⊥)
      → events ≡ player.events.items → MakesInTurn program nodes options order events
  ends_astray player event events playing due away same =
      subst (MakesInTurn program nodes options order) (sym same) (record {
        due = playing.due;
        made = playing.made;
        ends = λ world runs.
            let stands = playing.stands world runs in
            inl (astray event (sym (due world stands)) (λ next goes. away world next stands goes));
      })

  -- there are as many events as there may be
  pub ends_long : (player : Player) → IsPlaying program nodes options order player → MOST_EVENTS ≤ length player.events.items
      → MakesInTurn program nodes options order player.events.items
  ends_long player playing many = record { due = playing.due; made = playing.made; ends = λ world runs. inr many }

  none_split : (before : List Event) (event : Event) (after : List Event) → [] ≡ before ++ event ∷ after → ⊥
  none_split [] event after split = cc
  none_split (e ∷ before) event after split = cc

  -- at the beginning
  pub starts : (player : Player) → IsPlayer player (fresh_world program nodes options) → player.events.items ≡ [] → IsPlaying program nodes options order player
  starts player is none = record {
    due = subst (AreAllDue program nodes options order) (sym none) (λ before after event world split runs. absurd (none_split before event after split));
    stands = λ world runs. subst (IsPlayer player) (same world runs) is;
    made = λ world runs. subst (λ (w : World). w.acts ≡ take (length w.acts) order) (same world runs) refl;
  }
    where
      same : (world : World) → run_of program nodes options player.events.items ≡ Some world → fresh_world program nodes options ≡ world
      same world runs = same_Some (fresh_world program nodes options) world (sym (ap (run_of program nodes options) none) ∙ runs)
