-- How a player comes along an order, and behind it.
use Rattle.std.proofs.Common.{◌≡◌, ◌∙◌, ◌≤◌, ◌+◌, ◌++◌, ℕ, zero, suc, false, List, [], ◌∷◌, Option, Some, None, inl, inr, refl, sym, ap, subst, length, map}
use Rattle.std.proofs.Common.{append-nil, append_assoc, arith}
use Rattle.std.specs.Prelude.{All, option_map, slice_get, unwrap_or}
use Rattle.std.specs.Option.{option_to_list}
use Rattle.std.proofs.lemmas.List.Elements.{All-append}
use Rattle.std.proofs.lemmas.Option.{same_Some, slice_get_past}
use Rattle.lrc_program.specs.declared.Program.{Program}
use Rattle.lrc_trace.specs.declared.act.Act.{Act}
use Rattle.lrc_envelope.specs.Envelope.{EnvelopeRecord}
use Rattle.lrc_lines.specs.Seen.{walks_of}
use Rattle.lrc_lines.specs.Statements.{numbers_of}
use Rattle.lrc_lines.specs.Walks.{walks_behind}
use Rattle.lrc_protocol.specs.declared.event.Event.{Event}
use Rattle.lrc_protocol.specs.declared.event.Event.TheVariants as events
use Rattle.lrc_protocol.specs.Node.{Node, OptionsRecord}
use Rattle.lrc_protocol.specs.Run.{Flying, Logged, World, event_on, fresh_world, run_of}
use Rattle.lrc_protocol.specs.Turn.{TurnRecord, is_ready}
use Rattle.lrc_replay.specs.declared.replay.Replay.{Replay}
use Rattle.lrc_replay.specs.Replays.{IsMade, nodes_in, nodes_played}
use Rattle.lrc_node.specs.Node.{TracedNode}
use Rattle.lrc_along.specs.declared.limit.TheConstants.{MOST_EVENTS}
use Rattle.lrc_explore_events.specs.declared.player.Player.{Player}
use Rattle.lrc_along.specs.Along.{AreDue, IsDelivery, LeadsAlong, MayStandBehind, NoneDue}
use Rattle.lrc_along.specs.Due.{IsDue, has_begun, is_midway, is_ready_at, is_ready_if}
use Rattle.lrc_explore_events.specs.Player.{IsPlayer}
use Rattle.lrc_explore_events.specs.Playing.{HasDrained, HasFollowed, IsDraining, IsFollowing, StandsAlong, StandsBehind}
use Rattle.lrc_along.proofs.Events.{one_before}
use Rattle.lrc_along.proofs.Onward.{behind, onward}
use Rattle.lrc_along.proofs.Stopping.{due_more, none_begun_there, none_due, none_made, stops_so}

-- ---- one event

-- a turn was made: what it sends is in flight, and its act is done
pub played_so : (program : Program) (nodes : ℕ) (event : Event) (world next : World) (made : TurnRecord) (old new : Player) (mid : Replay)
    → IsPlayer program nodes old world → IsMade world event next (Some made) mid → new.replay.nodes ≡ mid.nodes
    → new.replay.flight.items ≡ mid.flight.items ++ made.out
    → ((lines : List ℕ) (before : List Act) → walks_of old.walks ≡ walks_behind program nodes lines before
    → walks_of new.walks ≡ walks_behind program nodes lines (before ++ option_to_list made.act))
    → new.walks.end ≡ old.walks.end
    → ((before : List Act) → old.acts ≡ length before → new.acts ≡ length (before ++ option_to_list made.act))
    → IsPlayer program nodes new next
played_so program nodes event world next made old new mid is m same_nodes posted walked same_end counted =
    let turn = m.0 in
    let acts : next.acts ≡ world.acts ++ option_to_list made.act =
    m.2.acts ∙ ap (λ (t : TurnRecord). world.acts ++ option_to_list t.act) m.1 in
    record {
      replay = record {
        nodes = ap (λ ns. nodes_played ns.items) same_nodes ∙ m.3.nodes;
        flight = posted ∙ m.3.flight;
      };
      walks = walked (numbers_of program) world.acts is.walks ∙ ap (walks_behind program nodes (numbers_of program)) (sym acts);
      end = same_end ∙ is.end;
      acts = counted world.acts is.acts ∙ ap length (sym acts);
    }

-- ---- nodes

-- whether a node that is found has begun its next act, and whether one that is not
pub begun_found : (o : Option Logged) (node : Node) → Some node ≡ option_map (λ (l : Logged). l.node) o → is_midway node.mail.wait ≡ has_begun o
begun_found None node is = cc
begun_found (Some l) node is = let same : node ≡ l.node = cc in ap (λ (n : Node). is_midway n.mail.wait) same

pub begun_nowhere : (o : Option Logged) → None ≡ option_map (λ (l : Logged). l.node) o → false ≡ has_begun o
begun_nowhere None is = refl
begun_nowhere (Some l) is = cc

mapped_get : {X Y : Type 0} (f : X → Y) (xs : List X) (n : ℕ) → slice_get (map f xs) n ≡ option_map f (slice_get xs n)
mapped_get f [] n = refl
mapped_get f (x ∷ xs) zero = refl
mapped_get f (x ∷ xs) (suc n) = mapped_get f xs n

-- whether such a node is ready
ready_by : (o : Option Logged) (t : Option Node) → option_map (λ (l : Logged). Some l.node) o ≡ Some t
    → unwrap_or (option_map is_ready t) false ≡ is_ready_if o
ready_by None t is = cc
ready_by (Some l) t is = let same : t ≡ Some l.node = cc in ap (λ (n : Option Node). unwrap_or (option_map is_ready n) false) same

pub ready_found : (nodes : List TracedNode) (world : World) → nodes_played nodes ≡ nodes_in world → (n : ℕ) (t : TracedNode)
    → slice_get nodes n ≡ Some t → unwrap_or (option_map is_ready t.node) false ≡ is_ready_at world n
ready_found nodes world same n t there =
    ready_by (slice_get world.nodes n) t.node
    (sym (mapped_get (λ (l : Logged). Some l.node) world.nodes n) ∙ ap (λ l. slice_get l n) (sym same)
    ∙ mapped_get (λ (x : TracedNode). x.node) nodes n ∙ ap (option_map (λ (x : TracedNode). x.node)) there)

-- one that is not there is not ready
past_none : (o : Option Logged) → None ≡ option_map (λ (l : Logged). Some l.node) o → false ≡ is_ready_if o
past_none None is = refl
past_none (Some l) is = cc

pub ready_nowhere : (nodes : List TracedNode) (world : World) → nodes_played nodes ≡ nodes_in world → (n : ℕ) → length nodes ≤ n → false ≡ is_ready_at world n
ready_nowhere nodes world same n past =
    past_none (slice_get world.nodes n)
    (sym (ap (option_map (λ (x : TracedNode). x.node)) (slice_get_past nodes n past)) ∙ sym (mapped_get (λ (x : TracedNode). x.node) nodes n)
    ∙ ap (λ l. slice_get l n) same ∙ mapped_get (λ (l : Logged). Some l.node) world.nodes n)

-- ---- messages

pub no_items : {X : Type 0} (xs : List X) → length xs ≡ 0 → xs ≡ []
no_items [] none = refl
no_items (x ∷ xs) none = absurd (omega (arith, none))

-- none is in flight where none is kept
pub none_fly : (kept : List EnvelopeRecord) (flight : List Flying) → kept ≡ map (λ (sent : Flying). sent.envelope) flight
    → (kept ≡ [] → flight ≡ []) × (flight ≡ [] → kept ≡ [])
none_fly kept [] same = (λ none. refl, λ none. same)
none_fly kept (sent ∷ flight) same = (λ none. let never : [] ≡ sent.envelope ∷ map (λ (s : Flying). s.envelope) flight = sym none ∙ same in cc, λ none. cc)

-- ---- along the order

module _ (program : Program) (nodes : ℕ) (options : OptionsRecord) (order : List Act) where
  -- one event more that is due
  pub following_more : (old new : Player) (event : Event) → IsFollowing program nodes options order old
      → ((world : World) → IsPlayer program nodes old world → IsDue program nodes order world event)
      → ((world next : World) → IsPlayer program nodes old world → event_on world event ≡ Some next → IsPlayer program nodes new next)
      → new.events.items ≡ old.events.items ++ event ∷ [] → IsFollowing program nodes options order new
  following_more old new event following due played noted next runs =
      let later = ap (run_of program nodes options) (sym noted) ∙ runs in
      let b = one_before program nodes options old.events.items event next later in
      let stands = following b.0 b.1 in
      let is_due = due b.0 stands.player_is in
      let on = onward program nodes options order old.events.items b.0 b.1 stands.so_far stands.begun event next is_due b.2 later in
      record {
        player_is = played b.0 next stands.player_is b.2;
        due = subst (AreDue program nodes options order) (sym noted)
            (due_more program nodes options order old.events.items event stands.due
            (λ world is. subst (λ w. IsDue program nodes order w event) (same_Some b.0 world (sym b.1 ∙ is)) is_due));
        so_far = on.so_far_is;
        begun = on.begun_is;
      }

  -- none is due
  pub followed_so : (player : Player) → IsFollowing program nodes options order player
      → ((world : World) → IsPlayer program nodes player world → NoneDue program nodes order world) → HasFollowed program nodes options order player
  followed_so player following none world runs =
      let stands = following world runs in
      (stands, inl (stops_so program nodes order world stands.so_far (none world stands.player_is)))

  -- there are as many events as there may be
  pub followed_long : (player : Player) → IsFollowing program nodes options order player → MOST_EVENTS ≤ length player.events.items
      → HasFollowed program nodes options order player
  followed_long player following many world runs = (following world runs, inr many)

-- ---- behind the order

one_delivery : All IsDelivery (events.Deliver 0 ∷ [])
one_delivery zero d lt = refl
one_delivery (suc k) d lt = absurd (omega (arith, lt))

module _ (program : Program) (nodes : ℕ) (options : OptionsRecord) (along : List Event) where
  -- one message more is delivered
  pub draining_more : (old new : Player) → IsDraining program nodes options along old
      → ((world next : World) → IsPlayer program nodes old world → event_on world (events.Deliver 0) ≡ Some next → IsPlayer program nodes new next)
      → new.events.items ≡ old.events.items ++ events.Deliver 0 ∷ [] → IsDraining program nodes options along new
  draining_more old new draining played noted = record {
    behind = draining.behind ++ events.Deliver 0 ∷ [];
    events = noted ∙ ap (λ es. es ++ events.Deliver 0 ∷ []) draining.events ∙ append_assoc along draining.behind (events.Deliver 0 ∷ []);
    drains = All-append IsDelivery draining.behind (events.Deliver 0 ∷ []) draining.drains one_delivery;
    stands = stands;
  }
    where
      stands : (world : World) → run_of program nodes options new.events.items ≡ Some world → StandsBehind program nodes options along new world
      stands next runs =
          let b = one_before program nodes options old.events.items (events.Deliver 0) next (ap (run_of program nodes options) (sym noted) ∙ runs) in
          let s = draining.stands b.0 b.1 in
          let on = behind program nodes options old.events.items b.0 s.at b.1 s.begun next b.2 in
          record {
            player_is = played b.0 next s.player_is b.2;
            at = s.at;
            led = s.led;
            more = s.more ++ on.more;
            acts = on.acts_are ∙ ap (λ a. a ++ on.more) s.acts ∙ append_assoc s.at.acts s.more on.more;
            departs = All-append (MayStandBehind s.at) s.more on.more s.departs on.stand;
            begun = on.begun_is;
          }

-- ---- from the beginning to the end

module _ (program : Program) (nodes : ℕ) (options : OptionsRecord) (order : List Act) where
  abbrev fresh : World
  fresh = fresh_world program nodes options

  start_stands : (player : Player) → IsPlayer program nodes player fresh → player.events.items ≡ [] → StandsAlong program nodes options order player fresh
  start_stands player is none = record {
    player_is = is;
    due = subst (AreDue program nodes options order) (sym none) (none_due program nodes options order);
    so_far = none_made program nodes options order;
    begun = none_begun_there program nodes options order;
  }

  pub starts_along : (player : Player) → IsPlayer program nodes player fresh → player.events.items ≡ [] → IsFollowing program nodes options order player
  starts_along player is none world runs =
      let same : fresh ≡ world = same_Some fresh world (sym (ap (run_of program nodes options) none) ∙ runs) in
      subst (StandsAlong program nodes options order player) same (start_stands player is none)

  pub starts_behind : (player : Player) → HasFollowed program nodes options order player → IsDraining program nodes options player.events.items player
  starts_behind player followed = record {
    behind = [];
    events = sym (append-nil player.events.items);
    drains = λ k d lt. absurd (omega (arith, lt));
    stands = λ world runs.
        record {
          player_is = (followed world runs).0.player_is;
          at = world;
          led = runs;
          more = [];
          acts = sym (append-nil world.acts);
          departs = λ k d lt. absurd (omega (arith, lt));
          begun = λ node h. h;
        };
  }

  pub leads_so : (one last : Player) → HasFollowed program nodes options order one → HasDrained program nodes options one.events.items last
      → LeadsAlong program nodes options order last.events.items
  leads_so one last followed drained = (
    one.events.items,
    drained.draining.behind,
    drained.draining.events,
    λ run runs.
        let s = drained.draining.stands run runs in
        let f = followed s.at s.led in
        record {
          at = s.at;
          led = s.led;
          due = f.0.due;
          so_far = f.0.so_far;
          begun = f.0.begun;
          stops = f.1;
          drains = drained.draining.drains;
          more = s.more;
          acts = s.acts;
          departs = s.departs;
          rests = drained.rests run runs;
        },
  )
