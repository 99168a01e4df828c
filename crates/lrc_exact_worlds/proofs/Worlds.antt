-- Every turn keeps it that the nodes stand beside the states of the acts.
use Rattle.std.proofs.Common.{◌≡◌, ℕ, suc, ◌+◌, ◌<◌, ◌≤◌, List, [], ◌∷◌, ◌++◌, Bool, true, false, length, map, inl, inr, refl, sym, ap, subst, ◌∙◌, arith}
use Rattle.std.proofs.Common.{add-one, append-nil, ⊎_elim}
use Rattle.std.specs.Prelude.{Option, Some, None, Contains, if◌then◌else◌, slice_get}
use Rattle.std.proofs.lemmas.Bool.{cases_eq, cases_lt, eq-eqb}
use Rattle.std.proofs.lemmas.List.{length_push, map-append}
use Rattle.std.proofs.lemmas.Option.{same_Some, slice_get_within}
use Rattle.lrc_program.specs.declared.Program.{Program}
use Rattle.lrc_trace.specs.declared.act.Act.{Act}
use Rattle.lrc_trace.specs.declared.act.Deed.{Deed}
use Rattle.lrc_trace.specs.declared.act.Deed.TheVariants.{Quiet, Print, Read, Write, Acquire, Release, Arrive, Depart, Trap, End}
use Rattle.lrc_trace.specs.Run.{Does, act_of, arrives_before}
use Rattle.lrc_trace.proofs.Positions.{Does-cases, slice_get-front, slice_get-seam}
use Rattle.lrc_time.specs.Time.{entry}
use Rattle.lrc_store.specs.Store.{StoredRecord, interval_of}
use Rattle.lrc_envelope.specs.Envelope.{EnvelopeRecord}
use Rattle.lrc_envelope.specs.Records.{PageReplyRecord}
use Rattle.lrc_envelope.specs.declared.message.Message.TheVariants.{PageReply}
use Rattle.lrc_copies.specs.Stamps.{stamp_index, StandsBetween}
use Rattle.lrc_clock.specs.Keeping.{KeepsTime}
use Rattle.lrc_clock.proofs.Deciding.{one_list}
use Rattle.lrc_protocol.specs.Pages.{Need}
use Rattle.lrc_protocol.specs.Barriers.{Collection, base_at}
use Rattle.lrc_protocol.specs.Node.{Wait, nothing, grant, departure, access, upkeep, discard, Node, Effect, OptionsRecord}
use Rattle.lrc_protocol.specs.Turn.{TurnRecord, taking}
use Rattle.lrc_protocol.specs.Rules.{IsSent, with_numbers}
use Rattle.lrc_protocol.specs.Run.{Input, EntryRecord, Logged, World, Flying, with_turn}
use Rattle.lrc_protocol.specs.Follows.{pending}
use Rattle.lrc_protocol.proofs.Ruled.{by_rule}
use Rattle.lrc_protocol.proofs.Worlds.{IsEntry, get_set_same, get_set_other}
use Rattle.lrc_protocol.proofs.Induction.{Comes}
use Rattle.lrc_order_laws.specs.Counts.{is_inside}
use Rattle.lrc_order_laws.proofs.AllTimely.{Made, made_so}
use Rattle.lrc_order_laws.proofs.Pending.{Ran, ran}
use Rattle.lrc_order_laws.proofs.Present.{more_acts, more_times}
use Rattle.lrc_order_laws.proofs.Reached.{IsReached}
use Rattle.lrc_order_laws.proofs.Shape.{shape_at}
use Rattle.lrc_order_laws.proofs.Shift.{deed_made, deed_back}
use Rattle.lrc_order_laws.proofs.Timed.{keeps}
use Rattle.lrc_node_laws.specs.Reached.{IsReached as IsReachedNode}
use Rattle.lrc_node_laws.proofs.Always.{is_store_at, known_at}
use Rattle.lrc_node_laws.proofs.Change.{view_of, Walk, goes, receives}
use Rattle.lrc_node_laws.proofs.Reach.{first_view}
use Rattle.lrc_node_laws.proofs.Tokened.{come_to}
use Rattle.lrc_node_laws.proofs.Turning.{news_in}
use Rattle.lrc_reading_laws.specs.Known.{AreKnown}
use Rattle.lrc_reading_laws.specs.Made.{AllMade, AllTold}
use Rattle.lrc_reading_laws.specs.Written.{made_stamps, word_on}
use Rattle.lrc_reading_laws.proofs.Asked.Laws.{requests_law}
use Rattle.lrc_reading_laws.proofs.Closed.History.{History, one_more, closed_record, closed_by}
use Rattle.lrc_reading_laws.proofs.Closed.Told.{told-there as made-there}
use Rattle.lrc_reading_laws.proofs.Collected.Law.{bases_law}
use Rattle.lrc_reading_laws.proofs.Collected.Turns.{in_collection}
use Rattle.lrc_reading_laws.proofs.Fitting.Copies.{Stored}
use Rattle.lrc_reading_laws.proofs.Fitting.Sent.{Asked}
use Rattle.lrc_reading_laws.proofs.Fitting.Worlds.{ToIs, to-is, lost-in}
use Rattle.lrc_reading_laws.proofs.Laws.{AwaitsBase, AreAwaited, AreServed, base_bound, bound_in}
use Rattle.lrc_reading_laws.proofs.Stamped.Cuts.{Counted}
use Rattle.lrc_reading_laws.proofs.Stamped.Made.{all_made, all_listed, closed-index}
use Rattle.lrc_reading_laws.proofs.Stamped.Times.{AreCuts, all_cuts}
use Rattle.lrc_reading_laws.proofs.Stamped.Worlds.{Placed, placed, TurnBy, alone, again, anew, turn_at}
use Rattle.lrc_reading_laws.proofs.Whole.{stamps}
use Rattle.lrc_exact.specs.LocalRule.{state_before, state_after, released_state}
use Rattle.lrc_exact.specs.Rule.{Shape, Knowledge, State, exact_rule, exact_value, KeepsExact, acquired, with_learned, collected, collects}
use Rattle.lrc_exact.proofs.LocalRules.{keeps-more}
use Rattle.lrc_exact_known.specs.Known.{times_of}
use Rattle.lrc_exact_known.proofs.KeepingTime.{times-kept}
use Rattle.lrc_exact_laws.proofs.Lists.{same_last}
use Rattle.lrc_exact_made.specs.Copies.{shape_of, HasExact}
use Rattle.lrc_exact_collected.specs.Collected.{AreCollected}
use Rattle.lrc_exact_collected.proofs.Deciding.{arrived-stays}
use Rattle.lrc_exact_collecting.specs.Left.{dropped_by}
use Rattle.lrc_exact_turns.proofs.Learning.{all_made as all_known, found_state}
use Rattle.lrc_exact_turns.proofs.Stands.{is_among, standing, IsLeft, base_left, StandsAt, arrived_in, number_of, all_at, left_at, now_state, next_state, then_state}
use Rattle.lrc_exact_turns.proofs.Stands.{then_number, KnowsMade, Here, Tells, Effected, Elsewhere}
use Rattle.lrc_exact_turns.proofs.Turns.{run-then, take-then}
use Rattle.lrc_exact_worlds.proofs.Exact.{AreExactOf, each_other, news-made, deed_cases, still_before, own_then, other_then, seam_is}
use Rattle.lrc_exact_worlds.proofs.Longer.{reaches, not_reached, knows_more, stands_more}
use Rattle.lrc_exact_worlds.proofs.Numbers.{dropped_same, left_same, stands_moved, other_number, same_number, own_number, over, has_arrived, has_departed}
use Rattle.lrc_exact_worlds.proofs.Numbers.{outside_departed, all_but_one, inside_departed, arrived_with, collected_with, collecting_now}
use Rattle.lrc_exact_worlds.proofs.Serving.{left_unnamed, sent-cases}

-- ---- one turn

module _ (program : Program) (nodes : ℕ) (options : OptionsRecord) where
  abbrev shape : Shape
  shape = shape_of nodes options.size options.collect

  module _ (world : World) (made : List StoredRecord) (flight : List Flying) (n : ℕ) (l after : Logged) (input : Input) (entry_made : EntryRecord)
      (at : slice_get world.nodes n ≡ Some l) (come : Comes world n input flight) (i : IsEntry l input entry_made after)
      (r : IsReached program nodes options world) (r' : IsReached program nodes options (with_turn world flight n entry_made after))
      (hist : History program nodes options world made) (h : AreExactOf nodes options made world.nodes (pending world) world.acts) where
    abbrev now : World
    now = with_turn world flight n entry_made after

    abbrev new : List StoredRecord
    new = closed_by l.node after.node

    abbrev acts : List Act
    acts = world.acts

    abbrev states : List State
    states = h.states

    hist' : History program nodes options now (made ++ new)
    hist' = one_more world made flight n l after input entry_made at come i r r' hist

    known : AreKnown nodes made world
    known = stamps program nodes options world made hist

    known' : AreKnown nodes (made ++ new) now
    known' = stamps program nodes options now (made ++ new) hist'

    cuts : AreCuts nodes made world
    cuts = all_cuts program nodes options world made hist

    cuts' : AreCuts nodes (made ++ new) now
    cuts' = all_cuts program nodes options now (made ++ new) hist'

    at' : slice_get now.nodes n ≡ Some after
    at' = get_set_same world.nodes n l after at

    p : Placed nodes n l.node
    p = placed program nodes options world r n l at

    p' : Placed nodes n after.node
    p' = placed program nodes options now r' n after at'

    same_options : l.node.options ≡ options
    same_options = (shape_at program nodes options r.events world n l r.runs at).options

    counted : Counted made l.node.setting.me (entry l.node.locks.time l.node.setting.me)
    counted =
        subst (λ k. Counted made k (entry l.node.locks.time k)) (sym p.me)
        ((all_made program nodes options world made hist).exact n l at)

    stored : Stored made l.node.locks.time l.node.memory.collected l.node.memory.store
    stored = record {
      just = known.stored n l at;
      is_store = is_store_at l.node p.reached;
      known = λ key changes e. known.known n l key changes at e;
      time_cut = known.time n l at;
      collected_cut = known.collected n l at;
    }

    stored' : Stored (made ++ new) after.node.locks.time after.node.memory.collected after.node.memory.store
    stored' = record {
      just = known'.stored n after at';
      is_store = is_store_at after.node p'.reached;
      known = λ key changes e. known'.known n after key changes at' e;
      time_cut = known'.time n after at';
      collected_cut = known'.collected n after at';
    }

    abbrev me : ℕ
    me = l.node.setting.me

    abbrev state_of : ℕ → State
    state_of q = state_before (exact_rule shape) acts states q (length acts)

    -- what is known before the turn, as the node has its size
    abbrev Here_of : OptionsRecord → ℕ → Type 0
    Here_of o k =
        (StandsAt o.size nodes options.collect acts states made (number_of acts k) k l.node.locks.time l.node.mail.wait l.node.memory
        (state_before (exact_rule (shape_of nodes o.size options.collect)) acts states k (length acts)))
        × ((state_before (exact_rule (shape_of nodes o.size options.collect)) acts states k (length acts)).dropped
        ≡ dropped_by (shape_of nodes o.size options.collect) (arrived_in acts states) (number_of acts k))
        × ((j : ℕ) (s : State) → slice_get states j ≡ Some s → KnowsMade o.size made s.knows)
        × (is_inside l.node.mail.wait ≡ 1
        → arrived_in acts states (number_of acts k) k
        ≡ Some (state_before (exact_rule (shape_of nodes o.size options.collect)) acts states k (length acts)))
        × (in_collection l.node.mail.wait ≡ true
        → (collects (shape_of nodes o.size options.collect) (arrived_in acts states (number_of acts k)) ≡ true)
        × ((all_at nodes acts states (number_of acts k)).time ≡ l.node.locks.time))

    here_so : Here_of l.node.options me
    here_so =
        subst (λ (o : OptionsRecord). Here_of o me) (sym same_options)
        (subst (Here_of options) (sym p.me) (
          h.stands n l at,
          h.dropped n l at,
          h.holds,
          arrived_with program nodes options world r n l at states h.keeps,
          collecting_now program nodes options world r n l at states h.keeps,
        ))

    here : Here nodes options.collect acts states made l.node
    here = record {
      stands = here_so.0;
      dropped = here_so.1;
      holds = here_so.2;
      inside = here_so.3;
      collecting = here_so.4;
      known = known_at l.node p.reached;
      count = p.count;
      within = let long = p.long in let me = p.me in let lt = p.within in omega arith;
      listed = all_listed program nodes options world made hist;
      stamped = known.stamped;
      counted = counted;
      stored = stored;
    }

    -- ---- the deed

    m : Made world n (deed_made entry_made.turn) after.node.locks.time now
    m = made_so program nodes options world flight n l after input entry_made at i r

    abbrev next : Deed → State
    next d = state_after (exact_rule shape) acts states (length acts) n d

    kept_then : (d : Deed) → KeepsExact shape (acts ++ act_of n d ∷ []) (states ++ next d ∷ [])
    kept_then d = keeps-more (exact_rule shape) nodes acts states (act_of n d) (next d) h.keeps p.within refl

    -- the exact memory's time after the act is the node's
    timed : (d : Deed) → deed_made entry_made.turn ≡ Some d → (next d).knows.time ≡ after.node.locks.time
    timed d is =
        let deed_is : m.deed ≡ Some d = sym m.deed_is ∙ is in
        let kept : KeepsTime nodes now.acts now.times = keeps program nodes options r'.events now r'.runs in
        let acts_are : now.acts ≡ acts ++ act_of n d ∷ [] = m.acts_are ∙ ap (λ deed. acts ++ more_acts n deed) deed_is in
        let times_are : now.times ≡ world.times ++ after.node.locks.time ∷ [] =
        m.times_are ∙ ap (λ deed. world.times ++ more_times n after.node.locks.time deed) deed_is in
        let as_known : KeepsTime nodes (acts ++ act_of n d ∷ []) (world.times ++ after.node.locks.time ∷ []) =
        subst (KeepsTime nodes (acts ++ act_of n d ∷ [])) times_are (subst (λ acts. KeepsTime nodes acts now.times) acts_are kept) in
        let as_exact : KeepsTime nodes (acts ++ act_of n d ∷ []) (times_of (states ++ next d ∷ [])) =
        times-kept shape (acts ++ act_of n d ∷ []) (states ++ next d ∷ []) (kept_then d) in
        let same : times_of (states ++ next d ∷ []) ≡ world.times ++ after.node.locks.time ∷ [] =
        one_list nodes (acts ++ act_of n d ∷ []) (times_of (states ++ next d ∷ [])) (world.times ++ after.node.locks.time ∷ []) as_exact as_known in
        same_last (times_of states) world.times (next d).knows.time after.node.locks.time
        (sym (map-append (λ (s : State). s.knows.time) states (next d ∷ [])) ∙ same)

    -- the same for the node with its own size and number
    abbrev next_own : Deed → State
    next_own d = next_state nodes options.collect acts states l.node d

    next_is : (d : Deed) → next_own d ≡ next d
    next_is d =
        ap (λ (o : OptionsRecord). state_after (exact_rule (shape_of nodes o.size options.collect)) acts states (length acts) l.node.setting.me d) same_options
        ∙ ap (λ k. state_after (exact_rule shape) acts states (length acts) k d) p.me

    now_is : now_state nodes options.collect acts states l.node ≡ state_before (exact_rule shape) acts states n (length acts)
    now_is =
        ap (λ (o : OptionsRecord). state_before (exact_rule (shape_of nodes o.size options.collect)) acts states l.node.setting.me (length acts)) same_options
        ∙ ap (λ k. state_before (exact_rule shape) acts states k (length acts)) p.me

    -- what the turn makes of the node
    record Turned : Type 0 where
      stands : StandsAt l.node.options.size nodes options.collect acts states (made ++ new) (then_number (deed_made entry_made.turn) (number_of acts me)) me
          after.node.locks.time after.node.mail.wait after.node.memory
          (then_state nodes options.collect acts states l.node (deed_made entry_made.turn))
      reads : (word value : ℕ) → deed_made entry_made.turn ≡ Some (Read word value)
          → value ≡ ((now_state nodes options.collect acts states l.node).words word).value
      departs : deed_made entry_made.turn ≡ Some Depart → is_inside l.node.mail.wait ≡ 1
      settled : (d : Deed) → deed_made entry_made.turn ≡ Some d
          → ((shape : Shape) (all : Knowledge) (state : State) → standing shape me all after.node.mail.wait state ≡ state)
          × ((in_collection after.node.mail.wait ≡ true) → ⊥)

    timed_own : (d : Deed) → deed_made entry_made.turn ≡ Some d → (next_own d).knows.time ≡ after.node.locks.time
    timed_own d is = ap (λ (s : State). s.knows.time) (next_is d) ∙ timed d is

    -- with no act the barrier's arrives are as they were
    collecting_then : deed_made entry_made.turn ≡ None → in_collection after.node.mail.wait ≡ true
        → (all_at nodes acts states (number_of acts me)).time ≡ after.node.locks.time
    collecting_then none inside =
        let acts_are : now.acts ≡ acts = m.acts_are ∙ ap (λ deed. acts ++ more_acts n deed) (sym m.deed_is ∙ none) ∙ append-nil acts in
        let kept : KeepsExact shape now.acts states = subst (λ acts. KeepsExact shape acts states) (sym acts_are) h.keeps in
        let it = collecting_now program nodes options now r' n after at' states kept inside in
        subst (λ k. (all_at nodes acts states (number_of acts k)).time ≡ after.node.locks.time) (sym p.me)
        (subst (λ acts. (all_at nodes acts states (number_of acts n)).time ≡ after.node.locks.time) acts_are it.1)

    of_effect : (e : Effect) (turn : TurnRecord) (later : Node) → IsSent e turn later → (deed_made turn ≡ deed_made entry_made.turn) → later ≡ after.node
        → (Elsewhere nodes options.collect acts states made l.node e → Effected nodes options.collect acts states made l.node e) → Turned
    of_effect e _ _ (with_numbers out sent is) same_turn same_node f =
        let deed_is : e.deed ≡ deed_made entry_made.turn = sym (deed_back e.node.setting.me e.deed) ∙ same_turn in
        let it : Effected nodes options.collect acts states made l.node e = f (record {
          timed = λ d d_is. timed_own d (sym deed_is ∙ d_is) ∙ ap (λ (x : Node). x.locks.time) (sym same_node);
          stored =
              subst (λ (x : Node). Stored (made ++ closed_by l.node x) x.locks.time x.memory.collected x.memory.store) (sym same_node) stored';
          collecting = λ none inside.
              collecting_then (sym deed_is ∙ none) (ap (λ (x : Node). in_collection x.mail.wait) (sym same_node) ∙ inside)
              ∙ ap (λ (x : Node). x.locks.time) (sym same_node);
        }) in
        record {
          stands =
              subst (λ (x : Node). StandsAt l.node.options.size nodes options.collect acts states (made ++ closed_by l.node x)
              (then_number (deed_made entry_made.turn) (number_of acts me)) me x.locks.time x.mail.wait x.memory
              (then_state nodes options.collect acts states l.node (deed_made entry_made.turn))) same_node
              (subst (λ deed. StandsAt l.node.options.size nodes options.collect acts states (made ++ closed_by l.node e.node)
              (then_number deed (number_of acts me)) me e.node.locks.time e.node.mail.wait e.node.memory
              (then_state nodes options.collect acts states l.node deed)) deed_is it.stands);
          reads = λ word value is. it.reads word value (deed_is ∙ is);
          departs = λ is. it.departs (deed_is ∙ is);
          settled = λ d is.
              subst (λ (x : Node). ((shape : Shape) (all : Knowledge) (state : State) → standing shape me all x.mail.wait state ≡ state)
              × ((in_collection x.mail.wait ≡ true) → ⊥)) same_node (it.settled d (deed_is ∙ is));
        }

    -- a node that has taken a message
    taking_here : (e : EnvelopeRecord) → Here nodes options.collect acts states made (taking l.node e)
    taking_here e = record {
      stands = here.stands;
      dropped = here.dropped;
      holds = here.holds;
      inside = here.inside;
      collecting = here.collecting;
      known = record {
        text = here.known.text;
        fits = here.known.fits;
        quiet = here.known.quiet;
        copies = here.known.copies;
        needs = here.known.needs;
        reaching = here.known.reaching;
      };
      count = here.count;
      within = here.within;
      listed = here.listed;
      stamped = here.stamped;
      counted = here.counted;
      stored = here.stored;
    }

    taking_effect : (e : EnvelopeRecord) (effect : Effect)
        → (Elsewhere nodes options.collect acts states made (taking l.node e) effect → Effected nodes options.collect acts states made (taking l.node e) effect)
        → Elsewhere nodes options.collect acts states made l.node effect → Effected nodes options.collect acts states made l.node effect
    taking_effect e effect f o =
        let it : Effected nodes options.collect acts states made (taking l.node e) effect =
        f (record { timed = o.timed; stored = o.stored; collecting = o.collecting }) in
        record { stands = it.stands; reads = it.reads; departs = it.departs; settled = it.settled }

    -- what a message says that comes
    tells : (e : EnvelopeRecord) → Contains (pending world) e → e.to ≡ me → Tells nodes options.collect acts states (taking l.node e) e.message
    tells e among to =
        let at_to : slice_get world.nodes e.to ≡ Some l = subst (λ k. slice_get world.nodes k ≡ Some l) (sym (to ∙ p.me)) at in
        let c : AreCollected nodes options world states = collected_with program nodes options world r states h.keeps in
        record {
          told = λ m is.
              subst (λ (o : OptionsRecord). m.collect ≡ collects (shape_of nodes o.size options.collect) (arrived_in acts states (number_of acts me)))
              (sym same_options)
              (subst (λ k. m.collect ≡ collects shape (arrived_in acts states (number_of acts k))) to (c.told e m l among is at_to));
          sent = λ m is.
              subst (λ (o : OptionsRecord). IsLeft o.size (left_at (shape_of nodes o.size options.collect) acts states (number_of acts me)) m.page m.values)
              (sym same_options)
              (subst (λ k. IsLeft options.size (left_at shape acts states (number_of acts k)) m.page m.values) to (h.sent e m l among is at_to));
        }

    walked : let reached : IsReachedNode l.node = p.reached in
        Walk (first_view reached.program reached.nodes reached.options reached.me reached.leads.among) (view_of l.node)
    walked = let reached : IsReachedNode l.node = p.reached in (come_to l.node reached).walked

    turned_by : (input : Input) (turn : TurnRecord) (later : Node) (pending_then : List EnvelopeRecord)
        → TurnBy l.node (pending world) input turn later pending_then
        → (deed_made turn ≡ deed_made entry_made.turn) → later ≡ after.node → Turned
    turned_by _ turn later pending_then (alone o k is) same_turn same_node =
        let it : Ran l.node turn later = ran l.node turn later o in
        let reached : IsReachedNode l.node = p.reached in
        of_effect it.effect turn later it.sent same_turn same_node
        (run-then nodes options.collect acts states made reached.program reached.nodes reached.options reached.me reached.leads.among l.node walked here
        it.effect it.rule)
    turned_by _ _ _ pending_then (again e is) same_turn same_node = record {
      stands =
          subst (λ (x : Node). StandsAt l.node.options.size nodes options.collect acts states (made ++ closed_by l.node x)
          (then_number (deed_made entry_made.turn) (number_of acts me)) me x.locks.time x.mail.wait x.memory
          (then_state nodes options.collect acts states l.node (deed_made entry_made.turn))) same_node
          (subst (λ deed. StandsAt l.node.options.size nodes options.collect acts states (made ++ closed_by l.node l.node)
          (then_number deed (number_of acts me)) me l.node.locks.time l.node.mail.wait l.node.memory
          (then_state nodes options.collect acts states l.node deed)) same_turn
          (subst (λ all. StandsAt l.node.options.size nodes options.collect acts states all (number_of acts me) me l.node.locks.time l.node.mail.wait
          l.node.memory (now_state nodes options.collect acts states l.node)) nothing_closed here.stands));
      reads = λ word value is. absurd (no_deed (Read word value) (same_turn ∙ is));
      departs = λ is. absurd (no_deed Depart (same_turn ∙ is));
      settled = λ d is. absurd (no_deed d (same_turn ∙ is));
    }
      where
        no_deed : (d : Deed) → None ≡ Some d → ⊥
        no_deed d e = cc

        nothing_closed : made ≡ made ++ closed_by l.node l.node
        nothing_closed =
            sym (append-nil made)
            ∙ ap (λ b. made ++ (if b then [] else closed_record l.node ∷ []))
            (sym (eq-eqb (entry l.node.locks.time l.node.setting.me) (entry l.node.locks.time l.node.setting.me) refl))
    turned_by _ turn later pending_then (anew e t k lost) same_turn same_node =
        let reached : IsReachedNode l.node = p.reached in
        let told : AllMade (map interval_of made) (news_in e.message) =
        news-made (map interval_of made) e.message
        (made-there (map interval_of made) lost.front lost.back e (subst (AllTold (map interval_of made)) lost.before known.are.told)) in
        of_effect t.effect turn later t.sent same_turn same_node
        (taking_effect e t.effect
        (take-then nodes options.collect acts states made reached.program reached.nodes reached.options reached.me reached.leads.among (taking l.node e)
        (goes walked (receives e.from _)) (taking_here e) e.from e.message t.effect (tells e (lost-in e (pending world) turn.out pending_then lost) t.addressed.to_it)
        told t.rule))

    turned : Turned
    turned =
        turned_by input entry_made.turn after.node (pending now) (turn_at program nodes options world flight n l after input entry_made at come i r) refl refl

    -- ---- what is known, and other nodes

    index_is : stamp_index made_stamps (closed_record l.node) ≡ entry l.node.locks.time l.node.setting.me + 1
    index_is = closed-index nodes n l.node p

    holds_then : (j : ℕ) (s : State) → slice_get states j ≡ Some s → KnowsMade options.size (made ++ new) s.knows
    holds_then j s is =
        let k : KnowsMade options.size made s.knows = h.holds j s is in
        knows_more options.size made l.node after.node s.knows
        (not_reached made s.knows.time (entry l.node.locks.time l.node.setting.me) (closed_record l.node) k.reach counted index_is) k

    stands_then : (q : ℕ) (lq : Logged) → slice_get world.nodes q ≡ Some lq
        → StandsAt options.size nodes options.collect acts states (made ++ new) (number_of acts q) q lq.node.locks.time lq.node.mail.wait lq.node.memory (state_of q)
    stands_then q lq at_q =
        stands_more options.size made l.node after.node nodes options.collect (left_at shape acts states (number_of acts q))
        (left_at shape acts states (suc (number_of acts q))) (all_at nodes acts states (number_of acts q)) q lq.node.locks.time lq.node.mail.wait
        lq.node.memory (state_of q)
        (not_reached made lq.node.locks.time (entry l.node.locks.time l.node.setting.me) (closed_record l.node)
        (reaches made lq.node.locks.time (cuts.times q lq at_q)) counted index_is) (h.stands q lq at_q)

    abbrev Own : OptionsRecord → ℕ → State → Type 0
    Own o k s = StandsAt o.size nodes options.collect acts states (made ++ new) (then_number (deed_made entry_made.turn) (number_of acts k)) k
        after.node.locks.time after.node.mail.wait after.node.memory s

    own_stands : (s : State) → then_state nodes options.collect acts states l.node (deed_made entry_made.turn) ≡ s → Own options n s
    own_stands s is =
        subst (λ k. Own options k s) p.me (subst (λ (o : OptionsRecord). Own o me s) same_options (subst (Own l.node.options me) is turned.stands))

    -- ---- base copies on their way

    awaited : AreAwaited world
    awaited = requests_law program nodes options world r

    served : AreServed made world
    served = bases_law program nodes options world made hist

    abbrev number : ℕ → ℕ
    number q = number_of acts q

    abbrev base_of : ℕ → ℕ → ℕ → ℕ
    base_of q page = base_left l.node.mail.wait (left_at shape acts states (number q)) (left_at shape acts states (suc (number q))) page

    -- who awaits a base copy is outside of barriers
    not_inside : (w : Wait) (need : Need) → w ≡ access need → is_inside w ≡ 0
    not_inside w need e = ap is_inside e

    -- what a keeper has of a page that is awaited from it is what was left of the page to who awaits it
    served_so : (q page : ℕ) (lq : Logged) (values : List ℕ) → slice_get world.nodes q ≡ Some lq → AwaitsBase lq.node page n
        → base_at l.node.memory page ≡ Some values → IsLeft options.size (left_at shape acts states (number q)) page values
    served_so q page lq values at_q w kept offset lt = (h.stands n l at).bases page values kept offset lt ∙ by_wait l.node.mail.wait refl
      where
        word : ℕ
        word = word_on options.size page offset

        its_number : number q ≡ over program nodes options world r
        its_number = outside_departed program nodes options world r q lq at_q (not_inside lq.node.mail.wait w.need w.waits)

        its_gone : lq.node.memory.collected ≡ dropped_by shape (arrived_in acts states) (number q)
        its_gone = sym ((collected_with program nodes options world r states h.keeps).dropped q lq at_q) ∙ h.dropped q lq at_q

        own_gone : l.node.memory.collected ≡ dropped_by shape (arrived_in acts states) (number n)
        own_gone = sym ((collected_with program nodes options world r states h.keeps).dropped n l at) ∙ h.dropped n l at

        -- one that is as the last collection left it
        was_left : base_bound l.node page ≡ l.node.memory.collected → left_at shape acts states (number n) word ≡ left_at shape acts states (number q) word
        was_left bound = elim (cases_eq (number n) (over program nodes options world r)) [
          | inl same ↦ ap (λ k. left_at shape acts states k word) (same ∙ sym its_number)
          | inr behind ↦
              let one = all_but_one program nodes options world r n l at behind in
              let up : suc (number n) ≡ number q = sym (its_number ∙ sym one ∙ add-one (number n)) in
              left_unnamed options.size nodes options.collect made (arrived_in acts states) (number n) page
              (all_known options.size nodes made known.stamped (arrived_in acts states (number n))
              (λ k s is. let it = found_state states _ (length acts) s is in h.holds it.0 s it.1) nodes)
              (λ x between.
              served.unnamed q n page lq l x at_q at w
              (subst (λ t. StandsBetween made_stamps made t lq.node.memory.collected x) (sym (bound ∙ own_gone))
              (subst (λ t. StandsBetween made_stamps made (dropped_by shape (arrived_in acts states) (number n)) t x)
              (sym (its_gone ∙ ap (dropped_by shape (arrived_in acts states)) (sym up))) between))) offset lt
              ∙ ap (λ k. left_at shape acts states k word) up
        ]

        by_kept : (collection : Collection) → l.node.mail.wait ≡ discard collection → (b : Bool) → is_among collection.kept page ≡ b
            → (if b then left_at shape acts states (suc (number n)) else left_at shape acts states (number n)) word ≡ left_at shape acts states (number q) word
        by_kept collection is true in_it =
            let one = inside_departed program nodes options world r n l at (ap in_collection is) in
            ap (λ k. left_at shape acts states k word) (sym (add-one (number n)) ∙ one ∙ sym its_number)
        by_kept collection is false out_of =
            was_left (ap (λ w. bound_in w l.node.memory.collected page) is ∙ ap (λ b. if b then collection.time else l.node.memory.collected) out_of)

        by_wait : (w : Wait) → l.node.mail.wait ≡ w
            → base_left w (left_at shape acts states (number n)) (left_at shape acts states (suc (number n))) page word ≡ left_at shape acts states (number q) word
        by_wait nothing is = was_left (ap (λ w. bound_in w l.node.memory.collected page) is)
        by_wait (grant lock) is = was_left (ap (λ w. bound_in w l.node.memory.collected page) is)
        by_wait departure is = was_left (ap (λ w. bound_in w l.node.memory.collected page) is)
        by_wait (access need) is = was_left (ap (λ w. bound_in w l.node.memory.collected page) is)
        by_wait (upkeep collection needs) is = was_left (ap (λ w. bound_in w l.node.memory.collected page) is)
        by_wait (discard collection) is = by_kept collection is (is_among collection.kept page) refl

    -- what is on its way then has what was left to its receiver, who awaits it
    record Comes_to (e : EnvelopeRecord) (m : PageReplyRecord) : Type 0 where
      receiver : Logged
      here : slice_get world.nodes e.to ≡ Some receiver
      keeper : ℕ
      awaits : AwaitsBase receiver.node m.page keeper
      left : IsLeft options.size (left_at shape acts states (number e.to)) m.page m.values

    sent_so : (e : EnvelopeRecord) (m : PageReplyRecord) (lq : Logged) → Contains (pending now) e → e.message ≡ PageReply m
        → slice_get now.nodes e.to ≡ Some lq → Comes_to e m
    sent_so e m lq there says at_to =
        ⊎_elim
        (λ (old : Contains (pending world) e). record {
          receiver = was.0;
          here = was.1;
          keeper = e.from;
          awaits = awaited.reply e m was.0 old says was.1;
          left = h.sent e m was.0 old says was.1;
        })
        (λ (a : Asked l.node (pending world) input e.to m).
        let from : slice_get world.nodes a.request.from ≡ Some was.0 = subst (λ k. slice_get world.nodes k ≡ Some was.0) a.answers.back was.1 in
        let to : n ≡ a.request.to = subst (ToIs n) a.came (to-is world n input flight come) in
        let w : AwaitsBase was.0.node m.page n =
        subst (AwaitsBase was.0.node m.page) (sym to) (awaited.request a.request m.page was.0 a.pending_was a.answers.asked from) in
        record {
          receiver = was.0;
          here = was.1;
          keeper = n;
          awaits = w;
          left = served_so e.to m.page was.0 m.values was.1 w a.answers.kept;
        })
        (sent-cases l.node (pending world) input entry_made.turn after.node (pending now) (by_rule l.node input entry_made.turn after.node i.turn_is)
        (turn_at program nodes options world flight n l after input entry_made at come i r) e m there says)
      where
        was : (before : Logged) × (slice_get world.nodes e.to ≡ Some before)
        was = elim (cases_eq n e.to) [
          | inl same ↦ (l, subst (λ k. slice_get world.nodes k ≡ Some l) same at)
          | inr ne ↦ (lq, sym (get_set_other world.nodes n e.to after ne) ∙ at_to)
        ]

    -- ---- with no act, or with one

    without_act : deed_made entry_made.turn ≡ None → AreExactOf nodes options (made ++ new) now.nodes (pending now) acts
    without_act is = record {
      states = states;
      keeps = h.keeps;
      reads = h.reads;
      holds = holds_then;
      dropped =
          each_other (λ q lq. (state_of q).dropped ≡ dropped_by shape (arrived_in acts states) (number_of acts q)) world.nodes n l after at (h.dropped n l at)
          (λ q lq ne at_q. h.dropped q lq at_q);
      stands =
          each_other
          (λ q lq. StandsAt options.size nodes options.collect acts states (made ++ new) (number_of acts q) q lq.node.locks.time lq.node.mail.wait
          lq.node.memory (state_of q))
          world.nodes n l after at
          (subst (λ deed. StandsAt options.size nodes options.collect acts states (made ++ new) (then_number deed (number_of acts n)) n after.node.locks.time
          after.node.mail.wait after.node.memory (state_of n)) is
          (own_stands (state_of n) (ap (then_state nodes options.collect acts states l.node) is ∙ now_is)))
          (λ q lq ne at_q. stands_then q lq at_q);
      sent = λ e m lq there says at_to. (sent_so e m lq there says at_to).left;
    }

    module _ (d : Deed) (is : deed_made entry_made.turn ≡ Some d) where
      abbrev all_acts : List Act
      all_acts = acts ++ act_of n d ∷ []

      abbrev all_states : List State
      all_states = states ++ next d ∷ []

      stated : length states ≡ length acts
      stated = h.keeps.stated

      -- ---- the arrives are as they were

      same_arrived : (k : ℕ) → (d ≡ Arrive → arrives_before acts n (length acts) ≡ k → ⊥) → arrived_in acts states k ≡ arrived_in all_acts all_states k
      same_arrived k none = sym (arrived-stays acts states stated n k next (Some d) (λ e. none (same_Some d Arrive e)))

      below_over : (k : ℕ) → k < over program nodes options world r → arrived_in acts states k ≡ arrived_in all_acts all_states k
      below_over k lt =
          let most = has_arrived program nodes options world r n l at in
          same_arrived k (λ e same. omega arith)

      below_own : (k : ℕ) → k < then_number (Some d) (number_of acts n) → arrived_in acts states k ≡ arrived_in all_acts all_states k
      below_own k lt =
          let most = has_arrived program nodes options world r n l at in
          let least = has_departed program nodes options world r n l at in
          same_arrived k (λ e same.
          let less : k < number_of acts n = subst (λ d. k < then_number (Some d) (number_of acts n)) e lt in
          omega arith)

      below_other : (q : ℕ) (lq : Logged) → slice_get world.nodes q ≡ Some lq → (k : ℕ) → k < number_of acts q
          → arrived_in acts states k ≡ arrived_in all_acts all_states k
      below_other q lq at_q k lt =
          let most = has_departed program nodes options world r q lq at_q in
          below_over k (omega arith)

      number_other : (q : ℕ) → (n ≡ q → ⊥) → number_of all_acts q ≡ number_of acts q
      number_other q ne = other_number acts n d q ne

      number_own : number_of all_acts n ≡ then_number (Some d) (number_of acts n)
      number_own = own_number acts n d

      still : (node j : ℕ) → j ≤ length acts
          → state_before (exact_rule shape) all_acts all_states node j ≡ state_before (exact_rule shape) acts states node j
      still node j le = still_before shape acts states (act_of n d) (next d) stated node j le

      state_other : (q : ℕ) → (n ≡ q → ⊥) → state_before (exact_rule shape) all_acts all_states q (length all_acts) ≡ state_of q
      state_other q ne = other_then shape acts states (act_of n d) (next d) stated (kept_then d) q ne

      state_own : state_before (exact_rule shape) all_acts all_states n (length all_acts) ≡ next d
      state_own =
          own_then shape acts states (act_of n d) (next d) stated (kept_then d) (next d) (seam_is shape acts states (act_of n d) (next d) stated)

      -- ---- the node itself

      own_so : StandsAt options.size nodes options.collect acts states (made ++ new) (then_number (Some d) (number_of acts n)) n after.node.locks.time
          after.node.mail.wait after.node.memory (next d)
      own_so =
          subst (λ deed. StandsAt options.size nodes options.collect acts states (made ++ new) (then_number deed (number_of acts n)) n after.node.locks.time
          after.node.mail.wait after.node.memory (next d)) is
          (own_stands (next d) (ap (then_state nodes options.collect acts states l.node) is ∙ next_is d))

      own_then_stands : StandsAt options.size nodes options.collect all_acts all_states (made ++ new) (number_of all_acts n) n after.node.locks.time
          after.node.mail.wait after.node.memory (state_before (exact_rule shape) all_acts all_states n (length all_acts))
      own_then_stands =
          subst (λ s. StandsAt options.size nodes options.collect all_acts all_states (made ++ new) (number_of all_acts n) n after.node.locks.time
          after.node.mail.wait after.node.memory s) (sym state_own)
          (subst (λ k. StandsAt options.size nodes options.collect all_acts all_states (made ++ new) k n after.node.locks.time
          after.node.mail.wait after.node.memory (next d)) (sym number_own)
          (stands_moved options.size nodes options.collect (made ++ new) acts all_acts states all_states (then_number (Some d) (number_of acts n)) n
          after.node.locks.time after.node.mail.wait after.node.memory (next d) below_own (λ inside. absurd ((turned.settled d is).1 inside)) own_so))

      dropped_then : (deed : Deed) → (next deed).dropped ≡ dropped_by shape (arrived_in acts states) (then_number (Some deed) (number_of acts n))
      dropped_then Quiet = h.dropped n l at
      dropped_then (Print v) = h.dropped n l at
      dropped_then (Read w v) = h.dropped n l at
      dropped_then (Write w v) = h.dropped n l at
      dropped_then (Release lock) = h.dropped n l at
      dropped_then Arrive = h.dropped n l at
      dropped_then (Trap cause) = h.dropped n l at
      dropped_then End = h.dropped n l at
      dropped_then (Acquire lock) = by_released (released_state acts states lock (length acts))
        where
          by_released : (o : Option State) → (acquired nodes n (state_of n) o).dropped ≡ dropped_by shape (arrived_in acts states) (number_of acts n)
          by_released None = h.dropped n l at
          by_released (Some s) = h.dropped n l at
      dropped_then Depart = by_collects (collects shape (arrived_in acts states (number_of acts n)))
        where
          all : Knowledge
          all = all_at nodes acts states (number_of acts n)

          by_collects : (b : Bool)
              → (if b
              then collected shape all (arrived_in acts states (number_of acts n)) (with_learned nodes all (state_of n))
              else with_learned nodes all (state_of n)).dropped
              ≡ (if b then all.time else dropped_by shape (arrived_in acts states) (number_of acts n))
          by_collects true = refl
          by_collects false = h.dropped n l at

      own_dropped : (state_before (exact_rule shape) all_acts all_states n (length all_acts)).dropped
          ≡ dropped_by shape (arrived_in all_acts all_states) (number_of all_acts n)
      own_dropped =
          ap (λ (s : State). s.dropped) state_own
          ∙ dropped_then d
          ∙ dropped_same shape (arrived_in acts states) (arrived_in all_acts all_states) (then_number (Some d) (number_of acts n)) below_own
          ∙ ap (dropped_by shape (arrived_in all_acts all_states)) (sym number_own)

      -- ---- the others

      other_stands : (q : ℕ) (lq : Logged) → (n ≡ q → ⊥) → slice_get world.nodes q ≡ Some lq
          → StandsAt options.size nodes options.collect all_acts all_states (made ++ new) (number_of all_acts q) q lq.node.locks.time lq.node.mail.wait
          lq.node.memory (state_before (exact_rule shape) all_acts all_states q (length all_acts))
      other_stands q lq ne at_q =
          subst (λ s. StandsAt options.size nodes options.collect all_acts all_states (made ++ new) (number_of all_acts q) q lq.node.locks.time
          lq.node.mail.wait lq.node.memory s) (sym (state_other q ne))
          (subst (λ k. StandsAt options.size nodes options.collect all_acts all_states (made ++ new) k q lq.node.locks.time lq.node.mail.wait
          lq.node.memory (state_of q)) (sym (number_other q ne))
          (stands_moved options.size nodes options.collect (made ++ new) acts all_acts states all_states (number_of acts q) q lq.node.locks.time
          lq.node.mail.wait lq.node.memory (state_of q) (below_other q lq at_q)
          (λ inside.
          let one = inside_departed program nodes options world r q lq at_q inside in
          below_over (number_of acts q) (omega arith))
          (stands_then q lq at_q)))

      other_dropped : (q : ℕ) (lq : Logged) → (n ≡ q → ⊥) → slice_get world.nodes q ≡ Some lq
          → (state_before (exact_rule shape) all_acts all_states q (length all_acts)).dropped
          ≡ dropped_by shape (arrived_in all_acts all_states) (number_of all_acts q)
      other_dropped q lq ne at_q =
          ap (λ (s : State). s.dropped) (state_other q ne)
          ∙ h.dropped q lq at_q
          ∙ dropped_same shape (arrived_in acts states) (arrived_in all_acts all_states) (number_of acts q) (below_other q lq at_q)
          ∙ ap (dropped_by shape (arrived_in all_acts all_states)) (sym (number_other q ne))

      -- who awaits a base copy does not depart
      awaiting_number : (q page keeper : ℕ) (lq : Logged) → slice_get world.nodes q ≡ Some lq → AwaitsBase lq.node page keeper
          → number_of all_acts q ≡ number_of acts q
      awaiting_number q page keeper lq at_q w = elim (cases_eq n q) [
        | inr ne ↦ number_other q ne
        | inl e ↦
            let same : l ≡ lq = same_Some l lq (sym at ∙ ap (slice_get world.nodes) e ∙ at_q) in
            let out : is_inside l.node.mail.wait ≡ 0 = ap (λ (x : Logged). is_inside x.node.mail.wait) same ∙ not_inside lq.node.mail.wait w.need w.waits in
            subst (λ k. number_of all_acts k ≡ number_of acts k) e
            (elim (deed_cases d) [
              | inr stays ↦ same_number acts n d stays
              | inl departs ↦
                  let one = turned.departs (is ∙ ap (λ (d : Deed). Some d) departs) in
                  absurd (omega arith)
            ])
      ]

      sent_then : (e : EnvelopeRecord) (m : PageReplyRecord) (lq : Logged) → Contains (pending now) e → e.message ≡ PageReply m
          → slice_get now.nodes e.to ≡ Some lq
          → IsLeft options.size (left_at shape all_acts all_states (number_of all_acts e.to)) m.page m.values
      sent_then e m lq there says at_to =
          let c : Comes_to e m = sent_so e m lq there says at_to in
          subst (λ k. IsLeft options.size (left_at shape all_acts all_states k) m.page m.values)
          (sym (awaiting_number e.to m.page c.keeper c.receiver c.here c.awaits))
          (subst (λ (f : ℕ → ℕ). IsLeft options.size f m.page m.values)
          (left_same shape (arrived_in acts states) (arrived_in all_acts all_states) (number_of acts e.to) (below_other e.to c.receiver c.here)) c.left)

      -- ---- all together

      next_knows : KnowsMade options.size (made ++ new) (next d).knows
      next_knows =
          let settled : standing shape n (all_at nodes acts states (then_number (Some d) (number_of acts n))) after.node.mail.wait (next d) ≡ next d =
          subst (λ k. standing shape k (all_at nodes acts states (then_number (Some d) (number_of acts n))) after.node.mail.wait (next d) ≡ next d) p.me
          ((turned.settled d is).0 shape (all_at nodes acts states (then_number (Some d) (number_of acts n))) (next d)) in
          let f : HasExact options.size (made ++ new) after.node.locks.time after.node.memory (next d) =
          subst (HasExact options.size (made ++ new) after.node.locks.time after.node.memory) settled own_so.pages.exact in
          record {
            exactly = f.knows;
            reach = λ q k some most.
                reaches (made ++ new) after.node.locks.time (cuts'.times n after at') q k some (subst (λ t. k ≤ entry t q) f.time_is most);
          }

      reads_then : (j node word value : ℕ) → Does all_acts j node (Read word value) → value ≡ exact_value shape all_acts all_states node j word
      reads_then j node word value does =
          elim (Does-cases does) [
            | inl (lt, before) ↦
                h.reads j node word value before ∙ ap (λ (s : State). (s.words word).value) (sym (still node j (omega arith)))
            | inr (last, of_node, deed_is) ↦
                turned.reads word value (is ∙ ap (λ (d : Deed). Some d) deed_is)
                ∙ ap (λ (s : State). (s.words word).value) now_is
                ∙ ap (λ (s : State). (s.words word).value) (sym (still n (length acts) (omega arith)))
                ∙ ap (λ k. ((state_before (exact_rule shape) all_acts all_states k (length acts)).words word).value) of_node
                ∙ ap (λ k. ((state_before (exact_rule shape) all_acts all_states node k).words word).value) (sym last)
          ]

      holds_now : (j : ℕ) (s : State) → slice_get all_states j ≡ Some s → KnowsMade options.size (made ++ new) s.knows
      holds_now j s there =
          let within = slice_get_within all_states j s there in
          let long = length_push states (next d) in
          elim (cases_lt j (length states)) [
            | inl before ↦ holds_then j s (sym (slice_get-front states (next d ∷ []) j before) ∙ there)
            | inr most ↦
                let last : j ≡ length states = omega arith in
                let same : next d ≡ s =
                same_Some (next d) s (sym (slice_get-seam states (next d) []) ∙ ap (λ k. slice_get all_states k) (sym last) ∙ there) in
                subst (λ (s : State). KnowsMade options.size (made ++ new) s.knows) same next_knows
          ]

      with_act : AreExactOf nodes options (made ++ new) now.nodes (pending now) all_acts
      with_act = record {
        states = all_states;
        keeps = kept_then d;
        reads = reads_then;
        holds = holds_now;
        dropped =
            each_other
            (λ q lq. (state_before (exact_rule shape) all_acts all_states q (length all_acts)).dropped
            ≡ dropped_by shape (arrived_in all_acts all_states) (number_of all_acts q)) world.nodes n l after at own_dropped other_dropped;
        stands =
            each_other
            (λ q lq. StandsAt options.size nodes options.collect all_acts all_states (made ++ new) (number_of all_acts q) q lq.node.locks.time
            lq.node.mail.wait lq.node.memory (state_before (exact_rule shape) all_acts all_states q (length all_acts)))
            world.nodes n l after at own_then_stands other_stands;
        sent = sent_then;
      }

    by_deed : (o : Option Deed) → deed_made entry_made.turn ≡ o → AreExactOf nodes options (made ++ new) now.nodes (pending now) (acts ++ more_acts n o)
    by_deed None is = subst (AreExactOf nodes options (made ++ new) now.nodes (pending now)) (sym (append-nil acts)) (without_act is)
    by_deed (Some d) is = with_act d is

    pub stays_exact : AreExactOf nodes options (made ++ new) now.nodes (pending now) now.acts
    stays_exact = subst (AreExactOf nodes options (made ++ new) now.nodes (pending now)) (sym m.acts_are) (by_deed m.deed m.deed_is)
