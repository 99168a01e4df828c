-- In every run each depart learns what every node knew at its arrive with the number of this depart.
use Rattle.std.proofs.Common.{◌≡◌, ◌⊎◌, ℕ, ◌+◌, ◌≤◌, List, [], ◌∷◌, ◌++◌, Bool, true, length, refl, sym, ap, subst, ◌∙◌, inl, inr, arith, append-nil}
use Rattle.std.specs.Prelude.{Option, Some, None, count_by, slice_get}
use Rattle.std.proofs.lemmas.Bool.{cases_Bool}
use Rattle.std.proofs.lemmas.List.{get_or_push}
use Rattle.lrc_program.specs.declared.Program.{Program}
use Rattle.lrc_trace.specs.declared.act.Act.{Act}
use Rattle.lrc_trace.specs.declared.act.Deed.{Deed}
use Rattle.lrc_trace.specs.declared.act.Deed.TheVariants.{Depart as Departs}
use Rattle.lrc_trace.specs.Run.{act_of, Does, arrives_before, departs_before}
use Rattle.lrc_trace.proofs.Positions.{Does-cases, departs_before-prefix}
use Rattle.lrc_time.specs.Time.{joined}
use Rattle.lrc_clock.specs.Times.{time_at, time_before, arrived_time}
use Rattle.lrc_clock.proofs.Prefixes.{time_at-prefix, time_before-prefix, arrived_time-prefix}
use Rattle.lrc_envelope.specs.Envelope.{EnvelopeRecord}
use Rattle.lrc_envelope.specs.Records.{DepartRecord}
use Rattle.lrc_envelope.specs.declared.message.Message.TheVariants.{Depart}
use Rattle.lrc_exec.specs.Meaning.{Setting}
use Rattle.lrc_exec.specs.Plain.{setting_of}
use Rattle.lrc_protocol.specs.declared.event.Event.{Event}
use Rattle.lrc_protocol.specs.Locks.{Locks}
use Rattle.lrc_protocol.specs.Barriers.{Collection, Barrier}
use Rattle.lrc_protocol.specs.Node.{Wait, Letter, nothing, grant, departure, access, discard, Node, OptionsRecord}
use Rattle.lrc_protocol.specs.Turn.{TurnRecord}
use Rattle.lrc_protocol.specs.Run.{Logged, World, with_turn, run_of}
use Rattle.lrc_protocol.specs.Follows.{pending}
use Rattle.lrc_protocol.proofs.Worlds.{get_set_same}
use Rattle.lrc_order_laws.specs.Counts.{is_inside}
use Rattle.lrc_order_laws.specs.Present.{IsPresent}
use Rattle.lrc_order_laws.specs.Barriers.{arrive_from, depart_to, kept_of, awaits_depart, time_in, IsNewestTime}
use Rattle.lrc_order_laws.proofs.Shift.{Rested, Moved, deed_made}
use Rattle.lrc_order_laws.proofs.Present.{more_acts, more_times}
use Rattle.lrc_order_laws.proofs.PresentTimes.{AtPresent, all_present}
use Rattle.lrc_order_laws.proofs.Shape.{shape_at}
use Rattle.lrc_order_laws.proofs.Sends.{Came, comes, Site, site_of, Sends, plain, takes, releasing, arriving, grants, departing, discarding, accessing}
use Rattle.lrc_order_laws.proofs.Flows.{Stepped, again, once, stepped}
use Rattle.lrc_order_laws.proofs.Moves.{Brought, brought}
use Rattle.lrc_order_laws.proofs.Departs.{Standing_at, standing_at, departs_inside}
use Rattle.lrc_order_laws.proofs.Timely.{Timely, is_told, at_most_one}
use Rattle.lrc_order_laws.proofs.AllTimely.{Made, made_so, all_timely}
use Rattle.lrc_order_laws.proofs.Reached.{IsReached, KeptByReached, by_reached}

-- ---- by the kind of turn

-- who departs learns the time that it is told, or has learned it in the collection
pub record ToldNow (s : Site) (came : Came) (locks : Locks) : Type 0 where
  pub from : ℕ
  pub told : DepartRecord
  pub came_is : came ≡ comes from (Depart told)
  pub waited : s.wait ≡ departure
  pub time : locks.time ≡ joined s.locks.time told.time

pub record Collected (s : Site) (locks : Locks) : Type 0 where
  pub collection : Collection
  pub waited : s.wait ≡ discard collection
  pub time : locks.time ≡ s.locks.time

outside : {X : Type 0} (s : Site) (w : Wait) → s.wait ≡ w → is_inside w ≡ 0 → is_inside s.wait ≡ 1 → X
outside s w e zero_is one_is =
    let same : is_inside s.wait ≡ is_inside w = ap is_inside e in
    let never : ⊥ = absurd (omega (arith, same, zero_is, one_is)) in
    absurd never

learns_so : (s : Site) (came : Came) (acts : Bool) (wait : Wait) (locks : Locks) (barrier : Barrier) (letters : List Letter)
    → Sends s came acts wait locks barrier letters → acts ≡ true → is_inside s.wait ≡ 1 → ToldNow s came locks ⊎ Collected s locks
learns_so s _ _ _ _ _ _ (plain next w n plain_is others) a one = outside s nothing w refl one
learns_so s _ _ _ _ _ _ (takes lock w n free) a one = outside s nothing w refl one
learns_so s _ _ _ _ _ _ (releasing lock next w n passed) a one = outside s nothing w refl one
learns_so s _ _ _ _ _ _ (arriving next ask intervals w n) a one = outside s nothing w refl one
learns_so s _ _ _ _ _ _ (grants from m lt w k) a one = outside s (grant m.lock) w refl one
learns_so s _ _ _ _ _ _ (departing from m k no_collection) a one =
    inl (record { from = from; told = m; came_is = refl; waited = k.wait; time = refl })
learns_so s _ _ _ _ _ _ (discarding from episode collection w zero_is episode_is) a one =
    inr (record { collection = collection; waited = w; time = refl })
learns_so s _ _ _ _ _ _ (accessing from message need other w) a one = outside s (access need) w refl one
learns_so s _ _ _ _ _ _ _ a one = cc

-- of a turn
abbrev Learning : Node → List EnvelopeRecord → Locks → Type 0
Learning node was locks =
    ((d : DepartRecord) × (from : ℕ) × Brought node.setting.me from (Depart d) was × (node.mail.wait ≡ departure)
    × (locks.time ≡ joined node.locks.time d.time))
    ⊎ ((c : Collection) × (node.mail.wait ≡ discard c) × (locks.time ≡ node.locks.time))

not_some : {X : Type 0} → None ≡ Some Departs → X
not_some e = let never : ⊥ = cc in absurd never

learning : (node : Node) (was now : List EnvelopeRecord) (turn : TurnRecord) (after : Node) → Stepped node was now turn after
    → deed_made turn ≡ Some Departs → is_inside node.mail.wait ≡ 1 → Learning node was after.locks
learning node was now _ _ (again same) e one = not_some e
learning node was now turn after (once came o brings from sent goes) e one =
    let acts_is : sent.acts ≡ true = elim (cases_Bool sent.acts) [
      | inl it_acts ↦ it_acts
      | inr no_act ↦
          let rested : Rested node.course (deed_made turn) after.course = subst (λ b. Moved b node.course (deed_made turn) after.course) no_act sent.moved in
          not_some (sym rested.deed_is ∙ e)
    ] in
    elim (learns_so (site_of node) came sent.acts after.mail.wait after.locks after.barrier sent.letters sent.sent acts_is one) [
      | inl k ↦
          inl (
            k.told,
            k.from,
            brought node.setting.me k.from (Depart k.told) came o was turn.out now k.came_is brings goes,
            k.waited,
            k.time,
          )
      | inr k ↦ inr (k.collection, k.waited, k.time)
    ]

-- ---- the rule, along a run

abbrev pub AllLearn : ℕ → List Act → List (List ℕ) → Type 0
AllLearn nodes acts times =
    (j node : ℕ) → Does acts j node Departs
    → time_at times j ≡ joined (time_before nodes acts times node j) (arrived_time nodes acts times (departs_before acts node j) j)

module _ (nodes : ℕ) (acts : List Act) (times : List (List ℕ)) (timed : length times ≡ length acts) (n : ℕ) (time : List ℕ) where
  -- what the rule says at a place that stood already is what it said
  rule-prefix : (more : List Act) (later : List (List ℕ)) (node j : ℕ) → j ≤ length acts
      → joined (time_before nodes (acts ++ more) (times ++ later) node j)
      (arrived_time nodes (acts ++ more) (times ++ later) (departs_before (acts ++ more) node j) j)
      ≡ joined (time_before nodes acts times node j) (arrived_time nodes acts times (departs_before acts node j) j)
  rule-prefix more later node j le =
      ap (λ t. joined t (arrived_time nodes (acts ++ more) (times ++ later) (departs_before (acts ++ more) node j) j))
      (time_before-prefix acts more times later timed nodes node j le)
      ∙ ap (λ k. joined (time_before nodes acts times node j) (arrived_time nodes (acts ++ more) (times ++ later) k j))
      (departs_before-prefix acts more node j le)
      ∙ ap (joined (time_before nodes acts times node j)) (arrived_time-prefix acts more times later timed nodes (departs_before acts node j) j le)

  pub learn-more : (deed : Option Deed)
      → (deed ≡ Some Departs → time ≡ joined (time_before nodes acts times n (length acts))
      (arrived_time nodes acts times (departs_before acts n (length acts)) (length acts)))
      → AllLearn nodes acts times → AllLearn nodes (acts ++ more_acts n deed) (times ++ more_times n time deed)
  learn-more None one all =
      subst (λ acts. AllLearn nodes acts (times ++ [])) (sym (append-nil acts)) (subst (AllLearn nodes acts) (sym (append-nil times)) all)
  learn-more (Some d) one all = λ j node does.
      let more : List Act = act_of n d ∷ [] in
      let later : List (List ℕ) = time ∷ [] in
      elim (Does-cases does) [
        | inl (lt, does') ↦
            time_at-prefix acts more times later timed j lt ∙ all j node does' ∙ sym (rule-prefix more later node j (omega (arith, lt)))
        | inr (here, own, is) ↦
            subst (λ j. time_at (times ++ later) j
            ≡ joined (time_before nodes (acts ++ more) (times ++ later) node j)
            (arrived_time nodes (acts ++ more) (times ++ later) (departs_before (acts ++ more) node j) j)) (sym here)
            (get_or_push times time [] (length acts) timed
            ∙ one (ap Some is)
            ∙ ap (λ node. joined (time_before nodes acts times node (length acts))
            (arrived_time nodes acts times (departs_before acts node (length acts)) (length acts))) own
            ∙ sym (rule-prefix more later node (length acts) (omega arith)))
      ]

-- ---- every run

module _ (program : Program) (nodes : ℕ) (options : OptionsRecord) where
  -- the time of the newest episode, for a node inside whose arrival is no longer on its way or kept, is that of its depart
  own_newest : (world : World) (r : IsReached program nodes options world) (h : Timely program nodes options world) (n : ℕ) (l : Logged) (t : List ℕ)
      → slice_get world.nodes n ≡ Some l → is_inside l.node.mail.wait ≡ 1
      → count_by (arrive_from n) (pending world) + kept_of h.stand.manager n ≡ 0
      → IsNewestTime nodes world.acts world.times h.stand.manager.done t
      → t ≡ arrived_time nodes world.acts world.times (departs_before world.acts n (length world.acts)) (length world.acts)
  own_newest world r h n l t at inside none k =
      let s : Standing_at program nodes options world n l = standing_at program nodes options world r n l at in
      let newest : h.stand.manager.done ≡ k.number + 1 = k.newest in
      let episode : l.node.barrier.episode ≡ h.stand.manager.done + (count_by (arrive_from n) (pending world) + kept_of h.stand.manager n) =
      (h.stand.each n l at).arrived in
      let arrived : arrives_before world.acts n (length world.acts) ≡ l.node.barrier.episode = s.arrived in
      let departed : arrives_before world.acts n (length world.acts) ≡ departs_before world.acts n (length world.acts) + is_inside l.node.mail.wait =
      s.departed in
      let same : k.number ≡ departs_before world.acts n (length world.acts) = omega (arith, newest, episode, arrived, departed, inside, none) in
      k.joins ∙ ap (λ number. arrived_time nodes world.acts world.times number (length world.acts)) same

  -- a depart learns so
  depart_learns : (world : World) (r : IsReached program nodes options world) (n : ℕ) (l : Logged) (locks : Locks) → slice_get world.nodes n ≡ Some l
      → l.node.setting.me ≡ n → is_inside l.node.mail.wait ≡ 1 → Learning l.node (pending world) locks
      → locks.time ≡ joined (time_before nodes world.acts world.times n (length world.acts))
      (arrived_time nodes world.acts world.times (departs_before world.acts n (length world.acts)) (length world.acts))
  depart_learns world r n l locks at me_is inside (inl (d, from, b, waited, time)) =
      let h : Timely program nodes options world = all_timely program nodes options r.events world r.runs in
      let p : AtPresent (setting_of program nodes n) world.acts world.times l.node = (all_present program nodes options r.events world r.runs).each n l at in
      let last : List ℕ = time_before nodes world.acts world.times n (length world.acts) in
      let present : l.node.locks.time ≡ last = subst (λ w. IsPresent n w last l.node.locks.time) waited p.present in
      let some : 1 ≤ count_by (depart_to n) (pending world) =
      subst (λ k. 1 ≤ count_by (depart_to k) (pending world)) (b.to ∙ me_is) (is_told program nodes options world b.envelope d b.among b.message_is) in
      let gate : count_by (arrive_from n) (pending world) + kept_of h.stand.manager n + count_by (depart_to n)
      (pending world) ≡ awaits_depart l.node.mail.wait =
      (h.stand.each n l at).departs in
      let most : awaits_depart l.node.mail.wait ≤ 1 = at_most_one l.node.mail.wait in
      time ∙ ap (λ t. joined t d.time) present
      ∙ ap (joined last)
      (own_newest world r h n l d.time at inside (omega (arith, some, gate, most))
      (h.told b.envelope d l b.among b.message_is (ap (slice_get world.nodes) (b.to ∙ me_is) ∙ at)))
  depart_learns world r n l locks at me_is inside (inr (c, waited, time)) =
      let h : Timely program nodes options world = all_timely program nodes options r.events world r.runs in
      let p : AtPresent (setting_of program nodes n) world.acts world.times l.node = (all_present program nodes options r.events world r.runs).each n l at in
      let last : List ℕ = time_before nodes world.acts world.times n (length world.acts) in
      let present : l.node.locks.time ≡ joined last c.time = subst (λ w. IsPresent n w last l.node.locks.time) waited p.present in
      let gate : count_by (arrive_from n) (pending world) + kept_of h.stand.manager n + count_by (depart_to n)
      (pending world) ≡ awaits_depart l.node.mail.wait =
      (h.stand.each n l at).departs in
      let zero : awaits_depart l.node.mail.wait ≡ 0 = ap awaits_depart waited in
      time ∙ present
      ∙ ap (joined last)
      (own_newest world r h n l c.time at inside (omega (arith, gate, zero)) (h.learned n l c.time at (ap time_in waited)))

  pub Learned : World → Type 0
  Learned world = AllLearn nodes world.acts world.times

  learned-kept : KeptByReached program nodes options Learned
  unfolding Learned
  learned-kept world flight n l after input entry at come i r r' h =
      let next : World = with_turn world flight n entry after in
      let made : Made world n (deed_made entry.turn) after.node.locks.time next = made_so program nodes options world flight n l after input entry at i r in
      let me_is : l.node.setting.me ≡ n = ap (λ (s : Setting). s.me) (shape_at program nodes options r.events world n l r.runs at).setting in
      subst (λ acts. AllLearn nodes acts next.times) (sym made.acts_are)
      (subst (AllLearn nodes (world.acts ++ more_acts n made.deed)) (sym made.times_are)
      (learn-more nodes world.acts world.times (all_present program nodes options r.events world r.runs).timed n after.node.locks.time made.deed
      (λ departs.
      let inside : is_inside l.node.mail.wait ≡ 1 =
      departs_inside program nodes options world next n l after r r' at (get_set_same world.nodes n l after at)
      (made.acts_are ∙ ap (λ deed. world.acts ++ more_acts n deed) departs) in
      depart_learns world r n l after.node.locks at me_is inside
      (learning l.node (pending world) (pending next) entry.turn after.node
      (stepped program nodes options world flight n l after input entry at come i r) (made.deed_is ∙ departs) inside))
      h))

  pub all_learn : (events : List Event) (world : World) → run_of program nodes options events ≡ Some world → AllLearn nodes world.acts world.times
  unfolding Learned
  all_learn events world e =
      by_reached program nodes options Learned learned-kept events world (λ j node does. absurd (none_done j node does)) e
    where
      none_there : (a : Act) → None ≡ Some a → ⊥
      none_there a e = cc

      none_done : (j node : ℕ) → Does [] j node Departs → ⊥
      none_done j node d = none_there (act_of node Departs) d.stands
