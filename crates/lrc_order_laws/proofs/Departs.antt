-- In every run no node departs before every node has arrived.
use Rattle.std.proofs.Common.{◌≡◌, ℕ, zero, suc, ◌+◌, ◌<◌, ◌≤◌, ◌&&◌, List, [], ◌∷◌, ◌++◌, Bool, true, false, cond, length}
use Rattle.std.proofs.Common.{map, take, take_all, refl, sym, ap, subst, ◌∙◌, inl, inr, arith, append-nil}
use Rattle.std.specs.Prelude.{Option, Some, None, ◌==◌, option_map, filter, count_by, slice_get}
use Rattle.std.specs.Option.{option_to_list}
use Rattle.std.proofs.lemmas.List.{length_push}
use Rattle.lrc_program.specs.declared.Program.{Program}
use Rattle.lrc_exec.specs.Meaning.{Setting}
use Rattle.lrc_trace.specs.declared.act.Act.{Act}
use Rattle.lrc_trace.specs.declared.act.Deed.{Deed}
use Rattle.lrc_trace.specs.declared.act.Deed.TheVariants.{Depart}
use Rattle.lrc_trace.specs.Run.{act_of, Does, is_arrive, is_depart, count_of, arrives_before, departs_before}
use Rattle.lrc_trace.proofs.Positions.{Does-cases, Does-last, arrives_before-prefix, departs_before-prefix}
use Rattle.lrc_trace.proofs.Intervals.{count_of-more, count_of-same}
use Rattle.lrc_exec.specs.Follows.{deeds_of}
use Rattle.lrc_protocol.specs.declared.event.Event.{Event}
use Rattle.lrc_protocol.specs.Node.{Wait, nothing, grant, departure, access, upkeep, discard, OptionsRecord}
use Rattle.lrc_protocol.specs.Run.{Input, EntryRecord, Logged, World, Flying, with_turn, run_of}
use Rattle.lrc_protocol.specs.Follows.{pending}
use Rattle.lrc_protocol.proofs.Worlds.{IsEntry, get_set_same}
use Rattle.lrc_protocol.proofs.Turned.{Turned, Turns, turns}
use Rattle.lrc_order_laws.specs.Counts.{count, is_inside}
use Rattle.lrc_order_laws.specs.Barriers.{awaits_depart, kept_of, arrive_from, depart_to, StandsAt}
use Rattle.lrc_order_laws.proofs.Flows.{count-cons}
use Rattle.lrc_order_laws.proofs.Shape.{shape_at}
use Rattle.lrc_order_laws.proofs.Episodes.{arrivals, departures}
use Rattle.lrc_order_laws.proofs.AllStand.{AllStand, all_stand}
use Rattle.lrc_order_laws.proofs.Reached.{IsReached, KeptByReached, by_reached}

-- ---- counts of a node's deeds, and of its acts

one_counted : (kind : Deed → Bool) (b : Bool) (a : Act) (rest : List Act) (k : ℕ) → count kind (map (λ (a : Act). a.deed) rest) ≡ k
    → count kind (map (λ (a : Act). a.deed) (cond b (a ∷ rest) rest)) ≡ cond (b && kind a.deed) 1 0 + k
one_counted kind true a rest k e = of_kind (kind a.deed)
  where
    of_kind : (c : Bool)
        → length (cond c (a.deed ∷ filter kind (map (λ (a : Act). a.deed) rest)) (filter kind (map (λ (a : Act). a.deed) rest))) ≡ cond c 1 0 + k
    of_kind true = omega (arith, e)
    of_kind false = omega (arith, e)
one_counted kind false a rest k e = omega (arith, e)

all_counted : (kind : Deed → Bool) (n : ℕ) (acts : List Act) → count kind (deeds_of n acts) ≡ count_of kind n acts
all_counted kind n [] = refl
all_counted kind n (a ∷ acts) =
    one_counted kind (a.node == n) a (filter (λ (a : Act). a.node == n) acts) (count_of kind n acts) (all_counted kind n acts)
    ∙ sym (count-cons (λ (a : Act). a.node == n && kind a.deed) a acts)

pub counted_at : (kind : Deed → Bool) (n : ℕ) (acts : List Act) → count_of kind n (take (length acts) acts) ≡ count kind (deeds_of n acts)
counted_at kind n acts = ap (count_of kind n) (take_all (length acts) acts (omega arith)) ∙ sym (all_counted kind n acts)

-- ---- a node that departs

at_most_one : (w : Wait) → is_inside w ≤ 1
at_most_one nothing = omega arith
at_most_one (grant lock) = omega arith
at_most_one departure = omega arith
at_most_one (access need) = omega arith
at_most_one (upkeep collection needs) = omega arith
at_most_one (discard collection) = omega arith

waits_inside : (w : Wait) → awaits_depart w ≤ is_inside w
waits_inside nothing = omega arith
waits_inside (grant lock) = omega arith
waits_inside departure = omega arith
waits_inside (access need) = omega arith
waits_inside (upkeep collection needs) = omega arith
waits_inside (discard collection) = omega arith

get_within : {X : Type 0} (xs : List X) (n : ℕ) → n < length xs → (x : X) × (slice_get xs n ≡ Some x)
get_within [] n lt = absurd (omega (arith, lt))
get_within (x ∷ xs) zero lt = (x, refl)
get_within (x ∷ xs) (suc n) lt = get_within xs n (omega (arith, lt))

-- every depart so far comes after every node's arrive
abbrev pub AllArrived : ℕ → List Act → Type 0
AllArrived nodes acts = (j node : ℕ) → Does acts j node Depart → (other : ℕ) → other < nodes → departs_before acts node j < arrives_before acts other j

module _ (program : Program) (nodes : ℕ) (options : OptionsRecord) where
  -- how often a node has arrived and departed, in a run's world
  pub record Standing_at (world : World) (n : ℕ) (l : Logged) : Type 0 where
    pub arrived : arrives_before world.acts n (length world.acts) ≡ l.node.barrier.episode
    pub departed : arrives_before world.acts n (length world.acts) ≡ departs_before world.acts n (length world.acts) + is_inside l.node.mail.wait

  pub standing_at : (world : World) → IsReached program nodes options world → (n : ℕ) (l : Logged) → slice_get world.nodes n ≡ Some l → Standing_at world n l
  standing_at world r n l at =
      let a : arrives_before world.acts n (length world.acts) ≡ count is_arrive (deeds_of n world.acts) = counted_at is_arrive n world.acts in
      let d : departs_before world.acts n (length world.acts) ≡ count is_depart (deeds_of n world.acts) = counted_at is_depart n world.acts in
      record {
        arrived = a ∙ sym (arrivals program nodes options r.events world r.runs n l at);
        departed = a ∙ departures program nodes options r.events world r.runs n l at ∙ ap (λ k. k + is_inside l.node.mail.wait) (sym d);
      }

  -- the acts after one more of a node, a depart
  module _ (acts : List Act) (n : ℕ) where
    longer : List Act
    longer = acts ++ act_of n Depart ∷ []

    last : Does longer (length acts) n Depart
    unfolding longer
    last = Does-last acts (act_of n Depart)

    one_depart : departs_before longer n (length longer) ≡ departs_before acts n (length acts) + 1
    unfolding longer
    one_depart =
        ap (departs_before longer n) (length_push acts (act_of n Depart))
        ∙ count_of-more is_depart longer n (length acts) Depart last refl
        ∙ ap (λ k. k + 1) (departs_before-prefix acts (act_of n Depart ∷ []) n (length acts) (omega arith))

    no_arrive : (m : ℕ) → arrives_before longer m (length longer) ≡ arrives_before acts m (length acts)
    unfolding longer
    no_arrive m =
        ap (arrives_before longer m) (length_push acts (act_of n Depart))
        ∙ count_of-same is_arrive longer m (length acts) n Depart last (λ same never. cc)
        ∙ arrives_before-prefix acts (act_of n Depart ∷ []) m (length acts) (omega arith)

  -- with the world before and after: the node has departed less often than any has arrived
  departs_last : (world world' : World) (n : ℕ) (l after : Logged) → IsReached program nodes options world → IsReached program nodes options world'
      → slice_get world.nodes n ≡ Some l → slice_get world'.nodes n ≡ Some after → world'.acts ≡ world.acts ++ act_of n Depart ∷ []
      → (other : ℕ) → other < nodes → departs_before world.acts n (length world.acts) < arrives_before world.acts other (length world.acts)
  unfolding longer
  departs_last world world' n l after r r' at at' acts_are other lt =
      let h : AllStand program nodes options world' = all_stand program nodes options r'.events world' r'.runs in
      let there : (x : Logged) × (slice_get world'.nodes other ≡ Some x) = get_within world'.nodes other (subst (λ k. other < k) (sym h.count) lt) in
      let lo : Logged = there.0 in
      let before : Standing_at world n l = standing_at world r n l at in
      let own : Standing_at world' n after = standing_at world' r' n after at' in
      let its : Standing_at world' other lo = standing_at world' r' other lo there.1 in
      let so : StandsAt (pending world') h.manager n after.node.mail.wait after.node.barrier.episode = h.each n after at' in
      let other_so : StandsAt (pending world') h.manager other lo.node.mail.wait lo.node.barrier.episode = h.each other lo there.1 in
      let counted : (m : ℕ) → arrives_before world'.acts m (length world'.acts) ≡ arrives_before world.acts m (length world.acts) =
      λ m. ap (λ acts. arrives_before acts m (length acts)) acts_are ∙ no_arrive world.acts n m in
      let one : departs_before world'.acts n (length world'.acts) ≡ departs_before world.acts n (length world.acts) + 1 =
      ap (λ acts. departs_before acts n (length acts)) acts_are ∙ one_depart world.acts n in
      let mine : arrives_before world'.acts n (length world'.acts) ≡ arrives_before world.acts n (length world.acts) = counted n in
      let his : arrives_before world'.acts other (length world'.acts) ≡ arrives_before world.acts other (length world.acts) = counted other in
      let was : arrives_before world.acts n (length world.acts) ≡ departs_before world.acts n (length world.acts) + is_inside l.node.mail.wait =
      before.departed in
      let now : arrives_before world'.acts n (length world'.acts) ≡ departs_before world'.acts n (length world'.acts) + is_inside after.node.mail.wait =
      own.departed in
      let most : is_inside l.node.mail.wait ≤ 1 = at_most_one l.node.mail.wait in
      let outside : awaits_depart after.node.mail.wait ≤ is_inside after.node.mail.wait = waits_inside after.node.mail.wait in
      let gate : count_by (arrive_from n) (pending world') + kept_of h.manager n + count_by (depart_to n)
      (pending world') ≡ awaits_depart after.node.mail.wait = so.departs in
      let episode : after.node.barrier.episode ≡ h.manager.done + (count_by (arrive_from n) (pending world') + kept_of h.manager n) = so.arrived in
      let his_episode : lo.node.barrier.episode ≡ h.manager.done + (count_by (arrive_from other) (pending world') + kept_of h.manager other) =
      other_so.arrived in
      let arrived : arrives_before world'.acts n (length world'.acts) ≡ after.node.barrier.episode = own.arrived in
      let his_arrived : arrives_before world'.acts other (length world'.acts) ≡ lo.node.barrier.episode = its.arrived in
      omega (arith, one, mine, his, was, now, most, outside, gate, episode, his_episode, arrived, his_arrived)

  -- a node that departs was inside the barrier
  pub departs_inside : (world world' : World) (n : ℕ) (l after : Logged) → IsReached program nodes options world → IsReached program nodes options world'
      → slice_get world.nodes n ≡ Some l → slice_get world'.nodes n ≡ Some after → world'.acts ≡ world.acts ++ act_of n Depart ∷ []
      → is_inside l.node.mail.wait ≡ 1
  unfolding longer
  departs_inside world world' n l after r r' at at' acts_are =
      let before : Standing_at world n l = standing_at world r n l at in
      let own : Standing_at world' n after = standing_at world' r' n after at' in
      let mine : arrives_before world'.acts n (length world'.acts) ≡ arrives_before world.acts n (length world.acts) =
      ap (λ acts. arrives_before acts n (length acts)) acts_are ∙ no_arrive world.acts n n in
      let one : departs_before world'.acts n (length world'.acts) ≡ departs_before world.acts n (length world.acts) + 1 =
      ap (λ acts. departs_before acts n (length acts)) acts_are ∙ one_depart world.acts n in
      let was : arrives_before world.acts n (length world.acts) ≡ departs_before world.acts n (length world.acts) + is_inside l.node.mail.wait =
      before.departed in
      let now : arrives_before world'.acts n (length world'.acts) ≡ departs_before world'.acts n (length world'.acts) + is_inside after.node.mail.wait =
      own.departed in
      let most : is_inside l.node.mail.wait ≤ 1 = at_most_one l.node.mail.wait in
      omega (arith, one, mine, was, now, most)

  -- one more act keeps what is so of the others
  all-more : (acts : List Act) (n : ℕ) (deed : Deed) → AllArrived nodes acts
      → (deed ≡ Depart → (other : ℕ) → other < nodes → departs_before acts n (length acts) < arrives_before acts other (length acts))
      → AllArrived nodes (acts ++ act_of n deed ∷ [])
  all-more acts n deed all one = λ j node d other lt.
      let more : List Act = act_of n deed ∷ [] in
      elim (Does-cases d) [
        | inl (lt_j, d') ↦
            let before : departs_before acts node j < arrives_before acts other j = all j node d' other lt in
            let departs_same : departs_before (acts ++ more) node j ≡ departs_before acts node j =
            departs_before-prefix acts more node j (omega (arith, lt_j)) in
            let arrives_same : arrives_before (acts ++ more) other j ≡ arrives_before acts other j =
            arrives_before-prefix acts more other j (omega (arith, lt_j)) in
            omega (arith, before, departs_same, arrives_same)
        | inr (here, own, is) ↦
            let before : departs_before acts n (length acts) < arrives_before acts other (length acts) = one is other lt in
            let departs_same : departs_before (acts ++ more) n (length acts) ≡ departs_before acts n (length acts) =
            departs_before-prefix acts more n (length acts) (omega arith) in
            let arrives_same : arrives_before (acts ++ more) other (length acts) ≡ arrives_before acts other (length acts) =
            arrives_before-prefix acts more other (length acts) (omega arith) in
            subst (λ j. departs_before (acts ++ more) node j < arrives_before (acts ++ more) other j) (sym here)
            (subst (λ node. departs_before (acts ++ more) node (length acts) < arrives_before (acts ++ more) other (length acts)) own
            (omega (arith, before, departs_same, arrives_same)))
      ]

  -- the acts after a turn, by its deed
  pub acts_after : (world : World) (flight : List Flying) (n : ℕ) (l after : Logged) (input : Input) (entry : EntryRecord)
      → slice_get world.nodes n ≡ Some l → IsEntry l input entry after → IsReached program nodes options world
      → (deed : Option Deed) × ((with_turn world flight n entry after).acts ≡ world.acts ++ option_to_list (option_map (act_of n) deed))
  acts_after world flight n l after input entry at i r =
      let t : Turned l.node entry.turn after.node = subst (Turns l.node) i.turn_is (turns l.node input) in
      let me_is : l.node.setting.me ≡ n = ap (λ (s : Setting). s.me) (shape_at program nodes options r.events world n l r.runs at).setting in
      (t.deed, ap (λ act. world.acts ++ option_to_list act) t.act ∙ ap (λ me. world.acts ++ option_to_list (option_map (act_of me) t.deed)) me_is)

  arrived-more : (world world' : World) (n : ℕ) (l after : Logged) (deed : Option Deed) → IsReached program nodes options world
      → IsReached program nodes options world' → slice_get world.nodes n ≡ Some l → slice_get world'.nodes n ≡ Some after
      → world'.acts ≡ world.acts ++ option_to_list (option_map (act_of n) deed) → AllArrived nodes world.acts → AllArrived nodes world'.acts
  arrived-more world world' n l after None r r' at at' acts_are h = subst (AllArrived nodes) (sym (acts_are ∙ append-nil world.acts)) h
  arrived-more world world' n l after (Some d) r r' at at' acts_are h =
      subst (AllArrived nodes) (sym acts_are)
      (all-more world.acts n d h
      (λ is. departs_last world world' n l after r r' at at' (acts_are ∙ ap (λ (d : Deed). world.acts ++ act_of n d ∷ []) is)))

  pub AllDeparted : World → Type 0
  AllDeparted world = AllArrived nodes world.acts

  departed-kept : KeptByReached program nodes options AllDeparted
  unfolding AllDeparted
  departed-kept world flight n l after input entry at come i r r' h =
      let acts : _ = acts_after world flight n l after input entry at i r in
      arrived-more world (with_turn world flight n entry after) n l after acts.0 r r' at (get_set_same world.nodes n l after at) acts.1 h

  pub all_departed : (events : List Event) (world : World) → run_of program nodes options events ≡ Some world → AllArrived nodes world.acts
  unfolding AllDeparted
  all_departed events world e =
      by_reached program nodes options AllDeparted departed-kept events world (λ j node d other lt. absurd (none_done j node d)) e
    where
      none_there : (a : Act) → None ≡ Some a → ⊥
      none_there a e = cc

      none_done : (j node : ℕ) → Does [] j node Depart → ⊥
      none_done j node d = none_there (act_of node Depart) d.stands
