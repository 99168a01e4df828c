-- After a run of the plain machine no node can act exactly where none can step.
use Rattle.std.proofs.Common.{◌≡◌, ℕ, ◌++◌, ◌∷◌, [], List, inl, inr, length, take, sym, subst, ◌∙◌, ap, arith}
use Rattle.std.specs.Prelude.{Option, Some, None, option_map}
use Rattle.std.proofs.lemmas.List.{append-nil, map-append, take-append-le, take_all}
use Rattle.lrc_program.specs.declared.Program.{Program}
use Rattle.lrc_trace.specs.declared.act.Act.{Act}
use Rattle.lrc_trace.specs.declared.act.Deed.{Deed}
use Rattle.lrc_trace.specs.declared.act.Deed.TheVariants.{Quiet, Print, Read, Write, Acquire, Release, Arrive, Depart, Trap, End}
use Rattle.lrc_trace.specs.Run.{Does, act_of}
use Rattle.lrc_trace.specs.Synchronization.{IsWellSynchronized}
use Rattle.lrc_trace.proofs.Positions.{Does-cases}
use Rattle.lrc_trace.proofs.Prefixes.{IsWellSynchronized-more}
use Rattle.lrc_exec.specs.Plain.{Plain, plain_start, plain_from, plain}
use Rattle.lrc_exec.proofs.PlainLaws.{plain-nodes}
use Rattle.lrc_exec.specs.Follows.{nodes_of_acts, FollowsText}
use Rattle.lrc_consistency_laws.specs.InOrder.{value_after_all, ReadsInOrder}
use Rattle.lrc_consistency_laws.proofs.Plainly.{facts}
use Rattle.lrc_consistency_laws.proofs.Runs.{SoundAt, Ready, led, start_ready}
use Rattle.lrc_consistency_laws.proofs.UpToRace.{in_range}
use Rattle.lrc_orders.specs.Stuck.{IsAtRest}
use Rattle.lrc_lazy.specs.Lazy.{MayComeNext, IsOver}
use Rattle.lrc_lazy.proofs.Onward.{other_follows, free_read}
use Rattle.lrc_lazy.proofs.Plainly.{rests, no_more}

-- a run that follows the text, is well synchronized and reads what was written last is one of the plain machine
module _ (program : Program) (nodes : ℕ) (run : List Act) (follows : FollowsText program nodes run) (ws : IsWellSynchronized nodes run)
    (in_order : ReadsInOrder run) where
  sound : (k n : ℕ) (d : Deed) → Does run k n d → SoundAt run nodes k n d
  sound k n Quiet h = tt
  sound k n (Print v) h = tt
  sound k n (Read w v) h = in_order k w v (n, h)
  sound k n (Write w v) h = tt
  sound k n (Acquire l) h = ws.acquires k n l h
  sound k n (Release l) h = ws.releases k n l h
  sound k n Arrive h = tt
  sound k n Depart h = ws.departs k n h
  sound k n (Trap e) h = tt
  sound k n End h = tt

  in_order_plain : plain program nodes (nodes_of_acts run) ≡ Some run
  in_order_plain =
      let ready = subst (λ acts. Ready run nodes 0 (plain_start program nodes) acts) (sym (append-nil run)) (start_ready program nodes run follows) in
      ap (option_map (λ (r : List Act × Plain). r.0))
      (led run nodes 0 (plain_start program nodes) run [] ready (in_range follows) (λ k n d lt h. sound k n d h)).is

-- one act more reads in order, if it is no read, or one of the last value
in_order_more : (run : List Act) (act : Act) → ReadsInOrder run → ((w v : ℕ) → act.deed ≡ Read w v → v ≡ value_after_all w run 0)
    → ReadsInOrder (run ++ act ∷ [])
in_order_more run act in_order last j word value (n, does) = elim (Does-cases does) [
  | inl (lt, h) ↦
      in_order j word value (n, h)
      ∙ ap (λ acts. value_after_all word acts 0) (sym (take-append-le j run (act ∷ []) (omega (arith, lt))))
  | inr (here, own, is) ↦
      last word value is
      ∙ ap (λ acts. value_after_all word acts 0)
      (sym (ap (λ k. take k (run ++ act ∷ [])) here ∙ take-append-le (length run) run (act ∷ []) (omega arith)
      ∙ take_all (length run) run (omega arith)))
]

module _ (program : Program) (nodes : ℕ) (order : List ℕ) (acts : List Act) (machine : Plain)
    (is : plain_from (plain_start program nodes) order ≡ Some (acts, machine)) where
  made : plain program nodes order ≡ Some acts
  made = ap (option_map (λ (r : List Act × Plain). r.0)) is

  -- where no node can step, no act leads on
  none_on : IsAtRest machine → (act : Act) → plain program nodes (nodes_of_acts (acts ++ act ∷ [])) ≡ Some (acts ++ act ∷ []) → ⊥
  none_on rest act plainly =
      let nodes_are : nodes_of_acts (acts ++ act ∷ []) ≡ order ++ act.node ∷ [] =
      map-append (λ (a : Act). a.node) acts (act ∷ []) ∙ ap (λ ns. ns ++ act.node ∷ []) (plain-nodes program nodes order acts made) in
      let never : ◌≡◌ {A = Option (List Act)} None (Some (acts ++ act ∷ [])) =
      sym (no_more program nodes machine order acts is act.node (rest act.node)) ∙ ap (plain program nodes) (sym nodes_are) ∙ plainly in
      cc

  over_at : (node : ℕ) (deed : Deed) → IsAtRest machine → MayComeNext program nodes acts (act_of node deed) → ⊥
  over_at node (Read w u) rest next =
      let f = facts program nodes order acts made in
      let v = value_after_all w acts 0 in
      let act = act_of node (Read w v) in
      none_on rest act (in_order_plain program nodes (acts ++ act ∷ []) (other_follows acts node w program nodes u v next.follows)
      (IsWellSynchronized-more acts act nodes f.synchronized (free_read nodes acts node w v))
      (in_order_more acts act f.in_order (λ x y e.
      let value_is : v ≡ y = cc in
      let word_is : w ≡ x = cc in
      sym value_is ∙ ap (λ z. value_after_all z acts 0) word_is)))
  over_at node deed rest next =
      let f = facts program nodes order acts made in
      let act = act_of node deed in
      none_on rest act (in_order_plain program nodes (acts ++ act ∷ []) next.follows
      (IsWellSynchronized-more acts act nodes f.synchronized next.may)
      (in_order_more acts act f.in_order (λ x y e. let never : ⊥ = cc in absurd never)))

  pub over_to_rest : IsOver program nodes acts → IsAtRest machine
  over_to_rest over = rests program nodes machine order acts is over

  pub rest_to_over : IsAtRest machine → IsOver program nodes acts
  rest_to_over rest act next = over_at act.node act.deed rest next
