-- A run keeps time and is well synchronized: of the locks and of what each act does, with the part of the departs as a premise.
use Rattle.std.proofs.Common.{◌≡◌, ℕ, ◌<◌, List, true, length, sym, subst, ◌∙◌}
use Rattle.std.specs.Prelude.{Some, All, slice_index_or}
use Rattle.std.proofs.lemmas.Option.{same_Some, slice_get-get_or}
use Rattle.lrc_program.specs.declared.Program.{Program}
use Rattle.lrc_trace.specs.declared.act.Act.{Act}
use Rattle.lrc_trace.specs.declared.act.Deed.{Deed}
use Rattle.lrc_trace.specs.declared.act.Deed.TheVariants.{Acquire, Release, Arrive, Depart}
use Rattle.lrc_trace.specs.Run.{Does, act_of, departs_before, arrives_before}
use Rattle.lrc_trace.specs.Synchronization.{IsWellSynchronized}
use Rattle.lrc_trace.proofs.Positions.{Does-within}
use Rattle.lrc_time.specs.Time.{joined}
use Rattle.lrc_clock.specs.Times.{time_at, time_before, arrived_time}
use Rattle.lrc_clock.specs.Keeping.{KeepsTime, leaves_time}
use Rattle.lrc_protocol.specs.declared.event.Event.{Event}
use Rattle.lrc_protocol.specs.Node.{OptionsRecord}
use Rattle.lrc_protocol.specs.Run.{World, run_of}
use Rattle.lrc_protocol.proofs.Worlds.{run-whole}
use Rattle.lrc_order_laws.specs.Rules.{FollowsRule}
use Rattle.lrc_order_laws.specs.LockLines.{KeepsLocks}
use Rattle.lrc_order_laws.proofs.PresentTimes.{all_present}
use Rattle.lrc_order_laws.proofs.Rules.{AllFollow, all_ruled}
use Rattle.lrc_order_laws.proofs.TokenWorlds.{all_tokens}

-- each depart learns what every node knew at its arrive with the number of this depart
abbrev pub DepartsLearn : ℕ → List Act → List (List ℕ) → Type 0
DepartsLearn nodes acts times =
    (j node : ℕ) → Does acts j node Depart
    → time_at times j ≡ joined (time_before nodes acts times node j) (arrived_time nodes acts times (departs_before acts node j) j)

-- and is made once every node has arrived more often
abbrev pub DepartsLast : ℕ → List Act → Type 0
DepartsLast nodes acts = (j node : ℕ) → Does acts j node Depart → (other : ℕ) → other < nodes → departs_before acts node j < arrives_before acts other j

still_so : (node : ℕ) (last time : List ℕ) (d : Deed) → leaves_time d ≡ true → FollowsRule node last d time → time ≡ last
still_so node last time (Acquire l) h r = cc
still_so node last time (Release l) h r = cc
still_so node last time Arrive h r = cc
still_so node last time Depart h r = cc
still_so node last time _ h r = r

pub keeping : (nodes : ℕ) (acts : List Act) (times : List (List ℕ)) → length times ≡ length acts
    → ((j node : ℕ) (deed : Deed) → Does acts j node deed → node < nodes) → AllFollow nodes acts times → KeepsLocks nodes acts times
    → DepartsLearn nodes acts times → KeepsTime nodes acts times
keeping nodes acts times timed within rules locks departs = record {
  timed = timed;
  in_range = within;
  others = λ j node d does still. still_so node (time_before nodes acts times node j) (time_at times j) d still (rules j node d does);
  release = λ j node l does. rules j node (Release l) does;
  arrive = λ j node does. rules j node Arrive does;
  acquire = locks.learns;
  depart = departs;
}

pub synchronizing : (nodes : ℕ) (acts : List Act) (times : List (List ℕ)) → KeepsLocks nodes acts times → DepartsLast nodes acts → IsWellSynchronized nodes acts
synchronizing nodes acts times locks departs = record { acquires = locks.acquires; releases = locks.releases; departs = departs }

module _ (program : Program) (nodes : ℕ) (options : OptionsRecord) (events : List Event) (world : World)
    (e : run_of program nodes options events ≡ Some world) where
  act_within : (acts : List Act) → All (λ (a : Act). a.node < nodes) acts → (j node : ℕ) (deed : Deed) → Does acts j node deed → node < nodes
  act_within acts all j node deed does =
      let act : Act = act_of node deed in
      let lt : j < length acts = Does-within does in
      subst (λ (a : Act). a.node < nodes)
      (same_Some (slice_index_or acts j act) act (sym (slice_get-get_or acts j act lt) ∙ does.stands))
      (all j act lt)

  pub keeps_time : DepartsLearn nodes world.acts world.times → KeepsTime nodes world.acts world.times
  keeps_time departs =
      keeping nodes world.acts world.times (all_present program nodes options events world e).timed
      (act_within world.acts (run-whole program nodes options events world e).in_range)
      (all_ruled program nodes options events world e).ruled (all_tokens program nodes options events world e).lines departs

  pub is_synchronized : DepartsLast nodes world.acts → IsWellSynchronized nodes world.acts
  is_synchronized departs = synchronizing nodes world.acts world.times (all_tokens program nodes options events world e).lines departs
