-- What every report promises of each moment of its run, and of the times at its accesses.
use Rattle.std.proofs.Common.{◌≡◌, ℕ, ◌<◌, List, length, sym, ap, subst, ◌∙◌, ⊎_elim}
use Rattle.std.specs.Prelude.{Some, slice_get}
use Rattle.std.proofs.lemmas.Option.{same_Some}
use Rattle.lrc_program.specs.declared.Program.{Program}
use Rattle.lrc_trace.specs.declared.act.Act.{Act}
use Rattle.lrc_trace.specs.declared.act.Deed.{Deed}
use Rattle.lrc_trace.specs.Conflict.{Accesses}
use Rattle.lrc_trace.specs.Run.{Does}
use Rattle.lrc_clock.proofs.Intervals.{other_complete, other_sound}
use Rattle.lrc_clock.proofs.Ordering.{cover_to_order, order_to_cover}
use Rattle.lrc_protocol.specs.declared.event.Event.{Event}
use Rattle.lrc_protocol.specs.Node.{OptionsRecord}
use Rattle.lrc_protocol.specs.Run.{Logged, World as Run, run_of}
use Rattle.lrc_protocol.specs.Follows.{pending}
use Rattle.lrc_protocol.proofs.Worlds.{run-whole}
use Rattle.lrc_order_laws.specs.Tokens.{grants_of_lock}
use Rattle.lrc_order_laws.proofs.Timed.{keeps, synchronized}
use Rattle.lrc_order_laws.proofs.Timely.{get_within}
use Rattle.lrc_order_laws.proofs.TokenCounts.{one_place}
use Rattle.lrc_order_laws.proofs.TokenWorlds.{all_tokens}
use Rattle.lrc_reading_laws.proofs.Received.AllExpected.{accepted}
use Rattle.lrc_reading_laws.proofs.Received.ReceiverWorlds.{in_flight, all_to}
use Rattle.lrc_world.specs.Moments.{Throughout, RefusesNone, HasEachToken, AreCovered}

-- an access is some deed
does_some : (acts : List Act) (j node word : ℕ) → Accesses acts j node word → (deed : Deed) × Does acts j node deed
does_some acts j node word a = ⊎_elim (λ read. (_, read.1)) (λ write. (_, write.1)) a

module _ (program : Program) (nodes : ℕ) (options : OptionsRecord) (events : List Event) where
  pub refuses_none : Throughout program nodes options events RefusesNone
  refuses_none before after run is runs = λ place flying there.
      let count : length run.nodes ≡ nodes = (run-whole program nodes options before run runs).count in
      let between : (flying.envelope.from < nodes) × (flying.envelope.to < nodes) =
      (all_to program nodes options before run runs).to flying.envelope (in_flight run.flight place flying there) in
      let receiver : (l : Logged) × (slice_get run.nodes flying.envelope.to ≡ Some l) =
      get_within run.nodes flying.envelope.to (subst (λ k. flying.envelope.to < k) (sym count) between.1) in
      record {
        from = subst (λ k. flying.envelope.from < k) (sym count) between.0;
        receiver = receiver.0;
        to = receiver.1;
        taken = accepted program nodes options before run runs place flying receiver.0 there receiver.1;
      }

  pub each_token : 0 < nodes → Throughout program nodes options events (HasEachToken program.locks)
  each_token some before after run is runs = λ lock lt.
      one_place lock nodes run.nodes (grants_of_lock lock (pending run)) run.acts run.times
      ((all_tokens program nodes options before run runs).each lock lt some)

  -- in a run, and in its report
  run_covered : (run : Run) → run_of program nodes options events ≡ Some run → AreCovered run.acts run.times
  run_covered run runs = record {
    closed = λ j node word q k access apart some.
        let d : (deed : Deed) × Does run.acts j node deed = does_some run.acts j node word access in (
          other_sound (keeps program nodes options events run runs) j node d.0 q k d.1 apart some,
          other_complete (keeps program nodes options events run runs) (synchronized program nodes options events run runs) j q k,
        );
    accessed = λ i q v j node word first second apart.
        let a : (deed : Deed) × Does run.acts i q deed = does_some run.acts i q v first in
        let b : (deed : Deed) × Does run.acts j node deed = does_some run.acts j node word second in (
          order_to_cover (keeps program nodes options events run runs) (synchronized program nodes options events run runs) i j q node a.0 b.0 apart a.1 b.1,
          cover_to_order (keeps program nodes options events run runs) (synchronized program nodes options events run runs) i j q node a.0 b.0 apart a.1 b.1,
        );
  }

  pub covered_acts : (acts : List Act) (run : Run) → run_of program nodes options events ≡ Some run → acts ≡ run.acts
      → (other : Run) → run_of program nodes options events ≡ Some other → AreCovered acts other.times
  covered_acts acts run runs is other others =
      let same : run ≡ other = same_Some run other (sym runs ∙ others) in
      subst (λ acts. AreCovered acts other.times) (sym (is ∙ ap (λ (x : Run). x.acts) same)) (run_covered other others)
