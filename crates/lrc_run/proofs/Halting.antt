-- What is answered of a run that halts, and of one that does not.
use Rattle.std.proofs.Common.{◌≡◌, ◌∙◌, ◌<◌, ◌≤◌, ◌⊎◌, inl, inr, ℕ, zero, suc, List, [], ◌∷◌, Option, Some, Result, Ok, Err, IsErrAnd, true, ap, arith, length, map, refl, subst, sym}
use Rattle.std.specs.Prelude.{All, slice_get}
use Rattle.std.proofs.lemmas.Option.{slice_get_within}
use Rattle.lrc_program.specs.declared.Program.{Program}
use Rattle.lrc_envelope.specs.declared.picker.Picker.{Picker}
use Rattle.lrc_judge.specs.Races.{AreNamedRaces}
use Rattle.lrc_post.specs.Mailbox.{MailboxRecord, IsAllGiven}
use Rattle.lrc_post.specs.Post.{AreOf, AreWires}
use Rattle.lrc_protocol.specs.Node.{OptionsRecord, fresh_node}
use Rattle.lrc_protocol.specs.Run.{EntryRecord, Logged, run_of}
use Rattle.lrc_threads.specs.declared.life.Failure.{Failure}
use Rattle.lrc_threads.specs.declared.stop.Stop.{Stop}
use Rattle.lrc_threads.specs.declared.stop.Stop.TheVariants as stops
use Rattle.lrc_threads.specs.Threads.{IsFirstFailure}
use Rattle.lrc_weave.specs.declared.fault.WeaveFault.{WeaveFault}
use Rattle.lrc_weave.specs.declared.fault.WeaveFault.TheVariants as weaving
use Rattle.lrc_weave.specs.Matched.{AreMatched}
use Rattle.lrc_world.specs.declared.keep.Keep.{Keep}
use Rattle.lrc_world.specs.declared.keep.Keep.TheVariants.{All as All', Newest, Turns}
use Rattle.lrc_world.specs.declared.run.Run.{Run}
use Rattle.lrc_world.specs.Report.{IsOver}
use Rattle.lrc_world.specs.Runs.{IsRunBy}
use Rattle.lrc_world.specs.Origins.{AreOriginsOf}
use Rattle.lrc_world.specs.Turned.{turned_of, when_all}
use Rattle.lrc_world.specs.World.{kept_log, with_turns}
use Rattle.lrc_world.proofs.Theorem.{all_kept}
use Rattle.lrc_weave.proofs.Places.{some_same}
use Rattle.lrc_run.specs.declared.halt.Halt.{Halt}
use Rattle.lrc_run.specs.declared.halt.Halt.TheVariants.{Worn, Refused, Mismatch, NoMemory}
use Rattle.lrc_run.specs.declared.halt.Left.{Left}
use Rattle.lrc_run.specs.declared.told.ToldRun.{ToldRun}
use Rattle.lrc_run.specs.Halts.{AreLeft, IsHalt, IsLeft, IsRefused, IsRunFault, StoppedWith, fault_of, logs_left}
use Rattle.lrc_run.specs.Run.{IsThreadedRun, IsTold, IsWovenReport, MakeTurnsOf, Reports, turns_of_nodes}
use Rattle.lrc_run.proofs.Telling.{same_origins}

module _ (program : Program) (nodes : ℕ) (options : OptionsRecord) (picker : Picker) where
  -- what is answered of it is a fault of the run
  pub of_halt : (halt : Halt) → IsHalt program nodes options picker halt → IsRunFault program nodes options picker (fault_of halt)
  of_halt (Worn worn) is = (worn, is)
  of_halt (Refused left) is = tt
  of_halt (Mismatch left) is = (left, is)
  of_halt NoMemory is = tt

  module _ (left : Left) (logs : List (List EntryRecord)) (stops : List (Option Stop)) (wires : List MailboxRecord) (logs_are : logs_left left ≡ logs)
      (stops_are : left.stops.items ≡ stops) (wires_are : left.wires ≡ wires) where
    -- what is handed back is what the nodes left
    pub is_left : AreLeft program nodes options picker logs stops wires → IsLeft program nodes options picker left
    is_left are =
        subst (λ l. AreLeft program nodes options picker l left.stops.items left.wires) (sym logs_are)
        (subst (λ s. AreLeft program nodes options picker logs s left.wires) (sym stops_are)
        (subst (AreLeft program nodes options picker logs stops) (sym wires_are) are))

  -- a report of events after which nothing is left to do is that of a run
  module _ (run : Run) (woven : IsWovenReport program nodes options run.events.items run.report) (over : run.is_over ≡ true)
      (races : AreNamedRaces run.report.acts.items run.report.races.items) (some : 1 ≤ nodes)
      (keep : Keep) (turned : run.turned.items ≡ when_all (with_turns keep) (turned_of program nodes options run.events.items))
      (origins : AreOriginsOf (with_turns keep) program nodes (turns_of_nodes run.report) run.turned.items run.report.acts.items run.origins) where
    one_world : woven.reported.0 ≡ woven.over.0
    one_world = some_same (run_of program nodes options run.events.items) woven.reported.0 woven.over.0 woven.reported.1 woven.over.1

    -- of each node all turns are kept
    all_turns : (kept : Keep) (ls : List Logged) → map (λ (l : Logged). l.log) ls ≡ map (λ (l : Logged). kept_log (with_turns kept) l.log) ls
    all_turns Newest ls = refl
    all_turns Turns ls = refl
    all_turns All' ls = refl

    run_of_report : IsRunBy (MakeTurnsOf run.report) program nodes options (with_turns keep) run
    run_of_report =
        let is = woven.reported.2 in
        record {
          events = (woven.flight, woven.woven);
          made = woven.reported.0;
          makes = woven.reported.1;
          report = record { acts = is.acts; ends = is.ends; logs = is.logs ∙ all_turns keep woven.reported.0.nodes; first = is.first };
          turned = turned;
          origins = origins;
          races = races;
          over = (λ _. subst IsOver (sym one_world) woven.over.2, λ _. over);
          kept = all_kept program nodes options run.events.items run.report.acts.items woven.reported.0 woven.reported.1 is.acts (omega (arith, some))
              (woven.short woven.reported.0 woven.reported.1) run.report.ends.items is.ends;
        }

  -- a run of which all is told
  pub threaded_run : (logs : List (List EntryRecord)) (told : ToldRun) (run : Run) (wires : List MailboxRecord) (keep kept : Keep) → 1 ≤ nodes
      → kept ≡ with_turns keep → IsTold program nodes options kept logs told → Reports logs told run.report → run.events ≡ told.events
      → run.turned ≡ told.turned → run.origins ≡ told.origins → run.is_over ≡ true → AreMatched logs wires → All IsAllGiven wires
      → length wires ≡ nodes → AreWires wires → AreOf picker wires → IsThreadedRun program nodes options picker keep run wires
  threaded_run logs told run wires keep kept some is_kept is reports same marked from over matched taken count legal picked = record {
    made = run_of_report run
        (subst (λ events. IsWovenReport program nodes options events.items run.report) (sym same) (is.woven run.report reports)) over
        (subst (λ acts. AreNamedRaces acts.items run.report.races.items) (sym reports.acts)
        (subst (λ races. AreNamedRaces told.acts.items races.items) (sym reports.races) is.races)) some keep
        (ap (λ turned. turned.items) marked ∙ is.turned ∙ ap (λ events. when_all kept (turned_of program nodes options events.items)) (sym same)
        ∙ ap (λ k. when_all k (turned_of program nodes options run.events.items)) is_kept)
        (subst (λ k. AreOriginsOf k program nodes (turns_of_nodes run.report) run.turned.items run.report.acts.items run.origins) is_kept
        (same_origins kept program nodes nodes logs (turns_of_nodes run.report) told.turned.items run.turned.items told.acts.items
        run.report.acts.items told.origins run.origins refl (sym reports.turns) (ap (λ turned. turned.items) (sym marked))
        (ap (λ acts. acts.items) (sym reports.acts)) (sym from) is.origins));
    over = over;
    posted = record {
      count = count;
      legal = legal;
      picked = picked;
      matched = subst (λ turns. AreMatched turns wires) (sym reports.turns) matched;
      taken = taken;
    };
  }

-- a fault that is handed on
pub same_fault : {T : Type 0} (r : Result T WeaveFault) (fault : WeaveFault) → IsErrAnd r (λ f. f ≡ fault) → r ≡ Err weaving.Mismatch
    → (let failed : Result T WeaveFault = Err fault in failed ≡ Err weaving.Mismatch)
same_fault (Ok x) fault is e = absurd is
same_fault (Err f) fault is e = ap Err (sym is) ∙ e

-- ---- nodes whose threads stopped

-- what is at a place inside
there : {A : Type 0} (items : List A) (n : ℕ) → n < length items → (one : A) × (slice_get items n ≡ Some one)
there [] n inside = absurd (omega arith)
there (x ∷ items) zero inside = (x, refl)
there (x ∷ items) (suc n) inside = there items n (omega arith)

-- no thread fails because the post is closed
not_closed : (program : Program) (nodes : ℕ) (options : OptionsRecord) (picker : Picker) (left : Left) (failure : Failure)
    → IsLeft program nodes options picker left → IsFirstFailure left.stops.items failure → failure.stop ≡ stops.Closed → ⊥
not_closed program nodes options picker left failure is first closed =
    let inside : failure.node < length left.stops.items = slice_get_within left.stops.items failure.node (Some failure.stop) first.here in
    let at = there (logs_left left) failure.node (omega (arith, inside, is.count, is.turns.count)) in
    let stopped = is.each failure.node at.0 (Some failure.stop) at.1 first.here in
    subst (λ stop. StoppedWith (fresh_node program nodes options failure.node) at.0 (Some stop)) closed stopped

-- the lowest one that failed had no memory
pub refused_so : (program : Program) (nodes : ℕ) (options : OptionsRecord) (picker : Picker) (left : Left) (failure : Failure)
    → IsLeft program nodes options picker left → IsFirstFailure left.stops.items failure
    → (failure.stop ≡ stops.Closed) ⊎ (failure.stop ≡ stops.NoMemory) → IsRefused program nodes options picker left
refused_so program nodes options picker left failure is first (inl closed) =
    absurd (not_closed program nodes options picker left failure is first closed)
refused_so program nodes options picker left failure is first (inr short) = record {
  left_so = is;
  node = failure.node;
  first = subst (λ stop. IsFirstFailure left.stops.items (record { node = failure.node; stop = stop })) short first;
}
