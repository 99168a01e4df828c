-- The report of a run that its logs tell of.
use Rattle.std.proofs.Common.{◌≡◌, ◌∙◌, ◌<◌, ◌≤◌, ◌+◌, ℕ, suc, List, [], ◌∷◌, ◌⊎◌, inl, inr, Bool, true, false, length, Some, ◌||◌, refl, sym, ap, subst, arith, map}
use Rattle.std.specs.Prelude.{All, MatchOption, slice_get}
use Rattle.std.specs.List.{enumerate_from, list_any}
use Rattle.std.proofs.lemmas.Bool.{le-ltb}
use Rattle.std.proofs.lemmas.List.Elements.{All-head, All-tail}
use Rattle.lrc_program.specs.declared.Program.{Program}
use Rattle.lrc_trace.specs.declared.act.Act.{Act}
use Rattle.lrc_trace.specs.declared.race.Race.{Race}
use Rattle.lrc_trace.specs.Conflict.{IsFirstRace, IsRaceFree}
use Rattle.lrc_trace.specs.Trace.{TraceRecord}
use Rattle.lrc_envelope.specs.Envelope.{EnvelopeRecord}
use Rattle.lrc_judge.specs.Races.{AreNamedRaces}
use Rattle.lrc_race.specs.Races.{AreRacesOf, AreTracesOf}
use Rattle.lrc_protocol.specs.declared.event.Event.{Event}
use Rattle.lrc_protocol.specs.Follows.{inputs_of, turns_of}
use Rattle.lrc_protocol.specs.Node.{OptionsRecord, fresh_node}
use Rattle.lrc_protocol.specs.Run.{EntryRecord, Logged, World, Flying, run_of}
use Rattle.lrc_protocol.specs.Traced.{trace_of, traced, traces_of}
use Rattle.lrc_protocol.specs.Turn.{is_ready}
use Rattle.lrc_protocol.proofs.Traces.{traced_node}
use Rattle.lrc_protocol.proofs.Worlds.{run-whole}
use Rattle.lrc_wire.specs.declared.limits.TheConstants.{MOST_BODY_BYTES}
use Rattle.lrc_wire.specs.declared.version.Version.TheVariants.{Two}
use Rattle.lrc_wire.specs.Runs.{runs_of}
use Rattle.lrc_wire.specs.Spelling.{body}
use Rattle.lrc_weave.proofs.Places.{some_same}
use Rattle.lrc_weave.specs.Logs.{AreLogs}
use Rattle.lrc_weave.specs.Whole.{MakesRun}
use Rattle.lrc_weave.specs.Woven.{AreWoven}
use Rattle.lrc_world.specs.declared.keep.Keep.{Keep}
use Rattle.lrc_world.specs.declared.origins.Origins.{Origins}
use Rattle.lrc_world.specs.declared.report.Report.{Report}
use Rattle.lrc_world.specs.declared.turned.Turned.{Turned}
use Rattle.lrc_world.specs.Origins.{AreOriginsOf}
use Rattle.lrc_world.specs.Ends.{ends_of}
use Rattle.lrc_world.specs.Report.{AreAll, IsReportOf, end_of_logged}
use Rattle.lrc_world.specs.World.{entry_is_long, is_long, log_is_long, sends_long}
use Rattle.lrc_world.proofs.Driven.{none_long}
use Rattle.lrc_world.proofs.EndsOfRuns.{ends_of_acts}
use Rattle.lrc_world.proofs.Races.{races_there, raceless_there, traces_there}
use Rattle.lrc_world.proofs.Worlds.{acts_in_range}
use Rattle.lrc_run.specs.Run.{IsWovenReport, turns_of_nodes}
use Rattle.lrc_threads.specs.Threads.{is_any_ready_after, traces_of_logs}
use Rattle.lrc_threads.specs.Worker.{AreShort, IsShort, SendsShort, is_ready_after}

-- ---- messages that are short

neither : (a b : Bool) → a ≡ false → b ≡ false → (a || b) ≡ false
neither false b first other = other
neither true b first other = cc

-- a test that each fails is passed by none
none_pass : {A : Type 0} (test : A → Bool) (P : A → Type 0) → ((x : A) → P x → test x ≡ false) → (xs : List A) → All P xs → list_any test xs ≡ false
none_pass test P fails [] all = refl
none_pass test P fails (x ∷ xs) all =
    neither (test x) (list_any test xs) (fails x (All-head P x xs all)) (none_pass test P fails xs (All-tail P x xs all))

short_message : (envelope : EnvelopeRecord) → IsShort envelope → is_long envelope ≡ false
short_message envelope short = le-ltb MOST_BODY_BYTES (length (body Two runs_of envelope.message)) short

short_turn : (entry : EntryRecord) → SendsShort entry → entry_is_long entry ≡ false
short_turn entry short = none_pass is_long IsShort short_message entry.turn.out short

short_nodes : (ls : List Logged) → All AreShort (map (λ (l : Logged). l.log) ls) → list_any log_is_long ls ≡ false
short_nodes [] all = refl
short_nodes (l ∷ ls) all =
    let others : List (List EntryRecord) = map (λ (l : Logged). l.log) ls in
    neither (log_is_long l) (list_any log_is_long ls) (none_pass entry_is_long SendsShort short_turn l.log (All-head AreShort l.log others all))
    (short_nodes ls (All-tail AreShort l.log others all))

-- ---- a run that logs tell of

true_false : true ≡ false → ⊥
true_false e = cc

module _ (program : Program) (nodes : ℕ) (options : OptionsRecord) (logs : List (List EntryRecord)) (events : List Event) (acts : List Act) (in_flight : ℕ)
    (m : MakesRun program nodes options logs events acts in_flight) where
  -- ---- traces

  traces_from : (first : ℕ) (ls : List Logged)
      → map (λ (at : ℕ × List EntryRecord). trace_of (fresh_node program nodes options at.0) at.1) (enumerate_from first (map (λ (l : Logged). l.log) ls))
      ≡ map (λ (at : ℕ × Logged). trace_of (fresh_node program nodes options at.0) at.1.log) (enumerate_from first ls)
  traces_from first [] = refl
  traces_from first (l ∷ ls) = ap (λ more. trace_of (fresh_node program nodes options first) l.log ∷ more) (traces_from (first + 1) ls)

  -- the traces of the logs are those of the run
  traces_same : (traces : List TraceRecord) → traces ≡ traces_of_logs program nodes options logs → traces ≡ traces_of program nodes options m.world
  traces_same traces are = are ∙ ap (traces_of_logs program nodes options) (sym m.logs_are) ∙ traces_from 0 m.world.nodes

  pub traces_told : (traces : List TraceRecord) → traces ≡ traces_of_logs program nodes options logs → AreTracesOf nodes traces
  traces_told traces are = traces_there program nodes options events m.world m.runs traces (traces_same traces are)

  pub races_told : (traces : List TraceRecord) (races : List Race) → traces ≡ traces_of_logs program nodes options logs → AreRacesOf traces races
      → AreNamedRaces acts races
  races_told traces races are r =
      races_there program nodes options events m.world m.runs traces (traces_same traces are) acts races (sym m.acts_are) r

  pub raceless_told : (traces : List TraceRecord) → traces ≡ traces_of_logs program nodes options logs → AreRacesOf traces [] → IsRaceFree acts
  raceless_told traces are r = raceless_there program nodes options events m.world m.runs traces (traces_same traces are) acts (sym m.acts_are) r

  -- ---- acts

  pub acts_told : nodes ≤ 16 → All (λ (act : Act). act.node < 16) acts
  acts_told few = acts_in_range program nodes options events m.world acts m.runs (sym m.acts_are) few

  pub acts_own : All (λ (act : Act). act.node < nodes) acts
  acts_own = subst (All (λ (act : Act). act.node < nodes)) m.acts_are (run-whole program nodes options events m.world m.runs).in_range

  -- ---- what is left to do

  ready_from : (first : ℕ) (ls : List Logged)
      → ((k : ℕ) (l : Logged) → slice_get ls k ≡ Some l → (traced (fresh_node program nodes options (first + k)) (inputs_of l.log)).node ≡ l.node)
      → list_any (λ (at : ℕ × List EntryRecord). is_ready_after (fresh_node program nodes options at.0) at.1)
      (enumerate_from first (map (λ (l : Logged). l.log) ls))
      ≡ list_any (λ (l : Logged). is_ready l.node) ls
  ready_from first [] each = refl
  ready_from first (l ∷ ls) each =
      let none : first + 0 ≡ first = omega arith in
      let here : (traced (fresh_node program nodes options first) (inputs_of l.log)).node ≡ l.node =
      subst (λ n. (traced (fresh_node program nodes options n) (inputs_of l.log)).node ≡ l.node) none (each 0 l refl) in
      ap
      (λ b. b
      || list_any (λ (at : ℕ × List EntryRecord). is_ready_after (fresh_node program nodes options at.0) at.1)
      (enumerate_from (first + 1) (map (λ (l : Logged). l.log) ls)))
      (ap is_ready here)
      ∙ ap (λ b. is_ready l.node || b)
      (ready_from (first + 1) ls (λ k other at.
      let next : first + suc k ≡ first + 1 + k = omega arith in
      subst (λ n. (traced (fresh_node program nodes options n) (inputs_of other.log)).node ≡ other.node) next (each (suc k) other at)))

  again : (k : ℕ) (l : Logged) → slice_get m.world.nodes k ≡ Some l → (traced (fresh_node program nodes options (0 + k)) (inputs_of l.log)).node ≡ l.node
  again k l at =
      let same : k ≡ 0 + k = omega arith in
      subst (λ n. (traced (fresh_node program nodes options n) (inputs_of l.log)).node ≡ l.node) same
      (traced_node program nodes options k (inputs_of l.log) (record { node = l.node; turns = turns_of l.log })
      ((run-whole program nodes options events m.world m.runs).each k l at).replayed)

  ready_same : is_any_ready_after program nodes options logs ≡ list_any (λ (l : Logged). is_ready l.node) m.world.nodes
  ready_same = ap (is_any_ready_after program nodes options) (sym m.logs_are) ∙ ready_from 0 m.world.nodes again

  pub over_told : (any : Bool) → any ≡ is_any_ready_after program nodes options logs → any ≡ false → in_flight ≤ 0 → AreAll program nodes options events
  over_told any ready none landed = (
    m.world,
    m.runs,
    record {
      idle = sym (ready ∙ ready_same) ∙ none;
      taken = none_long m.world.flight (omega (arith, m.flight, landed));
    },
  )

  pub left_over : (any : Bool) → any ≡ is_any_ready_after program nodes options logs → (any ≡ true) ⊎ (1 ≤ in_flight)
      → AreAll program nodes options events → ⊥
  left_over any ready (inl some) all =
      true_false
      (sym some ∙ ready ∙ ready_same
      ∙ ap (λ w. list_any (λ (l : Logged). is_ready l.node) w.nodes)
      (some_same (run_of program nodes options events) m.world all.0 m.runs all.1)
      ∙ all.2.idle)
  left_over any ready (inr some) all =
      let none : length m.world.flight ≡ 0 =
      ap (λ (w : World). length w.flight) (some_same (run_of program nodes options events) m.world all.0 m.runs all.1) ∙ ap length all.2.taken in
      omega (arith, some, m.flight, none)

  -- ---- how long its messages are

  pub short_told : All AreShort logs → (run : World) → run_of program nodes options events ≡ Some run → sends_long run ≡ false
  short_told short run runs =
      subst (λ (w : World). sends_long w ≡ false) (some_same (run_of program nodes options events) m.world run m.runs runs)
      (short_nodes m.world.nodes (subst (All AreShort) (sym m.logs_are) short))

  -- ---- the report

  pub report_told : (report : Report) → report.acts.items ≡ acts → report.ends.items ≡ ends_of nodes acts → turns_of_nodes report ≡ logs
      → MatchOption report.first_race (IsRaceFree acts) (IsFirstRace acts) → IsReportOf program nodes options events report
  report_told report acts_are ends_are same_turns first = (
    m.world,
    m.runs,
    record {
      acts = acts_are ∙ sym m.acts_are;
      ends = ends_are
          ∙ sym (ends_of_acts program nodes options events acts (map end_of_logged m.world.nodes) m.world m.runs (sym m.acts_are) refl);
      logs = same_turns ∙ sym m.logs_are;
      first = subst (λ (a : List Act). MatchOption report.first_race (IsRaceFree a) (IsFirstRace a)) (sym m.acts_are) first;
    },
  )

  pub woven_told : (report : Report) → IsReportOf program nodes options events report → turns_of_nodes report ≡ logs
      → (flight : List Flying) × AreWoven logs events flight → AreAll program nodes options events → All AreShort logs
      → IsWovenReport program nodes options events report
  woven_told report is same_turns woven over short = record {
    flight = woven.0;
    reported = is;
    woven = subst (λ turns. AreWoven turns events woven.0) (sym same_turns) woven.1;
    over = over;
    short = short_told short;
  }

-- where the acts come from of a run that is the same
pub same_origins : (keep : Keep) (program : Program) (n nodes : ℕ) (read logs : List (List EntryRecord)) (found turned : List Turned)
    (seen acts : List Act) (made origins : Origins) → n ≡ nodes → read ≡ logs → found ≡ turned → seen ≡ acts → made ≡ origins
    → AreOriginsOf keep program n read found seen made → AreOriginsOf keep program nodes logs turned acts origins
same_origins keep program n nodes read logs found turned seen acts made origins count logged marked acting same are =
    subst (λ m. AreOriginsOf keep program m logs turned acts origins) count
    (subst (λ l. AreOriginsOf keep program n l turned acts origins) logged
    (subst (λ t. AreOriginsOf keep program n read t acts origins) marked
    (subst (λ a. AreOriginsOf keep program n read found a origins) acting
    (subst (AreOriginsOf keep program n read found seen) same are))))

-- the run of logs that are read as a slice
pub run_told : {A : Type 0} (seen : A → List EntryRecord) (found all : List A) → found ≡ all → (program : Program) (nodes : ℕ) (options : OptionsRecord)
    (events : List Event) (acts : List Act) (in_flight : ℕ) → AreLogs program nodes options (map seen all)
    → ((program : Program) (nodes : ℕ) (options : OptionsRecord) → AreLogs program nodes options (map seen found)
    → MakesRun program nodes options (map seen found) events acts in_flight)
    → MakesRun program nodes options (map seen all) events acts in_flight
run_told seen found all same program nodes options events acts in_flight are makes =
    subst (λ logs. MakesRun program nodes options (map seen logs) events acts in_flight) same
    (makes program nodes options (subst (λ logs. AreLogs program nodes options (map seen logs)) (sym same) are))

-- what is woven of them
pub weave_told : {A : Type 0} (seen : A → List EntryRecord) (found all : List A) → found ≡ all → (program : Program) (nodes : ℕ) (options : OptionsRecord)
    (events : List Event) → AreLogs program nodes options (map seen all)
    → ((program : Program) (nodes : ℕ) (options : OptionsRecord) → AreLogs program nodes options (map seen found)
    → (flight : List Flying) × AreWoven (map seen found) events flight)
    → (flight : List Flying) × AreWoven (map seen all) events flight
weave_told seen found all same program nodes options events are makes =
    subst (λ logs. (flight : List Flying) × AreWoven (map seen logs) events flight) same
    (makes program nodes options (subst (λ logs. AreLogs program nodes options (map seen logs)) (sym same) are))
