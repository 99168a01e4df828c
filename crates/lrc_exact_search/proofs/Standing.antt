-- What a run so far says of what its nodes can do next, and where that leads them.
use Rattle.std.proofs.Common.{◌≡◌, ℕ, ◌+◌, ◌<◌, ◌≤◌, List, [], ◌∷◌, ◌++◌, length, drop, get_or, take, refl, sym, subst, ap, ◌∙◌, arith}
use Rattle.std.specs.Prelude.{Option, Some, None, option_map, slice_index, slice_set}
use Rattle.std.proofs.lemmas.List.{get_or-set_same, length_push, take-append-drop, take_more}
use Rattle.std.proofs.lemmas.Option.{same_Some}
use Rattle.lrc_program.specs.declared.Program.{Program}
use Rattle.lrc_trace.specs.declared.act.Act.{Act}
use Rattle.lrc_trace.specs.declared.act.Deed.{Deed}
use Rattle.lrc_trace.specs.declared.act.Deed.TheVariants.{Read}
use Rattle.lrc_trace.specs.Run.{act_of, arrives_before, departs_before}
use Rattle.lrc_trace.specs.Synchronization.{MayGoOn, WaitsAtBarriers}
use Rattle.lrc_trace.proofs.Positions.{Does-last, Does-within}
use Rattle.lrc_trace.proofs.Prefixes.{MayGoOn-last, WaitsAtBarriers-last}
use Rattle.lrc_exec.specs.Meaning.{Thread, next_of}
use Rattle.lrc_exec.specs.Plain.{Plain, plain_step, thread_in}
use Rattle.lrc_exec.specs.States.{plain_at, IsFirst, IsStateOf}
use Rattle.lrc_exec.proofs.NextLaws.{next_of-fine}
use Rattle.lrc_exec.specs.Follows.{Goes}
use Rattle.lrc_consistency_laws.proofs.Runs.{CanDo, is_sound}
use Rattle.lrc_consistency_laws.proofs.UpToRace.{in_range}
use Rattle.lrc_consistency_laws.proofs.Waiting.{waits_at_barriers}
use Rattle.lrc_orders_laws.proofs.Parts.{stepped}
use Rattle.lrc_lazy.specs.Following.{IsFollowed, MayFollow, machine_for, poked}
use Rattle.lrc_lazy.specs.Lazy.{MayComeNext}
use Rattle.lrc_lazy.specs.Standing.{with_memory}
use Rattle.lrc_lazy.proofs.Coming.{may_go}
use Rattle.lrc_lazy.proofs.Following.{StandsAt, coming, makes_other, makes_read, read_within, stands_first, stands_next}
use Rattle.lrc_lazy.proofs.Onward.{free_read, other_follows}
use Rattle.lrc_lazy.proofs.Steps.{counts_on, none_arrived}
use Rattle.lrc_exact.specs.Rule.{Shape, State as Held, KeepsExact, exact_value}
use Rattle.lrc_exact_laws.specs.Laws.{IsExactRun}
use Rattle.lrc_exact_judge.specs.Current.{IsMemoryOf}
use Rattle.lrc_exact_judge.specs.Shape.{shape_of}
use Rattle.lrc_exact_judge.specs.declared.layout.Layout.{Layout}
use Rattle.lrc_exact_judge.proofs.Reading.{one_read, reads-none}
use Rattle.lrc_exact_outcomes.proofs.Running.{exact_front, exact_more}
use Rattle.lrc_exact_search.specs.declared.run.ExactRun.{ExactRun}
use Rattle.lrc_exact_search.specs.declared.run.Task.{Task}
use Rattle.lrc_exact_search.specs.Run.{IsAt, IsLedTo, IsTask}

pub to_stands : {program : Program} {nodes : ℕ} {acts : List Act} {machine : Plain} → IsLedTo program nodes acts machine → StandsAt program nodes acts machine
to_stands l = record { follows = l.follows; memory = l.memory; matches = l.matches; long = l.long; size = l.size; leads = l.leads }

pub from_stands : {program : Program} {nodes : ℕ} {acts : List Act} {machine : Plain} → StandsAt program nodes acts machine → IsLedTo program nodes acts machine
from_stands s = record { follows = s.follows; memory = s.memory; matches = s.matches; long = s.long; size = s.size; leads = s.leads }

-- ---- what a node can do

module _ (program : Program) (nodes : ℕ) (acts : List Act) (machine : Plain) (s : StandsAt program nodes acts machine) where
  may_after : (node : ℕ) (thread : Thread) (at : thread_in machine node ≡ Some thread) (d : Deed) (t : Option Thread) → Goes (next_of thread) d t
      → CanDo machine node d → MayGoOn nodes acts (act_of node d)
  may_after node thread at (Read w v) t goes can = free_read nodes acts node w v
  may_after node thread at d t goes can =
      may_go nodes acts node d (λ w v e. cc)
      (is_sound acts nodes (length acts) node (with_memory machine s.memory) thread at s.matches s.size goes (next_of-fine thread) can)

  -- what the machine makes next may come next
  pub comes : (node : ℕ) (deed : Deed) (after : Plain) → plain_step machine node ≡ Some (deed, after) → MayComeNext program nodes acts (act_of node deed)
  comes node deed after is =
      let next = stands_next program nodes acts machine s node deed machine.memory after is in
      let made = stepped machine node deed after is in
      record {
        follows = next.follows;
        may = may_after node made.thread made.there deed made.took.goes_on_as made.took.goes made.took.can;
      }

  -- where it makes nothing, nothing may
  pub none_comes : (node : ℕ) → plain_step machine node ≡ None → (deed : Deed) → MayComeNext program nodes acts (act_of node deed) → ⊥
  none_comes node rest (Read w u) next =
      let v = slice_index machine.memory w in
      let c = coming program nodes acts machine s node (Read w v) (other_follows acts node w program nodes u v next.follows) in
      let made = makes_read program nodes acts machine s node w v machine.memory c refl in
      let never : ◌≡◌ {A = Option (Deed × Plain)} None (Some (Read w v, made.0)) = sym rest ∙ made.1 in
      cc
  none_comes node rest deed next =
      let c = coming program nodes acts machine s node deed next.follows in
      let made = makes_other program nodes acts machine s node deed machine.memory c next.may (λ w v e. cc) in
      let never : ◌≡◌ {A = Option (Deed × Plain)} None (Some (deed, made.0)) = sym rest ∙ made.1 in
      cc

pub mapped : (o : Option (Deed × Plain)) (d : Deed) → option_map (λ step. step.0) o ≡ Some d → (after : Plain) × (o ≡ Some (d, after))
mapped (Some (e, m)) d is = let same : e ≡ d = same_Some e d is in (m, ap (λ x. Some (x, m)) same)
mapped None d is = let never : ⊥ = cc in absurd never

pub unmapped : (o : Option (Deed × Plain)) → option_map (λ step. step.0) o ≡ None → o ≡ None
unmapped (Some x) is = let never : ⊥ = cc in absurd never
unmapped None is = refl

module _ (task : Task) (is : IsTask task) (run : ExactRun) (at : IsAt task run) (node : ℕ) where
  abbrev program : Program
  program = task.program.now

  abbrev shape : Shape
  shape = shape_of task.layout

  abbrev acts : List Act
  acts = run.acts.items

  abbrev machine : Plain
  machine = plain_at task.flat run.state

  stands : StandsAt program shape.nodes acts machine
  stands = subst (λ n. StandsAt program n acts machine) is.nodes (to_stands at.led)

  next_is : (deed : Deed) → option_map (λ step. step.0) (plain_step machine node) ≡ Some deed → MayComeNext program shape.nodes acts (act_of node deed)
  next_is deed can =
      let step = mapped (plain_step machine node) deed can in
      comes program shape.nodes acts machine stands node deed step.0 step.1

  pub none_next : option_map (λ step. step.0) (plain_step machine node) ≡ None → (deed : Deed)
      → MayComeNext program shape.nodes acts (act_of node deed) → ⊥
  none_next none deed next =
      none_comes program shape.nodes acts machine stands node (unmapped (plain_step machine node) none) deed next

  -- a deed that is no read
  pub other_next : (deed : Deed) → option_map (λ step. step.0) (plain_step machine node) ≡ Some deed → ((w v : ℕ) → deed ≡ Read w v → ⊥)
      → IsExactRun program shape (acts ++ act_of node deed ∷ [])
  other_next deed can no_read =
      exact_more program shape acts node deed at.exact (next_is deed can) (λ word value states e keeps. absurd (no_read word value e))

  module _ (w u : ℕ) (can : option_map (λ step. step.0) (plain_step machine node) ≡ Some (Read w u)) where
    -- a node that reads is not at a barrier
    pub goes_on : arrives_before acts node (length acts) ≤ departs_before acts node (length acts)
    goes_on =
        WaitsAtBarriers-last acts (act_of node (Read w u))
        (waits_at_barriers program shape.nodes (acts ++ act_of node (Read w u) ∷ []) (next_is (Read w u) can).follows) refl

    -- with the value that the memory has
    pub read_next : (v : ℕ)
        → ((states : List Held) → KeepsExact (shape_of run.memory.layout) acts states → v ≡ exact_value (shape_of run.memory.layout) acts states node (length acts) w)
        → IsExactRun program shape (acts ++ act_of node (Read w v) ∷ [])
    read_next v gives =
        exact_more program shape acts node (Read w v) at.exact (record {
          follows = other_follows acts node w program shape.nodes u v (next_is (Read w u) can).follows;
          may = free_read shape.nodes acts node w v;
        }) (λ word value states e keeps.
        let parts = one_read e in
        let given = gives states (subst (λ (l : Layout). KeepsExact (shape_of l) acts states) (sym at.layout) keeps) in
        sym parts.1 ∙ given
        ∙ ap (λ (l : Layout). exact_value (shape_of l) acts states node (length acts) w) at.layout
        ∙ ap (λ x. exact_value shape acts states node (length acts) x) parts.0)

-- ---- one act more

module _ (task : Task) (is : IsTask task) (run : ExactRun) (at : IsAt task run) (node : ℕ) (deed : Deed)
    (longer : IsExactRun task.program.now (shape_of task.layout) (run.acts.items ++ act_of node deed ∷ [])) where
  abbrev act : Act
  act = act_of node deed

  abbrev nodes : ℕ
  nodes = task.flat.nodes

  led : StandsAt task.program.now nodes run.acts.items (plain_at task.flat run.state)
  led = to_stands at.led

  pub node_among : node < task.layout.nodes
  node_among = in_range longer.follows (length run.acts.items) node deed (Does-last run.acts.items act)

  pub may_go_on : MayGoOn task.layout.nodes run.acts.items act
  may_go_on = MayGoOn-last run.acts.items act task.layout.nodes longer.synchronized

  pub waits_on : WaitsAtBarriers (run.acts.items ++ act ∷ [])
  waits_on = waits_at_barriers task.program.now task.layout.nodes (run.acts.items ++ act ∷ []) longer.follows

  follows : MayComeNext task.program.now nodes run.acts.items act
  follows =
      subst (λ n. MayComeNext task.program.now n run.acts.items act) (sym is.nodes) (record { follows = longer.follows; may = may_go_on })

  machine_makes : (d : Deed) → MayComeNext task.program.now nodes run.acts.items (act_of node d)
      → (after : Plain) × (plain_step (machine_for task.flat run.state d) node ≡ Some (d, after))
  machine_makes (Read w v) next =
      let c = coming task.program.now nodes run.acts.items (plain_at task.flat run.state) led node (Read w v) next.follows in
      let lt = read_within task.program.now nodes run.acts.items (plain_at task.flat run.state) led node w v c in
      let within : w < length run.state.memory.items =
      let long = at.valid.memory in
      let words = is.flat.words in
      omega arith in
      makes_read task.program.now nodes run.acts.items (plain_at task.flat run.state) led node w v (slice_set run.state.memory.items w v) c
      (get_or-set_same run.state.memory.items w v 0 within)
  machine_makes d next =
      let c = coming task.program.now nodes run.acts.items (plain_at task.flat run.state) led node d next.follows in
      makes_other task.program.now nodes run.acts.items (plain_at task.flat run.state) led node d run.state.memory.items c next.may (λ w v e. cc)

  read_there : (d : Deed) → MayComeNext task.program.now nodes run.acts.items (act_of node d) → (w v : ℕ) → d ≡ Read w v → w < task.flat.words
  read_there d next w v e =
      let here : MayComeNext task.program.now nodes run.acts.items (act_of node (Read w v)) =
      subst (λ x. MayComeNext task.program.now nodes run.acts.items (act_of node x)) e next in
      let c = coming task.program.now nodes run.acts.items (plain_at task.flat run.state) led node (Read w v) here.follows in
      let lt = read_within task.program.now nodes run.acts.items (plain_at task.flat run.state) led node w v c in
      let words = is.flat.words in
      omega arith

  pub may_follow : length run.acts.items < 4294967295 → MayFollow task.flat run.state act
  may_follow short =
      let made = machine_makes deed follows in
      let few = at.counted node in
      record {
        valid = at.valid;
        within = read_there deed follows;
        after = made.0;
        makes = made.1;
        room = omega (arith, few, short);
      }

  pub grown : (new : ExactRun) → IsFollowed task.flat run.state act new.state → new.acts.items ≡ run.acts.items ++ act ∷ []
      → IsMemoryOf (run.acts.items ++ act ∷ []) new.memory → new.memory.layout ≡ run.memory.layout → IsAt task new
  grown new f acts memory layout =
      let next = stands_next task.program.now nodes run.acts.items (plain_at task.flat run.state) led node deed
      (poked deed run.state.memory.items) (plain_at task.flat new.state) f.made in
      record {
        exact = subst (IsExactRun task.program.now (shape_of task.layout)) (sym acts) longer;
        led = subst (λ xs. IsLedTo task.program.now nodes xs (plain_at task.flat new.state)) (sym acts) (from_stands next);
        valid = f.valid;
        counted = λ n.
            let few = counts_on task.flat run.state new.state act (length run.acts.items) f at.counted n in
            let long = ap length acts in
            let one = length_push run.acts.items act in
            omega (arith, few, long, one);
        memory = subst (λ xs. IsMemoryOf xs new.memory) (sym acts) memory;
        layout = layout ∙ at.layout;
      }

-- ---- no act

pub none_yet : (program : Program) (shape : Shape) → IsExactRun program shape []
none_yet program shape = record {
  follows = (stands_first program shape.nodes).follows;
  synchronized = record {
    acquires = λ j n l does. let lt = Does-within does in absurd (omega arith);
    releases = λ j n l does. let lt = Does-within does in absurd (omega arith);
    departs = λ j n does. let lt = Does-within does in absurd (omega arith);
  };
  exact = reads-none shape;
}

pub begun : (task : Task) (run : ExactRun) → IsTask task → run.acts.items ≡ [] → IsFirst task.flat task.start run.state → IsStateOf task.flat run.state
    → IsMemoryOf [] run.memory → run.memory.layout ≡ task.layout → IsAt task run
begun task run is none first valid memory layout =
    let machine = first.begun ∙ is.flat.begun in
    record {
      exact = subst (IsExactRun task.program.now (shape_of task.layout)) (sym none) (none_yet task.program.now (shape_of task.layout));
      led =
          subst (λ xs. IsLedTo task.program.now task.flat.nodes xs (plain_at task.flat run.state)) (sym none)
          (subst (λ (m : Plain). IsLedTo task.program.now task.flat.nodes [] m) (sym machine) (from_stands (stands_first task.program.now task.flat.nodes)));
      valid = valid;
      counted = λ node.
          let few = none_arrived task.flat.nodes node in
          let same = ap (λ (m : Plain). slice_index m.arrivals node) machine in
          omega (arith, few, same);
      memory = subst (λ xs. IsMemoryOf xs run.memory) (sym none) memory;
      layout = layout;
    }

-- ---- the acts of a run, one after another

pub front_next : (program : Program) (shape : Shape) (acts : List Act) (i : ℕ) (d : Act) → i < length acts → IsExactRun program shape acts
    → IsExactRun program shape (take i acts ++ get_or acts i d ∷ [])
front_next program shape acts i d lt run =
    subst (IsExactRun program shape) (take_more acts i d lt)
    (exact_front program shape (take (i + 1) acts) (drop (i + 1) acts) (subst (IsExactRun program shape) (sym (take-append-drop (i + 1) acts)) run))
