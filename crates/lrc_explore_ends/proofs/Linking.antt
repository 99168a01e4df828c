-- Steps between the states that were found, one after the other.
use Rattle.std.proofs.Common.{◌≡◌, ℕ, ◌+◌, ◌<◌, ◌≤◌, ◌⊎◌, inl, inr, length, refl, sym, ap, ◌∙◌, subst, arith, length-append}
use Rattle.std.specs.Prelude.{◌↔◌}
use Rattle.std.proofs.lemmas.Bool.{cases_eq, cases_lt}
use Rattle.lrc_graph.specs.declared.graph.Graph.{Graph}
use Rattle.lrc_graph.specs.Graph.{HasEdge, place_count}
use Rattle.lrc_orders_settling.specs.declared.step.Step.{Step}
use Rattle.lrc_orders_settling.specs.declared.step.Step.TheVariants.{Alone, Together}
use Rattle.lrc_orders_table.specs.declared.rows.Row.{Row}
use Rattle.lrc_orders_table.specs.declared.rows.Rows.{Rows}
use Rattle.lrc_orders_table.specs.Rows.{IsRowAt, WidensRows, row_count}
use Rattle.lrc_orders_table.proofs.RowLaws.{row_grown}
use Rattle.lrc_orders.proofs.Keeping.{grows_not}
use Rattle.lrc_orders_table.proofs.RowLaws.{rows_not}
use Rattle.lrc_explore.specs.declared.task.Task.{Task}
use Rattle.lrc_explore.specs.declared.task.Found.{Found}
use Rattle.lrc_explore.specs.Reached.{AreFound, CannotTakeAt, IsMore, LeadsTo}
use Rattle.lrc_explore.proofs.Keys.{more_again, no_node, within_more}
use Rattle.lrc_explore_ends.specs.declared.states.States.{States}
use Rattle.lrc_explore_ends.specs.Stepped.{AreAllStepped, AreStepped, IsStepKnown, cannot, leads, IsWider, StepsTo}

-- ---- what stays

pub more_not : (found : Found) → IsMore found found
more_not found = record { rows = rows_not found.table.rows; origins = grows_not found.origins.items found.origins.items refl }

rows_longer : (old new : Found) → IsMore old new → row_count old.table.rows ≤ row_count new.table.rows
rows_longer old new more =
    let g = more.rows.rows in
    let long = ap (λ l. length l) g.is ∙ length-append old.table.rows.rows.keys g.more in
    omega (arith, long)

steps_grown : (task : Task) (old new : Rows) (from to : ℕ) (step : Step) → WidensRows old new → StepsTo task old from step to → StepsTo task new from step to
steps_grown task old new from to step w s = record {
  before = s.before;
  there = row_grown old new from s.before w s.there;
  after = s.after;
  next = row_grown old new to s.after w s.next;
  acts = s.acts;
  takes = s.takes;
}

pub known_grown : (task : Task) (old new : States) (from : ℕ) (step : Step) → IsWider old new → IsStepKnown task old from step
    → IsStepKnown task new from step
known_grown task old new from step w (cannot key at never) =
    cannot key (row_grown old.found.table.rows new.found.table.rows from key w.more.rows at) never
known_grown task old new from step w (leads to s edge) =
    leads to (steps_grown task old.found.table.rows new.found.table.rows from to step w.more.rows s) (w.edges from to edge)

pub wider_not : (states : States) → IsWider states states
wider_not states = record { more = more_not states.found; edges = λ from to edge. edge }

pub wider_on : {a b c : States} → IsWider a b → IsWider b c → IsWider a c
wider_on x y = record { more = more_again x.more y.more; edges = λ from to edge. y.edges from to (x.edges from to edge) }

pub within_wider : (task : Task) (old new : States) (place : ℕ) → AreFound task old.found → IsWider old new → place < row_count old.found.table.rows
    → place < row_count new.found.table.rows
within_wider task old new place f w lt = within_more task old.found new.found place f w.more lt

pub few_on : (task : Task) (old : States) (mid new : Found) → AreStepped task old → IsMore old.found mid → IsMore mid new
    → place_count old.steps ≤ row_count new.table.rows
few_on task old mid new s first second =
    let few = s.few in
    let longer = rows_longer old.found new (more_again first second) in
    omega (arith, few, longer)

-- ---- no steps yet

pub none_stepped : (task : Task) (states : States) → AreFound task states.found → place_count states.steps ≡ 0
    → ((from to : ℕ) → HasEdge states.steps from to → ⊥) → AreStepped task states
none_stepped task states f none never = record { found = f; few = omega (arith, none); sound = λ from to edge. absurd (never from to edge) }

-- ---- a step that cannot be taken

module _ (task : Task) (old new : States) (place : ℕ) (step : Step) (s : AreStepped task old) (f : AreFound task new.found)
    (more : IsMore old.found new.found) (same : new.steps ≡ old.steps) where
  pub kept_wider : IsWider old new
  kept_wider = record { more = more; edges = λ from to edge. subst (λ g. HasEdge g from to) (sym same) edge }

  pub kept_stepped : AreStepped task new
  kept_stepped = record {
    found = f;
    few = let few = s.few in let longer = rows_longer old.found new.found more in let is = ap place_count same in omega (arith, few, longer, is);
    sound = λ from to edge.
        let had = s.sound from to (subst (λ g. HasEdge g from to) same edge) in
        (had.0, steps_grown task old.found.table.rows new.found.table.rows from to had.0 more.rows had.1);
  }

  pub cannot_known : place < row_count new.found.table.rows → CannotTakeAt task new.found.table.rows place step → IsStepKnown task new place step
  cannot_known lt never = let x = f.reached.full place lt in cannot x.0 x.1 (never x.0 x.1)

-- ---- a step that leads to a state

module _ (task : Task) (old new : States) (mid : Found) (wide : Graph) (place to : ℕ) (step : Step) (row : Row) (s : AreStepped task old)
    (f : AreFound task new.found) (first : IsMore old.found mid) (second : IsMore mid new.found) (n : LeadsTo task mid.table.rows place step row)
    (at : IsRowAt new.found.table.rows to n.key) (count : place_count wide ≡ row_count new.found.table.rows)
    (widened : (a b : ℕ) → (HasEdge wide a b ↔ HasEdge old.steps a b)) (same : place_count new.steps ≡ place_count wide)
    (linked : (a b : ℕ) → (HasEdge new.steps a b ↔ (HasEdge wide a b ⊎ ((a ≡ place) × (b ≡ to))))) where
  leads_there : StepsTo task new.found.table.rows place step to
  leads_there = record {
    before = n.from.before;
    there = row_grown mid.table.rows new.found.table.rows place n.from.before second.rows n.from.there;
    after = n.key;
    next = at;
    acts = n.from.acts;
    takes = n.from.takes;
  }

  pub linked_wider : IsWider old new
  linked_wider = record { more = more_again first second; edges = λ a b edge. (linked a b).1 (inl ((widened a b).1 edge)) }

  sound_now : (a b : ℕ) → HasEdge new.steps a b → (taken : Step) × StepsTo task new.found.table.rows a taken b
  sound_now a b edge = elim ((linked a b).0 edge) [
    | inl had ↦
        let was = s.sound a b ((widened a b).0 had) in
        (was.0, steps_grown task old.found.table.rows new.found.table.rows a b was.0 linked_wider.more.rows was.1)
    | inr both ↦ (
      step,
      subst (λ k. StepsTo task new.found.table.rows k step b) (sym both.0)
          (subst (λ k. StepsTo task new.found.table.rows place step k) (sym both.1) leads_there),
    )
  ]

  pub linked_stepped : AreStepped task new
  linked_stepped = record { found = f; few = omega (arith, count, same); sound = sound_now }

  pub linked_known : IsStepKnown task new place step
  linked_known = leads to leads_there ((linked place to).1 (inr (refl, refl)))

-- ---- each step from a state

pub each_known : (task : Task) (old new : States) (place node : ℕ) → IsWider old new
    → ((k : ℕ) → k < node → IsStepKnown task old place (Alone k)) → IsStepKnown task new place (Alone node) → (k : ℕ) → k < node + 1
    → IsStepKnown task new place (Alone k)
each_known task old new place node w each here k lt = elim (cases_eq k node) [
  | inl same ↦ subst (λ n. IsStepKnown task new place (Alone n)) (sym same) here
  | inr apart ↦ known_grown task old new place (Alone k) w (each k (omega (arith, lt, apart)))
]

pub steps_known : (task : Task) (states : States) (place last : ℕ) → AreFound task states.found → place < row_count states.found.table.rows
    → task.flat.nodes ≤ last → IsStepKnown task states place Together → ((k : ℕ) → k < last → IsStepKnown task states place (Alone k)) → (step : Step)
    → IsStepKnown task states place step
steps_known task states place last f lt le all each Together = all
steps_known task states place last f lt le all each (Alone node) = elim (cases_lt node last) [
  | inl less ↦ each node less
  | inr past ↦
      let x = f.reached.full place lt in
      let e = (f.reached.each place x.0 x.1).valid.spots in
      cannot x.0 x.1 (no_node task x.0.state node (omega (arith, le, past, e)))
]

-- ---- all states

pub record Linking (task : Task) (first now : States) (place : ℕ) : Type 0 where
  pub stepped : AreStepped task now
  pub wider : IsWider first now
  pub known : (from : ℕ) → from < place → (step : Step) → IsStepKnown task now from step

pub linking_first : (task : Task) (first : States) → AreStepped task first → Linking task first first 0
linking_first task first s = record { stepped = s; wider = wider_not first; known = λ from lt. absurd (omega (arith, lt)) }

pub linking_on : (task : Task) (first old new : States) (place : ℕ) → Linking task first old place → AreStepped task new → IsWider old new
    → ((step : Step) → IsStepKnown task new place step) → Linking task first new (place + 1)
linking_on task first old new place l s w here = record {
  stepped = s;
  wider = wider_on l.wider w;
  known = λ from lt step. elim (cases_eq from place) [
    | inl same ↦ subst (λ k. IsStepKnown task new k step) (sym same) (here step)
    | inr apart ↦ known_grown task old new from step w (l.known from (omega (arith, lt, apart)) step)
  ];
}

module _ (task : Task) (first old new : States) (place : ℕ) (l : Linking task first old place) (past : row_count old.found.table.rows ≤ place)
    (same : new.found ≡ old.found) (count : place_count new.steps ≡ row_count old.found.table.rows)
    (widened : (a b : ℕ) → (HasEdge new.steps a b ↔ HasEdge old.steps a b)) where
  last_wider : IsWider old new
  last_wider = record {
    more = subst (λ g. IsMore old.found g) (sym same) (more_not old.found);
    edges = λ a b edge. (widened a b).1 edge;
  }

  pub all_wider : IsWider first new
  all_wider = wider_on l.wider last_wider

  rows_same : row_count new.found.table.rows ≡ row_count old.found.table.rows
  rows_same = ap (λ (g : Found). row_count g.table.rows) same

  pub all_stepped : AreAllStepped task new
  all_stepped = record {
    stepped = record {
      found = subst (AreFound task) (sym same) l.stepped.found;
      few = omega (arith, count, rows_same);
      sound = λ a b edge.
          let was = l.stepped.sound a b ((widened a b).0 edge) in
          (was.0, steps_grown task old.found.table.rows new.found.table.rows a b was.0 last_wider.more.rows was.1);
    };
    even = count ∙ sym rows_same;
    known = λ from lt step. known_grown task old new from step last_wider (l.known from (omega (arith, lt, rows_same, past)) step);
  }
