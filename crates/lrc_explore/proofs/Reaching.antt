-- States that were reached, and what they are of the program.
use Rattle.std.proofs.Common.{◌≡◌, ℕ, List, [], ◌∷◌, ◌++◌, length, sym, ap, ◌∙◌, arith, append_assoc, append-nil}
use Rattle.std.specs.Prelude.{Some}
use Rattle.std.proofs.lemmas.Option.{some_pair_parts}
use Rattle.lrc_program.specs.declared.Program.{Program}
use Rattle.lrc_trace.specs.declared.act.Act.{Act}
use Rattle.lrc_exec.specs.Plain.{Plain, plain_from, plain_start}
use Rattle.lrc_exec.proofs.PlainLaws.{plain_from-begins}
use Rattle.lrc_exec.specs.Follows.{nodes_of_acts}
use Rattle.lrc_consistency_laws.specs.Racing.{HasNoRace}
use Rattle.lrc_orders.specs.declared.noted.Noted.{Noted}
use Rattle.lrc_orders_table.specs.declared.rows.Rows.{Rows}
use Rattle.lrc_orders_table.specs.Rows.{row_count}
use Rattle.lrc_orders.specs.Notes.{notes_of}
use Rattle.lrc_exec.specs.States.{plain_at}
use Rattle.lrc_orders.specs.Stuck.{GetsStuck, IsStuck}
use Rattle.lrc_orders.specs.Verdict.{NeverStuck}
use Rattle.lrc_orders.proofs.Counting.{step_threads}
use Rattle.lrc_orders.proofs.Noting.{notes_more}
use Rattle.lrc_orders.proofs.Standing.{step_within}
use Rattle.lrc_orders_table.proofs.RowLaws.{row_within}
use Rattle.lrc_orders_laws.specs.Settling.{IsSettled}
use Rattle.lrc_orders_laws.specs.Steps.{IsSettledState, beginning, onward}
use Rattle.lrc_orders_laws.proofs.GoingOn.{state_fine}
use Rattle.lrc_orders_laws.proofs.Held.{threads_at_start}
use Rattle.lrc_orders_laws.proofs.Onward.{Fine}
use Rattle.lrc_orders_laws.proofs.Settled.{state_run, state_settled, races, stuck}
use Rattle.lrc_orders_settling.specs.declared.step.Step.{Step}
use Rattle.lrc_explore.specs.declared.task.Task.{Task}
use Rattle.lrc_explore.specs.Reached.{AreCalm, AreExpanded, AreNowhereStuck, AreReached, HasReached, HasStart, IsReached}
use Rattle.lrc_orders_table.specs.Nexts.{notes_on}
use Rattle.lrc_orders_live.specs.Like.{AreLike, TakesLike}
use Rattle.lrc_orders_live.proofs.Alike.{takes_leads, leads_takes}
use Rattle.lrc_orders_live.proofs.Like.{fine_counted, like_back, like_on, meet_like, settled_like, stuck_like, takes_like}

pub fine_key : (task : Task) (key : Noted) → IsReached task key → Fine (plain_at task.flat key.state)
fine_key task key r = fine_counted task.flat key.state r.valid r.counted r.machine (state_fine r.led).held r.alike

pub settled_key : (task : Task) (key : Noted) → IsReached task key → IsSettled (plain_at task.flat key.state)
settled_key task key r = settled_like r.alike (state_settled r.led)

-- ---- notes of more acts

nil_cons : (x : Act) (xs : List Act) → [] ≡ x ∷ xs → ⊥
nil_cons x xs e = cc

-- acts of a run, put behind others
notes_run : (nodes : ℕ) (order : List ℕ) (machine final : Plain) (before acts : List Act) → length machine.threads ≡ nodes
    → plain_from machine order ≡ Some (acts, final) → notes_of nodes (before ++ acts) ≡ notes_on (notes_of nodes before) acts
notes_run nodes [] machine final before acts size run =
    let e : [] ≡ acts = (some_pair_parts [] acts machine final run).0 in
    ap (λ l. notes_of nodes (before ++ l)) (sym e) ∙ ap (notes_of nodes) (append-nil before) ∙ ap (notes_on (notes_of nodes before)) e
notes_run nodes (node ∷ order) machine final before acts size run =
    let b = plain_from-begins machine node order (acts, final) run in
    let act : Act = record { node = node; deed = b.step.0 } in
    let is : acts ≡ act ∷ b.more.0 = ap (λ (r : List Act × Plain). r.0) b.run_is in
    let within = step_within machine node b.step b.step_is in
    let rest = notes_run nodes order b.step.1 b.more.1 (before ++ act ∷ []) b.more.0 (step_threads machine b.step.1 node b.step.0 b.step_is ∙ size) b.more_is in
    ap (λ l. notes_of nodes (before ++ l)) is
    ∙ ap (notes_of nodes) (sym (append_assoc before (act ∷ []) b.more.0))
    ∙ rest
    ∙ ap (λ n. notes_on n b.more.0) (notes_more nodes before act (omega (arith, within, size)))
    ∙ ap (notes_on (notes_of nodes before)) (sym is)

module _ (program : Program) (nodes : ℕ) where
  -- a run from the beginning in two parts
  record Parted (more : List Act) : Type 0 where
    mid : Plain
    size : length mid.threads ≡ nodes
    order : List ℕ
    final : Plain
    run : plain_from mid order ≡ Some (more, final)

  parted : (acts more : List Act) (machine : Plain) → length machine.threads ≡ nodes → (order : List ℕ) (final : Plain)
      → plain_from machine order ≡ Some (acts ++ more, final) → Parted more
  parted [] more machine size order final run = record { mid = machine; size = size; order = order; final = final; run = run }
  parted (act ∷ acts) more machine size [] final run = absurd (nil_cons act (acts ++ more) (some_pair_parts [] (act ∷ (acts ++ more)) machine final run).0)
  parted (act ∷ acts) more machine size (node ∷ order) final run =
      let b = plain_from-begins machine node order (act ∷ (acts ++ more), final) run in
      let made : act ∷ (acts ++ more) ≡ record { node = node; deed = b.step.0 } ∷ b.more.0 = ap (λ (r : List Act × Plain). r.0) b.run_is in
      let rest : acts ++ more ≡ b.more.0 = cc in
      parted acts more b.step.1 (step_threads machine b.step.1 node b.step.0 b.step_is ∙ size) order b.more.1
      (b.more_is ∙ ap (λ l. Some (l, b.more.1)) (sym rest))

  pub notes_onward : (acts more : List Act) (machine : Plain) → IsSettledState program nodes (acts ++ more) machine
      → notes_of nodes (acts ++ more) ≡ notes_on (notes_of nodes acts) more
  notes_onward acts more machine state =
      let p = parted acts more (plain_start program nodes) (threads_at_start program nodes) (nodes_of_acts (acts ++ more)) machine (state_run state) in
      notes_run nodes p.order p.mid p.final acts more p.size p.run

-- ---- a step further

pub record Further (task : Task) (acts : List Act) (like : Plain) : Type 0 where
  pub machine : Plain
  pub led : IsSettledState task.program.now task.flat.nodes acts machine
  pub alike : AreLike machine like

-- a step from what is kept leads the program on
pub further : (task : Task) (key : Noted) → IsReached task key → (first : List Act) (machine : Plain)
    → IsSettledState task.program.now task.flat.nodes first machine → AreLike machine (plain_at task.flat key.state) → (step : Step) (acts : List Act)
    (like : Plain) → TakesLike (plain_at task.flat key.state) step acts like → Further task (first ++ acts) like
further task key r first machine led a step acts like t =
    let on = takes_like t.takes (fine_key task key r) machine (state_fine led) (like_back a) in
    record {
      machine = on.there;
      led = onward first acts machine on.there led (takes_leads on.takes);
      alike = like_on on.alike t.alike;
    }

-- ---- where all states are expanded

module _ (task : Task) (all : Rows) (reached : AreReached task all) (start : HasStart task all) (expanded : AreExpanded task all (row_count all)) where
  pub all_reached : {acts : List Act} {machine : Plain} → IsSettledState task.program.now task.flat.nodes acts machine
      → HasReached task all machine (notes_of task.flat.nodes acts)
  all_reached (beginning acts machine settles) = start acts machine settles
  all_reached (onward acts more before after state leads) =
      let has = all_reached state in
      let key = has.key in
      let r = reached.each has.place key has.there in
      let st = leads_takes leads in
      let on = takes_like st.1 (state_fine state) (plain_at task.flat key.state) (fine_key task key r) has.alike in
      let next = expanded has.place (row_within all has.place key has.there) key has.there st.0 more on.there on.takes in
      record {
        place = next.place;
        key = next.key;
        there = next.there;
        alike = like_on (like_back on.alike) next.alike;
        noted = λ e.
            next.noted e ∙ ap (λ n. notes_on n more) (has.noted e)
            ∙ sym (notes_onward task.program.now task.flat.nodes acts more after (onward acts more before after state leads));
      }

  pub no_race : AreCalm task all (row_count all) → HasNoRace task.program.now task.flat.nodes
  no_race calm = (races task.program.now task.flat.nodes).1 (λ acts machine state p q meet.
      let has = all_reached state in
      calm has.place has.key (row_within all has.place has.key has.there) has.there p q (meet_like has.alike p q meet))

  pub never_stuck : AreNowhereStuck task all (row_count all) → NeverStuck task.program.now task.flat.nodes
  never_stuck nowhere = λ order gets.
      let s = (stuck task.program.now task.flat.nodes).0 (order, gets) in
      let has = all_reached s.led in
      nowhere has.place has.key (row_within all has.place has.key has.there) has.there
      (stuck_like s.machine (plain_at task.flat has.key.state) (state_fine s.led) (fine_key task has.key (reached.each has.place has.key has.there)) has.alike
      s.stuck)

-- an order that gets stuck
pub gets_stuck : (task : Task) (key : Noted) → IsReached task key → (acts : List Act) (machine : Plain)
    → IsSettledState task.program.now task.flat.nodes acts machine → AreLike machine (plain_at task.flat key.state)
    → IsStuck (plain_at task.flat key.state) → GetsStuck task.program.now task.flat.nodes (nodes_of_acts acts)
gets_stuck task key r acts machine led a is = record {
  acts = acts;
  machine = machine;
  led = state_run led;
  stuck = stuck_like (plain_at task.flat key.state) machine (fine_key task key r) (state_fine led) (like_back a) is;
}
