-- What is answered.
use Rattle.std.proofs.Common.{◌≡◌, ℕ, ◌+◌, ◌<◌, List, [], ◌∷◌, ◌++◌, inl, inr, Bool, true, false, length, get_or, sym, ap, ◌∙◌, subst, arith}
use Rattle.std.specs.Prelude.{◌↔◌, IsTrue, MatchOption, Option, None, Some}
use Rattle.std.proofs.lemmas.Bool.{cases_eq, cases_lt}
use Rattle.std.proofs.lemmas.List.{get_or_append_left, get_or_past, get_or_push, length_push}
use Rattle.lrc_program.specs.declared.Program.{Program}
use Rattle.lrc_exec.specs.Spots.{IsFlatOf}
use Rattle.lrc_exec.specs.States.{plain_at}
use Rattle.lrc_graph.specs.Graph.{IsWithin, LeadsToSome, place_count}
use Rattle.lrc_orders.specs.declared.noted.Noted.{Noted}
use Rattle.lrc_orders.specs.Stuck.{IsAtRest}
use Rattle.lrc_orders.proofs.Searching.{copy_same}
use Rattle.lrc_orders_table.specs.Rows.{IsRowAt, row_count}
use Rattle.lrc_orders_table.proofs.RowLaws.{row_copy, row_within}
use Rattle.lrc_explore.specs.declared.task.Task.{Task}
use Rattle.lrc_explore.specs.declared.task.Found.{Found}
use Rattle.lrc_explore.specs.declared.task.Trapping.{Trapping}
use Rattle.lrc_explore.specs.Answers.{IsThrough, looked_at}
use Rattle.lrc_explore.specs.Reached.{IsTask}
use Rattle.lrc_explore.proofs.ManyStates.{gave_up}
use Rattle.lrc_explore_ends.specs.declared.answers.EndVerdict.{EndVerdict}
use Rattle.lrc_explore_ends.specs.declared.answers.EndVerdict.TheVariants.{Many, Through, Racy}
use Rattle.lrc_explore_ends.specs.Answers.{IsEndAnswer, IsTaskEndAnswer}
use Rattle.lrc_explore_ends.specs.declared.states.States.{States}
use Rattle.lrc_explore_ends.specs.Lost.{HasEnd, IsFirstLost, SaysStill}
use Rattle.lrc_explore_ends.specs.Stepped.{AreAllStepped}

-- ---- where no node can make an act

-- what is said so far of the states before a place
pub record IsSaid (task : Task) (states : States) (said : List Bool) (place : ℕ) : Type 0 where
  pub count : length said ≡ place
  pub exact : (k : ℕ) (key : Noted) → k < place → IsRowAt states.found.table.rows k key
      → ((get_or said k false ≡ true) ↔ IsAtRest (plain_at task.flat key.state))

pub said_on : (task : Task) (states : States) (said more : List Bool) (place : ℕ) (is : Bool) (key : Noted) → IsRowAt states.found.table.rows place key
    → (IsTrue is ↔ IsAtRest (plain_at task.flat key.state)) → IsSaid task states said place → more ≡ said ++ is ∷ [] → IsSaid task states more (place + 1)
said_on task states said more place is key there here s items = record {
  count = ap (λ l. length l) items ∙ length_push said is ∙ ap (λ n. n + 1) s.count;
  exact = λ k other lt at. elim (cases_eq k place) [
    | inl same ↦
        let now : get_or more k false ≡ is = ap (λ l. get_or l k false) items ∙ get_or_push said is false k (s.count ∙ sym same) in
        let copy = row_copy states.found.table.rows place key other there (subst (λ n. IsRowAt states.found.table.rows n other) same at) in
        let plain = copy_same task.flat key.state other.state copy.state in (
          λ so. subst IsAtRest plain (here.0 (sym now ∙ so)),
          λ still. now ∙ here.1 (subst IsAtRest (sym plain) still),
        )
    | inr apart ↦
        let less : k < place = omega (arith, lt, apart) in
        let was : get_or more k false ≡ get_or said k false =
        ap (λ l. get_or l k false) items ∙ get_or_append_left said (is ∷ []) false k (let count = s.count in omega (arith, less, count)) in
        let before = s.exact k other less at in
        (λ so. before.0 (sym was ∙ so), λ still. was ∙ before.1 still)
  ];
}

-- ---- the first state without an end

-- the first place at which a table says no
abbrev pub SaysFirst : List Bool → Option ℕ → Type 0
SaysFirst table o =
    MatchOption o ((k : ℕ) → k < length table → get_or table k false ≡ true)
    (λ place. (place < length table) × (get_or table place false ≡ false) × ((k : ℕ) → k < place → get_or table k false ≡ true))

pub edges_within : (task : Task) (states : States) → AreAllStepped task states → IsWithin states.steps
edges_within task states all from to edge =
    let s = (all.stepped.sound from to edge).1 in
    let within = row_within states.found.table.rows from s.before s.there in
    let even = all.even in
    omega (arith, within, even)

module _ (task : Task) (states : States) (all : AreAllStepped task states) (still ending : List Bool) (says : SaysStill task states still)
    (count : length still ≡ row_count states.found.table.rows) (long : length ending ≡ place_count states.steps)
    (exact : (from : ℕ) → ((get_or ending from false ≡ true) ↔ LeadsToSome states.steps still from)) where
  yes_within : (k : ℕ) → get_or still k false ≡ true → k < length still
  yes_within k so = elim (cases_lt k (length still)) [
    | inl lt ↦ lt
    | inr past ↦ let e : false ≡ true = sym (get_or_past still k false past) ∙ so in cc
  ]

  end_of : (place : ℕ) → LeadsToSome states.steps still place → HasEnd task states place
  end_of place l =
      let within = yes_within l.to l.is in
      let x = all.stepped.found.reached.full l.to (omega (arith, within, count)) in
      record { to = l.to; leads = l.leads; key = x.0; there = x.1; still = (says l.to x.0 x.1).0 l.is }

  leads_of : (place : ℕ) → HasEnd task states place → LeadsToSome states.steps still place
  leads_of place h = record { to = h.to; is = (says h.to h.key h.there).1 h.still; leads = h.leads }

  pub first_lost : (o : Option ℕ) → SaysFirst ending o → IsFirstLost task states o
  first_lost None so = λ place lt.
      let even = all.even in
      end_of place ((exact place).0 (so place (omega (arith, lt, long, even))))
  first_lost (Some place) is =
      let even = all.even in
      let within = is.0 in (
        omega (arith, within, long, even),
        λ h. (let e : true ≡ false = sym ((exact place).1 (leads_of place h)) ∙ is.1 in cc),
        λ k lt. end_of k ((exact k).0 (is.2 k lt)),
      )

-- ---- whether races are looked for or not

pub through_anyhow : (task : Task) (found : Found) (races : Bool) (stuck : Option ℕ) (trap : Option Trapping) → IsThrough task found races stuck trap
    → IsThrough task found false stuck trap
through_anyhow task found races stuck trap t = record {
  calm = λ e. let x : false ≡ true = e in cc;
  expanded = t.expanded;
  halted = t.halted;
  traps = t.traps;
}

-- what is answered of a task is answered of the program
pub end_answer_of : (task : Task) (program : Program) (nodes most : ℕ) → IsTask task → task.program.now ≡ program → IsFlatOf program nodes task.flat task.start
    → task.most ≡ most → task.looked ≡ looked_at most → task.noting ≡ false → task.flat.nodes ≡ nodes → (races : Bool) (verdict : EndVerdict)
    → IsTaskEndAnswer task races verdict → IsEndAnswer program nodes most races verdict
end_answer_of task program nodes most is p flat m l n same races (Through found) told =
    subst (λ q. IsEndAnswer q nodes most races (Through found)) p (subst (λ k. IsEndAnswer task.program.now k most races (Through found)) same told)
end_answer_of task program nodes most is p flat m l n same races (Racy order) told =
    subst (λ q. IsEndAnswer q nodes most races (Racy order)) p (subst (λ k. IsEndAnswer task.program.now k most races (Racy order)) same told)
end_answer_of task program nodes most is p flat m l n same races (Many met) told = gave_up task program nodes most is p flat m l n races met told
