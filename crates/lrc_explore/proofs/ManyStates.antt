-- What is told of a search that gives up is what it met.
use Rattle.std.proofs.Common.{◌≡◌, ℕ, ◌+◌, ◌<◌, Bool, true, false, List, inl, inr, refl, sym, ◌∙◌, subst, arith}
use Rattle.std.specs.Prelude.{◌↔◌, IsTrue, ◌&&◌, Option, Some, None, is_some, option_map}
use Rattle.std.proofs.lemmas.Bool.{cases_eq, true≢false}
use Rattle.lrc_program.specs.declared.Program.{Program}
use Rattle.lrc_exec.specs.Plain.{plain_start}
use Rattle.lrc_exec.specs.Spots.{IsFlatOf}
use Rattle.lrc_exec.specs.States.{plain_at}
use Rattle.lrc_orders.specs.declared.noted.Noted.{Noted}
use Rattle.lrc_orders.specs.declared.search.Findings.{Findings}
use Rattle.lrc_orders.specs.Stuck.{IsStuck}
use Rattle.lrc_orders.specs.Verdict.{AreFindings, TellsStuck, TellsTrap}
use Rattle.lrc_orders.proofs.Keeping.{item_at}
use Rattle.lrc_orders.proofs.Searching.{copy_same}
use Rattle.lrc_orders.proofs.Stores.{IsList}
use Rattle.lrc_orders.proofs.Ways.{IsNotedCopy}
use Rattle.lrc_orders_settling.specs.Taking.{ComputesLong}
use Rattle.lrc_orders_table.specs.declared.rows.Rows.{Rows}
use Rattle.lrc_orders_table.specs.Rows.{IsRowAt, WidensRows, row_count}
use Rattle.lrc_orders_table.proofs.RowLaws.{row_copy, row_store, row_within}
use Rattle.lrc_explore.specs.declared.task.Found.{Found}
use Rattle.lrc_explore.specs.declared.task.Task.{Task}
use Rattle.lrc_explore.specs.declared.task.Trapping.{Trapping}
use Rattle.lrc_explore.specs.Answers.{AreSettledApart, IsLong, IsTooMany, SettlesLong, has_more, is_long, looked_at, settles_long, starts_long}
use Rattle.lrc_explore.specs.Cut.{IsCut, IsCutAmong, are_more, is_longer, longer_among, more_among}
use Rattle.lrc_explore.specs.Met.{ComputesTooLong, GaveUp, HasMet, IsMany, IsStuckAmong, IsStuckAt, IsStuckOrder, IsTrapOrder, TellsStuckAt, TellsStuckMet, TellsTrapAt, TellsTrapMet, settles_too_long, starts_too_long, tells_both}
use Rattle.lrc_explore.specs.Reached.{AreFound, AreNowhereStuck, IsTask}
use Rattle.lrc_explore.proofs.Seeking.{all_items, settled_apart, settles_from}

-- one more state at which the program is not stuck
pub nowhere_on : (task : Task) (all : Rows) (place : ℕ) (key : Noted) → IsRowAt all place key → AreNowhereStuck task all place → (stuck : Bool)
    → (IsTrue stuck ↔ IsStuck (plain_at task.flat key.state)) → stuck ≡ false → AreNowhereStuck task all (place + 1)
nowhere_on task all place key there was stuck halted e k other lt at = elim (cases_eq k place) [
  | inl same ↦ λ halts.
      let copy = row_copy all place other key (subst (λ n. IsRowAt all n other) same at) there in
      true≢false (sym (halted.1 (subst IsStuck (copy_same task.flat other.state key.state copy.state) halts)) ∙ e)
  | inr apart ↦ was k other (omega (arith, lt, apart)) at
]

-- ---- of the states that a search has found

module _ (task : Task) (found : Found) (races : Bool) (stuck : Option ℕ) (trap : Option Trapping) (f : AreFound task found)
    (many : IsMany task found.table.rows races stuck trap) where
  abbrev all : Rows
  all = found.table.rows

  abbrev items : IsList IsRowAt row_count WidensRows IsNotedCopy row_store all
  items = all_items task found f

  stuck_among : (place : ℕ) → IsStuckAt task all place → IsStuckAmong task items.list
  stuck_among place is =
      let within = row_within all place is.0 is.1 in
      let long = items.long in
      let it = item_at items.list place (omega (arith, within, long)) in
      let copy = row_copy all place it.0 is.0 (items.at place it.0 it.1) is.1 in
      record {
        place = place;
        key = it.0;
        there = it.1;
        stuck = subst IsStuck (sym (copy_same task.flat it.0.state is.0.state copy.state)) is.2;
      }

  cut_among : IsCut task all → IsCutAmong task task.most items.list
  cut_among (are_more more) = more_among (subst (λ n. task.most < n) (sym items.long) more)
  cut_among (is_longer place is) =
      let within = row_within all place is.0 is.1 in
      let long = items.long in
      let it = item_at items.list place (omega (arith, within, long)) in
      let copy = row_copy all place it.0 is.0 (items.at place it.0 it.1) is.1 in
      let same = copy_same task.flat it.0.state is.0.state copy.state in
      longer_among place it.0 it.1 (subst (λ m. ComputesLong m task.looked) (sym same) is.2)

  tells_stuck : (o : Option (List ℕ)) → TellsStuckAt task all o → TellsStuckMet task items.list o
  tells_stuck None nowhere = λ k key there. let at = items.at k key there in nowhere k key (row_within all k key at) at
  tells_stuck (Some order) is = (stuck_among is.0.0 is.0.1, is.1)

  tells_trap : (o : Option (List ℕ)) → TellsTrapAt task all o → TellsTrapMet task items.list o
  tells_trap None calm = λ k key there. calm k key (items.at k key there)
  tells_trap (Some order) is = is

  pub has_met : (met : Findings) → TellsStuckAt task all (option_map (λ order. order.items) met.stuck)
      → TellsTrapAt task all (option_map (λ order. order.items) met.trap) → HasMet task task.most races met
  has_met met stuck_is trap_is = record {
    keys = items.list;
    are = settled_apart task found races f many.calm;
    cut = cut_among many.cut;
    tells = record {
      stuck = tells_stuck (option_map (λ order. order.items) met.stuck) stuck_is;
      trap = tells_trap (option_map (λ order. order.items) met.trap) trap_is;
    };
  }

-- ---- where both are told, nothing else is to be found

some_mapped : {A B : Type 0} (f : A → B) (o : Option A) → is_some o ≡ true → is_some (option_map f o) ≡ true
some_mapped f None e = absurd (true≢false (sym e))
some_mapped f (Some x) e = refl

both_first : (a b : Bool) → (a && b) ≡ true → a ≡ true
both_first true b e = refl
both_first false b e = absurd (true≢false (sym e))

both_second : (a b : Bool) → (a && b) ≡ true → b ≡ true
both_second true b e = e
both_second false b e = absurd (true≢false (sym e))

stuck_told : (task : Task) (keys : List Noted) (o : Option (List ℕ)) → is_some o ≡ true → TellsStuckMet task keys o
    → TellsStuck task.program.now task.flat.nodes o
stuck_told task keys None e tells = absurd (true≢false (sym e))
stuck_told task keys (Some order) e tells = tells.1

trap_told : (task : Task) (keys : List Noted) (o : Option (List ℕ)) → is_some o ≡ true → TellsTrapMet task keys o
    → TellsTrap task.program.now task.flat.nodes o
trap_told task keys None e tells = absurd (true≢false (sym e))
trap_told task keys (Some order) e tells = tells

pub both_found : (task : Task) (most : ℕ) (races : Bool) (met : Findings) → HasMet task most races met → tells_both met ≡ true
    → AreFindings task.program.now task.flat.nodes met
both_found task most races met has e = record {
  stuck = stuck_told task has.keys (option_map (λ order. order.items) met.stuck)
      (some_mapped (λ order. order.items) met.stuck (both_first (is_some met.stuck) (is_some met.trap) e)) has.tells.stuck;
  trap = trap_told task has.keys (option_map (λ order. order.items) met.trap)
      (some_mapped (λ order. order.items) met.trap (both_second (is_some met.stuck) (is_some met.trap) e)) has.tells.trap;
}

-- ---- of a program

-- why a search gives up that is cut short
many_of : (task : Task) (races : Bool) (keys : List Noted) → AreSettledApart task keys races
    → IsCutAmong task task.most keys → IsTooMany task races
many_of task races keys are (more_among more) = has_more (record { keys = keys; many = more; are = are })
many_of task races keys are (longer_among k key there long) =
    is_long (settles_long (settles_from task key (are.each k key there) long))

pub gave_up : (task : Task) (program : Program) (nodes most : ℕ) → IsTask task → task.program.now ≡ program → IsFlatOf program nodes task.flat task.start
    → task.most ≡ most → task.looked ≡ looked_at most → task.noting ≡ false → (races : Bool) (met : Findings) → HasMet task task.most races met
    → GaveUp program nodes most races met
gave_up task program nodes most is p flat m l n races met has = record {
  search = record {
    task = task;
    is = is;
    program_is = p;
    code = flat.code;
    words = flat.words;
    locks = flat.locks;
    nodes_are = flat.nodes;
    most_is = m;
    looked_is = l;
    noting_is = n;
    many = many_of task races has.keys has.are has.cut;
  };
  has = subst (λ k. HasMet task k races met) m has;
}

-- what is told of it is so of the program
module _ (program : Program) (nodes most : ℕ) (races : Bool) (met : Findings) (gave : GaveUp program nodes most races met) where
  stuck_so : (o : Option (List ℕ)) → TellsStuckMet gave.search.task gave.has.keys o
      → IsStuckOrder gave.search.task.program.now gave.search.task.flat.nodes o
  stuck_so None tells = tt
  stuck_so (Some order) tells = tells.1

  trap_so : (o : Option (List ℕ)) → TellsTrapMet gave.search.task gave.has.keys o
      → IsTrapOrder gave.search.task.program.now gave.search.task.flat.nodes o
  trap_so None tells = tt
  trap_so (Some order) tells = tells

  pub stuck_order_met : IsStuckOrder program nodes (option_map (λ order. order.items) met.stuck)
  stuck_order_met =
      subst (λ q. IsStuckOrder q nodes (option_map (λ order. order.items) met.stuck)) gave.search.program_is
      (subst (λ k. IsStuckOrder gave.search.task.program.now k (option_map (λ order. order.items) met.stuck)) gave.search.nodes_are
      (stuck_so (option_map (λ order. order.items) met.stuck) gave.has.tells.stuck))

  pub trap_order_met : IsTrapOrder program nodes (option_map (λ order. order.items) met.trap)
  trap_order_met =
      subst (λ q. IsTrapOrder q nodes (option_map (λ order. order.items) met.trap)) gave.search.program_is
      (subst (λ k. IsTrapOrder gave.search.task.program.now k (option_map (λ order. order.items) met.trap)) gave.search.nodes_are
      (trap_so (option_map (λ order. order.items) met.trap) gave.has.tells.trap))

-- a node of it that makes too many free acts
pub too_long : (task : Task) (program : Program) (nodes most : ℕ) → task.program.now ≡ program → task.flat.nodes ≡ nodes → task.looked ≡ looked_at most
    → IsLong task → ComputesTooLong program nodes most
too_long task program nodes most p n l (starts_long long) =
    starts_too_long
    (subst (λ q. ComputesLong (plain_start q nodes) (looked_at most)) p
    (subst (λ k. ComputesLong (plain_start task.program.now k) (looked_at most)) n
    (subst (ComputesLong (plain_start task.program.now task.flat.nodes)) l long)))
too_long task program nodes most p n l (settles_long long) =
    settles_too_long
    (subst (λ q. SettlesLong q nodes (looked_at most)) p
    (subst (λ k. SettlesLong task.program.now k (looked_at most)) n (subst (SettlesLong task.program.now task.flat.nodes) l long)))
