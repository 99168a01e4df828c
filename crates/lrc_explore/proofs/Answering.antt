-- What is answered.
use Rattle.std.proofs.Common.{◌≡◌, ℕ, Bool, List, [], ◌∷◌, ◌++◌, sym, ◌∙◌, subst, append-nil}
use Rattle.std.specs.Prelude.{true, Result, Ok, Err, OnOk}
use Rattle.lrc_program.specs.declared.Program.{Program}
use Rattle.lrc_trace.specs.declared.act.Act.{Act}
use Rattle.lrc_exec.specs.Spots.{IsFlatOf}
use Rattle.lrc_exec.specs.Follows.{nodes_of_acts}
use Rattle.lrc_orders.specs.declared.search.ExploreFault.{ExploreFault}
use Rattle.lrc_orders.specs.Meeting.{Meet}
use Rattle.lrc_orders.specs.Stuck.{GetsStuck, IsStuck}
use Rattle.lrc_orders.specs.Traps.{NodeTraps}
use Rattle.lrc_orders.specs.Verdict.{EndsInRace}
use Rattle.lrc_orders.proofs.Searching.{copy_same}
use Rattle.lrc_orders_table.proofs.RowLaws.{row_copy}
use Rattle.lrc_orders_laws.proofs.Settled.{ends_in_race}
use Rattle.lrc_explore.specs.declared.task.Task.{Task}
use Rattle.lrc_explore.specs.declared.task.Found.{Found}
use Rattle.lrc_explore.specs.declared.task.End.TheVariants.{Meeting}
use Rattle.lrc_explore.specs.Answers.{IsEnd, IsFaultOf, IsSearchFault, looked_at}
use Rattle.lrc_explore.specs.Met.{IsStuckAt}
use Rattle.lrc_explore.specs.Reached.{AreFound, IsTask}
use Rattle.lrc_explore.specs.Traps.{LeadIntoTrap}
use Rattle.lrc_explore.specs.Told.{LeadTo}
use Rattle.lrc_orders_live.proofs.Like.{like_back, meet_like}
use Rattle.lrc_explore.proofs.Reaching.{gets_stuck}
use Rattle.lrc_explore.proofs.Trapping.{node_traps}

pub race_answer : (task : Task) (found : Found) (place p q : ℕ) (acts : List Act) (order : List ℕ) → LeadTo task found place acts
    → IsEnd task found true (Meeting place p q) → order ≡ nodes_of_acts acts ++ p ∷ q ∷ [] → EndsInRace task.program.now task.flat.nodes order
race_answer task found place p q acts order led end is =
    let same = copy_same task.flat end.0.state led.key.state (row_copy found.table.rows place end.0 led.key end.1 led.there).state in
    let meet = meet_like (like_back led.alike) p q (subst (λ m. Meet m p q) same end.2) in
    subst (EndsInRace task.program.now task.flat.nodes) (sym is) (ends_in_race task.program.now task.flat.nodes acts led.machine p q led.led meet)

pub stuck_answer : (task : Task) (found : Found) (place : ℕ) (acts : List Act) (order : List ℕ) → AreFound task found → LeadTo task found place acts
    → IsStuckAt task found.table.rows place → order ≡ nodes_of_acts acts ++ [] → GetsStuck task.program.now task.flat.nodes order
stuck_answer task found place acts order f led first is =
    let key = first.0 in
    let same = copy_same task.flat key.state led.key.state (row_copy found.table.rows place key led.key first.1 led.there).state in
    subst (GetsStuck task.program.now task.flat.nodes) (sym (is ∙ append-nil (nodes_of_acts acts)))
    (gets_stuck task led.key (f.reached.each place led.key led.there) acts led.machine led.led led.alike (subst IsStuck same first.2))

pub trap_answer : (task : Task) (acts : List Act) (order : List ℕ) → LeadIntoTrap task acts → order ≡ nodes_of_acts acts ++ []
    → NodeTraps task.program.now task.flat.nodes order
trap_answer task acts order led is =
    subst (NodeTraps task.program.now task.flat.nodes) (sym (is ∙ append-nil (nodes_of_acts acts))) (node_traps task acts led)

pub fault_of_task : (task : Task) (program : Program) (nodes most : ℕ) (noting races : Bool) (fault : ExploreFault) → IsTask task → task.program.now ≡ program
    → IsFlatOf program nodes task.flat task.start → task.most ≡ most → task.looked ≡ looked_at most → task.noting ≡ noting → IsSearchFault task races fault
    → IsFaultOf program nodes most noting races fault
fault_of_task task program nodes most noting races fault is p flat m l n f = record {
  nodes_in_range = f.nodes;
  many = λ e. record {
    task = task;
    is = is;
    program_is = p;
    code = flat.code;
    words = flat.words;
    locks = flat.locks;
    nodes_are = flat.nodes;
    most_is = m;
    looked_is = l;
    noting_is = n;
    many = f.many e;
  };
}

-- what four facts on success say together
pub ok_four : {T E A B C D P : Type 0} (r : Result T E) → (A → B → C → D → P) → OnOk r A → OnOk r B → OnOk r C → OnOk r D → OnOk r P
ok_four (Ok v) f a b c d = f a b c d
ok_four (Err e) f a b c d = tt
