-- What a search answers of its task, it answers of the program.
use Rattle.std.proofs.Common.{◌≡◌, ℕ, Bool, true, false, refl, subst}
use Rattle.std.specs.Prelude.{Option, Some, None, is_none}
use Rattle.lrc_program.specs.declared.Program.{Program}
use Rattle.lrc_exec.specs.Spots.{IsFlatOf}
use Rattle.lrc_orders.specs.declared.search.Findings.{Findings}
use Rattle.lrc_orders_table.specs.declared.rows.Rows.{Rows}
use Rattle.lrc_explore.specs.declared.task.Task.{Task}
use Rattle.lrc_explore.specs.declared.task.Trapping.{Trapping}
use Rattle.lrc_explore.specs.Answers.{IsAnswer, looked_at}
use Rattle.lrc_explore.specs.Met.{HasMet, IsTrapMet, tells_both}
use Rattle.lrc_explore.specs.Reached.{IsTask}
use Rattle.lrc_explore.specs.Traps.{AreRowsTrapless}
use Rattle.lrc_explore.proofs.ManyStates.{both_found, gave_up}
use Rattle.lrc_explore_less.specs.declared.answers.Explored.{Explored}
use Rattle.lrc_explore_less.specs.declared.answers.Explored.TheVariants as explored
use Rattle.lrc_explore_less.specs.declared.answers.Searched.{Searched}
use Rattle.lrc_explore_less.specs.declared.answers.Searched.TheVariants as searched
use Rattle.lrc_explore_less.specs.Met.{IsExplored, IsSearched, IsTaskExplored, IsTaskSearched, searched_of}
use Rattle.lrc_explore_less.specs.Passing.{IsTrap}

-- where a node traps, or that none does
pub trap_met : (task : Task) (all : Rows) (o : Option Trapping) → IsTrap task all o → (is_none o ≡ true → AreRowsTrapless task all) → IsTrapMet task all o
trap_met task all None is trapless = trapless refl
trap_met task all (Some there) is trapless = is

pub is_searched : (task : Task) (met : Findings) → HasMet task task.most false met → IsTaskSearched task (searched_of (tells_both met) met)
is_searched task met has = by_both (tells_both met) refl
  where
    by_both : (both : Bool) → tells_both met ≡ both → IsTaskSearched task (searched_of both met)
    by_both false e = (has, e)
    by_both true e = both_found task task.most false met has e

module _ (task : Task) (program : Program) (nodes most : ℕ) (is : IsTask task) (p : task.program.now ≡ program)
    (flat : IsFlatOf program nodes task.flat task.start) (m : task.most ≡ most) (l : task.looked ≡ looked_at most) (n : task.noting ≡ false)
    (same : task.flat.nodes ≡ nodes) where
  pub is_explored_of : (answer : Explored) → IsTaskExplored task answer → IsExplored program nodes most answer
  is_explored_of (explored.Told verdict) told = subst (λ q. IsAnswer q nodes verdict) p (subst (λ k. IsAnswer task.program.now k verdict) same told)
  is_explored_of (explored.Many met) has = gave_up task program nodes most is p flat m l n true met has

  pub is_searched_of : (answer : Searched) → IsTaskSearched task answer → IsSearched program nodes most answer
  is_searched_of (searched.All found) told =
      subst (λ q. IsSearched q nodes most (searched.All found)) p (subst (λ k. IsSearched task.program.now k most (searched.All found)) same told)
  is_searched_of (searched.Many met) has = (gave_up task program nodes most is p flat m l n false met has.0, has.1)
