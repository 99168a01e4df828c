-- What is answered where it is asked whether every order can end.
use Rattle.std.specs.Prelude.{◌≡◌, ℕ, Bool, true, option_map}
use Rattle.lrc_program.specs.declared.Program.{Program}
use Rattle.lrc_consistency_laws.specs.Racing.{HasNoRace}
use Rattle.lrc_orders.specs.Verdict.{AreFindings, EndsInRace}
use Rattle.lrc_orders_ends.specs.Ends.{TellsEnd}
use Rattle.lrc_explore.specs.declared.task.Task.{Task}
use Rattle.lrc_explore.specs.Met.{GaveUp, HasMet}
use Rattle.lrc_explore_ends.specs.declared.answers.EndFindings.{EndFindings}
use Rattle.lrc_explore_ends.specs.declared.answers.EndVerdict.{EndVerdict}
use Rattle.lrc_explore_ends.specs.declared.answers.EndVerdict.TheVariants.{Many, Through, Racy}

-- what is found of stuck orders, of traps and of ends is so
pub record AreEndFindings (program : Program) (nodes : ℕ) (found : EndFindings) : Type 0 where
  pub besides : AreFindings program nodes found.besides
  pub end : TellsEnd program nodes (option_map (λ order. order.items) found.lost)

-- No order races, if that is looked for, and what is found besides is so. Or the last two acts of the order race; or it
-- is told what was met where the search was cut short.
abbrev pub IsEndAnswer : Program → (nodes most : ℕ) → (races : Bool) → EndVerdict → Type 0
IsEndAnswer program nodes most races (Through found) = (races ≡ true → HasNoRace program nodes) × AreEndFindings program nodes found
IsEndAnswer program nodes most races (Racy order) = (races ≡ true) × EndsInRace program nodes order.items
IsEndAnswer program nodes most races (Many met) = GaveUp program nodes most races met

-- the same of the task of a search
abbrev pub IsTaskEndAnswer : Task → (races : Bool) → EndVerdict → Type 0
IsTaskEndAnswer task races (Through found) =
    (races ≡ true → HasNoRace task.program.now task.flat.nodes) × AreEndFindings task.program.now task.flat.nodes found
IsTaskEndAnswer task races (Racy order) = (races ≡ true) × EndsInRace task.program.now task.flat.nodes order.items
IsTaskEndAnswer task races (Many met) = HasMet task task.most races met

-- the search met all states
abbrev pub GoesThrough : EndVerdict → Type 0
GoesThrough (Through found) = Unit {0}
GoesThrough (Racy order) = ⊥
GoesThrough (Many met) = ⊥
