use Rattle.std.proofs.Common.{◌∙◌, sym, ap}
use Rattle.lrc_exec.specs.declared.spot.Flat.{Flat}
use Rattle.lrc_explore.specs.declared.task.Found.{Found}
use Rattle.lrc_explore.proofs.Keys.{found_none}
use Rattle.lrc_explore.proofs.task.Found.none.Goals as goal

pub returns-clause-found : goal.returns-clause-found
returns-clause-found c = λ task is.
    let e = c.new.ensures in
    let found : Found = record { table = c.new.result; origins = c.new-2.result } in
    found_none task found e.empty (e.nodes ∙ sym is) (λ means of. e.table means (ap (λ (f : Flat). f.nodes) of.flat ∙ is)) c.new-2.ensures.items
