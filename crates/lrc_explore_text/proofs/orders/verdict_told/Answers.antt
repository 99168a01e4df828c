use Rattle.std.proofs.Common.{map, subst}
use Rattle.std.proofs.lemmas.Result.{IfOk-weaker}
use Rattle.lrc_explain_waits.specs.Traps.{wording_of}
use Rattle.lrc_text.specs.Parts.{whole_text}
use Rattle.lrc_explore.specs.Answers.{IsAnswer}
use Rattle.lrc_explore_text.specs.declared.explored.Printout.{Printout}
use Rattle.lrc_explore_text.specs.Orders.{TellsOrders}
use Rattle.lrc_explore_text.proofs.Telling.{of_free}
use Rattle.lrc_explore_text.proofs.orders.verdict_told.Goals as goal

pub returns-in-RaceFree-clause-ok : goal.returns-in-RaceFree-clause-ok
returns-in-RaceFree-clause-ok c =
    let wording = wording_of c.args.wording.now in
    let program = c.args.program.now in
    let nodes = c.args.nodes in
    let lines = c.args.lines.now in
    let is = subst (IsAnswer program nodes) c.in-RaceFree.is c.requires.verdict in
    IfOk-weaker c.found_told.result _ (λ (p : Printout). TellsOrders wording program nodes lines (whole_text p.parts.items) p.status)
    (λ p told. of_free wording program nodes lines is.0 (whole_text p.parts.items) p.status told) c.found_told.ensures
