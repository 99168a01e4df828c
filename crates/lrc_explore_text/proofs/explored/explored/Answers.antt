use Rattle.std.proofs.Common.{subst, sym}
use Rattle.std.specs.Prelude.{false, map, not, true}
use Rattle.std.proofs.lemmas.Result.{IfErr-weaker}
use Rattle.lrc_explain_waits.specs.Traps.{wording_of}
use Rattle.lrc_text.specs.Parts.{whole_text}
use Rattle.lrc_explore_text.proofs.Telling.{gives_up, of_orders, of_outcomes}
use Rattle.lrc_explore_text.proofs.explored.explored.Goals as goal

pub returns-in_ok-printout-clause-ok : goal.returns-in_ok-printout-clause-ok
returns-in_ok-printout-clause-ok c =
    let printout = c.in_ok-printout.printout in
    of_outcomes (wording_of c.args.wording.now) c.args.program.now c.args.nodes c.args.lines.now c.args.most c.args.outcomes c.if-outcomes.true
    (whole_text printout.parts.items) printout.status c.in_ok-printout.ensures.text c.in_ok-printout.ensures.status

pub returns-else-outcomes-clause-ok : goal.returns-else-outcomes-clause-ok
returns-else-outcomes-clause-ok c =
    of_orders (wording_of c.args.wording.now) c.args.program.now c.args.nodes c.args.lines.now c.args.most c.args.outcomes c.orders_told.result
    c.if-outcomes.false c.orders_told.ensures.ok

pub returns-else-outcomes-clause-too_many : goal.returns-else-outcomes-clause-too_many
returns-else-outcomes-clause-too_many c =
    gives_up c.args.program.now c.args.nodes c.args.most c.args.outcomes c.orders_told.result false c.if-outcomes.false c.orders_told.ensures.too_many

pub returns-else-outcomes-clause-too_long : goal.returns-else-outcomes-clause-too_long
returns-else-outcomes-clause-too_long c = IfErr-weaker c.orders_told.result _ _ (λ fault long e none. long e) c.orders_told.ensures.too_long
