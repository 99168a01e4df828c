use Rattle.std.proofs.Common.{List, ℕ, Option, subst, sym}
use Rattle.std.specs.Prelude.{map, option_map}
use Rattle.lrc_explain_waits.specs.Traps.{wording_of}
use Rattle.lrc_orders.specs.Traps.{NodeTraps}
use Rattle.lrc_explore.specs.Met.{IsTrapOrder}
use Rattle.lrc_explore_text.specs.Met.{SaysTrapMet}
use Rattle.lrc_explore_text.specs.Sections.{section_text}
use Rattle.lrc_explore_text.proofs.Telling.{told_trap}
use Rattle.lrc_explore_text.proofs.met.trap_met.Goals as goal

pub returns-in_ok-section-in-None : goal.returns-in_ok-section-in-None
returns-in_ok-section-in-None c =
    let section = c.in_ok-section-in-None.section in
    subst (λ o. SaysTrapMet (wording_of c.args.wording.now) c.args.program.now c.args.nodes c.args.lines.now (option_map (λ order. order.items) o) (section_text section))
    (sym c.in-None.is) c.in_ok-section-in-None.ensures.text

pub trap_told-requires-clause-traps : goal.trap_told-requires-clause-traps
trap_told-requires-clause-traps c =
    subst (NodeTraps c.args.program.now c.args.nodes) (sym c.deref.ensures.value)
    (subst (λ o. IsTrapOrder c.args.program.now c.args.nodes (option_map (λ order. order.items) o)) c.in-Some.is c.requires.trap)

pub returns-in_ok-section-in-Some : goal.returns-in_ok-section-in-Some
returns-in_ok-section-in-Some c =
    let section = c.in_ok-section-in-Some.section in
    let order = subst (λ o. IsTrapOrder c.args.program.now c.args.nodes (option_map (λ order. order.items) o)) c.in-Some.is c.requires.trap in
    subst (λ o. SaysTrapMet (wording_of c.args.wording.now) c.args.program.now c.args.nodes c.args.lines.now (option_map (λ order. order.items) o) (section_text section))
    (sym c.in-Some.is) (told_trap (wording_of c.args.wording.now) c.args.program.now c.args.nodes c.args.lines.now _ order section.told (section_text section)
    c.in_ok-section-in-Some.ensures)
