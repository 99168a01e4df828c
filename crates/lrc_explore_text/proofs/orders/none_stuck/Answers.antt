use Rattle.std.proofs.Common.{Bool, ℕ, List, map, sym, subst}
use Rattle.lrc_explain_waits.specs.Traps.{wording_of}
use Rattle.lrc_explore_text.specs.Orders.{SaysStuck, no_stuck}
use Rattle.lrc_explore_text.specs.Sections.{section_text}
use Rattle.lrc_explore_text.proofs.orders.none_stuck.Goals as goal

pub returns : goal.returns
returns c =
    let P : Bool → List ℕ → Type 0 = λ b o. SaysStuck (wording_of c.args.wording.now) c.args.program.now c.args.nodes c.args.lines.now b o in
    let e = c.in_ok-section.ensures in
    subst (λ b. P b (section_text c.in_ok-section.section)) (sym e.told) (subst (P _) (sym e.text) (no_stuck c.requires))
