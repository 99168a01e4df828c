use Rattle.std.proofs.Common.{Bool, ℕ, List, map, sym, subst}
use Rattle.lrc_explain_waits.specs.Traps.{wording_of}
use Rattle.lrc_explore_text.specs.Ends.{SaysEnds, all_end}
use Rattle.lrc_explore_text.specs.Sections.{section_text}
use Rattle.lrc_explore_text.proofs.ends.all_end.Goals as goal

pub returns : goal.returns
returns c =
    let P : Bool → List ℕ → Type 0 = λ b o. SaysEnds (wording_of c.args.wording.now) c.args.program.now c.args.nodes c.args.lines.now b o in
    let e = c.in_ok-section.ensures in
    subst (λ b. P b (section_text c.in_ok-section.section)) (sym e.told) (subst (P _) (sym e.text) (all_end c.requires))
