use Rattle.std.proofs.Common.{map}
use Rattle.lrc_explain_waits.specs.Traps.{wording_of}
use Rattle.lrc_text.specs.Parts.{whole_text}
use Rattle.lrc_explore_text.specs.Sections.{section_text}
use Rattle.lrc_explore_text.proofs.Telling.{of_sections}
use Rattle.lrc_explore_text.proofs.orders.found_told.Goals as goal

pub returns : goal.returns
returns c =
    let stuck = c.in_ok-stuck.stuck in
    let traps = c.in_ok-traps.traps in
    of_sections (wording_of c.args.wording.now) c.args.program.now c.args.nodes c.args.lines.now c.args.head.now (section_text stuck) (section_text traps)
    stuck.told traps.told (whole_text c.in_ok-parts.parts.items) c.findings_status-status.result c.in_ok-stuck.ensures c.in_ok-traps.ensures
    c.in_ok-parts.ensures c.findings_status-status.ensures
