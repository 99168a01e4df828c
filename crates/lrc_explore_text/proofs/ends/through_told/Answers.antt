use Rattle.std.proofs.Common.{map}
use Rattle.lrc_explain_waits.specs.Traps.{wording_of}
use Rattle.lrc_text.specs.Parts.{whole_text}
use Rattle.lrc_explore_text.specs.Sections.{section_text}
use Rattle.lrc_explore_text.proofs.Ending.{of_joined}
use Rattle.lrc_explore_text.proofs.ends.through_told.Goals as goal

pub found_told-requires-clause-found : goal.found_told-requires-clause-found
found_told-requires-clause-found c = c.requires.found.besides

pub end_section-requires-clause-lost : goal.end_section-requires-clause-lost
end_section-requires-clause-lost c = c.requires.found.end

pub returns : goal.returns
returns c =
    let besides = c.in_ok-besides.besides in
    let ends = c.in_ok-ends.ends in
    of_joined (wording_of c.args.wording.now) c.args.program.now c.args.nodes c.args.lines.now c.args.races c.requires.free c.first_line-head.result.now
    (whole_text besides.parts.items) (section_text ends) besides.status ends.told c.first_line-head.ensures c.in_ok-besides.ensures c.in_ok-ends.ensures
    c.joined.result c.joined.ensures.text c.joined.ensures.status
