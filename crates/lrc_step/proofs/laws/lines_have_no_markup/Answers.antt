use Rattle.std.proofs.Common.{◌++◌, codes, decimal, refl}
use Rattle.lrc_step.specs.EndLines.{circles_text, ends_text, explain_line}
use Rattle.lrc_step.specs.Lines.{given_text, group_site_text, optional_text, pairs_text, program_line, quoted, quoted_each, race_line, rivals_text, text_part, why_line}
use Rattle.lrc_step.proofs.Unmarked.{both, circles_unmarked, ends_unmarked, given_unmarked, group_site_unmarked, optional_unmarked, no_markup, number_unmarked, pairs_unmarked, quoted_each_unmarked, quoted_unmarked, rivals_unmarked, text_part_unmarked}
use Rattle.lrc_step.proofs.laws.lines_have_no_markup.Goals as goal

pub returns-clause-program : goal.returns-clause-program
returns-clause-program c = λ name text. no_markup (program_line name text)
    (both (codes "{\"program\":" ++ quoted name) (text_part text)
    (both (codes "{\"program\":") (quoted name) refl (quoted_unmarked name)) (text_part_unmarked text))

pub returns-clause-explain : goal.returns-clause-explain
returns-clause-explain c = λ lines ends circles few small. no_markup (explain_line lines ends circles)
    (both (codes "{\"explain\":[" ++ quoted_each lines ++ codes "],\"ends\":[" ++ ends_text ends ++ codes "],\"deadlocks\":[" ++ circles_text circles) (codes "]}\n")
    (both (codes "{\"explain\":[" ++ quoted_each lines ++ codes "],\"ends\":[" ++ ends_text ends ++ codes "],\"deadlocks\":[") (circles_text circles)
    (both (codes "{\"explain\":[" ++ quoted_each lines ++ codes "],\"ends\":[" ++ ends_text ends) (codes "],\"deadlocks\":[")
    (both (codes "{\"explain\":[" ++ quoted_each lines ++ codes "],\"ends\":[") (ends_text ends)
    (both (codes "{\"explain\":[" ++ quoted_each lines) (codes "],\"ends\":[")
    (both (codes "{\"explain\":[") (quoted_each lines) refl (quoted_each_unmarked lines)) refl)
    (ends_unmarked ends few)) refl)
    (circles_unmarked circles small)) refl)

pub returns-clause-why : goal.returns-clause-why
returns-clause-why c = λ position lines rivals given few small known. no_markup (why_line position lines rivals given)
    (both (codes "{\"why\":" ++ decimal position ++ codes ",\"lines\":[" ++ quoted_each lines ++ codes "],\"races\":[" ++ rivals_text rivals
    ++ codes "],\"gives\":" ++ given_text given) (codes "}\n")
    (both (codes "{\"why\":" ++ decimal position ++ codes ",\"lines\":[" ++ quoted_each lines ++ codes "],\"races\":[" ++ rivals_text rivals
    ++ codes "],\"gives\":") (given_text given)
    (both (codes "{\"why\":" ++ decimal position ++ codes ",\"lines\":[" ++ quoted_each lines ++ codes "],\"races\":[" ++ rivals_text rivals)
    (codes "],\"gives\":")
    (both (codes "{\"why\":" ++ decimal position ++ codes ",\"lines\":[" ++ quoted_each lines ++ codes "],\"races\":[") (rivals_text rivals)
    (both (codes "{\"why\":" ++ decimal position ++ codes ",\"lines\":[" ++ quoted_each lines) (codes "],\"races\":[")
    (both (codes "{\"why\":" ++ decimal position ++ codes ",\"lines\":[") (quoted_each lines)
    (both (codes "{\"why\":" ++ decimal position) (codes ",\"lines\":[")
    (both (codes "{\"why\":") (decimal position) refl (number_unmarked position few)) refl)
    (quoted_each_unmarked lines)) refl)
    (rivals_unmarked rivals small)) refl)
    (given_unmarked given known)) refl)

pub returns-clause-race : goal.returns-clause-race
returns-clause-race c = λ group site pairs few small within. no_markup (race_line group site pairs)
    (both (codes "{\"race\":" ++ optional_text group ++ codes ",\"pairs\":[" ++ pairs_text pairs ++ codes "]" ++ group_site_text site) (codes "}\n")
    (both (codes "{\"race\":" ++ optional_text group ++ codes ",\"pairs\":[" ++ pairs_text pairs ++ codes "]") (group_site_text site)
    (both (codes "{\"race\":" ++ optional_text group ++ codes ",\"pairs\":[" ++ pairs_text pairs) (codes "]")
    (both (codes "{\"race\":" ++ optional_text group ++ codes ",\"pairs\":[") (pairs_text pairs)
    (both (codes "{\"race\":" ++ optional_text group) (codes ",\"pairs\":[")
    (both (codes "{\"race\":") (optional_text group) refl (optional_unmarked group few)) refl)
    (pairs_unmarked pairs within)) refl)
    (group_site_unmarked site small)) refl)
