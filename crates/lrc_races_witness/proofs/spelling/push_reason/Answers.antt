-- The words of each reason.
use Rattle.lrc_races_lines.specs.Table.{names_of}
use Rattle.lrc_races_witness.proofs.Reasons.{reasoned, two}
use Rattle.lrc_races_witness.proofs.spelling.push_reason.Goals as goal

pub returns-in_ok-extend_from_slice-in-OneThread-2 : goal.returns-in_ok-extend_from_slice-in-OneThread-2
returns-in_ok-extend_from_slice-in-OneThread-2 c =
    reasoned (names_of c.args.threads.now) c.args.first c.args.second c.args.text.now.items c.extend_from_slice-in-OneThread-2.new.self.items
    c.in-OneThread.is
    (two c.args.text.now.items _ _ _ _ _ c.in_ok-extend_from_slice-in-OneThread.ensures.items
    c.in_ok-extend_from_slice-in-OneThread-2.ensures.items c.name_of.ensures)

pub returns-in_ok-extend_from_slice-in-TwoVariables : goal.returns-in_ok-extend_from_slice-in-TwoVariables
returns-in_ok-extend_from_slice-in-TwoVariables c =
    reasoned (names_of c.args.threads.now) c.args.first c.args.second c.args.text.now.items c.extend_from_slice-in-TwoVariables.new.self.items
    c.in-TwoVariables.is c.in_ok-extend_from_slice-in-TwoVariables.ensures.items
