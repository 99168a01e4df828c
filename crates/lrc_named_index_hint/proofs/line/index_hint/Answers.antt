use Rattle.std.proofs.Common.{sym, subst}
use Rattle.std.specs.Prelude.{IfOk}
use Rattle.lrc_named_tree.specs.View.{program_of}
use Rattle.lrc_named_index_hint.specs.Line.{IsIndexHint}
use Rattle.lrc_named_index_hint.proofs.Always.{always}
use Rattle.lrc_named_index_hint.proofs.line.index_hint.Goals as goal

pub out_line-requires : goal.out_line-requires
out_line-requires c = always (program_of c.args.program) c.requires.program.0 c.args.fault c.requires.program.1 c.requires.first c.in-IndexOutOfRange.is

pub returns-in-IndexOutOfRange : goal.returns-in-IndexOutOfRange
returns-in-IndexOutOfRange c =
    subst (λ k. IfOk c.out_line.result (λ line. IsIndexHint k (program_of c.args.program) c.args.fault.at line.items)) (sym c.in-IndexOutOfRange.is) c.out_line.ensures
