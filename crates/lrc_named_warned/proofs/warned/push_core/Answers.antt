use Rattle.std.proofs.Common.{map}
use Rattle.std.proofs.lemmas.Result.{on_ok_weaker}
use Rattle.lrc_program.specs.Tree.{program_of as core_program_of}
use Rattle.lrc_named_core.specs.View.{origin_of}
use Rattle.lrc_named_tokens.specs.View.{located_of}
use Rattle.lrc_named_tree.specs.View.{program_of}
use Rattle.lrc_named_names.specs.View.{declared_of}
use Rattle.lrc_named_warned.specs.CoreSide.{side_seen}
use Rattle.lrc_named_warned.proofs.Contexts.{core_told}
use Rattle.lrc_named_warned.proofs.warned.push_core.Goals as goal

pub returns : goal.returns
returns c =
    on_ok_weaker c.push_both.result
    (λ h. core_told c.args.file.now (map located_of c.args.tokens.now) (program_of c.args.program.now) (declared_of c.args.names.now) c.args.core.now
    (map origin_of c.args.origins.now) c.push_both.new.out.items (core_program_of c.args.parsed.now) (side_seen c.in_ok-side.side) c.in_ok-side.ensures h)
    c.push_both.ensures
