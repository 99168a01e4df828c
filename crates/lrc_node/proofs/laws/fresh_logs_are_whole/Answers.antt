use Rattle.std.proofs.Common.{Some, [], refl}
use Rattle.lrc_protocol.specs.Node.{fresh_node}
use Rattle.lrc_node.specs.Logged.{TracedLog}
use Rattle.lrc_node.proofs.Whole.{whole_first}
use Rattle.lrc_node.proofs.laws.fresh_logs_are_whole.Goals as goal

pub returns : goal.returns
returns c = λ program nodes options me.
    let seen : TracedLog = record {
      logged = record { node = Some (fresh_node program nodes options me); log = [] };
      trace = record { node = me; size = options.size; segments = [] };
    } in
    whole_first program nodes options me seen refl refl refl
