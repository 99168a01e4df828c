use Rattle.lrc_reading_laws.proofs.Received.ReceiverWorlds.{in_flight, all_to}
use Rattle.lrc_reading_laws.proofs.messages.messages_go_from_node_to_node.Goals as goal

pub returns : goal.returns
returns c = λ program nodes options events world place flying runs at.
    (all_to program nodes options events world runs).to flying.envelope (in_flight world.flight place flying at)
