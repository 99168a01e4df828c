use Rattle.lrc_protocol.specs.Follows.{pending}
use Rattle.lrc_order_laws.specs.Tokens.{grants_of_lock}
use Rattle.lrc_order_laws.proofs.TokenWorlds.{all_tokens, some_node}
use Rattle.lrc_order_laws.proofs.TokenCounts.{holder_has_it}
use Rattle.lrc_order_laws.proofs.locks.holder_has_the_token.Goals as goal

pub returns : goal.returns
returns c = λ program nodes options events world lock n l e lt at.
    holder_has_it lock nodes world.nodes (grants_of_lock lock (pending world)) world.acts world.times
    ((all_tokens program nodes options events world e).each lock lt (some_node program nodes options events world n l e at)) n l at
