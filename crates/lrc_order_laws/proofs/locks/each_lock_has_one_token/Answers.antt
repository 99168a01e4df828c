use Rattle.lrc_protocol.specs.Follows.{pending}
use Rattle.lrc_order_laws.specs.Tokens.{grants_of_lock}
use Rattle.lrc_order_laws.proofs.TokenWorlds.{all_tokens}
use Rattle.lrc_order_laws.proofs.TokenCounts.{one_place}
use Rattle.lrc_order_laws.proofs.locks.each_lock_has_one_token.Goals as goal

pub returns : goal.returns
returns c = λ program nodes options events world lock e some lt.
    one_place lock nodes world.nodes (grants_of_lock lock (pending world)) world.acts world.times
    ((all_tokens program nodes options events world e).each lock lt some)
