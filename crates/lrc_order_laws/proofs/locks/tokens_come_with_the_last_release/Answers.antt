use Rattle.lrc_protocol.specs.Follows.{pending}
use Rattle.lrc_order_laws.specs.Tokens.{grants_of_lock}
use Rattle.lrc_order_laws.proofs.TokenWorlds.{all_tokens, some_node}
use Rattle.lrc_order_laws.proofs.TokenCounts.{free_time, grant_time}
use Rattle.lrc_order_laws.proofs.locks.tokens_come_with_the_last_release.Goals as goal

pub returns-clause-kept : goal.returns-clause-kept
returns-clause-kept c = λ program nodes options events world lock n l time e lt at is.
    free_time lock nodes world.nodes (grants_of_lock lock (pending world)) world.acts world.times
    ((all_tokens program nodes options events world e).each lock lt (some_node program nodes options events world n l e at)) n l time at is

pub returns-clause-granted : goal.returns-clause-granted
returns-clause-granted c = λ program nodes options events world lock place envelope m e some lt at is.
    grant_time lock nodes world.nodes (grants_of_lock lock (pending world)) world.acts world.times
    ((all_tokens program nodes options events world e).each lock lt some) envelope m place at is
