use Rattle.lrc_store.proofs.Within.{follows_in, keys_in, notices_in-rises}
use Rattle.lrc_store.proofs.laws.links_run_through_each_interval.Goals as goal

pub returns-clause-follows : goal.returns-clause-follows
returns-clause-follows c = λ store at sound. follows_in store at sound

pub returns-clause-keys : goal.returns-clause-keys
returns-clause-keys c = λ store at interval is. keys_in store at interval is

pub returns-clause-once : goal.returns-clause-once
returns-clause-once c = λ store at. notices_in-rises store at
