-- The thread, the target and the location are mentioned, one after another.
use Rattle.std.proofs.Common.{refl}
use Rattle.lrc_races_text.specs.Tables.{mention_more}
use Rattle.lrc_races_text.proofs.NamingLemmas.{numbers, moved, keeps_all, keeps_operation, after_none, same_names}
use Rattle.lrc_races_text.proofs.naming.Names.event.Goals as goal

pub returns-clause-mentioned : goal.returns-clause-mentioned
returns-clause-mentioned c =
    let m = c.in_ok-operation.ensures.mentioned in
    record {
      threads = mention_more c.in_ok-thread.ensures.numbered m.threads;
      variables = m.variables;
      locks = m.locks;
      barriers = m.barriers;
      locations = after_none m.locations c.in_ok-location.ensures.mentioned;
    }

pub returns-clause-event : goal.returns-clause-event
returns-clause-event c =
    let m = c.in_ok-operation.ensures.mentioned in
    record {
      thread = moved (keeps_all m.threads) (numbers c.in_ok-thread.ensures.numbered);
      operation = keeps_operation (record {
        threads = same_names _;
        variables = same_names _;
        locks = same_names _;
        barriers = same_names _;
        locations = keeps_all c.in_ok-location.ensures.mentioned;
      }) c.in_ok-operation.ensures.operation;
      line = refl;
      location = c.in_ok-location.ensures.located;
    }
