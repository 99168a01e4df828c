use Rattle.std.proofs.Common.{inr, option_map}
use Rattle.std.proofs.lemmas.Result.{IfErr-weaker, IfOk-weaker}
use Rattle.lrc_cli_args.proofs.WayLemmas.{bare}
use Rattle.lrc_cli_args.proofs.runs.bare_way.Goals as goal

pub returns-clause-ok : goal.returns-clause-ok
returns-clause-ok c =
    IfOk-weaker c.way_in.result _ _ (λ way is. bare _ _ _ _ _ way
    c.requires.bare (record { order_is = c.in_ok-order.ensures.ok; seed_is = c.some_number_of-seed.ensures; events_is = c.events_of.ensures }) is)
    c.way_in.ensures.ok

pub returns-clause-err : goal.returns-clause-err
returns-clause-err c =
    IfErr-weaker c.way_in.result _ _ (λ misfit has. inr (
      c.in_ok-order.order,
      c.some_number_of-seed.result,
      option_map (λ path. path.now) c.events_of.result,
      record { order_is = c.in_ok-order.ensures.ok; seed_is = c.some_number_of-seed.ensures; events_is = c.events_of.ensures },
      has,
    )) c.way_in.ensures.err
