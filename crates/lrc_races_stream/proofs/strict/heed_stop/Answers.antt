-- Memory ran out, or nothing is wrong, or that comes first.
use Rattle.std.proofs.Common.{◌∙◌, sym, true≢false}
use Rattle.lrc_races_stream.proofs.NotedLemmas.{kept_stop, known_halt, known_lacking, known_stop}
use Rattle.lrc_races_stream.proofs.StrictLemmas.{ill_halt, lacking_halt, stop_halt}
use Rattle.lrc_races_stream.proofs.strict.heed_stop.Goals as goal

pub returns-then-lacks_memory-clause-halt : goal.returns-then-lacks_memory-clause-halt
returns-then-lacks_memory-clause-halt g c sought form last held is =
    lacking_halt c.args.strict g.K.Keep.has_kept sought form last held c.args.noting.now.kept c.args.stop
    (c.lacks_memory.ensures.0 c.if-lacks_memory.true)

pub returns-then-lacks_memory-clause-known : goal.returns-then-lacks_memory-clause-known
returns-then-lacks_memory-clause-known g c sought form last held is =
    known_lacking form held c.args.noting.now.noter c.args.stop (c.lacks_memory.ensures.0 c.if-lacks_memory.true)

pub returns-in-Ok-clause-halt : goal.returns-in-Ok-clause-halt
returns-in-Ok-clause-halt g c sought form last held is =
    stop_halt c.args.strict g.K.Keep.has_kept sought form last held c.args.noting.now.kept c.args.stop
    (kept_stop g.K.Keep.has_kept sought form last c.args.noting.now is) c.in-Ok.ensures.none

pub returns-in-Ok-clause-known : goal.returns-in-Ok-clause-known
returns-in-Ok-clause-known g c sought form last held is = known_stop g.K.Keep.has_kept sought form last c.args.noting.now c.args.stop is

pub returns-in-Err-clause-halt : goal.returns-in-Err-clause-halt
returns-in-Err-clause-halt g c sought form last held is =
    ill_halt c.args.strict g.K.Keep.has_kept sought form last held c.args.noting.now.kept c.args.stop c.in-Err.other
    (kept_stop g.K.Keep.has_kept sought form last c.args.noting.now is)
    (λ lacks. true≢false (sym (c.lacks_memory.ensures.1 lacks) ∙ c.if-lacks_memory.false)) c.in-Err.ensures.ill

pub returns-in-Err-clause-known : goal.returns-in-Err-clause-known
returns-in-Err-clause-known g c sought form last held is =
    known_halt g.K.Keep.has_kept sought form last c.args.noting.now c.args.strict c.args.stop c.in-Err.other is
    (λ lacks. true≢false (sym (c.lacks_memory.ensures.1 lacks) ∙ c.if-lacks_memory.false)) c.in-Err.ensures.ill
