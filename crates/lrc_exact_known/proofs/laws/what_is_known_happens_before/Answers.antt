use Rattle.std.proofs.Common.{◌≤◌, sym, subst}
use Rattle.lrc_time.specs.Time.{entry}
use Rattle.lrc_clock.proofs.Covering.{complete, sound}
use Rattle.lrc_exact_known.proofs.KeepingTime.{time-there, times-kept}
use Rattle.lrc_exact_known.proofs.laws.what_is_known_happens_before.Goals as goal

pub returns-clause-times : goal.returns-clause-times
returns-clause-times c = times-kept

pub returns-clause-known : goal.returns-clause-known
returns-clause-known c = λ shape run states j node deed state keeps does is sync other index some.
    let time = time-there states j state is in (
      λ most. sound (times-kept shape run states keeps) j node deed other index does some (subst (λ t. index ≤ entry t other) (sym time) most),
      λ closed. subst (λ t. index ≤ entry t other) time (complete (times-kept shape run states keeps) sync j other index closed),
    )
