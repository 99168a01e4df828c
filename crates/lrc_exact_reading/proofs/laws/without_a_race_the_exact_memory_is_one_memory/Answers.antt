use Rattle.lrc_exact.specs.Rule.{exact_value}
use Rattle.lrc_consistency_laws.proofs.UpToRace.{without_race}
use Rattle.lrc_consistency_laws.proofs.Waiting.{waits_at_barriers}
use Rattle.lrc_exact_reading.proofs.Calm.{last_is_read}
use Rattle.lrc_exact_reading.proofs.Giving.{given, reads_lazily}
use Rattle.lrc_exact_reading.proofs.laws.without_a_race_the_exact_memory_is_one_memory.Goals as goal

pub returns-clause-last : goal.returns-clause-last
returns-clause-last c = λ shape run states keeps ws waits j node word read does calm.
    last_is_read run calm j node word read (exact_value shape run states node j word) does
    (given shape run states keeps ws waits j node word read does).may

pub returns-clause-is_plain : goal.returns-clause-is_plain
returns-clause-is_plain c = λ program shape run exact calm.
    without_race program shape.nodes run exact.follows exact.synchronized
    (reads_lazily shape run exact.synchronized (waits_at_barriers program shape.nodes run exact.follows) exact.exact) calm
