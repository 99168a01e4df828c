use Rattle.lrc_exact_known.proofs.Made.{did_there}
use Rattle.lrc_exact_known.proofs.laws.what_is_known_was_made.Goals as goal

pub returns : goal.returns
returns c = λ shape run states j node deed state keeps does is other index i some most closing.
    did_there shape run states keeps j state other index i is some most closing
