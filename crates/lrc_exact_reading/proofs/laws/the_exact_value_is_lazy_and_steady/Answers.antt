use Rattle.lrc_exact_reading.proofs.Giving.{given}
use Rattle.lrc_exact_reading.proofs.laws.the_exact_value_is_lazy_and_steady.Goals as goal

pub returns-clause-may_be_read : goal.returns-clause-may_be_read
returns-clause-may_be_read c = λ shape run states keeps ws waits j node word read does. (given shape run states keeps ws waits j node word read does).may

pub returns-clause-steady : goal.returns-clause-steady
returns-clause-steady c = λ shape run states keeps ws waits j node word read does. (given shape run states keeps ws waits j node word read does).steady
