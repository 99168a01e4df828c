-- By the choice that the left side makes.
use Rattle.lrc_named_acts_laws.proofs.Choosing.{left_of_and, left_of_or}
use Rattle.lrc_named_acts_laws.proofs.laws.the_right_side_is_left_out_where_the_left_one_decides.Goals as goal

pub returns-clause-and : goal.returns-clause-and
returns-clause-and c = λ numbers at name p inside more t s u v d e fits stands value g h.
    left_of_and numbers at name p inside more t s u v d e fits value g h stands

pub returns-clause-or : goal.returns-clause-or
returns-clause-or c = λ numbers at name p inside more t s u v d e fits stands value g h.
    left_of_or numbers at name p inside more t s u v d e fits value g h stands
