-- By its rounds.
use Rattle.lrc_named_acts_laws.proofs.Counting.{whole}
use Rattle.lrc_named_acts_laws.proofs.laws.a_for_makes_its_block_once_for_each_value.Goals as goal

pub returns : goal.returns
returns c = λ numbers token name first limit inside more t a b stands value limit_value small fits keeps steady ds u stays.
    whole numbers token name first limit inside more t a b fits stands value limit_value small steady keeps ds u stays
