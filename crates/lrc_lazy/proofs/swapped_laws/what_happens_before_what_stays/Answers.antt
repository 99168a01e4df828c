use Rattle.lrc_lazy.proofs.Both.{order_both}
use Rattle.lrc_lazy.proofs.swapped_laws.what_happens_before_what_stays.Goals as goal

pub returns : goal.returns
returns c = λ nodes front first second rest ws m i j x y a b. order_both nodes front first second rest ws m a b
