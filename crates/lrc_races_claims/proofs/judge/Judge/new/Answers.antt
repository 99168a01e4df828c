-- Nothing is known yet.
use Rattle.std.proofs.Common.{refl, sym}
use Rattle.lrc_races_claims.proofs.judge.Judge.new.Goals as goal

pub returns : goal.returns
returns c = λ events. record {
  lines = refl;
  seeks = refl;
  asks = c.new-2.ensures.sought;
  asking = record { n = 0; has = c.new-2.ensures.asked events };
  variables = sym c.new-3.ensures;
  threads = refl;
  locations = refl;
  facts = λ facts e. let never : ⊥ = cc in absurd never;
  places = λ places e. let never : ⊥ = cc in absurd never;
}
