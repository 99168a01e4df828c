-- What is found in the set is there.
use Rattle.std.proofs.Common.{refl, sym}
use Rattle.lrc_races_claims.proofs.Pairing.{met_key, new_key}
use Rattle.lrc_races_claims.proofs.places.are_there.Goals as goal

pub returns-in-Some : goal.returns-in-Some
returns-in-Some c = (λ t. met_key c.args.pairs.now.keys (record { earlier = c.args.earlier; later = c.args.later }) (sym c.in-Some.ensures.found), λ h. refl)

pub returns-in-None : goal.returns-in-None
returns-in-None c = (
  λ t. let never = t in cc,
  λ h. absurd (new_key c.args.pairs.now.keys (record { earlier = c.args.earlier; later = c.args.later }) (sym c.in-None.ensures.found) h),
)
