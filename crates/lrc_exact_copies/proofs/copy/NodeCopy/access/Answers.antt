use Rattle.std.proofs.Common.{refl, ap}
use Rattle.lrc_exact_copies.specs.declared.copy.Look.{Look}
use Rattle.lrc_exact_copies.proofs.Copying.{after-access}
use Rattle.lrc_exact_copies.proofs.copy.NodeCopy.access.Goals as goal

pub returns : goal.returns
returns c = λ shape node a l state le lt old.
    after-access old c.args.page c.args.now _ _ c.in_ok-put_look.ensures refl refl (ap (λ (k : Look). k.written) c.look_at-had.ensures) le lt
