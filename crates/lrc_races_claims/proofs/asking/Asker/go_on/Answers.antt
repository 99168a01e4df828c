-- One event more.
use Rattle.std.proofs.Common.{◌<◌, ◌∙◌, length, refl, sym, subst, arith}
use Rattle.std.proofs.lemmas.Option.{slice_get-get_or}
use Rattle.lrc_races_locations.proofs.Knowing.{taken_position}
use Rattle.lrc_races_claims.specs.Asking.{HasAsked}
use Rattle.lrc_races_claims.proofs.asking.Asker.go_on.Goals as goal

pub loop-at-init : goal.loop-at-init
loop-at-init c =
    let asking = c.requires.asking in
    let self = c.args.self.now in
    let at = taken_position self.sought c.args.events.now asking.n self.detector asking.has.taken in
    record {
      asked = subst (λ m. HasAsked c.args.events.now m self) (sym (c.position-at.ensures ∙ at)) asking.has;
      sought = refl;
    }

pub take-requires : goal.take-requires
take-requires c =
    let asked = c.loop-at.invariant.asked in
    let at = taken_position c.loop-at.self.sought c.args.events.now c.loop-at.at c.loop-at.self.detector asked.taken in
    omega (arith, at)

pub loop-at-preserved : goal.loop-at-preserved
loop-at-preserved c =
    let events = c.args.events.now in
    let n = c.loop-at.at in
    let within : n < length events = omega arith in
    let asked = c.loop-at.invariant.asked in
    record {
      asked = record {
        within = omega arith;
        taken = (c.in_ok-take.ensures c.loop-at.self.sought events n (record { is = slice_get-get_or events n _ within }) asked.taken).0;
      };
      sought = c.loop-at.invariant.sought;
    }
