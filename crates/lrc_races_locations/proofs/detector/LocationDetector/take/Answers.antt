-- The locations first, by what is known before the event, and then the order.
use Rattle.std.proofs.Common.{◌≡◌, ◌+◌, ◌∙◌, ℕ, refl, sym, subst}
use Rattle.lrc_races_trace.specs.Trace.{At}
use Rattle.lrc_races_detector.specs.Vectors.{entries}
use Rattle.lrc_races_locations.specs.Rivals.{IsBehind}
use Rattle.lrc_races_locations.specs.Finding.{HasShown}
use Rattle.lrc_races_locations.proofs.Knowing.{taken_position}
use Rattle.lrc_races_locations.proofs.detector.LocationDetector.take.Goals as goal

pub returns : goal.returns
returns c = λ sought events n here old.
    let self = c.args.self.now in
    let at : c.position.result ≡ n = c.position.ensures ∙ taken_position sought events n self.detector old.taken in
    let shown = c.in_ok-take.ensures sought events (subst (λ (m : ℕ). At events m c.args.event) (sym at) here)
    (λ v accesses. subst (λ (m : ℕ). IsBehind sought events m (entries c.known_of.result)) (sym at)
    (c.known_of.ensures sought events n v c.args.event old.taken here refl accesses))
    (subst (λ (m : ℕ). HasShown sought events m self.locator) (sym at) old.shown) in
    record {
      taken = (c.in_ok-take-2.ensures sought events n here old.taken).0;
      shown = subst (λ (m : ℕ). HasShown sought events (m + 1) c.take.new.self) at shown;
    }
