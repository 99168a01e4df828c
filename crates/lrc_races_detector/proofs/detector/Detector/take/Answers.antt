-- Each part goes one event further.
use Rattle.std.proofs.Common.{◌≡◌, ◌+◌, ◌<◌, ◌^◌, ◌∙◌, sym, subst, ap}
use Rattle.lrc_races_trace.specs.Trace.{At}
use Rattle.lrc_races_trace.specs.Races.{AreToldAt}
use Rattle.lrc_races_detector.specs.Covers.{AreCovers}
use Rattle.lrc_races_detector.specs.Knowing.{Gathers, AreLocks, AreBarriers, AreVariables}
use Rattle.lrc_races_detector.specs.Vectors.{entries}
use Rattle.lrc_races_detector.proofs.detector.Detector.take.Goals as goal

pub returns : goal.returns
returns c = λ events n here old.
    let self = c.args.self.now in
    let between = c.reach.new.self in
    let reached = c.in_ok-reach.ensures.reached events n here old in
    let at : between.position ≡ n = c.reach.ensures.position ∙ old.position in
    let own : Gathers events (λ k. k ≡ n) (entries c.row-known.result) = subst (λ x. Gathers events (λ k. k ≡ n) x) (sym c.row-known.ensures) reached.own in
    let variables : AreVariables events between.position between.variables =
    subst (λ m. AreVariables events m between.variables) (sym at) (subst (λ v. AreVariables events n v) (sym c.reach.ensures.variables) old.variables) in
    let covers : AreCovers events between.position between.covers =
    subst (λ m. AreCovers events m between.covers) (sym at) (subst (λ v. AreCovers events n v) (sym c.reach.ensures.covers) old.covers) in
    let judged = c.in_ok-judge.ensures events (subst (λ m. At events m c.args.event) (sym at) here)
    (subst (λ m. Gathers events (λ k. k ≡ m) (entries c.row-known.result)) (sym at) own) variables covers c.clear.ensures.items in
    let locks : AreLocks events n between.locks = subst (λ l. AreLocks events n l) (sym c.reach.ensures.locks) old.locks in
    let barriers : AreBarriers events n between.barriers = subst (λ b. AreBarriers events n b) (sym c.reach.ensures.barriers) old.barriers in
    let few : n + 1 < 2 ^ 64 = subst (λ m. m + 1 < 2 ^ 64) old.position c.requires in (
      record {
        position = ap (λ m. m + 1) at;
        threads = c.in_ok-give_thread.ensures events n here reached;
        locks = c.in_ok-give_lock.ensures events n here own locks;
        barriers = c.in_ok-give_barrier.ensures events n few here own barriers;
        variables = subst (λ m. AreVariables events (m + 1) c.judge.new.variables) at judged.0;
        covers = subst (λ m. AreCovers events (m + 1) c.judge.new.covers) at judged.1;
      },
      subst (λ m. AreToldAt events m c.judge.new.told.items) at judged.2,
    )
