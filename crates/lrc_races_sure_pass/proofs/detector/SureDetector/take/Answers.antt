-- Each part goes one event further.
use Rattle.std.proofs.Common.{◌≡◌, ◌+◌, ◌<◌, ◌^◌, ◌∙◌, sym, subst, ap}
use Rattle.lrc_races_trace.specs.Trace.{At}
use Rattle.lrc_races_trace.specs.Order.{Precedes}
use Rattle.lrc_races_sure.specs.Sure.{AreSureToldAt}
use Rattle.lrc_races_detector.specs.Knowing.{AreVariables}
use Rattle.lrc_races_sure_pass.specs.Covers.{AreCovers}
use Rattle.lrc_races_sure_pass.specs.Knowing.{Gathers, AreLocks, AreBarriers, AreWrites}
use Rattle.lrc_races_detector.specs.Vectors.{entries}
use Rattle.lrc_races_sure_pass.proofs.detector.SureDetector.take.Goals as goal

pub returns : goal.returns
returns c = λ events n here old.
    let self = c.args.self.now in
    let asked = c.ask.new.self in
    let reached = c.reach.new.self in
    let is_asked = c.in_ok-ask.ensures.asked events n here old in
    let at : asked.position ≡ n = c.ask.ensures.position ∙ old.position in
    let own : Gathers events (λ k. Precedes events k n) (entries c.row-asked.result) =
    subst (λ x. Gathers events (λ k. Precedes events k n) x) (sym c.row-asked.ensures) is_asked.own in
    let variables : AreVariables events asked.position asked.variables =
    subst (λ m. AreVariables events m asked.variables) (sym at) (subst (λ v. AreVariables events n v) (sym c.ask.ensures.variables) old.variables) in
    let covers : AreCovers events asked.position asked.covers =
    subst (λ m. AreCovers events m asked.covers) (sym at) (subst (λ v. AreCovers events n v) (sym c.ask.ensures.covers) old.covers) in
    let judged = c.in_ok-judge.ensures events (subst (λ m. At events m c.args.event) (sym at) here)
    (subst (λ m. Gathers events (λ k. Precedes events k m) (entries c.row-asked.result)) (sym at) own) variables covers c.clear.ensures.items in
    let writes : AreWrites events n asked.writes = subst (λ w. AreWrites events n w) (sym c.ask.ensures.writes) old.writes in
    let is_reached = c.in_ok-reach.ensures.reached events n here at writes is_asked in
    let known : Gathers events (λ k. k ≡ n) (entries c.row-known.result) =
    subst (λ x. Gathers events (λ k. k ≡ n) x) (sym c.row-known.ensures) is_reached.own in
    let writes_now : AreWrites events n reached.writes = subst (λ w. AreWrites events n w) (sym c.reach.ensures.writes) writes in
    let locks : AreLocks events n reached.locks =
    subst (λ l. AreLocks events n l) (sym (c.reach.ensures.locks ∙ c.ask.ensures.locks)) old.locks in
    let barriers : AreBarriers events n reached.barriers =
    subst (λ b. AreBarriers events n b) (sym (c.reach.ensures.barriers ∙ c.ask.ensures.barriers)) old.barriers in
    let few : n + 1 < 2 ^ 64 = subst (λ m. m + 1 < 2 ^ 64) old.position c.requires in (
      record {
        position = ap (λ m. m + 1) (c.reach.ensures.position ∙ at);
        threads = c.in_ok-give_thread.ensures events n here is_reached;
        locks = c.in_ok-give_lock.ensures events n here known locks;
        barriers = c.in_ok-give_barrier.ensures events n few here known barriers;
        variables = subst (λ v. AreVariables events (n + 1) v) (sym c.reach.ensures.variables)
            (subst (λ m. AreVariables events (m + 1) c.judge.new.variables) at judged.0);
        writes = c.in_ok-give_write.ensures events n here known writes_now;
        covers = subst (λ o. AreCovers events (n + 1) o) (sym c.reach.ensures.covers)
            (subst (λ m. AreCovers events (m + 1) c.judge.new.covers) at judged.1);
      },
      subst (λ m. AreSureToldAt events m c.judge.new.told.items) at judged.2,
    )
