-- The thread stops for good, or goes on from where the answer leads.
use Rattle.std.proofs.Common.{◌≡◌, true, sym, ap, ◌∙◌, subst}
use Rattle.lrc_exec.specs.Ask.{ask_of, deed_asked}
use Rattle.lrc_exec.specs.Meaning.{next_of}
use Rattle.lrc_exec.specs.Spots.{thread_at, spot_thread}
use Rattle.lrc_exec.specs.Follows.{Goes}
use Rattle.lrc_orders_settling.specs.Settling.{is_free_ask, is_last_ask, is_barrier_ask}
use Rattle.lrc_orders_settling.proofs.Freely.{frees, stops_for_good, goes_on}
use Rattle.lrc_orders_settling.proofs.settling.make_free_act.Goals.{then-is_last, else-is_last}
use Rattle.lrc_orders_settling.proofs.settling.make_free_act.Goals as goal

pub returns-clause-makes : goal.returns-clause-makes
returns-clause-makes c =
    let flat = c.args.flat.now in
    let spot = c.args.spot.now in
    let next = next_of (thread_at flat spot) in
    let asked : c.ask-ask.result ≡ ask_of next = c.ask-ask.ensures in
    let free : is_free_ask (ask_of next) ≡ true = ap is_free_ask (sym asked) ∙ sym c.is_free.ensures ∙ c.if-not-is_free.false in
    let deed : c.deed.result ≡ deed_asked 0 (ask_of next) = c.deed.ensures ∙ ap (deed_asked 0) asked in
    let goes : Goes next (deed_asked 0 (ask_of next)) (spot_thread flat c.if-is_last.spot) =
    elim c.if-is_last.branch [
      | then-is_last w ↦
          stops_for_good flat spot c.if-is_last.spot (ap is_last_ask (sym asked) ∙ sym c.is_last.ensures ∙ w.if-is_last.true)
          (ap (λ s. s.stopped) w.spot-is)
      | else-is_last w ↦
          goes_on flat spot c.if-is_last.spot free (ap is_last_ask (sym asked) ∙ sym c.is_last.ensures ∙ w.if-is_last.false)
          (ap (thread_at flat) w.spot-is ∙ w.answer.ensures.answered) (ap (λ s. s.stopped) w.spot-is ∙ w.answer.ensures.stopped ∙ c.requires.going)
          (ap (λ s. s.arrived) w.spot-is ∙ w.is_barrier-spot.ensures ∙ ap is_barrier_ask asked)
    ] in
    (frees flat spot true free, subst (λ d. Goes next d (spot_thread flat c.if-is_last.spot)) (sym deed) goes)
