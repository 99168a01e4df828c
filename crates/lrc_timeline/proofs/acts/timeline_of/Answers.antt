use Rattle.std.proofs.Common.{◌≡◌, ◌<◌, ◌++◌, ◌∷◌, [], ℕ, List, ◌∙◌, ap, arith, get_or, length, subst, sym, take}
use Rattle.std.proofs.lemmas.List.{get_or_default, take_all}
use Rattle.lrc_trace.specs.declared.act.Act.{Act}
use Rattle.lrc_trace.specs.declared.act.Deed.TheVariants.{Quiet}
use Rattle.lrc_clock.specs.Keeping.{KeepsTime}
use Rattle.lrc_timeline.specs.Timeline.{IsTimelineOf, Timed, brought_behind, timed, times_in}
use Rattle.lrc_timeline.proofs.Pairing.{timed_more, times_of_timed, with_time}
use Rattle.lrc_timeline.proofs.acts.timeline_of.Goals as goal

pub loop-position-preserved : goal.loop-position-preserved
loop-position-preserved c =
    let acts = c.args.acts.now in
    let times = c.in_ok-times.times.items in
    let n = c.loop-position.position in
    let none : Act = record { node = 0; deed = Quiet } in
    let before = timed (take n acts) times in
    let long : n < length times = omega (arith, c.in_ok-times.ensures.timed, c.loop-position-test.true) in
    let time = get_or_default times n c.index.result.now [] long in
    subst (λ (l : List Timed). IsTimelineOf l c.push.new.self)
    (ap (λ t. before ++ with_time (get_or acts n none) t ∷ []) (c.index.ensures ∙ time) ∙ sym (timed_more acts times n none c.loop-position-test.true long))
    (c.in_ok-push.ensures.line before c.loop-position.invariant)

-- at the end the timeline is that of all acts, with these times
all_acts : (c : goal.After-drop-times-2) → IsTimelineOf (timed c.args.acts.now c.in_ok-times.times.items) c.loop-position.line
all_acts c =
    subst (λ (l : List Act). IsTimelineOf (timed l c.in_ok-times.times.items) c.loop-position.line)
    (take_all c.loop-position.position c.args.acts.now c.loop-position-test.false) c.loop-position.invariant

their_times : (c : goal.After-drop-times-2) → times_in c.loop-position.line ≡ c.in_ok-times.times.items
their_times c =
    (all_acts c).times ∙ times_of_timed c.args.acts.now c.in_ok-times.times.items c.in_ok-times.ensures.timed

pub returns-clause-times : goal.returns-clause-times
returns-clause-times c =
    subst (λ (ts : List (List ℕ)). KeepsTime c.args.nodes c.args.acts.now ts) (sym (their_times c)) c.in_ok-times.ensures

pub returns-clause-kept : goal.returns-clause-kept
returns-clause-kept c =
    (all_acts c).kept ∙ ap (λ (ts : List (List ℕ)). brought_behind [] (timed c.args.acts.now ts)) (sym (their_times c))
