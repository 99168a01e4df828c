use Rattle.std.proofs.Common.{rules, map, subst}
use Rattle.std.specs.Prelude.{Some}
use Rattle.lrc_weave.specs.Next.{stamp_of, IsFirst, IsNextOf}
use Rattle.lrc_weave.proofs.Heads.{next_of}
use Rattle.lrc_weave.proofs.Stepping.{so_all, so_run}
use Rattle.lrc_weave.proofs.Coded.{next_node, place_of, below_end, heads_begin, heads_next, so_begin, so_next, so_unsent, smaller}
use Rattle.lrc_weave.proofs.Repeated.{bits_of}
use Rattle.lrc_weave.proofs.woven.run_of_logs.Goals as goal

pub loop-node-init : goal.loop-node-init
loop-node-init c = (
  so_begin (λ log. log.items) c.args.logs.now _ _ _ _ (search rules) (search rules) (search rules) (search rules),
  heads_begin (λ log. log.items) c.args.logs.now _ _ (search rules) (search rules),
)

pub turn-requires : goal.turn-requires
turn-requires c = record {
  there = below_end (λ log. log.items) c.args.logs.now c.loop-node.come.items c.in-Some.node c.index-place.result.now c.index-logs-node.result
      (next_of (map (λ log. log.items) c.args.logs.now) c.loop-node.come.items c.loop-node.stamps.items (Some c.in-Some.node) c.loop-node.invariant.1.1
      (subst (λ xs. IsFirst (stamp_of xs) (Some c.in-Some.node)) c.as_slice.ensures.value c.in-Some.ensures))
      (place_of (λ log. log.items) c.args.logs.now c.loop-node.come.items c.in-Some.node c.index-place.result.now c.loop-node.invariant.0.0
      (next_of (map (λ log. log.items) c.args.logs.now) c.loop-node.come.items c.loop-node.stamps.items (Some c.in-Some.node) c.loop-node.invariant.1.1
      (subst (λ xs. IsFirst (stamp_of xs) (Some c.in-Some.node)) c.as_slice.ensures.value c.in-Some.ensures))
      (search rules))
      (search rules);
  bits = bits_of (λ log. log.items) (λ bits. bits.items) c.args.logs.now c.in_ok-again.again.items c.in-Some.node c.index-logs-node.result
      c.index.result.now c.in_ok-again.ensures
      (next_node (λ log. log.items) c.args.logs.now c.loop-node.come.items c.in-Some.node
      (next_of (map (λ log. log.items) c.args.logs.now) c.loop-node.come.items c.loop-node.stamps.items (Some c.in-Some.node) c.loop-node.invariant.1.1
      (subst (λ xs. IsFirst (stamp_of xs) (Some c.in-Some.node)) c.as_slice.ensures.value c.in-Some.ensures)))
      (search rules) (search rules);
}

pub note-requires : goal.note-requires
note-requires c = record {
  there = below_end (λ log. log.items) c.args.logs.now c.loop-node.come.items c.in-Some.node c.index-place.result.now c.index-logs-node.result
      (next_of (map (λ log. log.items) c.args.logs.now) c.loop-node.come.items c.loop-node.stamps.items (Some c.in-Some.node) c.loop-node.invariant.1.1
      (subst (λ xs. IsFirst (stamp_of xs) (Some c.in-Some.node)) c.as_slice.ensures.value c.in-Some.ensures))
      (place_of (λ log. log.items) c.args.logs.now c.loop-node.come.items c.in-Some.node c.index-place.result.now c.loop-node.invariant.0.0
      (next_of (map (λ log. log.items) c.args.logs.now) c.loop-node.come.items c.loop-node.stamps.items (Some c.in-Some.node) c.loop-node.invariant.1.1
      (subst (λ xs. IsFirst (stamp_of xs) (Some c.in-Some.node)) c.as_slice.ensures.value c.in-Some.ensures))
      (search rules))
      (search rules);
}

pub after-next-requires : goal.after-next-requires
after-next-requires c = record {
  there = below_end (λ log. log.items) c.args.logs.now c.loop-node.come.items c.in-Some.node c.index-place.result.now c.index-logs-node.result
      (next_of (map (λ log. log.items) c.args.logs.now) c.loop-node.come.items c.loop-node.stamps.items (Some c.in-Some.node) c.loop-node.invariant.1.1
      (subst (λ xs. IsFirst (stamp_of xs) (Some c.in-Some.node)) c.as_slice.ensures.value c.in-Some.ensures))
      (place_of (λ log. log.items) c.args.logs.now c.loop-node.come.items c.in-Some.node c.index-place.result.now c.loop-node.invariant.0.0
      (next_of (map (λ log. log.items) c.args.logs.now) c.loop-node.come.items c.loop-node.stamps.items (Some c.in-Some.node) c.loop-node.invariant.1.1
      (subst (λ xs. IsFirst (stamp_of xs) (Some c.in-Some.node)) c.as_slice.ensures.value c.in-Some.ensures))
      (search rules))
      (search rules);
}

pub loop-node-smaller : goal.loop-node-smaller
loop-node-smaller c =
    smaller (λ log. log.items) c.args.logs.now c.loop-node.come.items c.in-Some.node c.index-place.result.now c.after-next.result c.loop-node.invariant.0.0
    (next_of (map (λ log. log.items) c.args.logs.now) c.loop-node.come.items c.loop-node.stamps.items (Some c.in-Some.node) c.loop-node.invariant.1.1
    (subst (λ xs. IsFirst (stamp_of xs) (Some c.in-Some.node)) c.as_slice.ensures.value c.in-Some.ensures))
    (place_of (λ log. log.items) c.args.logs.now c.loop-node.come.items c.in-Some.node c.index-place.result.now c.loop-node.invariant.0.0
    (next_of (map (λ log. log.items) c.args.logs.now) c.loop-node.come.items c.loop-node.stamps.items (Some c.in-Some.node) c.loop-node.invariant.1.1
    (subst (λ xs. IsFirst (stamp_of xs) (Some c.in-Some.node)) c.as_slice.ensures.value c.in-Some.ensures))
    (search rules))
    (search rules)

pub loop-node-preserved : goal.loop-node-preserved
loop-node-preserved c = (
  so_next (λ log. log.items) c.args.logs.now c.loop-node.come.items c.loop-node.flight.items c.turn.new.flight.items c.loop-node.events.items
      c.push.new.self.items c.in_ok-event.event c.loop-node.acts.items c.note.new.acts.items c.in-Some.node c.index-place.result.now c.after-next.result
      c.index-logs-node.result c.loop-node.invariant.0
      (next_of (map (λ log. log.items) c.args.logs.now) c.loop-node.come.items c.loop-node.stamps.items (Some c.in-Some.node) c.loop-node.invariant.1.1
      (subst (λ xs. IsFirst (stamp_of xs) (Some c.in-Some.node)) c.as_slice.ensures.value c.in-Some.ensures))
      c.in_ok-event.ensures.turn (search rules) (search rules)
      (place_of (λ log. log.items) c.args.logs.now c.loop-node.come.items c.in-Some.node c.index-place.result.now c.loop-node.invariant.0.0
      (next_of (map (λ log. log.items) c.args.logs.now) c.loop-node.come.items c.loop-node.stamps.items (Some c.in-Some.node) c.loop-node.invariant.1.1
      (subst (λ xs. IsFirst (stamp_of xs) (Some c.in-Some.node)) c.as_slice.ensures.value c.in-Some.ensures))
      (search rules))
      (search rules) (search rules),
  heads_next (λ log. log.items) c.args.logs.now c.loop-node.come.items c.loop-node.stamps.items c.in-Some.node c.after-next.result c.stamp_at.result
      c.index-logs-node.result c.loop-node.invariant.0.0 c.loop-node.invariant.1
      (next_node (λ log. log.items) c.args.logs.now c.loop-node.come.items c.in-Some.node
      (next_of (map (λ log. log.items) c.args.logs.now) c.loop-node.come.items c.loop-node.stamps.items (Some c.in-Some.node) c.loop-node.invariant.1.1
      (subst (λ xs. IsFirst (stamp_of xs) (Some c.in-Some.node)) c.as_slice.ensures.value c.in-Some.ensures)))
      (search rules) c.stamp_at.ensures,
)

pub returns-clause-woven : goal.returns-clause-woven
returns-clause-woven c = λ program nodes options are sources.
    so_all (map (λ log. log.items) c.args.logs.now) c.loop-node.come.items c.loop-node.flight.items c.loop-node.events.items c.loop-node.acts.items
    c.loop-node.invariant.0.1
    (subst (λ o. IsNextOf (map (λ log. log.items) c.args.logs.now) c.loop-node.come.items o) c.in_default.is
    (next_of (map (λ log. log.items) c.args.logs.now) c.loop-node.come.items c.loop-node.stamps.items c.next_turn.result c.loop-node.invariant.1.1
    (subst (λ xs. IsFirst (stamp_of xs) c.next_turn.result) c.as_slice.ensures.value c.next_turn.ensures)))
    program nodes options are sources

pub returns-clause-makes : goal.returns-clause-makes
returns-clause-makes c = λ program nodes options are sources.
    so_run (map (λ log. log.items) c.args.logs.now) c.loop-node.come.items c.loop-node.flight.items c.loop-node.events.items c.loop-node.acts.items
    c.loop-node.invariant.0.1
    (subst (λ o. IsNextOf (map (λ log. log.items) c.args.logs.now) c.loop-node.come.items o) c.in_default.is
    (next_of (map (λ log. log.items) c.args.logs.now) c.loop-node.come.items c.loop-node.stamps.items c.next_turn.result c.loop-node.invariant.1.1
    (subst (λ xs. IsFirst (stamp_of xs) c.next_turn.result) c.as_slice.ensures.value c.next_turn.ensures)))
    program nodes options are sources

pub returns-in_err-event-clause-mismatch : goal.returns-in_err-event-clause-mismatch
returns-in_err-event-clause-mismatch c = λ e program nodes options are sources.
    so_unsent (λ log. log.items) c.args.logs.now c.loop-node.come.items c.loop-node.flight.items c.loop-node.events.items c.loop-node.acts.items
    c.in-Some.node c.index-place.result.now c.index-logs-node.result c.loop-node.invariant.0
    (next_of (map (λ log. log.items) c.args.logs.now) c.loop-node.come.items c.loop-node.stamps.items (Some c.in-Some.node) c.loop-node.invariant.1.1
    (subst (λ xs. IsFirst (stamp_of xs) (Some c.in-Some.node)) c.as_slice.ensures.value c.in-Some.ensures))
    (search rules)
    (place_of (λ log. log.items) c.args.logs.now c.loop-node.come.items c.in-Some.node c.index-place.result.now c.loop-node.invariant.0.0
    (next_of (map (λ log. log.items) c.args.logs.now) c.loop-node.come.items c.loop-node.stamps.items (Some c.in-Some.node) c.loop-node.invariant.1.1
    (subst (λ xs. IsFirst (stamp_of xs) (Some c.in-Some.node)) c.as_slice.ensures.value c.in-Some.ensures))
    (search rules))
    (c.turn.ensures.unsent (search rules))
    program nodes options are sources
