use Rattle.std.proofs.Common.{◌≡◌, ◌∙◌, length, true, false, Ok, refl, ap, arith}
use Rattle.std.proofs.lemmas.Grind.{common_steps}
use Rattle.std.proofs.lemmas.List.{length-replicate}
use Rattle.std.proofs.lemmas.Result.{err_from_is_err_and}
use Rattle.lrc_time.specs.Time.{entry}
use Rattle.lrc_wire.specs.Reading.{◌>>=◌, is_after, is_below, next_interval_at, pages_at}
use Rattle.lrc_wire.proofs.NextInterval.{bad_node, but_pages, no_node, not_after, stamp_wrong}
use Rattle.lrc_wire.proofs.reading.intervals.read_next_interval.Goals as goal
use Rattle.lrc_wire.proofs.reading.intervals.read_next_interval.Goals.{Else-is_some_and}

-- the interval comes after the one before it
after : (c : Else-is_some_and) → is_after is_below c.args.before (c.in_ok-node.node, entry c.read_stamp.new.stamp c.in_ok-node.node) ≡ true
unfolding is_after
after c = grind (arith, common_steps)

pages_left : (c : Else-is_some_and) → next_interval_at c.args.version c.args.nodes c.args.before c.args.bytes.now.now ≡ (pages_at c.args.version
    c.read_stamp.new.bytes.now >>= λ pages. Ok (record { node = c.in_ok-node.node; stamp = c.read_stamp.new.stamp; pages = pages.0 }, pages.1))
pages_left c =
    but_pages c.args.version c.args.nodes c.args.before c.args.bytes.now.now c.in_ok-node.node c.read_u8.new.bytes.now c.in_ok-node.ensures
    c.if-node-nodes.false c.read_stamp.new.stamp c.read_stamp.new.bytes.now
    (rw (ap length c.new-stamp.ensures ∙ length-replicate c.args.nodes 0) at c.in_ok-read_stamp.ensures.exact) (after c)

pub returns-in_err-node : goal.returns-in_err-node
returns-in_err-node c =
    let p = err_from_is_err_and c.from_residual.result c.from_residual.ensures.1 in
    rw (p.1, p.2) (λ other. no_node c.args.version c.args.nodes c.args.before c.args.bytes.now.now _ (c.in_err-node.ensures other))

pub returns-then-node-nodes : goal.returns-then-node-nodes
returns-then-node-nodes c = λ _.
    bad_node c.args.version c.args.nodes c.args.before c.args.bytes.now.now c.in_ok-node.node c.read_u8.new.bytes.now c.in_ok-node.ensures c.if-node-nodes.true

pub returns-in_err-push : goal.returns-in_err-push
returns-in_err-push c =
    let p = err_from_is_err_and c.from_residual-in_err-push.result c.from_residual-in_err-push.ensures.1 in
    rw (p.1, p.2) (λ other. absurd (other refl))

pub returns-in_err-read_stamp : goal.returns-in_err-read_stamp
returns-in_err-read_stamp c =
    let p = err_from_is_err_and c.from_residual-in_err-read_stamp.result c.from_residual-in_err-read_stamp.ensures.1 in
    let read = rw (ap length c.new-stamp.ensures ∙ length-replicate c.args.nodes 0) at c.in_err-read_stamp.ensures.exact in
    rw (p.1, p.2) (λ other. stamp_wrong c.args.version c.args.nodes c.args.before c.args.bytes.now.now c.in_ok-node.node c.read_u8.new.bytes.now
    c.in_ok-node.ensures c.if-node-nodes.false _ (read other))

pub returns-then-is_some_and : goal.returns-then-is_some_and
unfolding is_after
returns-then-is_some_and c =
    let read = rw (ap length c.new-stamp.ensures ∙ length-replicate c.args.nodes 0) at c.in_ok-read_stamp.ensures.exact in
    let late : is_after is_below c.args.before (c.in_ok-node.node, entry c.read_stamp.new.stamp c.in_ok-node.node) ≡ false = grind (arith, common_steps) in
    λ _. not_after c.args.version c.args.nodes c.args.before c.args.bytes.now.now c.in_ok-node.node c.read_u8.new.bytes.now
    c.in_ok-node.ensures c.if-node-nodes.false c.read_stamp.new.stamp c.read_stamp.new.bytes.now read late

pub returns-in_err-read_pages : goal.returns-in_err-read_pages
returns-in_err-read_pages c =
    let p = err_from_is_err_and c.from_residual-in_err-read_pages.result c.from_residual-in_err-read_pages.ensures.1 in
    rw (p.1, p.2) (λ other. pages_left (goal.at.returns-in_err-read_pages c).Else-is_some_and ∙ rw (c.in_err-read_pages.ensures other) refl)

pub returns : goal.returns
returns c = (
  c.new.result,
  pages_left (goal.at.returns c).Else-is_some_and ∙ rw (c.in_ok-read_pages.ensures, c.new.ensures) refl,
  c.in_ok-push.ensures.items,
  rw (c.new.ensures, c.at.ensures) refl,
)

pub read_stamp-requires : goal.read_stamp-requires
read_stamp-requires c = rw (ap length c.new-stamp.ensures ∙ length-replicate c.args.nodes 0) c.if-node-nodes.false

pub at-requires : goal.at-requires
at-requires c =
    rw (c.in_ok-read_stamp.ensures.long ∙ ap length c.new-stamp.ensures ∙ length-replicate c.args.nodes 0) c.if-node-nodes.false

pub new-requires : goal.new-requires
new-requires c = record {
  counted = rw (c.in_ok-read_stamp.ensures.long ∙ ap length c.new-stamp.ensures ∙ length-replicate c.args.nodes 0) c.if-node-nodes.false;
  begun = c.in_ok-read_stamp.ensures.begun;
}
