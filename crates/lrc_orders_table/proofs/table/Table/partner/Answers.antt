use Rattle.std.proofs.Common.{◌≡◌, ◌∙◌, ◌<◌, true, false, sym, ap, arith}
use Rattle.std.specs.Prelude.{Some}
use Rattle.lrc_exec.specs.States.{plain_at}
use Rattle.lrc_orders.proofs.Pairs.{none_more, none_more_none}
use Rattle.lrc_orders_table.specs.Shared.{access_by}
use Rattle.lrc_orders_table.proofs.Seeing.{access_known, spots_count}
use Rattle.lrc_orders_table.proofs.table.Table.partner.Goals as goal

pub loop-q-preserved-in_default : goal.loop-q-preserved-in_default
loop-q-preserved-in_default c = λ means key known of.
    let table = c.args.self.now in
    let row = c.args.row.now in
    let q = c.loop-q.q in
    let lt : q < table.rows.nodes = omega (arith, c.loop-q-test.true, c.loop-q.auto.q-end) in
    none_more_none (plain_at means.flat key.state) c.args.p q c.args.word c.args.writes (c.loop-q.invariant means key known of)
    (sym c.in_default.is ∙ c.access_of.ensures ∙ ap access_by c.next.ensures.at ∙ access_known means table row key known of q lt)

pub loop-q-preserved : goal.loop-q-preserved
loop-q-preserved c = λ means key known of.
    let table = c.args.self.now in
    let row = c.args.row.now in
    let q = c.loop-q.q in
    let lt : q < table.rows.nodes = omega (arith, c.loop-q-test.true, c.loop-q.auto.q-end) in
    none_more (plain_at means.flat key.state) c.args.p q c.args.word c.in-Some.other c.in-Some.also c.args.writes (c.loop-q.invariant means key known of)
    (sym c.in-Some.is ∙ c.access_of.ensures ∙ ap access_by c.next.ensures.at ∙ access_known means table row key known of q lt)
    (λ same either. let t = c.joins.ensures.1 (same, either) in let x : true ≡ false = sym t ∙ c.if-joins.false in cc)

pub returns-then-joins : goal.returns-then-joins
returns-then-joins c = λ means key known of.
    let table = c.args.self.now in
    let row = c.args.row.now in
    let q = c.loop-q.q in
    let lt : q < table.rows.nodes = omega (arith, c.loop-q-test.true, c.loop-q.auto.q-end) in
    let joined = c.joins.ensures.0 c.if-joins.true in
    let is = sym c.in-Some.is ∙ c.access_of.ensures ∙ ap access_by c.next.ensures.at ∙ access_known means table row key known of q lt in (
      omega (arith, c.loop-q.auto.q),
      record { writes = c.in-Some.also; access = sym is ∙ ap (λ w. Some (w, c.in-Some.also)) joined.0; either = joined.1 },
      c.loop-q.invariant means key known of,
    )

pub returns : goal.returns
returns c = λ means key known of q above below is.
    let table = c.args.self.now in
    let row = c.args.row.now in
    let before : q < c.loop-q.q = omega (arith, below, spots_count means table row key known of, c.loop-q-test.false, c.loop-q.auto.q-end) in
    c.loop-q.invariant means key known of q above before is
