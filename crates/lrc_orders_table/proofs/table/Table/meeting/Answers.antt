use Rattle.std.proofs.Common.{◌≡◌, ◌∙◌, ◌<◌, sym, ap, arith}
use Rattle.lrc_exec.specs.States.{plain_at}
use Rattle.lrc_orders.proofs.Pairs.{calm_more, calm_more_none, all_calm, least_pair}
use Rattle.lrc_orders_table.specs.Shared.{access_by}
use Rattle.lrc_orders_table.proofs.Seeing.{access_known, spots_count}
use Rattle.lrc_orders_table.proofs.table.Table.meeting.Goals as goal

pub loop-p-preserved-in_default : goal.loop-p-preserved-in_default
loop-p-preserved-in_default c = λ means key known of.
    let table = c.args.self.now in
    let row = c.args.row.now in
    let p = c.loop-p.p in
    let lt : p < table.rows.nodes = omega (arith, c.loop-p-test.true, c.loop-p.auto.p-end) in
    calm_more_none (plain_at means.flat key.state) p (c.loop-p.invariant means key known of)
    (sym c.in_default.is ∙ c.access_of.ensures ∙ ap access_by c.next.ensures.at ∙ access_known means table row key known of p lt)

pub loop-p-preserved : goal.loop-p-preserved
loop-p-preserved c = λ means key known of.
    let table = c.args.self.now in
    let row = c.args.row.now in
    let p = c.loop-p.p in
    let lt : p < table.rows.nodes = omega (arith, c.loop-p-test.true, c.loop-p.auto.p-end) in
    calm_more means.flat key.state p c.in-Some.word c.in-Some.writes (c.loop-p.invariant means key known of)
    (sym c.in-Some.is ∙ c.access_of.ensures ∙ ap access_by c.next.ensures.at ∙ access_known means table row key known of p lt)
    (c.in_default-partner.ensures means key known of)

pub returns : goal.returns
returns c = λ means key known of.
    let table = c.args.self.now in
    let row = c.args.row.now in
    let p = c.loop-p.p in
    let past : table.rows.nodes ≡ p = omega (arith, c.loop-p-test.false, c.loop-p.auto.p-end) in
    all_calm means.flat key.state p (spots_count means table row key known of ∙ past) (c.loop-p.invariant means key known of)

pub returns-in-Some-partner : goal.returns-in-Some-partner
returns-in-Some-partner c = λ means key known of.
    let table = c.args.self.now in
    let row = c.args.row.now in
    let machine = plain_at means.flat key.state in
    let p = c.loop-p.p in
    let q = c.in-Some-partner.q in
    let lt : p < table.rows.nodes = omega (arith, c.loop-p-test.true, c.loop-p.auto.p-end) in
    let e = c.in-Some-partner.ensures means key known of in
    let is = sym c.in-Some.is ∙ c.access_of.ensures ∙ ap access_by c.next.ensures.at ∙ access_known means table row key known of p lt in
    let above = e.0 in (
      above,
      record {
        apart = λ same. omega (arith, above, same);
        word = c.in-Some.word;
        first_writes = c.in-Some.writes;
        second_writes = e.1.writes;
        first = sym is;
        second = e.1.access;
        writes = e.1.either;
      },
      least_pair machine p q c.in-Some.word c.in-Some.writes (c.loop-p.invariant means key known of) is e.2,
    )
