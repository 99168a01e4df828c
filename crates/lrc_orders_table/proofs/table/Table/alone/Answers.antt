use Rattle.std.proofs.Common.{◌∙◌, sym}
use Rattle.lrc_orders.specs.declared.noted.Noted.{Noted}
use Rattle.lrc_orders.proofs.Faults.{fault_up}
use Rattle.lrc_orders_table.specs.Tables.{IsLongFault, IsTakenFrom, KeepsIfLong}
use Rattle.lrc_orders_table.proofs.Alone.{cannot_alone, leads_alone, long_from, makes, makes_on}
use Rattle.lrc_orders_table.proofs.RowNodes.{node_at}
use Rattle.lrc_orders_table.proofs.Seeing.{given_there}
use Rattle.lrc_orders_table.proofs.table.Table.alone.Goals as goal

pub returns-in_default-clause-taken : goal.returns-in_default-clause-taken
returns-in_default-clause-taken c = λ key from.
    let means = c.args.means.now in
    let table = c.args.self.now in
    let row = c.args.row.now in
    let at = node_at table row key c.args.node from.of.stands c.requires.node in
    cannot_alone means key c.args.node at.spot at.here
    (given_there means table row key c.requires.table from.of c.args.node at.spot at.here ∙ sym (c.given.ensures key.state.memory.items key.state.holders.items from.of.stands.shared) ∙ c.in_default.is)

pub gone-requires-clause-row : goal.gone-requires-clause-row
gone-requires-clause-row c =
    let means = c.args.means.now in
    let table = c.args.self.now in
    let row = c.args.row.now in
    let (key, from) = c.requires.from in
    let at = node_at table row key c.args.node from.of.stands c.requires.node in
    record {
      key = key;
      of = from.of;
      spot = at.spot;
      here = at.here;
      goes = makes_on means key c.args.node at.spot at.here c.in-Some.value (makes means key c.args.node at.spot at.here c.in-Some.value
          (given_there means table row key c.requires.table from.of c.args.node at.spot at.here ∙ sym (c.given.ensures key.state.memory.items key.state.holders.items from.of.stands.shared) ∙ c.in-Some.is));
    }

pub returns-in_err-led-clause-faults : goal.returns-in_err-led-clause-faults
returns-in_err-led-clause-faults c =
    let means = c.args.means.now in
    let table = c.args.self.now in
    let row = c.args.row.now in
    let fault = c.in_err-led.field-0.0 in
    fault_up c.from_residual.result fault (λ f. (key : Noted) → IsTakenFrom means table row key → IsLongFault means key f) c.from_residual.ensures.1
    (λ key from.
    let at = node_at table row key c.args.node from.of.stands c.requires.node in
    let made = makes means key c.args.node at.spot at.here c.in-Some.value
    (given_there means table row key c.requires.table from.of c.args.node at.spot at.here ∙ sym (c.given.ensures key.state.memory.items key.state.holders.items from.of.stands.shared) ∙ c.in-Some.is) in
    let long = c.in_err-led.ensures.faults key from.of in
    record {
      nodes = long.nodes;
      many = λ e. long_from means key c.args.node at.spot at.here c.in-Some.value made (long.many e at.spot at.here);
    })

pub returns-clause-taken : goal.returns-clause-taken
returns-clause-taken c = λ key from.
    let means = c.args.means.now in
    let table = c.args.self.now in
    let row = c.args.row.now in
    let g = c.in_ok-led.ensures.gone key from.of in
    leads_alone means c.requires.means c.gone.new.self c.in_ok-led.led key c.args.node c.in-Some.value g
    (given_there means table row key c.requires.table from.of c.args.node g.spot g.here ∙ sym (c.given.ensures key.state.memory.items key.state.holders.items from.of.stands.shared) ∙ c.in-Some.is) from.settled

pub returns-in_err-led-clause-long : goal.returns-in_err-led-clause-long
returns-in_err-led-clause-long c =
    fault_up c.from_residual.result c.in_err-led.field-0.0
    (KeepsIfLong c.args.means.now c.args.self.now c.gone.new.self) c.from_residual.ensures.1 c.in_err-led.ensures.long
