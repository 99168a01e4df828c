-- Each arm hands on what the definition of the base order asks for.
use Rattle.std.proofs.Common.{◌≡◌, ◌<◌, length, get_or, sym, arith, subst}
use Rattle.lrc_trace.specs.declared.act.Act.{Act}
use Rattle.lrc_trace.specs.declared.act.Deed.TheVariants.{Quiet}
use Rattle.lrc_trace.specs.Run.{Does, departs_before}
use Rattle.lrc_trace.proofs.Positions.{Does-read, Does-node}
use Rattle.lrc_judge.specs.Past.{Gathers, Acted, Released, Arrived}
use Rattle.lrc_judge.proofs.HandedOn.{handed_to_others, handed_to_acquire, handed_to_depart, handed_to_lone_depart}
use Rattle.lrc_judge.proofs.past.Past.handed_to.Goals as goal
use Rattle.lrc_judge.proofs.past.Past.handed_to.Goals.{After-index-self-node}

-- the act at the position
abbrev act_at : After-index-self-node → Act
act_at c = get_or c.args.acts.now c.args.position (record { node = 0; deed = Quiet })

here : (c : After-index-self-node) → Does c.args.acts.now c.args.position c.from-node.result (act_at c).deed
here c = Does-node (sym c.from-node.ensures) (Does-read c.args.acts.now c.args.position (record { node = 0; deed = Quiet }) c.requires.within)

node_within : (c : After-index-self-node) → c.from-node.result < 16
node_within c = let below = c.requires.nodes c.args.position (record { node = 0; deed = Quiet }) c.requires.within in omega (arith, below, c.from-node.ensures)

-- what the node's own acts are reached by
own : (c : After-index-self-node) → Gathers c.args.acts.now (Acted c.args.acts.now c.args.position c.from-node.result)
    (get_or c.args.self.now.acted c.from-node.result c.index-self-node.result)
own c = let within = node_within c in c.requires.past.acted c.from-node.result c.index-self-node.result (omega (arith, c.args.self.now.all_acted))

departs : (c : After-index-self-node) → get_or c.args.self.now.departs c.from-node.result 0 ≡ departs_before c.args.acts.now c.from-node.result c.args.position
departs c = let within = node_within c in c.requires.past.departs c.from-node.result (omega (arith, c.args.self.now.all_departs))

pub returns-in-Acquire : goal.returns-in-Acquire
returns-in-Acquire c =
    let b = (goal.at.returns-in-Acquire c).After-index-self-node in
    let within : c.from.result < length c.args.self.now.released.items = omega (arith, c.args.self.now.all_released) in
    let found = c.requires.past.released c.from.result c.index.result.now within in
    let released = subst (λ l. Gathers c.args.acts.now (Released c.args.acts.now c.args.position l) c.index.result.now)
    c.from.ensures (rw (← c.index.ensures) at found) in
    handed_to_acquire c.args.acts.now c.args.position c.from-node.result _ (here b) _
    (own b) c.in-Acquire.lock c.index.result.now c.joined.result c.in-Acquire.is released c.joined.ensures

pub returns-in-Some : goal.returns-in-Some
returns-in-Some c =
    let b = (goal.at.returns-in-Some c).After-index-self-node in
    let number = get_or c.args.self.now.departs c.from-node.result 0 in
    let lookup = c.in-Some.ensures.lookup in
    let read : c.in-Some.arrived.now ≡ get_or c.args.self.now.arrived.items number c.in-Some.arrived.now = rw (← c.deref.ensures.value) lookup.1 in
    let within : number < length c.args.self.now.arrived.items = rw (← c.deref.ensures.value) lookup.3.0 in
    let found = c.requires.past.arrived number c.in-Some.arrived.now within in
    let arrived = subst (λ e. Gathers c.args.acts.now (Arrived c.args.acts.now c.args.position e) c.in-Some.arrived.now) (departs b) (rw (← read) at found) in
    handed_to_depart c.args.acts.now c.args.position c.from-node.result _ (here b) _
    (own b) c.in-Some.arrived.now c.joined-in-Some.result c.in-Depart.is arrived c.joined-in-Some.ensures

pub returns-in-None : goal.returns-in-None
returns-in-None c =
    let b = (goal.at.returns-in-None c).After-index-self-node in
    let past = c.in-None.ensures.lookup.3 in
    let long = c.deref.ensures.len in
    let number = departs b in
    handed_to_lone_depart c.args.acts.now c.args.position c.from-node.result _ (here b) _ (own b) c.in-Depart.is
    (λ p. let kept = c.requires.past.all_kept p in omega arith)

pub returns-in_default : goal.returns-in_default
returns-in_default c =
    let b = (goal.at.returns-in_default c).After-index-self-node in
    handed_to_others c.args.acts.now c.args.position c.from-node.result _ (here b) _ (own b) c.in_default.not-Acquire c.in_default.not-Depart
