-- Each arm takes what the definition of the base order asks for.
use Rattle.std.proofs.Common.{ℕ, ◌+◌, ◌≤◌, get_or, sym, subst, arith, ◌∙◌, ap}
use Rattle.lrc_trace.specs.declared.act.Act.{Act}
use Rattle.lrc_trace.specs.declared.act.Deed.TheVariants.{Quiet, Release}
use Rattle.lrc_trace.specs.Run.{Does}
use Rattle.lrc_trace.proofs.Positions.{Does-read, Does-node, Does-deed}
use Rattle.lrc_why_chains.specs.Starts.{IsBest}
use Rattle.lrc_why_chains.specs.Known.{IsActOf}
use Rattle.lrc_why_chains.specs.Onward.{IsAcquireOf, IsDepartOf}
use Rattle.lrc_why_chains.proofs.Gates.{from_others, from_release, from_arrive, arrives-bound, read-best}
use Rattle.lrc_why_chains.proofs.onward.Onward.best_from.Goals as goal
use Rattle.lrc_why_chains.proofs.onward.Onward.best_from.Goals.{After-index-own}

-- the act at the position
abbrev act_at : After-index-own → Act
act_at c = get_or c.args.acts.now c.args.position (record { node = 0; deed = Quiet })

here : (c : After-index-own) → Does c.args.acts.now c.args.position c.from.result (act_at c).deed
here c = Does-node (sym c.from.ensures) (Does-read c.args.acts.now c.args.position (record { node = 0; deed = Quiet }) c.requires.within)

pub index-requires-in-Arrive : goal.index-requires-in-Arrive
index-requires-in-Arrive c =
    let b = (goal.at.index-requires-in-Arrive c).After-index-own in
    let number = c.requires.numbers.arrives c.args.position c.from.result (Does-deed c.in-Arrive.is (here b)) in
    let bound = arrives-bound c.args.acts.now c.from.result c.args.position (omega (arith, c.requires.within)) in
    omega (arith, number, bound, c.requires.most, c.requires.within)

-- what is read of the table of nodes
own : (c : After-index-own) → IsBest c.args.acts.now c.args.to (λ k. (c.args.position + 1 ≤ k) × IsActOf c.args.acts.now c.from.result k) c.index-own.result.now
own c = read-best c.args.acts.now c.args.to (λ node k. (c.args.position + 1 ≤ k) × IsActOf c.args.acts.now node k) c.args.self.now.nodes.items
    c.from.result c.index-own.result.now (c.index-own.ensures) (omega (arith, c.args.self.now.all_nodes)) c.requires.onward.nodes

pub returns-in_default : goal.returns-in_default
returns-in_default c =
    let b = (goal.at.returns-in_default c).After-index-own in
    from_others c.args.acts.now c.args.to c.args.position c.from.result _ (here b) _ (own b) c.in_default.not-Release c.in_default.not-Arrive

pub returns-in-Release : goal.returns-in-Release
returns-in-Release c =
    let b = (goal.at.returns-in-Release c).After-index-own in
    let acquires = read-best c.args.acts.now c.args.to (λ l k. (c.args.position + 1 ≤ k) × IsAcquireOf c.args.acts.now l k) c.args.self.now.acquires.items
    c.from-in-Release.result c.index.result.now (c.index.ensures) (omega (arith, c.args.self.now.all_acquires)) c.requires.onward.acquires in
    let is = c.in-Release.is ∙ ap (λ l. Release l) (sym c.from-in-Release.ensures) in
    rw c.better.ensures (from_release c.args.acts.now c.args.to c.args.position c.from.result _ (here b) _ (own b) c.from-in-Release.result
    c.index.result.now is acquires)

pub returns-in-Arrive : goal.returns-in-Arrive
returns-in-Arrive c =
    let b = (goal.at.returns-in-Arrive c).After-index-own in
    let number = c.requires.numbers.arrives c.args.position c.from.result (Does-deed c.in-Arrive.is (here b)) in
    let bound = arrives-bound c.args.acts.now c.from.result c.args.position (omega (arith, c.requires.within)) in
    let departs = read-best c.args.acts.now c.args.to (λ e k. (c.args.position + 1 ≤ k) × IsDepartOf c.args.acts.now e k) c.args.self.now.departs.items
    (get_or c.args.numbers.now c.args.position 0) c.index-in-Arrive.result.now (c.index-in-Arrive.ensures)
    (omega (arith, number, bound, c.requires.most, c.requires.within)) c.requires.onward.departs in
    let same = subst (λ (e : ℕ). IsBest c.args.acts.now c.args.to (λ k. (c.args.position + 1 ≤ k) × IsDepartOf c.args.acts.now e k)
    c.index-in-Arrive.result.now) number departs in
    rw c.better-in-Arrive.ensures (from_arrive c.args.acts.now c.args.to c.args.position c.from.result _ (here b) _ (own b) c.index-in-Arrive.result.now
    c.in-Arrive.is same)
