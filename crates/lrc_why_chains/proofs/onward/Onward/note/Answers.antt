-- Each arm keeps what the definition of the starts says, one position further.
use Rattle.std.proofs.Common.{◌≡◌, ◌≤◌, get_or, sym, arith, ◌∙◌, ap, refl}
use Rattle.lrc_trace.specs.declared.act.Act.{Act}
use Rattle.lrc_trace.specs.declared.act.Deed.TheVariants.{Quiet, Acquire}
use Rattle.lrc_trace.specs.Run.{Does}
use Rattle.lrc_trace.proofs.Positions.{Does-read, Does-node, Does-deed}
use Rattle.lrc_why_chains.specs.Known.{IsActOf}
use Rattle.lrc_why_chains.specs.Onward.{EachBest}
use Rattle.std.specs.Prelude.{slice_set}
use Rattle.lrc_why_chains.proofs.Gates.{departs-bound, nodes-next, acquires-next, departs-next, acquires-same, departs-same}
use Rattle.lrc_why_chains.proofs.onward.Onward.note.Goals as goal
use Rattle.lrc_why_chains.proofs.onward.Onward.note.Goals.{After-better}

-- the act at the position
abbrev act_at : After-better → Act
act_at c = get_or c.args.acts.now c.args.position (record { node = 0; deed = Quiet })

here : (c : After-better) → Does c.args.acts.now c.args.position c.from-node.result (act_at c).deed
here c = Does-node (sym c.from-node.ensures) (Does-read c.args.acts.now c.args.position (record { node = 0; deed = Quiet }) c.requires.within)

nodes : (c : After-better) → EachBest c.args.acts.now c.args.to (λ node k. (c.args.position ≤ k) × IsActOf c.args.acts.now node k)
    (slice_set c.args.self.now.nodes.items c.from-node.result c.better.result)
nodes c = nodes-next c.args.acts.now c.args.to c.args.position c.from-node.result (act_at c).deed (here c) c.args.start c.requires.start
    c.args.self.now.nodes.items c.from-node.result c.index.result.now c.better.result c.index.ensures (omega (arith, c.args.self.now.all_nodes))
    c.better.ensures refl c.requires.onward.nodes

pub index-requires-in-Depart : goal.index-requires-in-Depart
index-requires-in-Depart c =
    let b = (goal.at.index-requires-in-Depart c).After-better in
    let number = c.requires.numbers.departs c.args.position c.from-node.result (Does-deed c.in-Depart.is (here b)) in
    let bound = departs-bound c.args.acts.now c.from-node.result c.args.position (omega (arith, c.requires.within)) in
    omega (arith, number, bound, c.requires.most, c.requires.within)

pub index_mut-requires-in-Depart : goal.index_mut-requires-in-Depart
index_mut-requires-in-Depart c =
    let b = (goal.at.index_mut-requires-in-Depart c).After-better in
    let number = c.requires.numbers.departs c.args.position c.from-node.result (Does-deed c.in-Depart.is (here b)) in
    let bound = departs-bound c.args.acts.now c.from-node.result c.args.position (omega (arith, c.requires.within)) in
    omega (arith, number, bound, c.requires.most, c.requires.within)

pub returns-in-Acquire-clause-onward : goal.returns-in-Acquire-clause-onward
returns-in-Acquire-clause-onward c =
    let b = (goal.at.returns-in-Acquire-clause-onward c).After-better in
    let deed = (act_at b).deed in
    let is : deed ≡ Acquire c.from-lock.result = c.in-Acquire.is ∙ ap (λ l. Acquire l) (sym c.from-lock.ensures) in
    record {
      nodes = nodes b;
      acquires = acquires-next c.args.acts.now c.args.to c.args.position c.from-node.result deed (here b) c.args.start c.requires.start
          c.args.self.now.acquires.items c.from-lock.result c.index-in-Acquire.result.now c.better-in-Acquire.result c.index-in-Acquire.ensures
          (omega (arith, c.args.self.now.all_acquires)) c.better-in-Acquire.ensures is c.requires.onward.acquires;
      departs = departs-same c.args.acts.now c.args.to c.args.position c.from-node.result deed (here b) c.args.start c.requires.start
          c.args.self.now.departs.items (λ e. cc) c.requires.onward.departs;
    }

pub returns-in-Depart-clause-onward : goal.returns-in-Depart-clause-onward
returns-in-Depart-clause-onward c =
    let b = (goal.at.returns-in-Depart-clause-onward c).After-better in
    let deed = (act_at b).deed in
    let number = c.requires.numbers.departs c.args.position c.from-node.result (Does-deed c.in-Depart.is (here b)) in
    let bound = departs-bound c.args.acts.now c.from-node.result c.args.position (omega (arith, c.requires.within)) in
    record {
      nodes = nodes b;
      acquires = acquires-same c.args.acts.now c.args.to c.args.position c.from-node.result deed (here b) c.args.start c.requires.start
          c.args.self.now.acquires.items (λ l e. cc) c.requires.onward.acquires;
      departs = departs-next c.args.acts.now c.args.to c.args.position c.from-node.result deed (here b) c.args.start c.requires.start
          c.args.self.now.departs.items (get_or c.args.numbers.now c.args.position 0) c.index-in-Depart.result.now c.better-in-Depart.result
          c.index-in-Depart.ensures (omega (arith, number, bound, c.requires.most, c.requires.within)) c.better-in-Depart.ensures c.in-Depart.is number
          c.requires.onward.departs;
    }

pub returns-in_default : goal.returns-in_default
returns-in_default c =
    let b = (goal.at.returns-in_default c).After-better in
    let deed = (act_at b).deed in
    record {
      onward = record {
        nodes = nodes b;
        acquires = acquires-same c.args.acts.now c.args.to c.args.position c.from-node.result deed (here b) c.args.start c.requires.start
            c.args.self.now.acquires.items c.in_default.not-Acquire c.requires.onward.acquires;
        departs = departs-same c.args.acts.now c.args.to c.args.position c.from-node.result deed (here b) c.args.start c.requires.start
            c.args.self.now.departs.items c.in_default.not-Depart c.requires.onward.departs;
      };
      most = c.requires.most;
    }
