use Rattle.std.proofs.Common.{inl, inr, arith, ap}
use Rattle.std.proofs.lemmas.Bool.{cases_eq, cases_lt}
use Rattle.lrc_exec.specs.States.{plain_at}
use Rattle.lrc_lazy.specs.Standing.{departures_of}
use Rattle.lrc_lazy_search.proofs.state.LazyState.gone.Goals as goal

pub loop-node-preserved : goal.loop-node-preserved
loop-node-preserved c =
    let machine = plain_at c.args.flat.now c.args.self.now.state in
    let i = c.loop-node.invariant in
    let node = c.loop-node.node in
    let gone = c.loop-node.gone in
    let new = c.min-gone.result in
    let most = c.departures.result in
    let here = c.departures.ensures in
    let is = c.min-gone.ensures in
    record {
      most = λ n lt. elim (cases_eq n node) [
        | inl same ↦ let own = ap (departures_of machine) same in omega (arith, is, here, own)
        | inr apart ↦ let before = i.most n (omega (arith, lt, apart)) in omega (arith, is, before)
      ];
      whole = λ none. absurd (omega (arith, none));
      least = λ some. elim (cases_lt most gone) [
        | inl lt ↦ (node, omega arith, omega (arith, is, lt, here))
        | inr le ↦ elim (cases_eq node 0) [
          | inl first ↦
              let whole = i.whole first in
              (node, omega arith, omega (arith, is, le, here, whole, c.departures.type_inv))
          | inr later ↦
              let found = i.least (omega (arith, later)) in
              let within = found.1 in
              let least = found.2 in
              (found.0, omega (arith, within), omega (arith, is, le, least))
        ]
      ];
    }
