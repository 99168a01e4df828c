-- What is put so far, and what is to come.
use Rattle.std.proofs.Common.{◌≡◌, List, ◌++◌}
use Rattle.lrc_trace.specs.declared.act.Act.{Act}
use Rattle.lrc_orders_table.specs.Links.{HaveChain, IsChain}
use Rattle.lrc_orders_table.proofs.notes.Notes.put_back.Given as goal

abbrev pub invariant-loop-at : goal.invariant-loop-at
invariant-loop-at l = record {
  there : HaveChain l.self.links.keys l.at;
  all : (late : List Act) → IsChain l.self.links.keys l.number late
      → (rest : List Act) × IsChain l.self.links.keys l.at rest × (l.acts.items ++ rest ≡ l.initial.acts.items ++ late);
}

abbrev pub decreases-loop-at : goal.decreases-loop-at
decreases-loop-at l = l.at
