-- What is looked for is found from here on, if anywhere.
use Rattle.std.proofs.Common.{◌≡◌, map, drop}
use Rattle.std.specs.Prelude.{find}
use Rattle.lrc_lint_warned.specs.Found.{NodeAt, node_seen}
use Rattle.lrc_lint_warned.specs.Names.{is_name}
use Rattle.lrc_lint_warned.proofs.names.first_read.Given as goal

abbrev pub invariant-loop-n : goal.invariant-loop-n
invariant-loop-n l =
    find (λ (n : NodeAt). is_name l.name n.node) (map node_seen l.nodes) ≡ find (λ (n : NodeAt). is_name l.name n.node) (map node_seen (drop l.n-index l.nodes))
