use Rattle.std.proofs.Common.{◌≡◌, [], map, take}
use Rattle.std.specs.Prelude.{slice_index_or}
use Rattle.lrc_weave.specs.Compared.{puts_in}
use Rattle.lrc_weave.proofs.lines.Lines.of.Given as goal

abbrev pub invariant-loop-own : goal.invariant-loop-own
invariant-loop-own l =
    map (λ line. map (λ wire. wire.now) line.now) l.lines.items ≡ map (λ own. slice_index_or (puts_in own) l.node []) (take l.own-index l.puts)
