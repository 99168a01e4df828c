-- What a run does, but for the values that it prints, reads and writes.
use Rattle.std.specs.Prelude.{◌≡◌, List, map}
use Rattle.lrc_trace.specs.declared.act.Act.{Act}
use Rattle.lrc_trace.specs.declared.act.Deed.{Deed}
use Rattle.lrc_trace.specs.declared.act.Deed.TheVariants.{Print, Read, Write}
use Rattle.lrc_trace.specs.Run.{act_of}

-- the deed with 0 in place of its value
abbrev pub without_value : Deed → Deed
without_value (Print value) = Print 0
without_value (Read word value) = Read word 0
without_value (Write word value) = Write word 0
without_value deed = deed

-- the acts with 0 in place of each value
abbrev pub outline : List Act → List Act
outline run = map (λ a. act_of a.node (without_value a.deed)) run

-- the runs are equally long, and at each position the same node does the same in both, but for the value
abbrev pub SameButValues : List Act → List Act → Type 0
SameButValues run other = outline run ≡ outline other
