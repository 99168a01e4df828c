-- Deeds, values aside.
use Rattle.std.specs.Prelude.{◌≡◌, ◌⊎◌}
use Rattle.lrc_trace.specs.declared.act.Act.{Act}
use Rattle.lrc_trace.specs.declared.act.Deed.{Deed}
use Rattle.lrc_trace.specs.declared.act.Deed.TheVariants.{Depart, Print, Read, Write}
use Rattle.lrc_exec.specs.declared.machine.Ask.{Ask}
use Rattle.lrc_exec.specs.declared.machine.Ask.TheVariants.{Barrier}
use Rattle.lrc_exec.specs.Ask.{deed_asked}

-- a deed without its value
abbrev pub bare : Deed → Deed
bare (Print value) = Print 0
bare (Read word value) = Read word 0
bare (Write word value) = Write word 0
bare deed = deed

abbrev pub bare_act : Act → Act
bare_act act = record { node = act.node; deed = bare act.deed }

-- a thread that asks for this makes this deed next, values aside; from a barrier it departs, too, where it has arrived there
abbrev pub IsAsked : Ask → Deed → Type 0
IsAsked ask deed = (bare (deed_asked 0 ask) ≡ bare deed) ⊎ ((ask ≡ Barrier) × (deed ≡ Depart))
