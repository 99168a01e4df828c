-- Where a node stands after the acts of a run: how it ended, and what comes next.
use Rattle.std.specs.Prelude.{ℕ, ◌+◌, ◌==◌, ◌&&◌, not, Bool, true, false, List, Option, Some, None, fold, map, if◌then◌else◌, nat_le, nat_lt}
use Rattle.std.specs.List.{range_with_len}
use Rattle.lrc_program.specs.declared.Program.{Program}
use Rattle.lrc_trace.specs.declared.act.Act.{Act}
use Rattle.lrc_trace.specs.declared.act.Deed.{Deed}
use Rattle.lrc_trace.specs.declared.act.Deed.TheVariants as deeds
use Rattle.lrc_trace.specs.Run.{count_of, is_arrive, is_depart}
use Rattle.lrc_exec.specs.declared.machine.Ask.{Ask}
use Rattle.lrc_exec.specs.declared.machine.Ask.TheVariants as asks
use Rattle.lrc_exec.specs.Ask.{ask_of}
use Rattle.lrc_exec.specs.Meaning.{next_of}
use Rattle.lrc_lines.specs.Walks.{walk_behind, line_behind, act_lines}
use Rattle.lrc_explain_waits.specs.declared.stand.Fate.{Fate}
use Rattle.lrc_explain_waits.specs.declared.stand.Fate.TheVariants.{Ended, Trapped, Unfinished}
use Rattle.lrc_explain_waits.specs.declared.stand.Coming.{Coming}
use Rattle.lrc_explain_waits.specs.declared.stand.Coming.TheVariants.{StepsUsedUp, Trap, Acquire, Barrier, Read, Write, Print, Release, Quiet, End}
use Rattle.lrc_explain_waits.specs.declared.stand.Stand.{Stand}
use Rattle.lrc_explain_waits.specs.Holder.{holder_of}

-- how a node ended, which a trap or an end of its own decides
abbrev pub fate_after : Fate → Deed → Fate
fate_after fate (deeds.Trap cause) = Trapped cause
fate_after fate deeds.End = Ended
fate_after fate _ = fate

abbrev pub fate_of : ℕ → List Act → Fate
fate_of node acts = fold (λ fate act. if act.node == node then fate_after fate act.deed else fate) Unfinished acts

-- whether a deed took a step: all but a depart and the end did
abbrev pub costs : Deed → Bool
costs deeds.Depart = false
costs deeds.End = false
costs _ = true

-- whether a node that has taken so many steps has no more; where no number of steps is given, it always has
abbrev pub is_used_up : Option ℕ → ℕ → Bool
is_used_up None spent = false
is_used_up (Some steps) spent = nat_le steps spent

-- whether what is asked for takes a step: the end does not, nor does a barrier to which the node has come
abbrev pub takes_step : (arrived : Bool) → Ask → Bool
takes_step arrived asks.End = false
takes_step arrived asks.Barrier = not arrived
takes_step arrived _ = true

-- what comes next of a node that has steps left, and has departed from so many barriers
abbrev pub coming_by : (departs : ℕ) → List Act → (lines : List ℕ) → Ask → Coming
coming_by departs acts lines asks.Quiet = Quiet
coming_by departs acts lines (asks.Print value) = Print
coming_by departs acts lines (asks.Read word) = Read word
coming_by departs acts lines (asks.Write word value) = Write word
coming_by departs acts lines (asks.Acquire lock) = Acquire lock (holder_of lock acts lines)
coming_by departs acts lines (asks.Release lock) = Release lock
coming_by departs acts lines asks.Barrier = Barrier (departs + 1)
coming_by departs acts lines (asks.Trap cause) = Trap cause
coming_by departs acts lines asks.End = End

-- what comes next of a node whose thread asks for this; the acts are of these lines
abbrev pub coming_of : (steps : Option ℕ) → List Act → (lines : List ℕ) → (node : ℕ) → Ask → Coming
coming_of steps acts lines node ask =
    let departs = count_of is_depart node acts in
    let arrived = nat_lt departs (count_of is_arrive node acts) in
    if takes_step arrived ask && is_used_up steps (count_of costs node acts) then StepsUsedUp else coming_by departs acts lines ask

-- what a node's thread asks for after acts
abbrev pub ask_behind : Program → (nodes : ℕ) → (lines : List ℕ) → List Act → (node : ℕ) → Ask
ask_behind program nodes lines acts node = ask_of (next_of (walk_behind program nodes lines acts node).thread)

-- where a node stands after acts, of a program whose statements, and the text's end behind them, have these lines
abbrev pub stand_of : Program → (nodes : ℕ) → (lines : List ℕ) → (steps : Option ℕ) → List Act → (node : ℕ) → Stand
stand_of program nodes lines steps acts node = record {
  fate = fate_of node acts;
  arrives = count_of is_arrive node acts;
  line = line_behind program nodes lines acts node;
  coming = coming_of steps acts (act_lines program nodes lines acts) node (ask_behind program nodes lines acts node);
}

-- the same of nodes 0, 1, ..
abbrev pub stands_of : Program → (nodes : ℕ) → (lines : List ℕ) → (steps : Option ℕ) → List Act → List Stand
stands_of program nodes lines steps acts = map (stand_of program nodes lines steps acts) (range_with_len 0 nodes)
