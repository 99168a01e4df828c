-- What is printed of pairs, and at the end of a trace, as words or as objects.
use Rattle.std.specs.Prelude.{ℕ, List, ◌++◌, Option}
use Rattle.lrc_races_trace.specs.declared.event.Pair.{Pair}
use Rattle.lrc_races_trace.specs.declared.fault.Fault.{Fault}
use Rattle.lrc_races_trace.specs.declared.group.Group.{Group}
use Rattle.lrc_races_text.specs.declared.asked.Layout.{Layout}
use Rattle.lrc_races_text.specs.declared.asked.Layout.TheVariants.{Words, Objects}
use Rattle.lrc_races_text.specs.declared.form.Form.{Form}
use Rattle.lrc_races_text.specs.Naming.{Naming}
use Rattle.lrc_races_text.specs.Spelled.{race_lines, group_lines, fault_line, counts_line}
use Rattle.lrc_races_text.specs.Objects.{race_objects, group_objects, fault_object, counts_object}

-- the pairs that are told
abbrev pub pair_lines : Layout → Form → Naming → List Pair → List ℕ
pair_lines Words form naming pairs = race_lines form naming pairs
pair_lines Objects form naming pairs = race_objects naming pairs

-- behind them the groups, the first event that no program would give, and how many there are of all
abbrev pub end_lines : Layout → Form → Naming → List Group → Option Fault → ℕ → ℕ → List ℕ
end_lines Words form naming groups fault races events = group_lines form naming groups ++ (fault_line naming fault ++ counts_line naming races events)
end_lines Objects form naming groups fault races events = group_objects naming groups
    ++ (fault_object naming fault ++ counts_object naming races events)
