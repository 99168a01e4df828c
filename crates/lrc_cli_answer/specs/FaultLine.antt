-- The line that is written where nothing is printed.
use Rattle.std.specs.Prelude.{◌++◌, ℕ, List, codes, decimal}
use Rattle.lrc_lang.specs.declared.fault.FaultKind.{FaultKind}
use Rattle.lrc_lang.specs.declared.fault.FaultKind.TheVariants.{TooLong, BadByte, BadNumber, Unexpected, TooDeep, TooManyNames, OverLimit, NoMemory}
use Rattle.lrc_lang.specs.declared.fault.ParseFault.{ParseFault}
use Rattle.lrc_acts.specs.declared.reading.ActsFault.{ActsFault}
use Rattle.lrc_acts.specs.declared.reading.ActsFault.TheVariants.{BadAct}
use Rattle.lrc_acts.specs.declared.reading.ActsFault.TheVariants as acts_faults
use Rattle.lrc_why_text.specs.declared.fault.WhyFault.{WhyFault}
use Rattle.lrc_why_text.specs.declared.fault.WhyFault.TheVariants as why_faults
use Rattle.lrc_chart_acts.specs.declared.fault.ActsChartFault.{ActsChartFault}
use Rattle.lrc_chart_acts.specs.declared.fault.ActsChartFault.TheVariants as chart_faults
use Rattle.lrc_chart_build.specs.declared.portrait.PortraitFault.{PortraitFault}
use Rattle.lrc_chart_build.specs.declared.portrait.PortraitFault.TheVariants as portraits
use Rattle.lrc_events.specs.declared.events.EventsFault.{EventsFault}
use Rattle.lrc_events.specs.declared.events.EventsFault.TheVariants.{BadEvent}
use Rattle.lrc_events.specs.declared.events.EventsFault.TheVariants as events_faults
use Rattle.lrc_named_expression_faults.specs.Fault.{words_of}
use Rattle.lrc_cli_answer.specs.declared.fault.Fault.{Fault}
use Rattle.lrc_cli_answer.specs.declared.fault.Fault.TheVariants as faults

-- the fault of a text, of a text of events, and of a text of acts
abbrev pub fault_of_kind : ℕ → FaultKind → Fault
fault_of_kind line NoMemory = faults.NoMemory
fault_of_kind line kind = faults.Text line kind

abbrev pub fault_of_text : ParseFault → Fault
fault_of_text fault = fault_of_kind fault.line fault.kind

abbrev pub fault_of_events : EventsFault → Fault
fault_of_events (BadEvent line) = faults.Events line
fault_of_events events_faults.NoMemory = faults.NoMemory

abbrev pub fault_of_acts : ActsFault → Fault
fault_of_acts acts_faults.TooLong = faults.LongActs
fault_of_acts (BadAct line) = faults.Acts line
fault_of_acts acts_faults.NoMemory = faults.NoMemory

abbrev pub fault_of_why : WhyFault → Fault
fault_of_why why_faults.TooLong = faults.LongActs
fault_of_why (why_faults.BadAct line) = faults.Acts line
fault_of_why (why_faults.NoAct position acts) = faults.NoAct position acts
fault_of_why why_faults.NoMemory = faults.NoMemory

-- and that of a picture of a run, and of acts
abbrev pub fault_of_portrait : PortraitFault → Fault
fault_of_portrait portraits.TooLong = faults.TooLong
fault_of_portrait portraits.NoMemory = faults.NoMemory

abbrev pub fault_of_acts_chart : ActsChartFault → Fault
fault_of_acts_chart chart_faults.LongActs = faults.LongActs
fault_of_acts_chart (chart_faults.BadAct line) = faults.Acts line
fault_of_acts_chart chart_faults.TooLong = faults.TooLong
fault_of_acts_chart chart_faults.NoMemory = faults.NoMemory

abbrev pub kind_words : FaultKind → List ℕ
kind_words TooLong = codes "text too long"
kind_words BadByte = codes "bad byte"
kind_words BadNumber = codes "bad number"
kind_words Unexpected = codes "unexpected token"
kind_words TooDeep = codes "nested too deep"
kind_words TooManyNames = codes "too many names"
kind_words OverLimit = codes "over a limit"
kind_words NoMemory = codes "out of memory"

abbrev pub fault_words : Fault → List ℕ
fault_words (faults.Text line kind) = codes "line " ++ decimal line ++ codes ": " ++ kind_words kind
fault_words (faults.Names line kind) = codes "line " ++ decimal line ++ codes ": " ++ words_of kind
fault_words (faults.Events line) = codes "events line " ++ decimal line ++ codes ": bad event"
fault_words (faults.Acts line) = codes "acts line " ++ decimal line ++ codes ": bad act"
fault_words (faults.TooManyStates most) = codes "more than " ++ decimal most ++ codes " states"
fault_words faults.LongActs = codes "acts line 1: text too long"
fault_words (faults.NoAct position acts) = codes "no act " ++ decimal position ++ codes ", of " ++ decimal acts ++ codes " acts"
fault_words (faults.NoOutcome number) = codes "no outcome " ++ decimal number
fault_words faults.Worn = codes "message numbers used up"
fault_words faults.TooManyTurns = codes "more than 2000 turns"
fault_words faults.TooLong = codes "too long for a chart"
fault_words faults.Mismatch = codes "logs and wires differ"
fault_words faults.NoMemory = codes "out of memory"

abbrev pub fault_line : Fault → List ℕ
fault_line fault = codes "treadmarks: " ++ fault_words fault ++ codes "\n"
