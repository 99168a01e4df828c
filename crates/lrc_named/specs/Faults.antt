-- The fault of a text, as the fault of a named program.
use Rattle.std.specs.Prelude.{◌≡◌, ℕ}
use Rattle.lrc_lang.specs.declared.fault.FaultKind.{FaultKind}
use Rattle.lrc_lang.specs.declared.fault.FaultKind.TheVariants as kinds
use Rattle.lrc_named_expression_faults.specs.Fault.{words_of}
use Rattle.lrc_named_parse.specs.declared.parser.TextFault.{TextFault}
use Rattle.lrc_named.specs.declared.fault.NamedFault.{NamedFault}
use Rattle.lrc_named.specs.declared.fault.NamedFault.TheVariants.{Text, Names, NoMemory}

abbrev pub fault_of_kind : ℕ → FaultKind → NamedFault
fault_of_kind line kinds.NoMemory = NoMemory
fault_of_kind line kind = Text line kind

abbrev pub fault_of_text : TextFault → NamedFault
fault_of_text fault = fault_of_kind fault.place.line fault.kind

-- two faults are told alike: on one line and in the same words. Where memory ran out, nothing is told of the text.
abbrev pub AreToldAlike : NamedFault → NamedFault → Type 0
AreToldAlike (Text line kind) (Text own other) = (line ≡ own) × (kind ≡ other)
AreToldAlike (Names line kind) (Names own other) = (line ≡ own) × (words_of kind ≡ words_of other)
AreToldAlike (Text line kind) (Names own other) = ⊥
AreToldAlike (Names line kind) (Text own other) = ⊥
AreToldAlike (Text line kind) NoMemory = Unit {0}
AreToldAlike (Names line kind) NoMemory = Unit {0}
AreToldAlike NoMemory other = Unit {0}
