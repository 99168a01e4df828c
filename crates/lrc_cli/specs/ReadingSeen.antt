-- What the code reads, as the definitions see it.
use Rattle.std.specs.Prelude.{Option, None, map}
use Rattle.lrc_setting.specs.declared.setting.Nodes.{Nodes}
use Rattle.lrc_named_core.specs.View.{trap_of}
use Rattle.lrc_named_held.specs.Held.{held_seen}
use Rattle.lrc_source.specs.Telling.{ReadText, as_translated, as_written}
use Rattle.lrc_cli.specs.declared.reading.Reading.{Reading}
use Rattle.lrc_cli.specs.declared.reading.Reading.TheVariants.{Written, Translated}

-- the text as it is read
abbrev pub text_read : Reading → ReadText
text_read (Written text) = as_written text.now
text_read (Translated text core) =
    as_translated core.text.items text.now core.lines.items (map trap_of core.traps.items) (map (λ one. map held_seen one.items) core.held.items)

-- how many nodes the text asks for, if it says so
abbrev pub asked_by : Reading → Option Nodes
asked_by (Written text) = None
asked_by (Translated text core) = core.nodes
