-- By what a text of the core is told: by itself, or by the named program whose core it is.
use Rattle.std.specs.Prelude.{◌≡◌, ◌==◌, ℕ, Bool, false, List, [], ◌∷◌, Option, None, Some, if◌then◌else◌, map, slice_index, slice_index_or}
use Rattle.std.specs.Str.{bytes_eq}
use Rattle.lrc_lang.specs.Lines.{HasLines}
use Rattle.lrc_lang.specs.Symbol.{Names}
use Rattle.lrc_program.specs.Tree.{program_of}
use Rattle.lrc_program.specs.declared.Program.{Program}
use Rattle.lrc_lines.specs.Statements.{numbers_of}
use Rattle.lrc_named_core.specs.Tree.{Trap}
use Rattle.lrc_named_core.specs.View.{trap_of}
use Rattle.lrc_named_held.specs.Held.{Held, held_seen}
use Rattle.lrc_source.specs.declared.read_text.Telling as code
use Rattle.lrc_source.specs.declared.read_text.Telling.TheVariants.{Written, Translated}

-- What a named program tells of its core: its text; the lines of that text on which the core's statements lie, in the order of the core's text,
-- and last that of the named text's end; and what is said of a trap of each statement, and what its names of the translation's own hold, in
-- the same order.
pub record Translation : Type 0 where
  pub text : List ℕ
  pub lines : List ℕ
  pub traps : List Trap
  pub held : List (List Held)

pub data Telling : Type 0 where
  -- the text of a core as it was written tells itself
  written : Telling
  -- a named program tells its core
  translated : Translation → Telling

-- a text of the core as it is read, and by what it is told
pub record ReadText : Type 0 where
  pub core : List ℕ
  pub telling : Telling

-- a text as it was written
abbrev pub as_written : List ℕ → ReadText
as_written text = record { core = text; telling = written }

-- a core, told by the named program with this text
abbrev pub as_translated : (core text lines : List ℕ) → List Trap → List (List Held) → ReadText
as_translated core text lines traps held =
    record { core = core; telling = translated (record { text = text; lines = lines; traps = traps; held = held }) }

-- the text that is shown
abbrev pub shown_by : Telling → (core : List ℕ) → List ℕ
shown_by written core = core
shown_by (translated named) core = named.text

abbrev pub shown_text : ReadText → List ℕ
shown_text text = shown_by text.telling text.core

-- the given line at the place of each statement's number, and last that of the text's end
abbrev pub lines_at : (given : List ℕ) → Program → List ℕ
lines_at given program = map (λ number. slice_index given number) (numbers_of program)

-- the lines of the statements of a program, in the order of the core's text, and last that of the text's end: of a core as it was written
-- those of its own text, and else those that are given
abbrev pub AreLinesBy : Telling → (core : List ℕ) → Program → List ℕ → Type 0
AreLinesBy written core program lines = HasLines core (program_of program) lines
AreLinesBy (translated named) core program lines = lines ≡ lines_at named.lines program

abbrev pub AreLines : ReadText → Program → List ℕ → Type 0
AreLines text program lines = AreLinesBy text.telling text.core program lines

-- what is said of a trap of each statement, in the order of the core's text, where something is said
abbrev pub traps_of : Telling → Option (List Trap)
traps_of written = None
traps_of (translated named) = Some named.traps

-- what is told in place of a name: what it holds, or else the name
abbrev pub name_held : List Held → (name : List ℕ) → List ℕ
name_held [] name = name
name_held (first ∷ more) name = if bytes_eq first.name name then first.source else name_held more name

-- the private names of a core as they are told in the statement of this number, each at the place of its number
abbrev pub names_at : Telling → (statement : ℕ) → Names → Names
names_at written statement names = names
names_at (translated named) statement names = map (name_held (slice_index_or named.held statement [])) names

-- a name of the translation's own: no name of a named program begins so
abbrev pub is_own : (name : List ℕ) → Bool
is_own [] = false
is_own (byte ∷ rest) = byte == 95

-- the name, or nothing in place of one of the translation's own
abbrev pub name_told : List ℕ → List ℕ
name_told name = if is_own name then [] else name

-- the private names of a core that are told, each at the place of its number
abbrev pub names_told : Telling → Names → Names
names_told written names = names
names_told (translated named) names = map name_told names

-- ---- what the code has

abbrev pub telling_seen : code.Telling → Telling
telling_seen Written = written
telling_seen (Translated named) = translated (record {
  text = named.text.now;
  lines = named.lines.now;
  traps = map trap_of named.traps.now;
  held = map (λ one. map held_seen one.items) named.held.now;
})
