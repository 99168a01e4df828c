-- Notes by node: each behind the one before it of its node.
use Rattle.std.specs.Prelude.{◌≡◌, ℕ, ◌+◌, ◌<◌, ◌≤◌, ◌^◌, List, [], ◌∷◌, Some, filter, length, reverse, slice_get, slice_index}
use Rattle.std.specs.List.{IsDistinct}
use Rattle.lrc_trace.specs.declared.act.Act.{Act}
use Rattle.lrc_orders.specs.Kept.{Grows}
use Rattle.lrc_orders.specs.Notes.{is_note_of, notes_of}
use Rattle.lrc_orders_table.specs.declared.notes.Link.{Link}
use Rattle.lrc_orders_table.specs.declared.notes.Lasts.{Lasts}
use Rattle.lrc_orders_table.specs.declared.notes.Notes.{Notes}
use Rattle.lrc_orders_table.specs.contracts.notes.LinkPartialEq.TheImpl.{eq-value as link_eq}
use Rattle.lrc_orders_table.specs.contracts.notes.LastsPartialEq.TheImpl.{eq-value as lasts_eq}

-- notes stand node by node, and are of the first so many nodes
abbrev pub StandByNode : (nodes : ℕ) → List Act → Type 0
StandByNode nodes notes = notes_of nodes notes ≡ notes

abbrev pub link_of : (before : ℕ) → Act → Link
link_of before act = record { before = before; act = act }

-- the note with this number is this act, and the one before it stands at an earlier place
pub record IsLinked (links : List Link) (number : ℕ) (act : Act) (AreBefore : ℕ → Type 0) : Type 0 where
  pub place : ℕ
  pub is : number ≡ place + 1
  pub before : ℕ
  pub earlier : before ≤ place
  pub there : slice_get links place ≡ Some (link_of before act)
  pub rest : AreBefore before

-- from the note with this number back to the first of its node these acts were noted
abbrev pub IsChain : List Link → (number : ℕ) → List Act → Type 0
IsChain links number [] = number ≡ 0
IsChain links number (act ∷ acts) = IsLinked links number act (λ before. IsChain links before acts)

abbrev pub HaveChain : List Link → (number : ℕ) → Type 0
HaveChain links number = (acts : List Act) × IsChain links number acts

-- of these acts the last note of each node
pub record HasLasts (links : List Link) (lasts : Lasts) (made : List Act) : Type 0 where
  pub long : length lasts.numbers ≡ 16
  pub small : (node : ℕ) → node < 16 → slice_index lasts.numbers node < 2 ^ 32
  pub each : (node : ℕ) → node < 16 → IsChain links (slice_index lasts.numbers node) (reverse (filter (is_note_of node) made))

abbrev pub HaveLasts : List Link → Lasts → Type 0
HaveLasts links lasts = (made : List Act) × HasLasts links lasts made

-- the notes with this number
pub record AreNotesAt (all : Notes) (number : ℕ) (acts : List Act) : Type 0 where
  pub lasts : Lasts
  pub there : slice_get all.lasts.keys number ≡ Some lasts
  pub made : List Act
  pub has : HasLasts all.links.keys lasts made
  pub acts_are : notes_of 16 made ≡ acts

abbrev pub HaveNotes : Notes → (number : ℕ) → Type 0
HaveNotes all number = (acts : List Act) × AreNotesAt all number acts

-- no two are equal, and each stands behind the one before it
pub record AreNotesSound (all : Notes) : Type 0 where
  pub links : IsDistinct link_eq.it all.links.keys
  pub lasts : IsDistinct lasts_eq.it all.lasts.keys
  pub ordered : (k : ℕ) (link : Link) → slice_get all.links.keys k ≡ Some link → link.before ≤ k

-- all stay where they are, and there may be more
pub record GrowNotes (old new : Notes) : Type 0 where
  pub links : Grows old.links.keys new.links.keys
  pub lasts : Grows old.lasts.keys new.lasts.keys
