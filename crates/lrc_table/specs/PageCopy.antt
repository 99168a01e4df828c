-- One node's copy of one page, in the state that lazy release consistency gives it.
use Rattle.std.specs.Prelude.{ℕ, ◌≡◌, List, length, Option, None, Some, Bool, true, false, ◌&&◌, if◌then◌else◌, is_some, IsTrue, slice_index, slice_set, fold}
use Rattle.std.specs.Option.{ForSome, option_map}
use Rattle.lrc_page.specs.declared.changes.Change.{Change}
use Rattle.lrc_page.specs.declared.size.Size.{Size}
use Rattle.lrc_page.specs.Page.{words_of}
use Rattle.lrc_page.specs.Changes.{applied, changes_between}
use Rattle.lrc_table.specs.declared.slot.State.{State}
use Rattle.lrc_table.specs.declared.slot.State.TheVariants.{Valid, Written, Invalid, Absent}

-- a copy: its state, its values, whether or not they may be read, a twin, and a base copy for other nodes
pub record PageCopy : Type 0 where
  pub state : State
  pub values : List ℕ
  -- of a written copy its values from before the first write since the last close, of a pending one those from before
  -- the first write since the close before that
  pub twin : Option (List ℕ)
  pub base : Option (List ℕ)

-- a copy with these values that nothing was done to yet
abbrev pub fresh : List ℕ → PageCopy
fresh values = record { state = Valid; values = values; twin = None; base = None }

-- whether the state is Valid, and whether it is Written
abbrev pub is_valid : State → Bool
is_valid Valid = true
is_valid Written = false
is_valid Invalid = false
is_valid Absent = false

abbrev pub is_written : State → Bool
is_written Valid = false
is_written Written = true
is_written Invalid = false
is_written Absent = false

-- whether the copy may be read and written
abbrev pub is_readable : State → Bool
is_readable Valid = true
is_readable Written = true
is_readable Invalid = false
is_readable Absent = false

-- whether a twin is kept past a close: what was written then has no changes made yet
abbrev pub is_pending : PageCopy → Bool
is_pending copy = is_valid copy.state && is_some copy.twin

-- the changes that a pending copy has to make: its values against its twin
abbrev pub pending_changes : PageCopy → Option (List Change)
pending_changes copy =
    if is_valid copy.state then option_map (λ twin. changes_between twin copy.values) copy.twin else None

-- what a read at an offset gives
abbrev pub read_at : PageCopy → ℕ → Option ℕ
read_at copy offset = if is_readable copy.state then Some (slice_index copy.values offset) else None

-- the copy once writing begins: its values so far are the twin
abbrev pub opened : PageCopy → PageCopy
opened copy = record copy { state = Written; twin = Some copy.values }

-- the copy with another value at an offset
abbrev pub with_value : PageCopy → ℕ → ℕ → PageCopy
with_value copy offset value = record copy { values = slice_set copy.values offset value }

-- a write by the state that the copy is in
abbrev pub written_in : State → PageCopy → ℕ → ℕ → PageCopy
written_in Valid copy offset value = with_value (opened copy) offset value
written_in Written copy offset value = with_value copy offset value
written_in Invalid copy offset value = copy
written_in Absent copy offset value = copy

-- the copy after a write, which a copy that is not readable refuses; the first write to a valid copy keeps a twin
abbrev pub after_write : PageCopy → ℕ → ℕ → PageCopy
after_write copy offset value = written_in copy.state copy offset value

-- the copy once its interval is closed: a written one is valid again, and its twin stays
abbrev pub closed : PageCopy → PageCopy
closed copy = if is_written copy.state then record copy { state = Valid } else copy

-- the copy once its pending changes are made
abbrev pub without_twin : PageCopy → PageCopy
without_twin copy = record copy { twin = None }

abbrev pub settled : PageCopy → PageCopy
settled copy = if is_pending copy then without_twin copy else copy

-- the copy once another node is known to have written the page
abbrev pub invalidated : PageCopy → PageCopy
invalidated copy = if is_valid copy.state then record copy { state = Invalid } else copy

-- the copy with changes of another node written into it
abbrev pub patched : PageCopy → List Change → PageCopy
patched copy changes = record copy { values = applied copy.values changes }

-- an invalid copy with the changes that it lacked, one list after another: it is valid
abbrev pub repaired : PageCopy → List (List Change) → PageCopy
repaired copy lists = record copy { state = Valid; values = fold applied copy.values lists }

-- an absent copy that was fetched whole: it lacks what was written since
abbrev pub installed : PageCopy → List ℕ → PageCopy
installed copy values = record copy { state = Invalid; values = values }

-- the state once invalid copies are dropped
abbrev pub absent_if_invalid : State → State
absent_if_invalid Valid = Valid
absent_if_invalid Written = Written
absent_if_invalid Invalid = Absent
absent_if_invalid Absent = Absent

-- the copy then
abbrev pub dropped : PageCopy → PageCopy
dropped copy = record copy { state = absent_if_invalid copy.state }

-- the copy with its present values, or with none, as the base copy
abbrev pub with_base : PageCopy → PageCopy
with_base copy = record copy { base = Some copy.values }

abbrev pub without_base : PageCopy → PageCopy
without_base copy = record copy { base = None }

-- what holds of every copy in a table: its lists are as long as a page, a written copy has a twin, and one that may not
-- be read has none
abbrev pub IsWhole : Size → PageCopy → Type 0
IsWhole size copy = record {
  values : length copy.values ≡ words_of size;
  twin : ForSome copy.twin (λ twin. length twin ≡ words_of size);
  base : ForSome copy.base (λ base. length base ≡ words_of size);
  kept : IsTrue (is_written copy.state) → IsTrue (is_some copy.twin);
  none : is_readable copy.state ≡ false → copy.twin ≡ None;
}
