-- What is kept of variables, what changes there, and what is told by it.
use Rattle.std.specs.Prelude.{◌≡◌, ◌≢◌, ℕ, zero, suc, ◌<◌, ◌==◌, nat_lt, Bool, if◌then◌else◌, List, []}
use Rattle.std.specs.Prelude.{◌∷◌, ◌++◌, Option, Some, None, AllPairs, Contains, option_to_list, slice_get, slice_index}
use Rattle.lrc_races_trace.specs.declared.event.Pair.{Pair}
use Rattle.lrc_races_trace.specs.declared.event.Placed.{Placed}
use Rattle.lrc_races_detector.specs.declared.accesses.Accesses.{Accesses}
use Rattle.lrc_races_detector.specs.declared.variables.Last.{Last}
use Rattle.lrc_races_detector.specs.declared.variables.Variables.{Variables}
pub use Rattle.lrc_races_detector.specs.Placed.{thread_of}
use Rattle.lrc_races_detector.specs.Placed.{row_in}

-- a row has one entry for each thread that accesses the variable, ascending by thread
abbrev pub IsAscending : List Last → Type 0
IsAscending lasts = AllPairs (λ a b. thread_of a < thread_of b) lasts

abbrev pub row_of : Accesses → List Last
row_of accesses = row_in accesses.lasts.items accesses.order.items

abbrev pub items_of : Option Accesses → List Last
items_of (Some row) = row_of row
items_of None = []

abbrev pub lasts_of : Variables → ℕ → List Last
lasts_of variables variable = items_of (slice_get variables.rows.items variable)

-- an access more of a thread, whose entry was this, if it had one
abbrev pub write_of : Option Last → Option Placed
write_of (Some last) = last.write
write_of None = None

abbrev pub noted : Option Last → Placed → Bool → Last
noted old placed is_write = record { access = placed; write = if is_write then Some placed else write_of old }

-- it is noted of its thread, behind those of lower ones, and all others are as before
pub record IsNotedAt (before after : List Last) (placed : Placed) (is_write : Bool) : Type 0 where
  pub front : List Last
  pub old : Option Last
  pub back : List Last
  pub was : before ≡ front ++ (option_to_list old ++ back)
  pub is : after ≡ front ++ noted old placed is_write ∷ back
  pub below : (last : Last) → Contains front last → thread_of last < placed.event.thread
  pub own : (last : Last) → old ≡ Some last → thread_of last ≡ placed.event.thread
  pub above : (last : Last) → Contains back last → placed.event.thread < thread_of last

-- so it is where the row was as it is to be
pub record IsRowNoted (before after : List Last) (placed : Placed) (is_write : Bool) : Type 0 where
  pub noted : IsAscending before → IsNotedAt before after placed is_write

pub record IsNoted (before after : Variables) (variable : ℕ) (placed : Placed) (is_write : Bool) : Type 0 where
  pub here : IsRowNoted (lasts_of before variable) (lasts_of after variable) placed is_write
  pub others : (other : ℕ) → other ≢ variable → lasts_of after other ≡ lasts_of before other

-- the pair with an earlier access, where so much of its thread is known
abbrev pub told_with : Option Placed → ℕ → Placed → Option Pair
told_with None known later = None
told_with (Some earlier) known later = if nat_lt earlier.position known then None else Some (record { earlier = earlier; later = later })

-- the pair with the last access of a thread
abbrev pub told_one : Last → List ℕ → Placed → Bool → Option Pair
told_one last known later is_write = if thread_of last == later.event.thread then None
    else told_with (if is_write then Some last.access else last.write) (slice_index known (thread_of last)) later

abbrev pub told_at : Option Last → List ℕ → Placed → Bool → Option Pair
told_at (Some last) known later is_write = told_one last known later is_write
told_at None known later is_write = None

-- the pairs with the first of a row
abbrev pub told_below : List Last → List ℕ → Placed → Bool → ℕ → List Pair
told_below lasts known later is_write zero = []
told_below lasts known later is_write (suc i) = told_below lasts known later is_write i
    ++ option_to_list (told_at (slice_get lasts i) known later is_write)
