-- What is kept of the deeds by which a thread settled is all that matters of them.
use Rattle.std.proofs.Common.{◌≡◌, ℕ, List, [], ◌∷◌, Bool, true, false, refl, sym, ◌∙◌, ap}
use Rattle.std.specs.Prelude.{Option, ◌||◌, filter, if◌then◌else◌}
use Rattle.std.specs.List.{list_any}
use Rattle.std.proofs.lemmas.Bool.{true≢false}
use Rattle.std.proofs.lemmas.Map.Views.{any-filter_same}
use Rattle.lrc_trace.specs.declared.act.Act.{Act}
use Rattle.lrc_trace.specs.declared.act.Deed.{Deed}
use Rattle.lrc_trace.specs.declared.act.Deed.TheVariants.{Print, Release, Trap, End}
use Rattle.lrc_trace.specs.Run.{act_of}
use Rattle.lrc_orders.specs.Notes.{notes_with}
use Rattle.lrc_orders.specs.Traps.{has_trap, is_trap}
use Rattle.lrc_orders_settling.specs.Gone.{acts_by, freed, freed_by}
use Rattle.lrc_orders_table.specs.Nexts.{is_seen, notes_on}

-- a deed that is not kept gives no lock back
frees_none : (deed : Deed) (holders : List (Option ℕ)) → is_seen deed ≡ false → freed_by deed holders ≡ holders
frees_none (Release lock) holders e = cc
frees_none _ holders e = refl

freed_by_case : (deed : Deed) (deeds : List Deed) (holders : List (Option ℕ)) (b : Bool) → is_seen deed ≡ b
    → ((h : List (Option ℕ)) → freed (filter is_seen deeds) h ≡ freed deeds h)
    → freed (if b then deed ∷ filter is_seen deeds else filter is_seen deeds) holders ≡ freed deeds (freed_by deed holders)
freed_by_case deed deeds holders true e rest = rest (freed_by deed holders)
freed_by_case deed deeds holders false e rest = rest holders ∙ ap (freed deeds) (sym (frees_none deed holders e))

pub freed_seen : (deeds : List Deed) (holders : List (Option ℕ)) → freed (filter is_seen deeds) holders ≡ freed deeds holders
freed_seen [] holders = refl
freed_seen (deed ∷ deeds) holders = freed_by_case deed deeds holders (is_seen deed) refl (freed_seen deeds)

-- and is not noted
notes_none : (node : ℕ) (deed : Deed) (notes : List Act) → is_seen deed ≡ false → notes_with notes (act_of node deed) ≡ notes
notes_none node (Print value) notes e = cc
notes_none node (Trap cause) notes e = cc
notes_none node End notes e = cc
notes_none node _ notes e = refl

notes_by_case : (node : ℕ) (deed : Deed) (deeds : List Deed) (notes : List Act) (b : Bool) → is_seen deed ≡ b
    → ((n : List Act) → notes_on n (acts_by node (filter is_seen deeds)) ≡ notes_on n (acts_by node deeds))
    → notes_on notes (acts_by node (if b then deed ∷ filter is_seen deeds else filter is_seen deeds))
    ≡ notes_on (notes_with notes (act_of node deed)) (acts_by node deeds)
notes_by_case node deed deeds notes true e rest = rest (notes_with notes (act_of node deed))
notes_by_case node deed deeds notes false e rest =
    rest notes ∙ ap (λ n. notes_on n (acts_by node deeds)) (sym (notes_none node deed notes e))

-- a trap is kept
traps_acts : (node : ℕ) (deeds : List Deed) → list_any is_trap deeds ≡ has_trap (acts_by node deeds)
traps_acts node [] = refl
traps_acts node (deed ∷ deeds) = ap (λ b. is_trap deed || b) (traps_acts node deeds)

trap_seen : (deed : Deed) → is_trap deed ≡ true → is_seen deed ≡ true
trap_seen (Trap cause) e = refl
trap_seen _ e = absurd (true≢false (sym e))

pub traps_seen : (node : ℕ) (deeds : List Deed) → list_any is_trap (filter is_seen deeds) ≡ has_trap (acts_by node deeds)
traps_seen node deeds = any-filter_same is_trap is_seen true trap_seen deeds ∙ traps_acts node deeds

pub notes_seen : (node : ℕ) (deeds : List Deed) (notes : List Act) → notes_on notes (acts_by node (filter is_seen deeds)) ≡ notes_on notes (acts_by node deeds)
notes_seen node [] notes = refl
notes_seen node (deed ∷ deeds) notes = notes_by_case node deed deeds notes (is_seen deed) refl (notes_seen node deeds)
