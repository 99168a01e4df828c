-- What is warned of in a named program, and where.
use Rattle.std.specs.Prelude.{ℕ, ◌-◌, ◌==◌, Bool, false, Option, None, Some, List, [], ◌∷◌, ◌++◌, count_by, if◌then◌else◌, length, map, nat_le, slice_get, slice_index_or}
use Rattle.std.specs.List.{flat_map, range_with_len}
use Rattle.std.specs.declared.cmp.Ordering.{Ordering}
use Rattle.std.specs.Ordering.{nat_cmp, ordering_then}
use Rattle.lrc_lint_warned.specs.declared.found.Kind.{Kind}
use Rattle.lrc_lint_warned.specs.declared.found.Kind.TheVariants.{LearnsNothing, NeverRead, NeverSet}
use Rattle.lrc_lint_warnings.specs.declared.warning.Says as core_says
use Rattle.lrc_lint_warnings.specs.declared.warning.Says.TheVariants.{OfText, OfLabel}
use Rattle.lrc_lint_warnings.specs.declared.warning.Spot.{Spot}
use Rattle.lrc_lint_warnings.specs.declared.warning.Warning.{Warning}
use Rattle.lrc_lint_warnings.specs.Order.{rank_of}
use Rattle.lrc_named_entries.specs.Entry.{Entry}
use Rattle.lrc_named_warnings.specs.declared.note.Note.{Note}
use Rattle.lrc_named_warnings.specs.declared.note.Says.{Says}
use Rattle.lrc_named_warnings.specs.declared.note.Says.TheVariants.{OfCore, OfLoop, Unused}
use Rattle.lrc_named_warnings.specs.Context.{Context, no_origin, no_spot}

-- a warning at this token of the named program's text
abbrev pub note_at : List Spot → (token at : ℕ) → Says → Note
note_at spots token at says =
    let spot = slice_index_or spots token no_spot in
    record { line = spot.line; column = spot.column; at = at; says = says }

-- ---- of the core

-- a name of the translation's own begins with `_`, and no other does
abbrev pub is_own : List ℕ → Bool
is_own [] = false
is_own (first ∷ rest) = first == 95

-- something is said of a name of the translation's own
abbrev pub is_of_own : List (List ℕ) → Kind → Bool
is_of_own names (NeverSet name) = is_own (slice_index_or names name [])
is_of_own names (NeverRead name) = is_own (slice_index_or names name [])
is_of_own names _ = false

-- the statement of the core that a token stands in: the last one that begins with a token up to this one
abbrev pub statement_around : List ℕ → ℕ → ℕ
statement_around begins at = count_by (λ begin. nat_le begin at) begins - 1

-- What is warned of at this token of the core's text stands where the named program's statement begins from which the core's
-- statement comes. Nothing is said of the translation's own names.
abbrev pub kind_notes : Context → ℕ → Kind → List Note
kind_notes c at kind =
    let statement = statement_around c.begins at in
    if is_of_own c.names kind then [] else
    note_at c.spots (slice_index_or c.origins statement no_origin).statement at (OfCore kind statement) ∷ []

abbrev pub says_notes : Context → ℕ → core_says.Says → List Note
says_notes c at (OfText kind) = kind_notes c at kind
says_notes c at (OfLabel reason) = []

-- a warning of the core, which has the place of its token among those of the core's text as its column
abbrev pub warned_notes : Context → Warning → List Note
warned_notes c w = says_notes c w.column w.says

-- ---- of the named program's text alone

-- a loop that waits for shared items and learns of no write, where it begins
abbrev pub loop_note : List Spot → ℕ → Note
loop_note spots token = note_at spots token 0 OfLoop

-- where a name is declared
abbrev pub entry_token : Option Entry → ℕ
entry_token None = 0
entry_token (Some entry) = entry.name.at

-- the one of this number of the names that nothing uses, where it is declared, and all of them
abbrev pub unused_note : List Spot → List Entry → ℕ → Note
unused_note spots unused number = note_at spots (entry_token (slice_get unused number)) 0 (Unused number)

abbrev pub unused_notes : List Spot → List Entry → List Note
unused_notes spots unused = map (unused_note spots unused) (range_with_len 0 (length unused))

-- all warnings of a named program, where this is warned of in its core
abbrev pub notes_of : Context → List Warning → List Note
notes_of c warned = flat_map (warned_notes c) warned ++ map (loop_note c.spots) c.loops ++ unused_notes c.spots c.unused

-- ---- their order

abbrev pub rank : Says → ℕ
rank (OfCore kind statement) = rank_of kind
rank OfLoop = rank_of LearnsNothing
rank (Unused number) = 15

-- by line, column and kind, then as in the core
abbrev pub key_of : Note → (ℕ × ℕ) × (ℕ × ℕ)
key_of n = ((n.line, n.column), (rank n.says, n.at))

abbrev pub pair_order : ℕ × ℕ → ℕ × ℕ → Ordering
pair_order x y = ordering_then (nat_cmp x.0 y.0) (nat_cmp x.1 y.1)

abbrev pub key_order : (ℕ × ℕ) × (ℕ × ℕ) → (ℕ × ℕ) × (ℕ × ℕ) → Ordering
key_order x y = ordering_then (pair_order x.0 y.0) (pair_order x.1 y.1)
