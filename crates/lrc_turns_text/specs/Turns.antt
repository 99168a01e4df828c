-- The turns of a run in the order in which its nodes made them.
use Rattle.std.specs.Prelude.{ℕ, ◌==◌, Option, List, [], ◌++◌, fold, map, slice_get, slice_index_or}
use Rattle.std.specs.List.{count_by}
use Rattle.std.specs.Option.{option_to_list}
use Rattle.lrc_protocol.specs.Run.{EntryRecord}

-- a turn, and the node that made it
pub record Made : Type 0 where
  pub node : ℕ
  pub entry : EntryRecord

-- how many of these turns are the node's
abbrev pub made_by : ℕ → List Made → ℕ
made_by node turns = count_by (λ turn. turn.node == node) turns

-- the turn at a place of a node's log, if there is one
abbrev pub log_entry : List (List EntryRecord) → ℕ → ℕ → Option EntryRecord
log_entry logs node place = slice_get (slice_index_or logs node []) place

-- the turn that a node makes next, behind these turns: the next one of its log, if there is one
abbrev pub next : List (List EntryRecord) → List Made → ℕ → List Made
next logs turns node = map (λ entry. record { node = node; entry = entry }) (option_to_list (log_entry logs node (made_by node turns)))

-- the turns that these nodes made, one after another
abbrev pub turns_told : List (List EntryRecord) → (order : List ℕ) → List Made
turns_told logs order = fold (λ turns node. turns ++ next logs turns node) [] order
