-- The newest turn of a log.
use Rattle.std.proofs.Common.{◌≡◌, ◌∙◌, ℕ, ◌-◌, ◌<◌, ◌≤◌, arith, List, [], ◌∷◌, ◌++◌, Option, Some, None, refl, sym, ap, length, take}
use Rattle.std.specs.Prelude.{fold, slice_index_or}
use Rattle.std.specs.List.{last_or}
use Rattle.std.specs.Option.{option_to_list}
use Rattle.lrc_protocol.specs.Run.{EntryRecord, last_stamp}
use Rattle.lrc_node.specs.Logged.{newest}

last-push : (o : Option EntryRecord) (log : List EntryRecord) (entry : EntryRecord) → last_or o (log ++ entry ∷ []) ≡ Some entry
last-push o [] entry = refl
last-push o (x ∷ log) entry = last-push (Some x) log entry

-- of a log with one turn more it is that turn
pub newest-push : (log : List EntryRecord) (entry : EntryRecord) → newest (log ++ entry ∷ []) ≡ entry ∷ []
newest-push log entry = ap option_to_list (last-push None log entry)

stamp-after : (o : Option EntryRecord) (log : List EntryRecord) → last_stamp (option_to_list (last_or o log))
    ≡ fold (λ (before : ℕ) (entry : EntryRecord). entry.stamp) (last_stamp (option_to_list o)) log
stamp-after o [] = refl
stamp-after o (x ∷ log) = stamp-after (Some x) log

-- it has the stamp of the log
pub newest-stamp : (log : List EntryRecord) → last_stamp (newest log) ≡ last_stamp log
newest-stamp log = stamp-after None log

-- a log of at most one turn
pub newest-few : (log : List EntryRecord) → length log ≤ 1 → log ≡ newest log
newest-few [] few = refl
newest-few (x ∷ []) few = refl
newest-few (x ∷ y ∷ log) few = absurd (omega (arith, few))

last-at : (o : Option EntryRecord) (x : EntryRecord) (log : List EntryRecord) (d : EntryRecord) → last_or o (x ∷ log) ≡ Some (slice_index_or (x ∷ log) (length log) d)
last-at o x [] d = refl
last-at o x (y ∷ log) d = last-at (Some x) y log d

first-is : (x : EntryRecord) (log items : List EntryRecord) → 1 ≤ length items
    → ((d : EntryRecord) → slice_index_or items 0 d ≡ slice_index_or (x ∷ log) (length log) d) → take 1 items ≡ newest (x ∷ log)
first-is x log [] some at = absurd (omega (arith, some))
first-is x log (y ∷ items) some at = ap (λ z. z ∷ []) (at y) ∙ sym (ap option_to_list (last-at None x log y))

-- the first of some turns, where that is the last of the log
pub newest-first : (log items : List EntryRecord) → 1 < length log → 1 ≤ length items
    → ((d : EntryRecord) → slice_index_or items 0 d ≡ slice_index_or log (length log - 1) d) → take 1 items ≡ newest log
newest-first [] items more some at = absurd (omega (arith, more))
newest-first (x ∷ log) items more some at =
    let one_less : length (x ∷ log) - 1 ≡ length log = omega arith in
    first-is x log items some (λ d. at d ∙ ap (λ n. slice_index_or (x ∷ log) n d) one_less)
