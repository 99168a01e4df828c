-- Who waits for another node's synchronization has no written page, and every change keeps it so.
use Rattle.std.proofs.Common.{◌≡◌, ℕ, List, [], ◌∷◌, Bool, true, false, refl, sym, subst}
use Rattle.std.specs.Prelude.{None, All, fold, map, if◌then◌else◌}
use Rattle.std.proofs.lemmas.List.Elements.{All-map, All-set}
use Rattle.lrc_protocol.specs.Times.{is_named}
use Rattle.lrc_protocol.specs.Pages.{Copy, valid, written, invalid, absent, changes_of, closed, invalidated, Memory, copy_at, learned}
use Rattle.lrc_protocol.specs.Pages.{with_written_word, all_applied, Need, repaired, first_values}
use Rattle.lrc_protocol.specs.Barriers.{with_base}
use Rattle.lrc_protocol.specs.Node.{Wait, nothing, grant, departure, access, upkeep, discard}
use Rattle.lrc_protocol.specs.Turn.{with_needs}
use Rattle.lrc_store.specs.Interval.{IntervalRecord}
use Rattle.lrc_node_laws.specs.Waits.{NoneWritten, IsQuiet}
use Rattle.lrc_node_laws.proofs.Lists.{All-placed}
use Rattle.lrc_node_laws.proofs.Change.{View, Change, receives, manages, moves, puts, closes, learns, resumes, begins, cleans}
use Rattle.lrc_node_laws.proofs.Change.{discards, misses, mends, gets_changes, gets_page, is_settled, is_open}

abbrev Unwritten : Copy → Type 0
Unwritten copy = changes_of copy ≡ None

closed-unwritten : (copy : Copy) → changes_of (closed copy) ≡ None
closed-unwritten (valid values) = refl
closed-unwritten (written values twin) = refl
closed-unwritten (invalid values since) = refl
closed-unwritten absent = refl

invalidated-unwritten : (before : List ℕ) (copy : Copy) → changes_of copy ≡ None → changes_of (invalidated before copy) ≡ None
invalidated-unwritten before (valid values) h = refl
invalidated-unwritten before (written values twin) h = h
invalidated-unwritten before (invalid values since) h = refl
invalidated-unwritten before absent h = refl

invalidated_if : (before : List ℕ) (b : Bool) (copy : Copy) → changes_of copy ≡ None → changes_of (if b then invalidated before copy else copy) ≡ None
invalidated_if before true copy h = invalidated-unwritten before copy h
invalidated_if before false copy h = h

closed-none : (copies : List Copy) → All Unwritten (map closed copies)
closed-none copies = All-map Unwritten closed copies (λ k d within. closed-unwritten _)

pub learned-none : (before : List ℕ) (intervals : List IntervalRecord) (memory : Memory) → NoneWritten memory → NoneWritten (learned before intervals memory)
learned-none before intervals memory h =
    All-placed Unwritten Unwritten (λ place. if is_named intervals place.0 then invalidated before place.1 else place.1)
    (λ page copy u. invalidated_if before (is_named intervals page) copy u) 0 memory.copies h

mends-none : (needs : List Need) (memory : Memory) → NoneWritten memory → NoneWritten (fold repaired memory needs)
mends-none [] memory h = h
mends-none (need ∷ needs) memory h =
    mends-none needs (repaired memory need) (All-set Unwritten memory.copies need.page
    (valid (all_applied memory.store (first_values (copy_at memory need.page) need.base) need.missing)) refl h)

bases-none : (kept : List ℕ) (memory : Memory) → NoneWritten memory → NoneWritten (fold with_base memory kept)
bases-none [] memory h = h
bases-none (page ∷ kept) memory h = bases-none kept (with_base memory page) h

settled-quiet : (w : Wait) (memory : Memory) → is_settled w ≡ true → NoneWritten memory → IsQuiet w memory
settled-quiet nothing memory s h = tt
settled-quiet (grant lock) memory s h = h
settled-quiet departure memory s h = h
settled-quiet (access need) memory s h = tt
settled-quiet (upkeep collection needs) memory s h = cc
settled-quiet (discard collection) memory s h = cc

open-none : (w : Wait) (a b : Memory) → is_open w ≡ true → (NoneWritten a → NoneWritten b) → IsQuiet w a → IsQuiet w b
open-none nothing a b o k h = cc
open-none (grant lock) a b o k h = k h
open-none departure a b o k h = k h
open-none (access need) a b o k h = cc
open-none (upkeep collection needs) a b o k h = cc
open-none (discard collection) a b o k h = cc

still-quiet : (change : Need → Need) (w : Wait) (a b : Memory) → b.copies ≡ a.copies → IsQuiet w a → IsQuiet (with_needs change w) b
still-quiet change nothing a b e h = tt
still-quiet change (grant lock) a b e h = subst (All Unwritten) (sym e) h
still-quiet change departure a b e h = subst (All Unwritten) (sym e) h
still-quiet change (access need) a b e h = tt
still-quiet change (upkeep collection needs) a b e h = subst (All Unwritten) (sym e) h
still-quiet change (discard collection) a b e h = subst (All Unwritten) (sym e) h

pub quiet-kept : (v after : View) → Change v after → IsQuiet v.wait v.memory → IsQuiet after.wait after.memory
quiet-kept v _ (receives from numbers) h = h
quiet-kept v _ (manages before manager e many) h = h
quiet-kept v _ (moves course n) h = h
quiet-kept v _ (puts word value w) h = subst (λ w. IsQuiet w (with_written_word v.size word value v.memory)) (sym w) tt
quiet-kept v _ (closes wait w s) h = settled-quiet wait _ s (closed-none v.memory.copies)
quiet-kept v _ (learns time intervals o news) h = open-none v.wait v.memory _ o (learned-none v.time intervals v.memory) h
quiet-kept v _ (resumes o) h = tt
quiet-kept v _ (begins before time w t c long) h = subst (λ w. IsQuiet w v.memory) w h
quiet-kept v _ (cleans collection needs w met) h =
    bases-none collection.kept (fold repaired v.memory needs) (mends-none needs v.memory (subst (λ w. IsQuiet w v.memory) w h))
quiet-kept v _ (discards collection w) h = tt
quiet-kept v _ (misses page w lt b n) h = tt
quiet-kept v _ (mends need w met) h = tt
quiet-kept v _ (gets_changes from m r) h = still-quiet _ v.wait v.memory _ refl h
quiet-kept v _ (gets_page from page values s) h = still-quiet _ v.wait v.memory v.memory refl h
