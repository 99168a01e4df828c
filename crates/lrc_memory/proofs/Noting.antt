-- The notes of pages, and the lists that are kept of them.
use Rattle.std.proofs.Common.{◌≡◌, ◌∙◌, ℕ, zero, suc, ◌+◌, ◌<◌, List, [], ◌∷◌, map, length, get_or, set, take, replicate, Some, None, refl, ap, sym}
use Rattle.std.specs.Prelude.{fold, filter}
use Rattle.std.specs.List.{range_with_len}
use Rattle.std.specs.Option.{ForSome}
use Rattle.std.proofs.lemmas.List.{get_or-map, length-map, map-set}
use Rattle.std.proofs.lemmas.List.Sums.{fold_more}
use Rattle.std.proofs.Math.Seq.{map-set_same}
use Rattle.lrc_store.specs.Store.{StoreRecord, notice_at}
use Rattle.lrc_table.specs.PageCopy.{pending_changes}
use Rattle.lrc_table.specs.Table.{copy_at}
use Rattle.lrc_memory.specs.declared.memory.PageNote.{PageNote}
use Rattle.lrc_memory.specs.Notes.{keepers_of, named_of, since_of}
use Rattle.lrc_memory.specs.View.{Kept, IsKept}
use Rattle.lrc_memory.proofs.Closes.{named_with}
use Rattle.lrc_memory.proofs.Keepers.{is_kept, kept_with}

-- ---- as many as there are notes

pub long-since : (notes : List PageNote) → length (since_of notes) ≡ length notes
long-since notes = length-map notes (λ (note : PageNote). note.since)

pub long-named : (notes : List PageNote) → length (named_of notes) ≡ length notes
long-named notes = length-map notes (λ (note : PageNote). note.named)

pub long-keepers : (notes : List PageNote) → length (keepers_of notes) ≡ length notes
long-keepers notes = length-map notes (λ (note : PageNote). note.keeper)

-- what is kept, with these notes
abbrev pub noting : Kept → List PageNote → Kept
noting kept notes = record kept { since = since_of notes; named = named_of notes; keepers = keepers_of notes }

-- what is kept, where only one of the three lists is another
pub only-named : (kept : Kept) (old new : List PageNote) → since_of new ≡ since_of old → keepers_of new ≡ keepers_of old
    → noting kept new ≡ record (noting kept old) { named = named_of new }
only-named kept old new since keepers =
    ap (λ (ts : List (List ℕ)). record (noting kept new) { since = ts }) since
    ∙ ap (λ (ks : List ℕ). record (noting kept old) { named = named_of new; keepers = ks }) keepers

pub only-keepers : (kept : Kept) (old new : List PageNote) → since_of new ≡ since_of old → named_of new ≡ named_of old
    → noting kept new ≡ record (noting kept old) { keepers = keepers_of new }
only-keepers kept old new since named =
    ap (λ (ts : List (List ℕ)). record (noting kept new) { since = ts }) since
    ∙ ap (λ (ns : List ℕ). record (noting kept old) { keepers = keepers_of new; named = ns }) named

-- of a page with changes to make there is a notice to keep them in
pub noticed : (kept : Kept) (named : List ℕ) (page : ℕ) → IsKept kept → named ≡ kept.named
    → ForSome (pending_changes (copy_at kept.table page))
    (λ changes. notice_at kept.store (record { node = kept.me; index = get_or named page 0; page = page }) ≡ Some (record { page = page; changes = None }))
noticed kept named page is same = λ changes pending.
    ap (λ (ns : List ℕ). notice_at kept.store (record { node = kept.me; index = get_or ns page 0; page = page })) same
    ∙ is.unmade page changes pending

-- ---- the note of one page

pub named-read : (notes : List PageNote) (page : ℕ) (d : PageNote) → page < length notes
    → (get_or notes page d).named ≡ get_or (named_of notes) page 0
named-read notes page d within = sym (get_or-map (λ (n : PageNote). n.named) notes page d 0 within)

pub keeper-read : (notes : List PageNote) (page : ℕ) (d : PageNote) → page < length notes
    → (get_or notes page d).keeper ≡ get_or (keepers_of notes) page 0
keeper-read notes page d within = sym (get_or-map (λ (n : PageNote). n.keeper) notes page d 0 within)

module _ (notes : List PageNote) (page : ℕ) (note : PageNote) (is : note ≡ get_or notes page note) where
  pub since-at : page < length notes → note.since ≡ get_or (since_of notes) page []
  since-at within = ap (λ (n : PageNote). n.since) is ∙ sym (get_or-map (λ (n : PageNote). n.since) notes page note [] within)

  pub keeper-at : page < length notes → note.keeper ≡ get_or (keepers_of notes) page 0
  keeper-at within = ap (λ (n : PageNote). n.keeper) is ∙ sym (get_or-map (λ (n : PageNote). n.keeper) notes page note 0 within)

  -- a list stays where the new note has in it what the old one had
  pub since-stays : (new : PageNote) → new.since ≡ note.since → since_of (set notes page new) ≡ since_of notes
  since-stays new same = map-set_same (λ (n : PageNote). n.since) notes page new note (same ∙ ap (λ (n : PageNote). n.since) is)

  pub named-stays : (new : PageNote) → new.named ≡ note.named → named_of (set notes page new) ≡ named_of notes
  named-stays new same = map-set_same (λ (n : PageNote). n.named) notes page new note (same ∙ ap (λ (n : PageNote). n.named) is)

  pub keepers-stay : (new : PageNote) → new.keeper ≡ note.keeper → keepers_of (set notes page new) ≡ keepers_of notes
  keepers-stay new same = map-set_same (λ (n : PageNote). n.keeper) notes page new note (same ∙ ap (λ (n : PageNote). n.keeper) is)

  -- a time is noted
  pub only-since : (kept : Kept) (time : List ℕ)
      → noting kept (set notes page (record note { since = time })) ≡ record (noting kept notes) { since = set (since_of notes) page time }
  only-since kept time =
      let new : PageNote = record note { since = time } in
      ap (λ (ts : List (List ℕ)). record (noting kept (set notes page new)) { since = ts }) (map-set (λ (n : PageNote). n.since) notes page new)
      ∙ ap (λ (ns : List ℕ). record (noting kept (set notes page new)) { since = set (since_of notes) page time; named = ns }) (named-stays new refl)
      ∙ ap (λ (ks : List ℕ). record (noting kept notes) { since = set (since_of notes) page time; keepers = ks }) (keepers-stay new refl)

-- ---- notes by page

-- one more page is named
pub named_more : (index : ℕ) (start notes : List PageNote) (pages : List ℕ) (k page : ℕ) (note : PageNote) → k < length pages → page ≡ get_or pages k 0
    → named_of notes ≡ fold (named_with index) (named_of start) (take k pages)
    → named_of (set notes page (record note { named = index })) ≡ fold (named_with index) (named_of start) (take (k + 1) pages)
named_more index start notes pages k page note below is so_far =
    map-set (λ (n : PageNote). n.named) notes page (record note { named = index })
    ∙ ap (λ (ns : List ℕ). set ns page index) so_far
    ∙ ap (λ p. set (fold (named_with index) (named_of start) (take k pages)) p index) is
    ∙ sym (fold_more (named_with index) (named_of start) pages k 0 below)

-- the pages that are kept, as many as there are notes
pub kept_noted : (store : StoreRecord) (me : ℕ) (notes : List PageNote)
    → filter (is_kept store (keepers_of notes) me) (range_with_len 0 (length notes)) ≡ kept_with store me (keepers_of notes)
kept_noted store me notes = ap (λ n. filter (is_kept store (keepers_of notes) me) (range_with_len 0 n)) (sym (long-keepers notes))

-- ---- at the start

same_of : {X : Type 0} (f : PageNote → X) (count : ℕ) (note : PageNote) → map f (replicate count note) ≡ replicate count (f note)
same_of f zero note = refl
same_of f (suc count) note = ap (λ rest. f note ∷ rest) (same_of f count note)

module _ (notes : List PageNote) (count : ℕ) (time : List ℕ)
    (are : notes ≡ replicate count (record { since = time; named = 0; keeper = 0 })) where
  pub since-first : since_of notes ≡ replicate count time
  since-first = ap since_of are ∙ same_of (λ (n : PageNote). n.since) count (record { since = time; named = 0; keeper = 0 })

  pub named-first : named_of notes ≡ replicate count 0
  named-first = ap named_of are ∙ same_of (λ (n : PageNote). n.named) count (record { since = time; named = 0; keeper = 0 })

  pub keepers-first : keepers_of notes ≡ replicate count 0
  keepers-first = ap keepers_of are ∙ same_of (λ (n : PageNote). n.keeper) count (record { since = time; named = 0; keeper = 0 })
