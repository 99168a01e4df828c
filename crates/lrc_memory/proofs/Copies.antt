-- The copies of the pages as they are seen.
use Rattle.std.proofs.Common.{◌≡◌, ◌∙◌, ℕ, ◌<◌, cond, Option, Some, None, List, [], length, get_or, refl, ap, sym, arith}
use Rattle.std.proofs.lemmas.List.{get_or-map}
use Rattle.std.proofs.lemmas.List.FromFn.{get_or-map-range_with_len, length-map-range_with_len}
use Rattle.lrc_table.specs.declared.slot.State.{State}
use Rattle.lrc_table.specs.declared.slot.State.TheVariants.{Valid, Written, Invalid, Absent}
use Rattle.lrc_page.specs.Place.{page_of, offset_of}
use Rattle.lrc_table.specs.PageCopy.{PageCopy, is_readable as may_read, read_at, fresh}
use Rattle.lrc_table.specs.Table.{copy_at as copy_in}
use Rattle.lrc_protocol.specs.Pages.{Copy, absent, is_readable, values_of, copy_at, value_at}
use Rattle.lrc_protocol.specs.Barriers.{base_at}
use Rattle.lrc_memory.specs.View.{Kept, NodeMemory, seen, node_seen, seen_in, seen_copy}

-- there are as many copies
pub length-seen : (kept : Kept) → length (seen kept).copies ≡ length kept.table.copies
length-seen kept = length-map-range_with_len (seen_copy kept.table kept.since) 0 (length kept.table.copies)

-- the copy of a page
pub copy-seen : (kept : Kept) (page : ℕ) → page < length kept.table.copies
    → copy_at (seen kept) page ≡ seen_copy kept.table kept.since page
copy-seen kept page within =
    get_or-map-range_with_len (seen_copy kept.table kept.since) 0 (length kept.table.copies) page page absent within (omega arith)

readable-in : (state : State) (since : List ℕ) (copy : PageCopy) → is_readable (seen_in state since copy) ≡ may_read state
readable-in Valid since copy = refl
readable-in Written since copy = refl
readable-in Invalid since copy = refl
readable-in Absent since copy = refl

pub readable-seen : (kept : Kept) (page : ℕ) → page < length kept.table.copies
    → is_readable (copy_at (seen kept) page) ≡ may_read (copy_in kept.table page).state
readable-seen kept page within =
    ap is_readable (copy-seen kept page within)
    ∙ readable-in (copy_in kept.table page).state (get_or kept.since page []) (copy_in kept.table page)

-- ---- reading

-- what `read` answers
abbrev pub read_as : NodeMemory → ℕ → Option ℕ
read_as n word = cond (is_readable (copy_at n.memory (page_of word n.size))) (Some (value_at n.size n.memory word)) None

read-in : (state : State) (since : List ℕ) (copy : PageCopy) (offset : ℕ)
    → cond (may_read state) (Some (get_or copy.values offset 0)) None
    ≡ cond (is_readable (seen_in state since copy)) (Some (get_or (values_of (seen_in state since copy)) offset 0)) None
read-in Valid since copy offset = refl
read-in Written since copy offset = refl
read-in Invalid since copy offset = refl
read-in Absent since copy offset = refl

pub read-seen : (kept : Kept) (word : ℕ) → page_of word kept.table.size < length kept.table.copies
    → read_at (copy_in kept.table (page_of word kept.table.size)) (offset_of word kept.table.size) ≡ read_as (node_seen kept) word
read-seen kept word within =
    let page = page_of word kept.table.size in
    let offset = offset_of word kept.table.size in
    let copy = copy_in kept.table page in
    read-in copy.state (get_or kept.since page []) copy offset
    ∙ ap (λ (copy : Copy). cond (is_readable copy) (Some (get_or (values_of copy) offset 0)) None) (sym (copy-seen kept page within))

-- ---- pages in range

pub within-seen : (kept : Kept) (n : NodeMemory) (page : ℕ) → node_seen kept ≡ n → page < length n.memory.copies → page < length kept.table.copies
within-seen kept n page is within =
    omega (arith, length-seen kept, within, ap (λ (n : NodeMemory). length n.memory.copies) is)

pub word-seen : (kept : Kept) (n : NodeMemory) (word : ℕ) → node_seen kept ≡ n → page_of word n.size < length n.memory.copies
    → page_of word kept.table.size < length kept.table.copies
word-seen kept n word is within =
    omega (
      arith,
      length-seen kept,
      within,
      ap (λ (n : NodeMemory). length n.memory.copies) is,
      ap (λ (n : NodeMemory). page_of word n.size) is,
    )

pub readable_as : (kept : Kept) (n : NodeMemory) (page : ℕ) → node_seen kept ≡ n → page < length kept.table.copies
    → is_readable (copy_at n.memory page) ≡ may_read (copy_in kept.table page).state
readable_as kept n page is within =
    ap (λ (n : NodeMemory). is_readable (copy_at n.memory page)) (sym is) ∙ readable-seen kept page within

-- ---- base copies

pub base-seen : (kept : Kept) (page : ℕ) → page < length kept.table.copies → base_at (seen kept) page ≡ (copy_in kept.table page).base
base-seen kept page within = get_or-map (λ (copy : PageCopy). copy.base) kept.table.copies page (fresh []) None within

pub base_as : (kept : Kept) (n : NodeMemory) (page : ℕ) → node_seen kept ≡ n → page < length n.memory.copies
    → (copy_in kept.table page).base ≡ base_at n.memory page
base_as kept n page is within =
    sym (base-seen kept page (within-seen kept n page is within)) ∙ ap (λ (n : NodeMemory). base_at n.memory page) is
