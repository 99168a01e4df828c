-- What comes for pages changes nothing of what a node has of them; and a base copy that comes has what the last collection left.
use Rattle.std.proofs.Common.{◌≡◌, ℕ, List, [], Bool, true, false, map, refl, sym, ap, subst}
use Rattle.std.specs.Prelude.{◌==◌, Option, Some, None, All, not, filter, slice_index_or, if◌then◌else◌}
use Rattle.std.proofs.lemmas.Bool.{eqb-true}
use Rattle.std.proofs.lemmas.List.Elements.{All-map, All-weaker}
use Rattle.lrc_page.specs.declared.size.Size.{Size}
use Rattle.lrc_store.specs.Store.{StoredRecord}
use Rattle.lrc_protocol.specs.Pages.{Copy, valid, written, invalid, absent, Base, unneeded, due, come, Need, base_of, need_of, changes_came, page_came}
use Rattle.lrc_protocol.specs.Pages.{Memory, copy_at, keeper_at}
use Rattle.lrc_protocol.specs.Barriers.{base_at}
use Rattle.lrc_protocol.specs.Node.{Wait, nothing, grant, departure, access, upkeep, discard, needs_of}
use Rattle.lrc_protocol.specs.Turn.{with_needs}
use Rattle.lrc_node_laws.proofs.Needs.{needs-with}
use Rattle.lrc_reading_laws.specs.Written.{word_on}
use Rattle.lrc_exact.specs.Rule.{Knowledge, State}
use Rattle.lrc_exact_pages.specs.Pages.{HasPages}
use Rattle.lrc_exact_turns.proofs.Stands.{IsLeft, NeedIsLeft, Stands}

-- a new need has no base copy yet
not_come : (keeper : ℕ) (copy : Copy) (values : List ℕ) → base_of keeper copy ≡ come values → ⊥
not_come keeper (valid v) values e = cc
not_come keeper (written v twin) values e = cc
not_come keeper (invalid v since) values e = cc
not_come keeper absent values e = cc

pub new_need : (size : Size) (left : ℕ → ℕ) (nodes : ℕ) (memory : Memory) (page : ℕ) → NeedIsLeft size left (need_of nodes memory page)
new_need size left nodes memory page values e = absurd (not_come (keeper_at memory page) (copy_at memory page) values e)

pub new_needs : (size : Size) (left : ℕ → ℕ) (nodes : ℕ) (memory : Memory) (pages : List ℕ) → All (NeedIsLeft size left) (map (need_of nodes memory) pages)
new_needs size left nodes memory pages =
    All-map (NeedIsLeft size left) (need_of nodes memory) pages (λ k d within. new_need size left nodes memory (slice_index_or pages k d))

-- changes came
pub changed_needs : (size : Size) (left : ℕ → ℕ) (page from : ℕ) (wait : Wait) → All (NeedIsLeft size left) (needs_of wait)
    → All (NeedIsLeft size left) (needs_of (with_needs (changes_came page from) wait))
changed_needs size left page from wait h =
    subst (All (NeedIsLeft size left)) (sym (needs-with (changes_came page from) wait))
    (All-map (NeedIsLeft size left) (changes_came page from) (needs_of wait)
    (All-weaker (NeedIsLeft size left) (λ need. NeedIsLeft size left (changes_came page from need))
    (λ need f. by_test need f (need.page == page)) (needs_of wait) h))
  where
    by_test : (need : Need) → NeedIsLeft size left need → (b : Bool)
        → NeedIsLeft size left (if b then record need { asked = filter (λ asked. not (asked.maker == from)) need.asked } else need)
    by_test need f true = f
    by_test need f false = f

-- a base copy came
values_in : Base → List ℕ
values_in (come values) = values
values_in (due keeper) = []
values_in unneeded = []

same_come : (a b : List ℕ) → come a ≡ come b → a ≡ b
unfolding values_in
same_come a b e = ap values_in e

pub sent_needs : (size : Size) (left : ℕ → ℕ) (page : ℕ) (values : List ℕ) (wait : Wait) → IsLeft size left page values
    → All (NeedIsLeft size left) (needs_of wait) → All (NeedIsLeft size left) (needs_of (with_needs (page_came page values) wait))
sent_needs size left page values wait is h =
    subst (All (NeedIsLeft size left)) (sym (needs-with (page_came page values) wait))
    (All-map (NeedIsLeft size left) (page_came page values) (needs_of wait)
    (All-weaker (NeedIsLeft size left) (λ need. NeedIsLeft size left (page_came page values need))
    (λ need f. by_test need f (need.page == page) refl) (needs_of wait) h))
  where
    by_test : (need : Need) → NeedIsLeft size left need → (b : Bool) → (need.page == page) ≡ b
        → NeedIsLeft size left (if b then record need { base = come values } else need)
    by_test need f true e vs same =
        subst (λ p. IsLeft size left p vs) (sym (eqb-true need.page page e)) (subst (IsLeft size left page) (same_come values vs same) is)
    by_test need f false e vs same = f vs same

-- what came is noted in the wait
pub noted : (size : Size) (nodes collect : ℕ) (made : List StoredRecord) (left later : ℕ → ℕ) (all : Knowledge) (me : ℕ) (time : List ℕ) (change : Need → Need)
    (wait : Wait) (before after : Memory) (state : State)
    → ((s : State) → HasPages size made (λ page offset. left (word_on size page offset)) time before s
    → HasPages size made (λ page offset. left (word_on size page offset)) time after s)
    → after.bases ≡ before.bases → All (NeedIsLeft size left) (needs_of (with_needs change wait))
    → Stands size nodes collect made left later all me time wait before state
    → Stands size nodes collect made left later all me time (with_needs change wait) after state
noted size nodes collect made left later all me time change wait before after state pages bases needs h = by_wait wait needs h
  where
    base_was : (page : ℕ) (values : List ℕ) → base_at after page ≡ Some values → base_at before page ≡ Some values
    base_was page values e = subst (λ (bases : List (Option (List ℕ))). slice_index_or bases page None ≡ Some values) bases e

    by_wait : (wait : Wait) → All (NeedIsLeft size left) (needs_of (with_needs change wait))
        → Stands size nodes collect made left later all me time wait before state
        → Stands size nodes collect made left later all me time (with_needs change wait) after state
    by_wait nothing needs h =
        record { pages = pages _ h.pages; bases = λ page values e. h.bases page values (base_was page values e); needs = needs; own = h.own }
    by_wait (grant lock) needs h =
        record { pages = pages _ h.pages; bases = λ page values e. h.bases page values (base_was page values e); needs = needs; own = h.own }
    by_wait departure needs h =
        record { pages = pages _ h.pages; bases = λ page values e. h.bases page values (base_was page values e); needs = needs; own = h.own }
    by_wait (access need) needs h =
        record { pages = pages _ h.pages; bases = λ page values e. h.bases page values (base_was page values e); needs = needs; own = h.own }
    by_wait (upkeep collection wanted) needs h =
        record { pages = pages _ h.pages; bases = λ page values e. h.bases page values (base_was page values e); needs = needs; own = h.own }
    by_wait (discard collection) needs h =
        record { pages = pages _ h.pages; bases = λ page values e. h.bases page values (base_was page values e); needs = needs; own = h.own }
