-- What a page needs, as it is seen.
use Rattle.std.proofs.Common.{◌≡◌, ◌≢◌, ◌∙◌, ℕ, suc, ◌<◌, cond, Bool, true, Option, None, List, [], ◌∷◌, map, length, get_or, refl, ap, sym, subst, arith}
use Rattle.std.specs.Prelude.{All, is_none, if◌then◌else◌}
use Rattle.std.specs.List.{filter, list_all}
use Rattle.std.proofs.lemmas.Bool.{and_parts}
use Rattle.std.proofs.lemmas.List.Elements.{All-map}
use Rattle.lrc_page.specs.declared.changes.Change.{Change}
use Rattle.lrc_store.specs.declared.key.Key.{Key}
use Rattle.lrc_store.specs.Interval.{IntervalRecord, by_weight}
use Rattle.lrc_store.specs.Order.{ascending_part}
use Rattle.lrc_store.specs.Store.{StoreRecord, intervals_of, key_of, is_missing, missing_of, changes_at}
use Rattle.lrc_table.specs.declared.slot.State.{State}
use Rattle.lrc_table.specs.declared.slot.State.TheVariants.{Valid, Written, Invalid, Absent}
use Rattle.lrc_table.specs.PageCopy.{pending_changes}
use Rattle.lrc_table.specs.Table.{copy_at}
use Rattle.lrc_protocol.specs.Pages.{missing_at, missing_in, keeper_at, Base, Need, base_of, asked_of, unknown_of, need_of}
use Rattle.lrc_memory.specs.Steps.{base_in}
use Rattle.lrc_memory.proofs.Mending.{changes-over, unmade-none}
use Rattle.lrc_protocol.specs.Pages as memory
use Rattle.lrc_memory.specs.View.{Kept, NodeMemory, seen, node_seen, seen_in, unmade}
use Rattle.lrc_memory.proofs.Overlays.{intervals-over}
use Rattle.lrc_memory.proofs.Copies.{copy-seen}

missing-seen : (kept : Kept) (page : ℕ) (since : List ℕ) → missing_of (seen kept).store page since ≡ missing_of kept.store page since
missing-seen kept page since =
    ap (λ (is : List IntervalRecord). map (key_of page) (ascending_part by_weight (is_missing page since) is))
    (intervals-over (unmade kept.me kept.named kept.table) kept.store)

-- by the state of the copy
pub lacking-in : (kept : Kept) (n : NodeMemory) (page : ℕ) (state : State) → node_seen kept ≡ n → page < length kept.table.copies
    → (copy_at kept.table page).state ≡ state
    → missing_at n.memory page ≡ missing_in (seen kept) page (seen_in state (get_or kept.since page []) (copy_at kept.table page))
lacking-in kept n page state is within state_is =
    ap (λ (n : NodeMemory). missing_at n.memory page) (sym is)
    ∙ ap (missing_in (seen kept) page) (copy-seen kept page within ∙ ap (λ s. seen_in s (get_or kept.since page []) (copy_at kept.table page)) state_is)

pub lacking-invalid : (kept : Kept) (n : NodeMemory) (page : ℕ) → node_seen kept ≡ n → page < length kept.table.copies
    → (copy_at kept.table page).state ≡ Invalid → missing_at n.memory page ≡ missing_of kept.store page (get_or kept.since page [])
lacking-invalid kept n page is within state = lacking-in kept n page Invalid is within state ∙ missing-seen kept page (get_or kept.since page [])

pub lacking-absent : (kept : Kept) (n : NodeMemory) (page : ℕ) → node_seen kept ≡ n → page < length kept.table.copies
    → (copy_at kept.table page).state ≡ Absent → missing_at n.memory page ≡ missing_of kept.store page kept.collected
lacking-absent kept n page is within state = lacking-in kept n page Absent is within state ∙ missing-seen kept page kept.collected

pub lacking-none : (kept : Kept) (n : NodeMemory) (page : ℕ) → node_seen kept ≡ n → page < length kept.table.copies
    → (copy_at kept.table page).state ≢ Invalid → (copy_at kept.table page).state ≢ Absent → missing_at n.memory page ≡ []
lacking-none kept n page is within not_invalid not_absent =
    lacking-in kept n page (copy_at kept.table page).state is within refl ∙ by_state (copy_at kept.table page).state not_invalid not_absent
  where
    by_state : (state : State) → state ≢ Invalid → state ≢ Absent
        → missing_in (seen kept) page (seen_in state (get_or kept.since page []) (copy_at kept.table page)) ≡ []
    by_state Valid a b = refl
    by_state Written a b = refl
    by_state Invalid a b = absurd (a refl)
    by_state Absent a b = absurd (b refl)

-- the keys of which nothing is known: their page has nothing to make where its copy is not readable
unknown-seen : (kept : Kept) (page : ℕ) (keys : List Key) → All (λ (key : Key). key.page ≡ page) keys → pending_changes (copy_at kept.table page) ≡ None
    → unknown_of kept.store keys ≡ unknown_of (seen kept).store keys
unknown-seen kept page [] of none = refl
unknown-seen kept page (key ∷ keys) of none =
    let same : changes_at (seen kept).store key ≡ changes_at kept.store key =
    changes-over (unmade kept.me kept.named kept.table) kept.store key (unmade-none kept page key (of 0 key (omega arith)) none) in
    ap (λ (found : Option (List Change)). cond (is_none found) (key ∷ unknown_of kept.store keys) (unknown_of kept.store keys)) (sym same)
    ∙ ap (λ (rest : List Key). cond (is_none (changes_at (seen kept).store key)) (key ∷ rest) rest)
    (unknown-seen kept page keys (λ k d within. of (suc k) d (omega arith)) none)

of-page : (page : ℕ) (intervals : List IntervalRecord) → All (λ (key : Key). key.page ≡ page) (map (key_of page) intervals)
of-page page intervals = All-map (λ (key : Key). key.page ≡ page) (key_of page) intervals (λ k d within. refl)

pub unknown-lacking : (kept : Kept) (page : ℕ) → page < length kept.table.copies
    → unknown_of kept.store (missing_at (seen kept) page) ≡ unknown_of (seen kept).store (missing_at (seen kept) page)
unknown-lacking kept page within = by_state (copy_at kept.table page).state refl
  where
    at : (state : State) → (copy_at kept.table page).state ≡ state
        → missing_at (seen kept) page ≡ missing_in (seen kept) page (seen_in state (get_or kept.since page []) (copy_at kept.table page))
    at state is = lacking-in kept (node_seen kept) page state refl within is

    some : (since : List ℕ) → pending_changes (copy_at kept.table page) ≡ None → missing_at (seen kept) page ≡ missing_of (seen kept).store page since
        → unknown_of kept.store (missing_at (seen kept) page) ≡ unknown_of (seen kept).store (missing_at (seen kept) page)
    some since none is =
        unknown-seen kept page (missing_at (seen kept) page)
        (subst (All (λ (key : Key). key.page ≡ page)) (sym is)
        (of-page page (ascending_part by_weight (is_missing page since) (intervals_of (seen kept).store))))
        none

    nothing : missing_at (seen kept) page ≡ [] → unknown_of kept.store (missing_at (seen kept) page) ≡ unknown_of (seen kept).store (missing_at (seen kept) page)
    nothing is = ap (unknown_of kept.store) is ∙ sym (ap (unknown_of (seen kept).store) is)

    by_state : (state : State) → (copy_at kept.table page).state ≡ state
        → unknown_of kept.store (missing_at (seen kept) page) ≡ unknown_of (seen kept).store (missing_at (seen kept) page)
    by_state Valid is = nothing (at Valid is)
    by_state Written is = nothing (at Written is)
    by_state Invalid is = some (get_or kept.since page []) (ap (λ s. pending_changes (record (copy_at kept.table page) { state = s })) is) (at Invalid is)
    by_state Absent is = some kept.collected (ap (λ s. pending_changes (record (copy_at kept.table page) { state = s })) is) (at Absent is)

base-in : (kept : Kept) (page keeper : ℕ) (state : State)
    → base_in state keeper ≡ base_of keeper (seen_in state (get_or kept.since page []) (copy_at kept.table page))
base-in kept page keeper Valid = refl
base-in kept page keeper Written = refl
base-in kept page keeper Invalid = refl
base-in kept page keeper Absent = refl

-- the parts of a need make it
pub need-made : (kept : Kept) (n : NodeMemory) (page nodes keeper : ℕ) (missing unknown : List Key) (base : Base) (need : Need) → node_seen kept ≡ n
    → page < length kept.table.copies → nodes ≡ length n.memory.store.last → keeper ≡ keeper_at n.memory page
    → missing ≡ missing_at n.memory page → unknown ≡ unknown_of kept.store missing → base ≡ base_in (copy_at kept.table page).state keeper
    → need ≡ record { page = page; base = base; asked = asked_of nodes unknown; missing = missing }
    → need ≡ need_of (length n.memory.store.last) n.memory page
need-made kept n page nodes keeper missing unknown base need is within nodes_are keeper_is missing_are unknown_are base_is need_is =
    let all_unknown : unknown ≡ unknown_of n.memory.store (missing_at n.memory page) =
    unknown_are ∙ ap (unknown_of kept.store) (missing_are ∙ ap (λ (n : NodeMemory). missing_at n.memory page) (sym is))
    ∙ unknown-lacking kept page within ∙ ap (λ (n : NodeMemory). unknown_of n.memory.store (missing_at n.memory page)) is in
    let the_base : base ≡ base_of (keeper_at n.memory page) (memory.copy_at n.memory page) =
    base_is ∙ base-in kept page keeper (copy_at kept.table page).state
    ∙ ap (base_of keeper) (sym (copy-seen kept page within) ∙ ap (λ (n : NodeMemory). memory.copy_at n.memory page) is)
    ∙ ap (λ k. base_of k (memory.copy_at n.memory page)) keeper_is in
    need_is
    ∙ ap (λ (b : Base). record { page = page; base = b; asked = asked_of nodes unknown; missing = missing }) the_base
    ∙ ap (λ (ks : List Key). record {
      page = page;
      base = base_of (keeper_at n.memory page)
          (memory.copy_at n.memory page);
      asked = asked_of nodes ks;
      missing = missing;
    }) all_unknown
    ∙ ap (λ k. record {
      page = page;
      base = base_of (keeper_at n.memory page) (memory.copy_at n.memory page);
      asked = asked_of k (unknown_of n.memory.store (missing_at n.memory page));
      missing = missing;
    }) nodes_are
    ∙ ap (λ (ks : List Key). record {
      page = page;
      base = base_of (keeper_at n.memory page) (memory.copy_at n.memory page);
      asked = asked_of (length n.memory.store.last) (unknown_of n.memory.store (missing_at n.memory page));
      missing = ks;
    }) missing_are

-- ---- what is asked for where nothing is known

kept_all : {X : Type 0} (test : X → Bool) (xs : List X) → list_all test xs ≡ true → filter test xs ≡ xs
kept_all test [] h = refl
kept_all test (x ∷ xs) h =
    let both = and_parts (test x) (list_all test xs) h in
    ap (λ b. if b then x ∷ filter test xs else filter test xs) both.0 ∙ ap (λ l. x ∷ l) (kept_all test xs both.1)

pub all-unknown : (store : StoreRecord) (keys : List Key) → list_all (λ key. is_none (changes_at store key)) keys ≡ true → unknown_of store keys ≡ keys
all-unknown store keys h = kept_all (λ (key : Key). is_none (changes_at store key)) keys h
