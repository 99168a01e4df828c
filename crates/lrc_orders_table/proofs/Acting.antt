-- A node of a row makes its next act and settles.
use Rattle.std.proofs.Common.{◌≡◌, ℕ, ◌+◌, ◌<◌, Bool, true, false, List, get_or, map, refl, sym, ◌∙◌, ap, subst, arith}
use Rattle.std.specs.Prelude.{Some, if◌then◌else◌, slice_get, slice_index, slice_set}
use Rattle.std.specs.List.{range_with_len}
use Rattle.std.proofs.lemmas.Bool.{true≢false}
use Rattle.std.proofs.lemmas.List.{get_or-map}
use Rattle.std.proofs.lemmas.List.FromFn.{get_or-range_with_len}
use Rattle.std.proofs.lemmas.Option.{get_or_from_slice_get, same_Some, slice_get_within}
use Rattle.lrc_trace.specs.declared.act.Act.{Act}
use Rattle.lrc_exec.specs.declared.spot.Flat.{Flat}
use Rattle.lrc_exec.specs.declared.spot.Spot.{Spot}
use Rattle.lrc_exec.specs.declared.state.State.{State}
use Rattle.lrc_exec.specs.Ask.{ask_of}
use Rattle.lrc_exec.specs.Meaning.{Next as TheAct, quiet, prints, reads, writes, acquires, releases, arrives, departs, traps, ends, next_of as next_of_thread}
use Rattle.lrc_exec.specs.Spots.{thread_at}
use Rattle.lrc_exec.specs.States.{IsStateOf}
use Rattle.lrc_exec.proofs.NextLaws.{IsFine, next_of-fine}
use Rattle.lrc_orders.specs.declared.noted.Noted.{Noted}
use Rattle.lrc_orders.proofs.Keeping.{grows_again, stands_on}
use Rattle.lrc_orders_settling.specs.Gone.{acts_by, freed}
use Rattle.lrc_orders_live.specs.Live.{forgot}
use Rattle.lrc_orders_table.specs.declared.rows.Row.{Row}
use Rattle.lrc_orders_table.specs.Links.{AreNotesAt}
use Rattle.lrc_orders_memory.specs.Sharing.{IsSharedAt}
use Rattle.lrc_orders_memory.proofs.Apart.{shared_kept}
use Rattle.lrc_orders_table.specs.declared.next.Next.{Next}
use Rattle.lrc_orders_table.specs.declared.next.Next.TheVariants.{Stopped, Waits}
use Rattle.lrc_orders_table.specs.Nexts.{SettlesSo, next_by, next_in, notes_on}
use Rattle.lrc_orders_table.specs.declared.known.Means.{Means}
use Rattle.lrc_orders_table.specs.declared.table.After.{After}
use Rattle.lrc_orders_table.specs.declared.table.Table.{Table}
use Rattle.lrc_orders_table.specs.Going.{HasGone}
use Rattle.lrc_orders_table.specs.Shared.{Fits, holders_then, words_then}
use Rattle.lrc_orders_table.specs.Tables.{IsAfter, IsRowOf, IsTable, KeepsRows}
use Rattle.lrc_orders_table.proofs.Gone.{new_key, new_of}
use Rattle.lrc_orders_table.proofs.Keeping.{keeps_again, of_grown}
use Rattle.lrc_orders_table.proofs.RowNodes.{node_there}

-- a spot has the number of its node
pub me_at : (flat : Flat) (state : State) (node : ℕ) (spot : Spot) → IsStateOf flat state → slice_get state.spots.items node ≡ Some spot → node ≡ spot.me
me_at flat state node spot valid here =
    let spots = state.spots.items in
    let within = slice_get_within spots node spot here in
    let less : node < flat.nodes = let count = valid.spots in omega (arith, within, count) in
    let mine : get_or (map (λ (s : Spot). s.me) spots) node 0 ≡ spot.me =
    get_or-map (λ (s : Spot). s.me) spots node spot 0 within ∙ ap (λ (s : Spot). s.me) (get_or_from_slice_get spots node spot spot here) in
    let there : get_or (range_with_len 0 flat.nodes) node 0 ≡ 0 + node = get_or-range_with_len 0 flat.nodes node 0 less in
    let same = ap (λ l. get_or l node 0) valid.numbers in
    omega (arith, mine, there, same)

-- the word or the lock is there that it reads, writes or acquires next
module _ (flat : Flat) (state : State) (valid : IsStateOf flat state) (spot : Spot) where
  fits_by : (next : TheAct) → IsFine (thread_at flat spot) next → Fits (next_by (ask_of next)) state.memory.items state.holders.items
  fits_by (reads word after) fine = let lt = fine.0 in let e = valid.memory in omega (arith, lt, e)
  fits_by (writes word value after) fine = let lt = fine.0 in let e = valid.memory in omega (arith, lt, e)
  fits_by (acquires lock after) fine = let lt = fine.0 in let e = valid.holders in omega (arith, lt, e)
  fits_by (quiet after) fine = tt
  fits_by (prints value after) fine = tt
  fits_by (releases lock after) fine = tt
  fits_by (arrives after) fine = tt
  fits_by (departs after) fine = tt
  fits_by (traps cause) fine = tt
  fits_by ends fine = tt

  fits_cases : (stopped arrived : Bool)
      → Fits (if stopped then Stopped else (if arrived then Waits else next_by (ask_of (next_of_thread (thread_at flat spot))))) state.memory.items
      state.holders.items
  fits_cases true arrived = tt
  fits_cases false true = tt
  fits_cases false false = fits_by (next_of_thread (thread_at flat spot)) (next_of-fine (thread_at flat spot))

  pub fits_here : Fits (next_in flat spot) state.memory.items state.holders.items
  fits_here = fits_cases spot.stopped spot.arrived

-- ---- the row then

-- the notes that it has then
record NotesThen (means : Means) (table : Table) (notes : ℕ) (before then_noted : List Act) : Type 0 where
  acts : List Act
  are : AreNotesAt table.rows.notes notes acts
  noted : means.noting ≡ true → acts ≡ then_noted
  bare : means.noting ≡ false → acts ≡ before

notes_cases : (means : Means) (table : Table) (notes : ℕ) (before then_noted : List Act) (b : Bool) → means.noting ≡ b
    → (means.noting ≡ true → AreNotesAt table.rows.notes notes then_noted) → (means.noting ≡ false → AreNotesAt table.rows.notes notes before)
    → NotesThen means table notes before then_noted
notes_cases means table notes before then_noted true e noted bare = record {
  acts = then_noted;
  are = noted e;
  noted = λ f. refl;
  bare = λ f. absurd (true≢false (sym e ∙ f));
}
notes_cases means table notes before then_noted false e noted bare = record {
  acts = before;
  are = bare e;
  noted = λ f. absurd (true≢false (sym f ∙ e));
  bare = λ f. refl;
}

module _ (means : Means) (old one two last : Table) (row : Row) (key : Noted) (node value place shared notes thread : ℕ) (spot : Spot) (next : Next)
    (known : IsTable means one) (first : KeepsRows old one) (second : KeepsRows one two) (third : KeepsRows two last)
    (of : IsRowOf means old row key) (here : slice_get key.state.spots.items node ≡ Some spot) (after : After)
    (comes : slice_get one.afters.entries place ≡ Some (record { thread = slice_index row.threads node; value = value }, after))
    (thread_is : thread ≡ after.thread) (next_is : next ≡ next_in means.flat spot)
    (becomes : IsSharedAt two.rows.shared shared (words_then next key.state.memory.items)
    (freed after.deeds.items (holders_then node next key.state.holders.items)))
    (noted : means.noting ≡ true → AreNotesAt last.rows.notes notes (notes_on key.notes.items (acts_by node after.deeds.items)))
    (bare : means.noting ≡ false → notes ≡ row.notes) (traps : Bool) (traps_are : traps ≡ after.traps) where
  the : IsAfter means one.rows.threads.keys (record { thread = slice_index row.threads node; value = value }) after
  the = known.afters place (record { thread = slice_index row.threads node; value = value }) after comes

  spot_same : the.spot ≡ spot
  spot_same =
      let there = stands_on (slice_index row.threads node) spot first.widens.threads (node_there old row key node spot of.stands here) in
      same_Some the.spot spot (sym the.there ∙ there)

  so : SettlesSo means.flat spot value the.settled
  so = subst (λ s. SettlesSo means.flat s value the.settled) spot_same the.so

  of_last : IsRowOf means last row key
  of_last = of_grown means old last row key (keeps_again first (keeps_again second third)) of

  kept : slice_get last.rows.threads.keys thread ≡ Some (forgot means.live.now the.settled.spot)
  kept =
      stands_on thread (forgot means.live.now the.settled.spot) (grows_again second.widens.threads third.widens.threads)
      (ap (slice_get one.rows.threads.keys) thread_is ∙ the.kept)

  s : IsSharedAt last.rows.shared shared (words_then (next_in means.flat spot) key.state.memory.items)
      (freed the.settled.deeds.items (holders_then node (next_in means.flat spot) key.state.holders.items))
  s =
      let words = key.state.memory.items in
      let holders = key.state.holders.items in
      subst (λ m. IsSharedAt last.rows.shared shared (words_then m words) (freed the.settled.deeds.items (holders_then node m holders))) next_is
      (subst (λ ds. IsSharedAt last.rows.shared shared (words_then next words) (freed ds (holders_then node next holders))) the.deeds
      (shared_kept two.rows.shared last.rows.shared shared _ _ third.widens.shared becomes))

  n : NotesThen means last notes key.notes.items (notes_on key.notes.items (acts_by node the.settled.deeds.items))
  n =
      notes_cases means last notes key.notes.items (notes_on key.notes.items (acts_by node the.settled.deeds.items)) means.noting refl
      (λ e. subst (λ ds. AreNotesAt last.rows.notes notes (notes_on key.notes.items (acts_by node ds))) the.deeds (noted e))
      (λ e. subst (λ k. AreNotesAt last.rows.notes k key.notes.items) (sym (bare e)) of_last.stands.notes)

  pub has_gone : HasGone means key node value last
      (record { row = record { threads = slice_set row.threads node thread; shared = shared; notes = notes }; traps = traps })
  has_gone = record {
    spot = spot;
    here = here;
    settled = the.settled;
    so = so;
    new = new_key means last row key node value thread shared notes spot the.settled of_last here so kept s n.acts n.are;
    of = new_of means last row key node value thread shared notes spot the.settled of_last here so kept s n.acts n.are;
    traps = traps_are ∙ the.traps;
    memory = refl;
    holders = refl;
    spots = refl;
    noted = n.noted;
    bare = n.bare;
  }
