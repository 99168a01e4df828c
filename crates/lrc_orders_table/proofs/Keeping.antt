-- Tables to which more is known.
use Rattle.std.proofs.Common.{◌≡◌, ℕ, zero, suc, ◌≤◌, List, [], ◌∷◌, ◌++◌, inl, inr, length, map, refl, sym, ◌∙◌, ap, subst, arith}
use Rattle.std.specs.Prelude.{All, Some, get_or, slice_get, slice_index_or}
use Rattle.std.specs.List.{IsDistinct}
use Rattle.std.proofs.lemmas.Bool.{cases_lt}
use Rattle.std.proofs.lemmas.List.{length_push}
use Rattle.std.proofs.lemmas.Option.{get_or_from_slice_get, same_Some, slice_get-get_or, slice_get_within}
use Rattle.lrc_trace.proofs.Positions.{slice_get-front, slice_get-seam}
use Rattle.lrc_exec.specs.declared.spot.Flat.{Flat}
use Rattle.lrc_exec.specs.declared.spot.Spot.{Spot}
use Rattle.lrc_orders.specs.declared.noted.Noted.{Noted}
use Rattle.lrc_orders.specs.Kept.{AreSpotsDistinct, Grows}
use Rattle.lrc_orders.proofs.Keeping.{grows_not, stands_on}
use Rattle.lrc_orders_settling.specs.Gone.{freed}
use Rattle.lrc_orders_live.specs.Live.{forgot}
use Rattle.lrc_orders_memory.specs.Sharing.{AreSharedDistinct, IsSharedAt, KeepsShared}
use Rattle.lrc_orders_memory.proofs.Apart.{shared_kept, shared_stays}
use Rattle.lrc_orders_table.specs.declared.rows.Row.{Row}
use Rattle.lrc_orders_table.specs.Links.{AreNotesSound, GrowNotes}
use Rattle.lrc_orders_table.specs.Rows.{AddsThreads, AreRowsDistinct, WidensRows}
use Rattle.lrc_orders_table.specs.contracts.rows.RowPartialEq.TheImpl.{eq-value as row_eq}
use Rattle.lrc_orders_table.proofs.Linking.{notes_not}
use Rattle.lrc_orders_table.proofs.RowLaws.{rows_again, rows_not, stands_grown}
use Rattle.lrc_orders_table.specs.declared.next.Next.TheVariants.{Stopped}
use Rattle.lrc_orders_table.specs.Nexts.{next_in}
use Rattle.lrc_orders_table.specs.declared.known.Means.{Means}
use Rattle.lrc_orders_table.specs.declared.table.After.{After}
use Rattle.lrc_orders_table.specs.declared.table.Asked.{Asked}
use Rattle.lrc_orders_table.specs.declared.table.Change.{Change}
use Rattle.lrc_orders_table.specs.declared.table.Table.{Table}
use Rattle.lrc_orders_table.specs.Shared.{holders_then, words_then}
use Rattle.lrc_orders_table.specs.Tables.{AreChanges, IsAfter, IsChange, IsRowOf, IsTable, KeepsRows, next_of}
use Rattle.lrc_orders_table.proofs.RowNodes.{next_by_all}

-- ---- growth

pub after_grown : (means : Means) (old new : List Spot) (asked : Asked) (after : After) → Grows old new → IsAfter means old asked after
    → IsAfter means new asked after
after_grown means old new asked after g a = record {
  spot = a.spot;
  there = stands_on asked.thread a.spot g a.there;
  settled = a.settled;
  so = a.so;
  kept = stands_on after.thread _ g a.kept;
  deeds = a.deeds;
  traps = a.traps;
}

-- what is noted of a change, where what threads do next is the same
pub change_grown : (old new : Table) (change : Change) (number : ℕ) → Grows old.rows.threads.keys new.rows.threads.keys
    → KeepsShared old.rows.shared new.rows.shared → Grows old.afters.entries new.afters.entries
    → ((k : ℕ) (spot : Spot) → slice_get old.rows.threads.keys k ≡ Some spot → next_of new k ≡ next_of old k) → IsChange old change number
    → IsChange new change number
change_grown old new change number threads shared afters same c =
    let next = same c.asked.thread c.spot c.there in
    record {
      asked = c.asked;
      after = c.after;
      comes = stands_on change.after _ afters c.comes;
      spot = c.spot;
      there = stands_on c.asked.thread c.spot threads c.there;
      words = c.words;
      holders = c.holders;
      before = shared_kept old.rows.shared new.rows.shared change.shared c.words c.holders shared c.before;
      becomes = subst
          (λ n. IsSharedAt new.rows.shared number (words_then n c.words) (freed c.after.deeds.items (holders_then c.spot.me n c.holders))) (sym next)
          (shared_kept old.rows.shared new.rows.shared number _ _ shared c.becomes);
    }

-- ---- threads more

-- what holds of the threads that there were, and of those that are added
pub threads_more : (P : Spot → Type 0) (old new spots : List Spot) → AddsThreads old new spots → All P old → All P spots → All P new
threads_more P old new spots only were are k d lt =
    elim (only k (get_or new k d) (slice_get-get_or new k d lt)) [
      | inl was ↦
          subst P (get_or_from_slice_get old k (get_or new k d) d was) (were k d (slice_get_within old k (get_or new k d) was))
      | inr (j, is) ↦
          subst P (get_or_from_slice_get spots j (get_or new k d) d is) (are j d (slice_get_within spots j (get_or new k d) is))
    ]

pub threads_one : (P : Spot → Type 0) (spot : Spot) → P spot → All P (spot ∷ [])
threads_one P spot is zero d lt = is
threads_one P spot is (suc k) d lt = absurd (omega (arith, lt))

-- all threads are of places of the code
abbrev pub IsPlaced : Flat → Spot → Type 0
IsPlaced flat spot = spot.place ≤ length flat.code.now

-- a table of more threads, of which it is known what they do next
module _ (means : Means) (old new : Table) (known : IsTable means old) (w : WidensRows old.rows new.rows) (distinct : AreRowsDistinct new.rows)
    (placed : All (λ (spot : Spot). spot.place ≤ length means.flat.code.now) new.rows.threads.keys)
    (bare : All (λ (spot : Spot). forgot means.live.now spot ≡ spot) new.rows.threads.keys)
    (nexts : new.nexts.items ≡ map (next_in means.flat) new.rows.threads.keys) where
  same_next : (k : ℕ) (spot : Spot) → slice_get old.rows.threads.keys k ≡ Some spot → next_of new k ≡ next_of old k
  same_next k spot at =
      next_by_all means.flat new k spot nexts (stands_on k spot w.threads at) ∙ sym (next_by_all means.flat old k spot known.nexts at)

  changes_on : Grows old.afters.entries new.afters.entries → new.changes.entries ≡ old.changes.entries → AreChanges new
  changes_on afters changes k change number at =
      change_grown old new change number w.threads w.shared afters same_next (known.changes k change number (ap (λ l. slice_get l k) (sym changes) ∙ at))

  pub table_on : new.afters.entries ≡ old.afters.entries → new.changes.entries ≡ old.changes.entries → IsTable means new
  table_on afters changes = record {
    distinct = distinct;
    nodes = w.nodes ∙ known.nodes;
    placed = placed;
    bare = bare;
    nexts = nexts;
    afters = λ k asked after at.
        after_grown means old.rows.threads.keys new.rows.threads.keys asked after w.threads
        (known.afters k asked after (ap (λ l. slice_get l k) (sym afters) ∙ at));
    changes = changes_on (grows_not old.afters.entries new.afters.entries afters) changes;
  }

-- a table of the same threads, of which the same is known
module _ (means : Means) (old new : Table) (threads : new.rows.threads.keys ≡ old.rows.threads.keys) (nexts : new.nexts.items ≡ old.nexts.items) where
  pub changes_same : KeepsShared old.rows.shared new.rows.shared → Grows old.afters.entries new.afters.entries
      → new.changes.entries ≡ old.changes.entries → AreChanges old → AreChanges new
  changes_same shared afters changes are k change number at =
      change_grown old new change number (grows_not old.rows.threads.keys new.rows.threads.keys threads) shared afters
      (λ n spot there. ap (λ l. slice_index_or l n Stopped) nexts) (are k change number (ap (λ l. slice_get l k) (sym changes) ∙ at))

  pub table_same : IsTable means old → new.rows.nodes ≡ old.rows.nodes → AreRowsDistinct new.rows
      → ((k : ℕ) (asked : Asked) (after : After) → slice_get new.afters.entries k ≡ Some (asked, after) → IsAfter means old.rows.threads.keys asked after)
      → AreChanges new → IsTable means new
  table_same known nodes distinct afters changes = record {
    distinct = distinct;
    nodes = nodes ∙ known.nodes;
    placed = subst (λ keys. All (λ (spot : Spot). spot.place ≤ length means.flat.code.now) keys) (sym threads) known.placed;
    bare = subst (λ keys. All (λ (spot : Spot). forgot means.live.now spot ≡ spot) keys) (sym threads) known.bare;
    nexts = nexts ∙ known.nexts ∙ ap (map (next_in means.flat)) (sym threads);
    afters = λ k asked after at. subst (λ keys. IsAfter means keys asked after) (sym threads) (afters k asked after at);
    changes = changes;
  }

pub last_there : (old new : List (Asked × After)) (asked : Asked) (after : After) → new ≡ old ++ (asked, after) ∷ []
    → slice_get new (length old) ≡ Some (asked, after)
last_there old new asked after entries = ap (λ l. slice_get l (length old)) entries ∙ slice_get-seam old (asked, after) []

-- a change that is noted more
pub changes_more : (old new : Table) (change : Change) (number : ℕ) → new.rows.threads.keys ≡ old.rows.threads.keys → new.nexts.items ≡ old.nexts.items
    → KeepsShared old.rows.shared new.rows.shared → Grows old.afters.entries new.afters.entries
    → new.changes.entries ≡ old.changes.entries ++ (change, number) ∷ [] → AreChanges old → IsChange new change number → AreChanges new
changes_more old new change number threads nexts shared afters entries are is k c n at = elim (cases_lt k (length old.changes.entries)) [
  | inl lt ↦
      change_grown old new c n (grows_not old.rows.threads.keys new.rows.threads.keys threads) shared afters
      (λ m spot there. ap (λ l. slice_index_or l m Stopped) nexts)
      (are k c n (sym (slice_get-front old.changes.entries ((change, number) ∷ []) k lt) ∙ ap (λ l. slice_get l k) (sym entries) ∙ at))
  | inr le ↦
      let there : slice_get (old.changes.entries ++ (change, number) ∷ []) k ≡ Some (c, n) = ap (λ l. slice_get l k) (sym entries) ∙ at in
      let within = slice_get_within (old.changes.entries ++ (change, number) ∷ []) k (c, n) there in
      let last : k ≡ length old.changes.entries = omega (arith, le, within, length_push old.changes.entries (change, number)) in
      let P : Change × ℕ = (change, number) in
      let Q : Change × ℕ = (c, n) in
      let same : P ≡ Q =
      same_Some P Q
      (sym (slice_get-seam old.changes.entries (change, number) []) ∙ ap (slice_get (old.changes.entries ++ (change, number) ∷ [])) (sym last) ∙ there) in
      subst (λ (p : Change × ℕ). IsChange new p.0 p.1) same is
]

-- what is shared changes, and what is noted of that
module _ (means : Means) (old new : Table) (known : IsTable means old)
    (others : new ≡ record old { rows = record old.rows { shared = new.rows.shared }; changes = new.changes })
    (distinct : AreSharedDistinct new.rows.shared) (keeps : KeepsShared old.rows.shared new.rows.shared) where
  pub table_shared : AreChanges new → IsTable means new
  table_shared changes =
      table_same means old new (ap (λ (t : Table). t.rows.threads.keys) others) (ap (λ (t : Table). t.nexts.items) others) known
      (ap (λ (t : Table). t.rows.nodes) others) (record {
        threads = subst AreSpotsDistinct (sym (ap (λ (t : Table). t.rows.threads.keys) others)) known.distinct.threads;
        shared = distinct;
        notes = subst AreNotesSound (sym (ap (λ (t : Table). t.rows.notes) others)) known.distinct.notes;
        rows = subst (λ l. IsDistinct row_eq.it l) (sym (ap (λ (t : Table). t.rows.rows.keys) others)) known.distinct.rows;
      })
      (λ k asked after at. known.afters k asked after (ap (λ (t : Table). slice_get t.afters.entries k) (sym others) ∙ at)) changes

  pub keeps_shared : KeepsRows old new
  keeps_shared = record {
    rows = ap (λ (t : Table). t.rows.rows.keys) others;
    widens = record {
      nodes = ap (λ (t : Table). t.rows.nodes) others;
      threads = grows_not old.rows.threads.keys new.rows.threads.keys (ap (λ (t : Table). t.rows.threads.keys) others);
      shared = keeps;
      notes = subst (GrowNotes old.rows.notes) (sym (ap (λ (t : Table). t.rows.notes) others)) (notes_not old.rows.notes);
      rows = grows_not old.rows.rows.keys new.rows.rows.keys (ap (λ (t : Table). t.rows.rows.keys) others);
    };
  }

-- notes more
module _ (means : Means) (old new : Table) (known : IsTable means old)
    (others : new ≡ record old { rows = record old.rows { notes = new.rows.notes } })
    (sound : AreNotesSound new.rows.notes) (grows : GrowNotes old.rows.notes new.rows.notes) where
  pub table_notes : IsTable means new
  table_notes =
      let threads : new.rows.threads.keys ≡ old.rows.threads.keys = ap (λ (t : Table). t.rows.threads.keys) others in
      let nexts : new.nexts.items ≡ old.nexts.items = ap (λ (t : Table). t.nexts.items) others in
      let shared : new.rows.shared ≡ old.rows.shared = ap (λ (t : Table). t.rows.shared) others in
      let afters : new.afters.entries ≡ old.afters.entries = ap (λ (t : Table). t.afters.entries) others in
      table_same means old new threads nexts known (ap (λ (t : Table). t.rows.nodes) others) (record {
        threads = subst AreSpotsDistinct (sym threads) known.distinct.threads;
        shared = subst AreSharedDistinct (sym shared) known.distinct.shared;
        notes = sound;
        rows = subst (λ l. IsDistinct row_eq.it l) (sym (ap (λ (t : Table). t.rows.rows.keys) others)) known.distinct.rows;
      })
      (λ k asked after at. known.afters k asked after (ap (λ l. slice_get l k) (sym afters) ∙ at))
      (changes_same means old new threads nexts (shared_stays old.rows.shared new.rows.shared shared)
      (grows_not old.afters.entries new.afters.entries afters) (ap (λ (t : Table). t.changes.entries) others) known.changes)

  pub keeps_notes : KeepsRows old new
  keeps_notes = record {
    rows = ap (λ (t : Table). t.rows.rows.keys) others;
    widens = record {
      nodes = ap (λ (t : Table). t.rows.nodes) others;
      threads = grows_not old.rows.threads.keys new.rows.threads.keys (ap (λ (t : Table). t.rows.threads.keys) others);
      shared = shared_stays old.rows.shared new.rows.shared (ap (λ (t : Table). t.rows.shared) others);
      notes = grows;
      rows = grows_not old.rows.rows.keys new.rows.rows.keys (ap (λ (t : Table). t.rows.rows.keys) others);
    };
  }

-- a row stands for a state still
pub of_grown : (means : Means) (old new : Table) (row : Row) (key : Noted) → KeepsRows old new → IsRowOf means old row key → IsRowOf means new row key
of_grown means old new row key k of = record { stands = stands_grown old.rows new.rows row key k.widens of.stands; valid = of.valid }

-- what comes of one thread more
module _ (means : Means) (old new : Table) (known : IsTable means old) (asked : Asked) (after : After)
    (entries : new.afters.entries ≡ old.afters.entries ++ (asked, after) ∷ []) (is : IsAfter means old.rows.threads.keys asked after) where
  after_there : slice_get new.afters.entries (length old.afters.entries) ≡ Some (asked, after)
  after_there = last_there old.afters.entries new.afters.entries asked after entries

  pub afters_more : (k : ℕ) (a : Asked) (b : After) → slice_get new.afters.entries k ≡ Some (a, b) → IsAfter means old.rows.threads.keys a b
  afters_more k a b at = elim (cases_lt k (length old.afters.entries)) [
    | inl lt ↦
        known.afters k a b (sym (slice_get-front old.afters.entries ((asked, after) ∷ []) k lt) ∙ ap (λ l. slice_get l k) (sym entries) ∙ at)
    | inr le ↦
        let there : slice_get (old.afters.entries ++ (asked, after) ∷ []) k ≡ Some (a, b) = ap (λ l. slice_get l k) (sym entries) ∙ at in
        let within = slice_get_within (old.afters.entries ++ (asked, after) ∷ []) k (a, b) there in
        let last : k ≡ length old.afters.entries = omega (arith, le, within, length_push old.afters.entries (asked, after)) in
        let same : (asked, after) ≡ (a, b) =
        same_Some (asked, after) (a, b) (sym after_there ∙ ap (slice_get new.afters.entries) (sym last) ∙ at) in
        subst (λ (p : Asked × After). IsAfter means old.rows.threads.keys p.0 p.1) same is
  ]

-- growth again
pub keeps_again : {a b c : Table} → KeepsRows a b → KeepsRows b c → KeepsRows a c
keeps_again x y = record { rows = y.rows ∙ x.rows; widens = rows_again x.widens y.widens }

pub keeps_same : (table : Table) → KeepsRows table table
keeps_same table = record { rows = refl; widens = rows_not table.rows }
