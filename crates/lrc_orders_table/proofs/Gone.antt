-- What a state becomes once a node has made its next act and has settled.
use Rattle.std.proofs.Common.{Global, Vec, ◌≡◌, ℕ, zero, suc, ◌<◌, ◌≤◌, Bool, true, false, List, [], ◌∷◌, inl, inr, length, get_or, refl, sym, ◌∙◌, ap, subst, arith}
use Rattle.std.specs.Prelude.{Option, Some, None, if◌then◌else◌, slice_get, slice_index, slice_set}
use Rattle.std.specs.Vec.{with_item}
use Rattle.std.proofs.lemmas.Bool.{cases_eq}
use Rattle.std.proofs.lemmas.List.{get_or-set_other, get_or-set_same, length-set, map-set}
use Rattle.std.proofs.lemmas.Option.{get_or_from_slice_get, slice_get_within}
use Rattle.lrc_trace.specs.declared.act.Act.{Act}
use Rattle.lrc_trace.specs.declared.act.Deed.{Deed}
use Rattle.lrc_exec.specs.declared.spot.Flat.{Flat}
use Rattle.lrc_exec.specs.declared.spot.Spot.{Spot}
use Rattle.lrc_exec.specs.Ask.{answered}
use Rattle.lrc_exec.specs.Meaning.{Setting, Thread}
use Rattle.lrc_exec.specs.Spots.{spot_stopped, thread_at}
use Rattle.lrc_exec.proofs.PlainParts.{setting-answered}
use Rattle.lrc_exec.proofs.Spots.{state_set}
use Rattle.lrc_orders.specs.declared.noted.Noted.{Noted}
use Rattle.lrc_orders_laws.specs.Threads.{ThreadSettles}
use Rattle.lrc_orders_settling.specs.Gone.{freed}
use Rattle.lrc_orders_settling.specs.Taking.{count_of}
use Rattle.lrc_orders_settling.proofs.OneNode.{settles_setting}
use Rattle.lrc_orders_settling.proofs.Parts.{length-freed}
use Rattle.lrc_orders_live.specs.Live.{forgot}
use Rattle.lrc_orders_live.proofs.Dead.{blank_forgot}
use Rattle.lrc_orders_table.specs.declared.rows.Row.{Row}
use Rattle.lrc_orders_table.specs.Links.{AreNotesAt}
use Rattle.lrc_orders_memory.specs.Sharing.{IsSharedAt}
use Rattle.lrc_orders_table.specs.Rows.{AreThreadsAt}
use Rattle.lrc_orders_table.specs.declared.next.Next.{Next}
use Rattle.lrc_orders_table.specs.declared.next.Next.TheVariants.{Writes, Acquires}
use Rattle.lrc_orders_table.specs.declared.next.Settled.{Settled}
use Rattle.lrc_orders_table.specs.Nexts.{SettlesSo, next_in, thread_then}
use Rattle.lrc_orders_table.specs.declared.known.Means.{Means}
use Rattle.lrc_orders_table.specs.declared.table.Table.{Table}
use Rattle.lrc_orders_table.specs.Shared.{holders_then, words_then}
use Rattle.lrc_orders_table.specs.Tables.{IsRowOf}
use Rattle.lrc_orders_table.proofs.Linking.{notes_short, with_acts}

-- ---- lists of which one item changes

pub item_set : {A : Type 0} (xs : List A) (k : ℕ) (x : A) → k < length xs → slice_get (slice_set xs k x) k ≡ Some x
item_set [] k x lt = absurd (omega (arith, lt))
item_set (y ∷ ys) zero x lt = refl
item_set (y ∷ ys) (suc k) x lt = item_set ys k x (omega (arith, lt))

pub item_other : {A : Type 0} (xs : List A) (k j : ℕ) (x : A) → (j ≡ k → ⊥) → slice_get (slice_set xs k x) j ≡ slice_get xs j
item_other [] k j x apart = refl
item_other (y ∷ ys) zero zero x apart = absurd (apart refl)
item_other (y ∷ ys) zero (suc j) x apart = refl
item_other (y ∷ ys) (suc k) zero x apart = refl
item_other (y ∷ ys) (suc k) (suc j) x apart = item_other ys k j x (λ e. apart (ap suc e))

pub length-words : (next : Next) (words : List ℕ) → length (words_then next words) ≡ length words
length-words (Writes word value) words = length-set words word value
length-words _ words = refl

length-holders : (node : ℕ) (next : Next) (holders : List (Option ℕ)) → length (holders_then node next holders) ≡ length holders
length-holders node (Acquires lock) holders = length-set holders lock (Some node)
length-holders node _ holders = refl

-- ---- the spot of a node that has settled

-- what is kept of it is in order
pub record InOrder (flat : Flat) (me : ℕ) (spot : Spot) : Type 0 where
  pub number : spot.me ≡ me
  pub within : spot.place ≤ length flat.code.now
  pub blank : spot.stopped ≡ true → spot ≡ spot_stopped spot.me

order_by : (flat : Flat) (table : List (List Bool)) (there : Spot) (me : ℕ) (stopped : Bool) → there.stopped ≡ stopped → there.place ≤ length flat.code.now
    → (there.stopped ≡ false → there.me ≡ me) → InOrder flat me (forgot table (if stopped then spot_stopped me else there))
order_by flat table there me true e within own = record { number = refl; within = omega arith; blank = λ is. blank_forgot table (spot_stopped me) refl }
order_by flat table there me false e within own = record {
  number = own e;
  within = within;
  blank = λ is. let f : true ≡ false = sym is ∙ e in cc;
}

then_me : (flat : Flat) (spot : Spot) (value : ℕ) (arrived : Bool)
    → (if arrived then thread_at flat spot else record (answered value (thread_at flat spot)) { arrived = false }).setting ≡ (thread_at flat spot).setting
then_me flat spot value true = refl
then_me flat spot value false = setting-answered value (thread_at flat spot)

number_by : (flat : Flat) (before : Thread) (new : Spot) (deeds : List Deed) (stopped : Bool) → stopped ≡ false
    → ThreadSettles (Some before) deeds (if stopped then None else Some (record (thread_at flat new) { arrived = new.arrived })) → new.me ≡ before.setting.me
number_by flat before new deeds true e s = cc
number_by flat before new deeds false e s = ap (λ (x : Setting). x.me) (settles_setting s before _ refl refl)

module _ (flat : Flat) (spot : Spot) (value : ℕ) (settled : Settled) (so : SettlesSo flat spot value settled) where
  keeps_me : so.there.stopped ≡ false → so.there.me ≡ spot.me
  keeps_me on =
      number_by flat (thread_then flat spot value) so.there so.deeds so.there.stopped on so.settles
      ∙ ap (λ (x : Setting). x.me) (then_me flat spot value spot.arrived)

  pub settled_order : (table : List (List Bool)) → InOrder flat spot.me (forgot table settled.spot)
  settled_order table =
      subst (λ s. InOrder flat spot.me (forgot table s)) (sym so.is)
      (order_by flat table so.there spot.me so.there.stopped refl so.within keeps_me)

kept_within : (flat : Flat) (there : Spot) (me : ℕ) (stopped : Bool) → there.place ≤ length flat.code.now
    → (if stopped then spot_stopped me else there).place ≤ length flat.code.now
kept_within flat there me true within = omega arith
kept_within flat there me false within = within

pub settled_within : (flat : Flat) (spot : Spot) (value : ℕ) (settled : Settled) → SettlesSo flat spot value settled → settled.spot.place ≤ length flat.code.now
settled_within flat spot value settled so =
    subst (λ (s : Spot). s.place ≤ length flat.code.now) (sym so.is) (kept_within flat so.there spot.me so.there.stopped so.within)

-- ---- rows of which one node changes

threads_set : (keys : List Spot) (nodes : ℕ) (numbers : List ℕ) (spots : List Spot) (node number : ℕ) (spot : Spot) → node < nodes → nodes ≤ 16
    → AreThreadsAt keys nodes numbers spots → slice_get keys number ≡ Some spot
    → AreThreadsAt keys nodes (slice_set numbers node number) (slice_set spots node spot)
threads_set keys nodes numbers spots node number spot lt few t there =
    let long = t.long in
    let count = t.count in
    record {
      long = length-set numbers node number ∙ long;
      count = length-set spots node spot ∙ count;
      each = λ k below. elim (cases_eq k node) [
        | inl same ↦
            ap (λ n. slice_get keys (slice_index (slice_set numbers node number) n)) same
            ∙ ap (slice_get keys) (get_or-set_same numbers node number 0 (omega (arith, lt, few, long)))
            ∙ there ∙ sym (item_set spots node spot (omega (arith, lt, count))) ∙ ap (slice_get (slice_set spots node spot)) (sym same)
        | inr apart ↦
            ap (slice_get keys) (get_or-set_other numbers node k number 0 apart) ∙ t.each k below ∙ sym (item_other spots node k spot apart)
      ];
      past = λ k le. get_or-set_other numbers node k number 0 (λ e. omega (arith, lt, le, e)) ∙ t.past k le;
    }

-- as many other items in place of those that there are
abbrev pub with_all : {A : Type 0} (v : Vec A Global) (items : List A) → length items ≡ length v.items → Vec A Global
with_all v items same = record {
  ptr = v.ptr;
  len = v.len;
  cap = v.cap;
  alloc = v.alloc;
  items = items;
  ok = (v.ok.0 ∙ sym same, v.ok.1);
  small = v.small;
}

module _ (means : Means) (table : Table) (row : Row) (key : Noted) (node value number shared notes : ℕ) (spot : Spot) (settled : Settled)
    (of : IsRowOf means table row key) (here : slice_get key.state.spots.items node ≡ Some spot) (so : SettlesSo means.flat spot value settled)
    (there : slice_get table.rows.threads.keys number ≡ Some (forgot means.live.now settled.spot))
    (s : IsSharedAt table.rows.shared shared (words_then (next_in means.flat spot) key.state.memory.items)
    (freed settled.deeds.items (holders_then node (next_in means.flat spot) key.state.holders.items)))
    (acts : List Act) (n : AreNotesAt table.rows.notes notes acts) where
  abbrev kept : Spot
  kept = forgot means.live.now settled.spot

  pub as_many : length (freed settled.deeds.items (holders_then node (next_in means.flat spot) key.state.holders.items)) ≡ length key.state.holders.items
  as_many =
      length-freed settled.deeds.items (holders_then node (next_in means.flat spot) key.state.holders.items)
      ∙ length-holders node (next_in means.flat spot) key.state.holders.items

  abbrev pub new_key : Noted
  new_key = record {
    state = record {
      memory = with_all key.state.memory (words_then (next_in means.flat spot) key.state.memory.items)
          (length-words (next_in means.flat spot) key.state.memory.items);
      holders = with_all key.state.holders (freed settled.deeds.items (holders_then node (next_in means.flat spot) key.state.holders.items)) as_many;
      arrivals = with_item key.state.arrivals node (count_of (forgot means.live.now settled.spot));
      spots = with_item key.state.spots node (forgot means.live.now settled.spot);
    };
    notes = with_acts key.notes acts (notes_short table.rows.notes notes acts n);
  }

  node_less : node < table.rows.nodes
  node_less =
      let count = of.stands.threads.count in
      let within = slice_get_within key.state.spots.items node spot here in
      omega (arith, count, within)

  pub new_of : IsRowOf means table (record { threads = slice_set row.threads node number; shared = shared; notes = notes }) new_key
  new_of =
      let old = of.stands in
      let o = settled_order means.flat spot value settled so means.live.now in
      let spot_is : spot ≡ get_or key.state.spots.items node spot = sym (get_or_from_slice_get key.state.spots.items node spot spot here) in
      let v = of.valid in
      let set = state_set means.flat key.state node spot kept spot_is v o.number o.within o.blank in
      let words : List ℕ = key.state.memory.items in
      let next : Next = next_in means.flat spot in
      record {
        stands = record {
          few = old.few;
          threads = threads_set table.rows.threads.keys table.rows.nodes row.threads key.state.spots.items node number kept node_less old.few old.threads there;
          shared = s;
          notes = n;
          counted =
              ap (λ l. slice_set l node (count_of kept)) old.counted ∙ sym (map-set count_of key.state.spots.items node kept);
        };
        valid = record {
          memory = length-words next words ∙ v.memory;
          holders = as_many ∙ v.holders;
          arrivals = length-set key.state.arrivals.items node (count_of kept) ∙ v.arrivals;
          spots = set.spots;
          numbers = set.numbers;
          within = set.within;
          blank = set.blank;
        };
      }
