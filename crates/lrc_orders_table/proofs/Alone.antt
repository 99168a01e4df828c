-- The step of one node.
use Rattle.std.proofs.Common.{◌≡◌, ℕ, ◌<◌, Bool, true, false, List, ◌∷◌, inl, inr, length, get_or, map, refl, sym, ◌∙◌, ap, subst, arith}
use Rattle.std.specs.Prelude.{◌||◌, Option, Some, None, if◌then◌else◌, option_and_then, option_map, slice_get, slice_index, slice_index_or, slice_set}
use Rattle.std.specs.Vec.{with_item}
use Rattle.std.specs.List.{list_any}
use Rattle.std.proofs.lemmas.Bool.{cases_eq, true≢false}
use Rattle.std.proofs.lemmas.List.{get_or-set_other, get_or-set_same, length-map, length-set, map-set}
use Rattle.std.proofs.lemmas.Option.{get_or_from_slice_get, same_Some, slice_get_within}
use Rattle.lrc_trace.specs.declared.act.Act.{Act}
use Rattle.lrc_trace.specs.declared.act.Deed.{Deed}
use Rattle.lrc_trace.specs.declared.act.Deed.TheVariants as deeds
use Rattle.lrc_trace.specs.Run.{act_of}
use Rattle.lrc_exec.specs.declared.machine.Ask.{Ask}
use Rattle.lrc_exec.specs.declared.machine.Ask.TheVariants as asks
use Rattle.lrc_exec.specs.declared.spot.Flat.{Flat}
use Rattle.lrc_exec.specs.declared.spot.Spot.{Spot}
use Rattle.lrc_exec.specs.declared.state.State.{State}
use Rattle.lrc_exec.specs.Ask.{TakesAnswer, ask_of, deed_asked}
use Rattle.lrc_exec.specs.Meaning.{Thread, next_of}
use Rattle.lrc_exec.specs.Plain.{Plain, all_arrived, deed_done, nobody_holds, plain_step, thread_in}
use Rattle.lrc_exec.specs.Spots.{spot_thread, thread_at}
use Rattle.lrc_exec.specs.States.{deed_now, plain_at}
use Rattle.lrc_exec.proofs.PlainDeeds.{if_first}
use Rattle.lrc_exec.proofs.States.{going_thread, own_deed, stopped_thread}
use Rattle.lrc_consistency_laws.proofs.Runs.{CanDo}
use Rattle.lrc_orders.specs.declared.noted.Noted.{Noted}
use Rattle.lrc_orders.specs.Traps.{has_trap, is_trap}
use Rattle.lrc_orders.specs.Notes.{notes_with}
use Rattle.lrc_orders.proofs.Effects.{holders_after, memory_after}
use Rattle.lrc_orders_laws.specs.Alike.{BothAlike}
use Rattle.lrc_orders_laws.specs.Names.{AgreeWhereItMatters}
use Rattle.lrc_orders_laws.specs.Free.{is_contended}
use Rattle.lrc_orders_laws.specs.Settling.{IsSettled}
use Rattle.lrc_orders_settling.specs.Settling.{MakesFree}
use Rattle.lrc_orders_settling.specs.declared.step.Step.TheVariants.{Alone}
use Rattle.lrc_orders_settling.specs.Gone.{acts_by, freed}
use Rattle.lrc_orders_settling.specs.Taking.{ComputesLong, TakesTo, alone}
use Rattle.lrc_orders_settling.proofs.Taken.{long_alone}
use Rattle.lrc_orders_live.specs.Like.{AreLike}
use Rattle.lrc_orders_live.specs.Live.{forgot}
use Rattle.lrc_orders_live.proofs.Dead.{spot_like}
use Rattle.lrc_orders_live.proofs.Like.{like_alike, like_back, like_on, like_same}
use Rattle.lrc_orders_table.specs.declared.next.Next.TheVariants.{Stopped, Waits}
use Rattle.lrc_orders_table.specs.Nexts.{next_by, next_in, notes_on, thread_then}
use Rattle.lrc_orders_table.proofs.Contended.{acted, deed_of_spot, step_alone, step_made, thread_acted}
use Rattle.lrc_orders_table.proofs.SeenNext.{notes_seen, traps_seen}
use Rattle.lrc_orders_table.specs.declared.known.Means.{Means}
use Rattle.lrc_orders_table.specs.declared.table.Led.{Led}
use Rattle.lrc_orders_table.specs.declared.table.Table.{Table}
use Rattle.lrc_orders_table.specs.Going.{GoesOn, HasGone}
use Rattle.lrc_orders_table.specs.Shared.{given, holders_then, words_then}
use Rattle.lrc_orders_table.specs.Tables.{AreMeans, CannotTakeFrom, LeadsToRow}
use Rattle.lrc_orders_table.proofs.Gone.{settled_within}

-- ---- what the next act gives

none_some : {A : Type 0} {x : A} {X : Type 0} → None ≡ Some x → X
none_some e = absurd (let f : None ≡ Some _ = e in cc)

if_some : {A : Type 0} (b : Bool) (x y : A) → (if b then Some x else None) ≡ Some y → b ≡ true
if_some true x y e = refl
if_some false x y e = none_some e

-- where it gives none, no read, write or acquire is made
cannot_by : (machine : Plain) (ask : Ask) (deed : Deed) → given (next_by ask) machine.memory machine.holders ≡ None → deed_now machine ask ≡ Some deed
    → is_contended deed ≡ true → ⊥
cannot_by machine (asks.Read word) deed none is kind = none_some (sym none)
cannot_by machine (asks.Write word value) deed none is kind = none_some (sym none)
cannot_by machine (asks.Acquire lock) deed none is kind = held (nobody_holds machine lock) none is
  where
    held : (b : Bool) → if◌then◌else◌ {A = Option ℕ} b (Some 0) None ≡ None
        → if◌then◌else◌ {A = Option Deed} b (Some (deeds.Acquire lock)) None ≡ Some deed → ⊥
    held true none is = none_some (sym none)
    held false none is = none_some is
cannot_by machine asks.Quiet deed none is kind = true≢false (sym kind ∙ ap is_contended (sym (same_Some deeds.Quiet deed is)))
cannot_by machine (asks.Print value) deed none is kind = true≢false (sym kind ∙ ap is_contended (sym (same_Some (deeds.Print value) deed is)))
cannot_by machine (asks.Release lock) deed none is kind = true≢false (sym kind ∙ ap is_contended (sym (same_Some (deeds.Release lock) deed is)))
cannot_by machine asks.Barrier deed none is kind = true≢false (sym kind ∙ ap is_contended (sym (same_Some deeds.Arrive deed is)))
cannot_by machine (asks.Trap cause) deed none is kind = true≢false (sym kind ∙ ap is_contended (sym (same_Some (deeds.Trap cause) deed is)))
cannot_by machine asks.End deed none is kind = true≢false (sym kind ∙ ap is_contended (sym (same_Some deeds.End deed is)))

-- where it gives a value, one is made
pub record Gives (machine : Plain) (node value : ℕ) (ask : Ask) : Type 0 where
  pub kind : is_contended (deed_asked value ask) ≡ true
  pub can : CanDo machine node (deed_asked value ask)
  pub takes : TakesAnswer ask

gives_by : (machine : Plain) (node value : ℕ) (ask : Ask) → given (next_by ask) machine.memory machine.holders ≡ Some value → Gives machine node value ask
gives_by machine node value (asks.Read word) e = record { kind = refl; can = sym (same_Some (slice_index machine.memory word) value e); takes = tt }
gives_by machine node value (asks.Write word written) e = record { kind = refl; can = tt; takes = tt }
gives_by machine node value (asks.Acquire lock) e = record { kind = refl; can = if_some (nobody_holds machine lock) 0 value e; takes = tt }
gives_by machine node value asks.Quiet e = none_some e
gives_by machine node value (asks.Print printed) e = none_some e
gives_by machine node value (asks.Release lock) e = none_some e
gives_by machine node value asks.Barrier e = none_some e
gives_by machine node value (asks.Trap cause) e = none_some e
gives_by machine node value asks.End e = none_some e

-- what is shared then is what is shared after the deed
words_same : (value : ℕ) (ask : Ask) (words : List ℕ) → words_then (next_by ask) words ≡ memory_after (deed_asked value ask) words
words_same value (asks.Read word) words = refl
words_same value (asks.Write word written) words = refl
words_same value (asks.Acquire lock) words = refl
words_same value asks.Quiet words = refl
words_same value (asks.Print printed) words = refl
words_same value (asks.Release lock) words = refl
words_same value asks.Barrier words = refl
words_same value (asks.Trap cause) words = refl
words_same value asks.End words = refl

holders_same : (node value : ℕ) (ask : Ask) (holders : List (Option ℕ)) → is_contended (deed_asked value ask) ≡ true
    → holders_then node (next_by ask) holders ≡ holders_after node (deed_asked value ask) holders
holders_same node value (asks.Read word) holders kind = refl
holders_same node value (asks.Write word written) holders kind = refl
holders_same node value (asks.Acquire lock) holders kind = refl
holders_same node value asks.Quiet holders kind = refl
holders_same node value (asks.Print printed) holders kind = refl
holders_same node value (asks.Release lock) holders kind = absurd (true≢false (sym kind))
holders_same node value asks.Barrier holders kind = refl
holders_same node value (asks.Trap cause) holders kind = refl
holders_same node value asks.End holders kind = refl

-- and the deed is not noted
unnoted : (notes : List Act) (node : ℕ) (deed : Deed) → is_contended deed ≡ true → notes_with notes (act_of node deed) ≡ notes
unnoted notes node (deeds.Print value) kind = absurd (true≢false (sym kind))
unnoted notes node (deeds.Trap cause) kind = absurd (true≢false (sym kind))
unnoted notes node deeds.End kind = absurd (true≢false (sym kind))
unnoted notes node _ kind = refl

-- and is no trap
contended_no_trap : (deed : Deed) → is_contended deed ≡ true → is_trap deed ≡ false
contended_no_trap (deeds.Trap cause) kind = absurd (true≢false (sym kind))
contended_no_trap _ kind = refl

-- ---- a node of a state

module _ (means : Means) (key : Noted) (node : ℕ) (spot : Spot) (here : slice_get key.state.spots.items node ≡ Some spot) where
  within : node < length key.state.spots.items
  within = slice_get_within key.state.spots.items node spot here

  is : spot ≡ get_or key.state.spots.items node spot
  is = sym (get_or_from_slice_get key.state.spots.items node spot spot here)

  cannot_cases : (stopped arrived : Bool) → spot.stopped ≡ stopped → spot.arrived ≡ arrived
      → given (if stopped then Stopped else (if arrived then Waits else next_by (ask_of (next_of (thread_at means.flat spot))))) key.state.memory.items
      key.state.holders.items ≡ None → (deed : Deed) (mid : Plain) → is_contended deed ≡ true
      → plain_step (plain_at means.flat key.state) node ≡ Some (deed, mid) → ⊥
  cannot_cases true arrived e f none deed mid kind step =
      let gone : plain_step (plain_at means.flat key.state) node ≡ None =
      ap (option_and_then (λ t. deed_done (plain_at means.flat key.state) node (next_of t))) (stopped_thread means.flat key.state node spot within is e) in
      none_some (sym gone ∙ step)
  cannot_cases false true e f none deed mid kind step =
      let machine = plain_at means.flat key.state in
      let departs : option_map (λ s. s.0) (plain_step machine node) ≡ if◌then◌else◌ {A = Option Deed} (all_arrived machine node) (Some deeds.Depart) None =
      ap (λ o. option_map (λ s. s.0) (option_and_then (λ t. deed_done machine node (next_of t)) o))
      (going_thread means.flat key.state node spot within is true e f) ∙ if_first (all_arrived machine node) deeds.Depart _ in
      let one : if◌then◌else◌ {A = Option Deed} (all_arrived machine node) (Some deeds.Depart) None ≡ Some deed = sym departs ∙ ap (option_map (λ s. s.0)) step in
      not_depart (all_arrived machine node) deed one kind
    where
      not_depart : (b : Bool) (d : Deed) → if◌then◌else◌ {A = Option Deed} b (Some deeds.Depart) None ≡ Some d → is_contended d ≡ true → ⊥
      not_depart true d e kind = true≢false (sym kind ∙ ap is_contended (sym (same_Some deeds.Depart d e)))
      not_depart false d e kind = none_some e
  cannot_cases false false e f none deed mid kind step =
      let machine = plain_at means.flat key.state in
      let ask = ask_of (next_of (thread_at means.flat spot)) in
      cannot_by machine ask deed none (own_deed means.flat key.state node spot within is ask e f refl ∙ ap (option_map (λ s. s.0)) step) kind

  pub cannot_alone : given (next_in means.flat spot) key.state.memory.items key.state.holders.items ≡ None → CannotTakeFrom means key (Alone node)
  cannot_alone none acts after (alone machine mid _ _ deed more kind step settles) =
      cannot_cases spot.stopped spot.arrived refl refl none deed mid kind step

  -- the next act is made
  pub record Makes (value : ℕ) : Type 0 where
    pub on : spot.stopped ≡ false
    pub waits : spot.arrived ≡ false
    pub gives : Gives (plain_at means.flat key.state) node value (ask_of (next_of (thread_at means.flat spot)))

  makes_cases : (value : ℕ) (stopped arrived : Bool) → spot.stopped ≡ stopped → spot.arrived ≡ arrived
      → given (if stopped then Stopped else (if arrived then Waits else next_by (ask_of (next_of (thread_at means.flat spot))))) key.state.memory.items
      key.state.holders.items ≡ Some value → Makes value
  makes_cases value true arrived e f g = none_some g
  makes_cases value false true e f g = none_some g
  makes_cases value false false e f g = record {
    on = e;
    waits = f;
    gives = gives_by (plain_at means.flat key.state) node value (ask_of (next_of (thread_at means.flat spot))) g;
  }

  pub makes : (value : ℕ) → given (next_in means.flat spot) key.state.memory.items key.state.holders.items ≡ Some value → Makes value
  makes value g = makes_cases value spot.stopped spot.arrived refl refl g

  pub makes_on : (value : ℕ) → Makes value → GoesOn means spot
  makes_on value m = record { going = m.on; takes = λ waits. m.gives.takes }

  next_is : (value : ℕ) → Makes value → next_in means.flat spot ≡ next_by (ask_of (next_of (thread_at means.flat spot)))
  next_is value m =
      ap (λ b. if b then Stopped else (if spot.arrived then Waits else next_by (ask_of (next_of (thread_at means.flat spot))))) m.on
      ∙ ap (λ b. if b then Waits else next_by (ask_of (next_of (thread_at means.flat spot)))) m.waits

  -- it makes as many free acts as may be looked at
  pub long_from : (value : ℕ) → Makes value → MakesFree means.looked (Some (thread_then means.flat spot value))
      → ComputesLong (plain_at means.flat key.state) means.looked
  long_from value m long =
      let machine = plain_at means.flat key.state in
      let mid = acted means.flat key.state node value spot here m.on m.waits m.gives.kind m.gives.can in
      long_alone machine mid node (deed_of_spot means.flat spot value) means.looked
      (step_made means.flat key.state node value spot here m.on m.waits m.gives.kind m.gives.can) (
        node,
        subst (MakesFree means.looked) (sym (thread_acted means.flat key.state node value spot here m.on m.waits m.gives.kind m.gives.can)) long,
      )

-- ---- states that differ in dead values alone

pub like_spots : (flat : Flat) (a b : State) → a.memory.items ≡ b.memory.items → a.holders.items ≡ b.holders.items
    → length a.spots.items ≡ length b.spots.items
    → ((node : ℕ) → BothAlike AgreeWhereItMatters (thread_in (plain_at flat a) node) (thread_in (plain_at flat b) node))
    → AreLike (plain_at flat a) (plain_at flat b)
like_spots flat a b memory holders count each = record {
  memory = memory;
  holders = holders;
  count = length-map a.spots.items (spot_thread flat) ∙ count ∙ sym (length-map b.spots.items (spot_thread flat));
  threads = each;
}

pub both_is : {o p q r : Option Thread} → o ≡ q → p ≡ r → BothAlike AgreeWhereItMatters q r → BothAlike AgreeWhereItMatters o p
both_is {o} {p} {q} {r} e f both = subst (λ x. BothAlike AgreeWhereItMatters x p) (sym e) (subst (λ x. BothAlike AgreeWhereItMatters q x) (sym f) both)

-- ---- the step

module _ (means : Means) (are : AreMeans means) (table : Table) (led : Led) (key : Noted) (node value : ℕ) (g : HasGone means key node value table led)
    (gives : given (next_in means.flat g.spot) key.state.memory.items key.state.holders.items ≡ Some value)
    (settled : IsSettled (plain_at means.flat key.state)) where
  abbrev mid_state : State
  mid_state = record {
    memory = g.new.state.memory;
    holders = g.new.state.holders;
    arrivals = g.new.state.arrivals;
    spots = with_item key.state.spots node g.settled.spot;
  }

  m : Makes means key node g.spot g.here value
  m = makes means key node g.spot g.here value gives

  deed : Deed
  deed = deed_of_spot means.flat g.spot value

  taken : TakesTo (plain_at means.flat key.state) (Alone node) (act_of node (deed_of_spot means.flat g.spot value) ∷ acts_by node g.so.deeds)
      (plain_at means.flat mid_state)
  taken =
      let ask = ask_of (next_of (thread_at means.flat g.spot)) in
      let next = next_is means key node g.spot g.here value m in
      step_alone means.flat key.state node value g.spot g.here m.on m.waits m.gives.kind m.gives.can mid_state g.settled g.so
      (g.memory ∙ ap (λ n. words_then n key.state.memory.items) next ∙ words_same value ask key.state.memory.items)
      (g.holders ∙ ap (λ n. freed g.settled.deeds.items (holders_then node n key.state.holders.items)) next
      ∙ ap (freed g.settled.deeds.items) (holders_same node value ask key.state.holders.items m.gives.kind)) refl settled

  -- without dead values
  like_mid : AreLike (plain_at means.flat g.new.state) (plain_at means.flat mid_state)
  like_mid =
      let flat = means.flat in
      let spots = key.state.spots.items in
      let kept = forgot means.live.now g.settled.spot in
      let less : node < length (map (spot_thread flat) spots) =
      let lt = slice_get_within spots node g.spot g.here in omega (arith, lt, length-map spots (spot_thread flat)) in
      like_spots flat g.new.state mid_state refl refl (ap (λ l. length l) g.spots ∙ length-set spots node kept ∙ sym (length-set spots node g.settled.spot))
      (λ k.
      let one : thread_in (plain_at flat g.new.state) k ≡ slice_index_or (slice_set (map (spot_thread flat) spots) node (spot_thread flat kept)) k None =
      ap (λ l. slice_index_or (map (spot_thread flat) l) k None) g.spots ∙ ap (λ l. slice_index_or l k None) (map-set (spot_thread flat) spots node kept) in
      let two : thread_in (plain_at flat mid_state) k
      ≡ slice_index_or (slice_set (map (spot_thread flat) spots) node (spot_thread flat g.settled.spot)) k None =
      ap (λ l. slice_index_or l k None) (map-set (spot_thread flat) spots node g.settled.spot) in
      elim (cases_eq k node) [
        | inl same ↦
            both_is (one ∙ ap (λ n. slice_index_or (slice_set (map (spot_thread flat) spots) node (spot_thread flat kept)) n None) same
            ∙ get_or-set_same (map (spot_thread flat) spots) node (spot_thread flat kept) None less)
            (two ∙ ap (λ n. slice_index_or (slice_set (map (spot_thread flat) spots) node (spot_thread flat g.settled.spot)) n None) same
            ∙ get_or-set_same (map (spot_thread flat) spots) node (spot_thread flat g.settled.spot) None less)
            (spot_like flat means.live.now are.live g.settled.spot (settled_within flat g.spot value g.settled g.so) g.settled.spot.stopped refl)
        | inr apart ↦
            both_is (one ∙ get_or-set_other (map (spot_thread flat) spots) node k (spot_thread flat kept) None apart)
            (two ∙ get_or-set_other (map (spot_thread flat) spots) node k (spot_thread flat g.settled.spot) None apart)
            ((like_same (plain_at flat key.state)).threads k)
      ])

  pub leads_alone : LeadsToRow means table key (Alone node) led
  leads_alone =
      let all = key.notes.items in
      record {
        next = g.new;
        of = g.of;
        acts = act_of node (deed_of_spot means.flat g.spot value) ∷ acts_by node g.so.deeds;
        traps =
            g.traps ∙ ap (list_any is_trap) g.so.seen ∙ traps_seen node g.so.deeds
            ∙ ap (λ b. b || has_trap (acts_by node g.so.deeds)) (sym (contended_no_trap (deed_of_spot means.flat g.spot value) m.gives.kind));
        takes = record { there = taken.there; takes = taken.takes; alike = like_on (like_alike taken.alike) (like_back like_mid) };
        noted = λ e.
            g.noted e ∙ ap (λ ds. notes_on all (acts_by node ds)) g.so.seen ∙ notes_seen node g.so.deeds all
            ∙ ap (λ n. notes_on n (acts_by node g.so.deeds)) (sym (unnoted all node (deed_of_spot means.flat g.spot value) m.gives.kind));
        bare = g.bare;
      }
