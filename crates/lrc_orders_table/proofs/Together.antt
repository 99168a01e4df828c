-- The step of all nodes.
use Rattle.std.proofs.Common.{◌≡◌, ℕ, zero, suc, ◌+◌, ◌<◌, ◌≤◌, Bool, true, false, List, [], ◌++◌, add-one, inl, inr, length, refl, sym, ◌∙◌, ap, subst, arith}
use Rattle.std.specs.Prelude.{◌&&◌, ◌||◌, Option, Some, None, if◌then◌else◌, nat_eq, not, slice_get, slice_index_or, slice_set}
use Rattle.std.specs.List.{list_any}
use Rattle.std.proofs.lemmas.Bool.{cases_eq, cases_lt, true≢false}
use Rattle.std.proofs.lemmas.List.{get_or-set_other, get_or-set_same, get_or_past, length-map, length-set}
use Rattle.std.proofs.lemmas.Option.{get_or_from_slice_get, same_Some, slice_get_within}
use Rattle.lrc_trace.specs.declared.act.Act.{Act}
use Rattle.lrc_trace.specs.declared.act.Deed.{Deed}
use Rattle.lrc_exec.specs.declared.spot.Flat.{Flat}
use Rattle.lrc_exec.specs.declared.spot.Spot.{Spot}
use Rattle.lrc_exec.specs.Ask.{answered}
use Rattle.lrc_exec.specs.Meaning.{Thread}
use Rattle.lrc_exec.specs.Plain.{Plain, thread_in}
use Rattle.lrc_exec.specs.Spots.{spot_thread, thread_at}
use Rattle.lrc_exec.specs.States.{plain_at, IsStateOf}
use Rattle.lrc_exec.proofs.Spots.{thread_there}
use Rattle.lrc_exec.proofs.States.{no_thread}
use Rattle.lrc_orders.specs.declared.noted.Noted.{Noted}
use Rattle.lrc_orders.specs.Traps.{has_trap, is_trap}
use Rattle.lrc_orders.proofs.Keeping.{item_at}
use Rattle.lrc_orders.proofs.KeptAlike.{nat_itself}
use Rattle.lrc_orders_laws.specs.Alike.{stopped}
use Rattle.lrc_orders_laws.specs.Steps.{AllWait}
use Rattle.lrc_orders_laws.specs.Threads.{ThreadSettles}
use Rattle.lrc_orders_laws.proofs.GoingOn.{same_thread}
use Rattle.lrc_orders_settling.specs.Settling.{MakesFree}
use Rattle.lrc_orders_settling.specs.declared.step.Step.TheVariants.{Together}
use Rattle.lrc_orders_settling.specs.Gone.{acts_by, freed}
use Rattle.lrc_orders_settling.specs.Taking.{ComputesLong, HaveDeparted, IsCounted, Takes, TakesTo, together}
use Rattle.lrc_orders_settling.proofs.Departing.{have_departed}
use Rattle.lrc_orders_settling.proofs.Parts.{kept_thread}
use Rattle.lrc_orders_settling.proofs.Taken.{long_together}
use Rattle.lrc_orders_live.specs.Like.{AreLike}
use Rattle.lrc_orders_live.specs.Live.{forgot}
use Rattle.lrc_orders_live.proofs.Dead.{spot_like}
use Rattle.lrc_orders_live.proofs.Like.{like_back}
use Rattle.lrc_orders_table.specs.declared.rows.Row.{Row}
use Rattle.lrc_orders_table.specs.declared.next.Next.{Next}
use Rattle.lrc_orders_table.specs.declared.next.Next.TheVariants.{Waits}
use Rattle.lrc_orders_table.specs.All.{acts_of_all, gone_all}
use Rattle.lrc_orders_table.specs.Nexts.{next_in, notes_on, thread_then}
use Rattle.lrc_orders_table.proofs.SeenNext.{freed_seen, notes_seen, traps_seen}
use Rattle.lrc_orders_table.proofs.Stepping.{all_settle}
use Rattle.lrc_orders_table.specs.declared.known.Means.{Means}
use Rattle.lrc_orders_table.specs.declared.table.Led.{Led}
use Rattle.lrc_orders_table.specs.declared.table.Table.{Table}
use Rattle.lrc_orders_table.specs.Going.{GoesOn, HasGone}
use Rattle.lrc_orders_table.specs.Shared.{holders_then, is_waiting, words_then}
use Rattle.lrc_orders_table.specs.Tables.{AreMeans, IsRowOf, LeadsToRow}
use Rattle.lrc_orders_table.proofs.Alone.{both_is}
use Rattle.lrc_orders_table.proofs.Departed.{Departed, departed}
use Rattle.lrc_orders_table.proofs.Gone.{item_other, item_set, settled_within}
use Rattle.lrc_orders_table.proofs.Noting.{notes_again, traps_again}
use Rattle.lrc_orders_table.proofs.NextActs.{waiting_is, waits_is}

-- ---- what each node does

abbrev put_at : {A : Type 0} → (ℕ → A) → ℕ → A → ℕ → A
put_at f k x j = if nat_eq j k then x else f j

put_same : {A : Type 0} (f : ℕ → A) (k : ℕ) (x : A) → put_at f k x k ≡ x
put_same f k x = ap (λ b. if b then x else f k) (nat_itself k)

apart_eq : (j k : ℕ) → (j ≡ k → ⊥) → nat_eq j k ≡ false
apart_eq j k apart = grind arith

put_other : {A : Type 0} (f : ℕ → A) (k j : ℕ) (x : A) → (j ≡ k → ⊥) → put_at f k x j ≡ f j
put_other f k j x apart = ap (λ b. if b then x else f j) (apart_eq j k apart)

-- the holders of locks after the deeds of so many nodes
abbrev pub freed_all : (ℕ → List Deed) → ℕ → List (Option ℕ) → List (Option ℕ)
freed_all deeds zero holders = holders
freed_all deeds (suc k) holders = freed (deeds k) (freed_all deeds k holders)

freed_same : (d e : ℕ → List Deed) (k : ℕ) (holders : List (Option ℕ)) → ((j : ℕ) → j < k → d j ≡ e j) → freed_all d k holders ≡ freed_all e k holders
freed_same d e zero holders same = refl
freed_same d e (suc k) holders same =
    ap (λ ds. freed ds (freed_all d k holders)) (same k (omega arith))
    ∙ ap (freed (e k)) (freed_same d e k holders (λ j lt. same j (omega (arith, lt))))

acts_same : (d e : ℕ → List Deed) (k : ℕ) → ((j : ℕ) → j < k → d j ≡ e j) → acts_of_all d k ≡ acts_of_all e k
acts_same d e zero same = refl
acts_same d e (suc k) same =
    ap (λ l. l ++ acts_by k (d k)) (acts_same d e k (λ j lt. same j (omega (arith, lt))))
    ∙ ap (λ ds. acts_of_all e k ++ acts_by k ds) (same k (omega arith))

-- what the parts of a state become
module _ (machine : Plain) (deeds : ℕ → List Deed) (there : ℕ → Option Thread) where
  all_memory : (k : ℕ) → (gone_all machine deeds there k).memory ≡ machine.memory
  all_memory zero = refl
  all_memory (suc k) = all_memory k

  all_holders : (k : ℕ) → (gone_all machine deeds there k).holders ≡ freed_all deeds k machine.holders
  all_holders zero = refl
  all_holders (suc k) = ap (freed (deeds k)) (all_holders k)

  all_size : (k : ℕ) → length (gone_all machine deeds there k).threads ≡ length machine.threads
  all_size zero = refl
  all_size (suc k) = length-set (gone_all machine deeds there k).threads k (there k) ∙ all_size k

  all_threads : (k j : ℕ) → k ≤ length machine.threads → j < k → thread_in (gone_all machine deeds there k) j ≡ there j
  all_threads zero j le lt = absurd (omega (arith, lt))
  all_threads (suc k) j le lt = elim (cases_eq j k) [
    | inl same ↦
        ap (λ n. slice_index_or (slice_set (gone_all machine deeds there k).threads k (there k)) n None) same
        ∙ get_or-set_same (gone_all machine deeds there k).threads k (there k) None (omega (arith, le, all_size k)) ∙ ap there (sym same)
    | inr apart ↦
        get_or-set_other (gone_all machine deeds there k).threads k j (there k) None apart
        ∙ all_threads k j (omega (arith, le)) (omega (arith, lt, apart))
  ]

-- ---- nodes that have departed and settled, one after another

-- those before one have
pub record AllGone (means : Means) (key : Noted) (node : ℕ) (table : Table) (row : Row) (traps : Bool) : Type 0 where
  pub deeds : ℕ → List Deed
  pub there : ℕ → Spot
  pub settles : (k : ℕ) (spot : Spot) → k < node → slice_get key.state.spots.items k ≡ Some spot
      → ThreadSettles (Some (thread_then means.flat spot 0)) (deeds k) (spot_thread means.flat (there k))
  pub within : (k : ℕ) → k < node → (there k).place ≤ length means.flat.code.now
  pub new : Noted
  pub of : IsRowOf means table row new
  pub memory : new.state.memory.items ≡ key.state.memory.items
  pub holders : new.state.holders.items ≡ freed_all deeds node key.state.holders.items
  pub done : (k : ℕ) → k < node → slice_get new.state.spots.items k ≡ Some (forgot means.live.now (there k))
  pub rest : (k : ℕ) → node ≤ k → slice_get new.state.spots.items k ≡ slice_get key.state.spots.items k
  pub traps_are : traps ≡ has_trap (acts_of_all deeds node)
  pub noted : means.noting ≡ true → new.notes.items ≡ notes_on key.notes.items (acts_of_all deeds node)
  pub bare : means.noting ≡ false → new.notes.items ≡ key.notes.items

pub all_gone_first : (means : Means) (key : Noted) (table : Table) (row : Row) → IsRowOf means table row key → AllGone means key 0 table row false
all_gone_first means key table row of = record {
  deeds = λ k. [];
  there = λ k. record { me = 0; place = 0; privates = []; held = []; arrived = false; stopped = false };
  settles = λ k spot lt. absurd (omega (arith, lt));
  within = λ k lt. absurd (omega (arith, lt));
  new = key;
  of = of;
  memory = refl;
  holders = refl;
  done = λ k lt. absurd (omega (arith, lt));
  rest = λ k le. refl;
  traps_are = refl;
  noted = λ e. refl;
  bare = λ e. refl;
}

waiting_words : (next : Next) (words : List ℕ) → is_waiting next ≡ true → words_then next words ≡ words
waiting_words Waits words e = refl
waiting_words _ words e = absurd (true≢false (sym e))

waiting_holders : (node : ℕ) (next : Next) (holders : List (Option ℕ)) → is_waiting next ≡ true → holders_then node next holders ≡ holders
waiting_holders node Waits holders e = refl
waiting_holders node _ holders e = absurd (true≢false (sym e))

-- one node more
module _ (means : Means) (key : Noted) (node : ℕ) (old new : Table) (row : Row) (traps : Bool) (led : Led) (a : AllGone means key node old row traps)
    (g : HasGone means a.new node 0 new led) (waits : is_waiting (next_in means.flat g.spot) ≡ true) where
  abbrev deeds' : ℕ → List Deed
  deeds' = put_at a.deeds node g.so.deeds

  abbrev there' : ℕ → Spot
  there' = put_at a.there node g.settled.spot

  spot_here : slice_get key.state.spots.items node ≡ Some g.spot
  spot_here = sym (a.rest node (omega arith)) ∙ g.here

  mine : deeds' node ≡ g.so.deeds
  mine = put_same a.deeds node g.so.deeds

  mine_there : there' node ≡ g.settled.spot
  mine_there = put_same a.there node g.settled.spot

  others : (k : ℕ) → (k ≡ node → ⊥) → deeds' k ≡ a.deeds k
  others k apart = put_other a.deeds node k g.so.deeds apart

  others_there : (k : ℕ) → (k ≡ node → ⊥) → there' k ≡ a.there k
  others_there k apart = put_other a.there node k g.settled.spot apart

  settles_on : (k : ℕ) (spot : Spot) → k < suc node → slice_get key.state.spots.items k ≡ Some spot
      → ThreadSettles (Some (thread_then means.flat spot 0)) (deeds' k) (spot_thread means.flat (there' k))
  settles_on k spot lt at = elim (cases_eq k node) [
    | inl same ↦
        let flat = means.flat in
        let one : spot ≡ g.spot = same_Some spot g.spot (sym at ∙ ap (slice_get key.state.spots.items) same ∙ spot_here) in
        let kept : spot_thread flat g.settled.spot ≡ spot_thread flat g.so.there =
        ap (spot_thread flat) g.so.is ∙ kept_thread flat g.so.there g.spot.me in
        let last : spot_thread flat (there' k) ≡ spot_thread flat g.so.there = ap (spot_thread flat) (ap there' same ∙ mine_there) ∙ kept in
        subst (λ (s : Spot). ThreadSettles (Some (thread_then flat s 0)) (deeds' k) (spot_thread flat (there' k))) (sym one)
        (subst (λ ds. ThreadSettles (Some (thread_then flat g.spot 0)) ds (spot_thread flat (there' k))) (sym (ap deeds' same ∙ mine))
        (subst (λ o. ThreadSettles (Some (thread_then flat g.spot 0)) g.so.deeds o) (sym last) g.so.settles))
    | inr apart ↦
        let flat = means.flat in
        subst (λ ds. ThreadSettles (Some (thread_then flat spot 0)) ds (spot_thread flat (there' k))) (sym (others k apart))
        (subst (λ (s : Spot). ThreadSettles (Some (thread_then flat spot 0)) (a.deeds k) (spot_thread flat s)) (sym (others_there k apart))
        (a.settles k spot (omega (arith, lt, apart)) at))
  ]

  within_on : (k : ℕ) → k < suc node → (there' k).place ≤ length means.flat.code.now
  within_on k lt = elim (cases_eq k node) [
    | inl same ↦
        subst (λ (s : Spot). s.place ≤ length means.flat.code.now) (sym (ap there' same ∙ mine_there)) (settled_within means.flat g.spot 0 g.settled g.so)
    | inr apart ↦ subst (λ (s : Spot). s.place ≤ length means.flat.code.now) (sym (others_there k apart)) (a.within k (omega (arith, lt, apart)))
  ]

  done_on : (k : ℕ) → k < suc node → slice_get g.new.state.spots.items k ≡ Some (forgot means.live.now (there' k))
  done_on k lt = elim (cases_eq k node) [
    | inl same ↦
        let kept = forgot means.live.now g.settled.spot in
        ap (λ l. slice_get l k) g.spots ∙ ap (slice_get (slice_set a.new.state.spots.items node kept)) same
        ∙ item_set a.new.state.spots.items node kept (slice_get_within a.new.state.spots.items node g.spot g.here)
        ∙ ap (λ (s : Spot). Some (forgot means.live.now s)) (sym (ap there' same ∙ mine_there))
    | inr apart ↦
        ap (λ l. slice_get l k) g.spots ∙ item_other a.new.state.spots.items node k (forgot means.live.now g.settled.spot) apart
        ∙ a.done k (omega (arith, lt, apart)) ∙ ap (λ (s : Spot). Some (forgot means.live.now s)) (sym (others_there k apart))
  ]

  less_apart : (k : ℕ) → k < node → k ≡ node → ⊥
  less_apart k lt e = omega (arith, lt, e)

  pub all_gone_next : AllGone means key (suc node) new led.row (traps || led.traps)
  all_gone_next =
      let next : Next = next_in means.flat g.spot in
      let holders = key.state.holders.items in
      let freed_so : freed_all deeds' (suc node) holders ≡ freed g.so.deeds (freed_all a.deeds node holders) =
      ap (λ ds. freed ds (freed_all deeds' node holders)) mine
      ∙ ap (freed g.so.deeds) (freed_same deeds' a.deeds node holders (λ k lt. others k (less_apart k lt))) in
      let acts_so : acts_of_all deeds' (suc node) ≡ acts_of_all a.deeds node ++ acts_by node g.so.deeds =
      ap (λ l. l ++ acts_by node (deeds' node)) (acts_same deeds' a.deeds node (λ k lt. others k (less_apart k lt)))
      ∙ ap (λ ds. acts_of_all a.deeds node ++ acts_by node ds) mine in
      record {
        deeds = deeds';
        there = there';
        settles = settles_on;
        within = within_on;
        new = g.new;
        of = g.of;
        memory = g.memory ∙ waiting_words next a.new.state.memory.items waits ∙ a.memory;
        holders =
            g.holders ∙ ap (freed g.settled.deeds.items) (waiting_holders node next a.new.state.holders.items waits)
            ∙ ap (λ ds. freed ds a.new.state.holders.items) g.so.seen ∙ freed_seen g.so.deeds a.new.state.holders.items
            ∙ ap (freed g.so.deeds) a.holders ∙ sym freed_so;
        done = done_on;
        rest = λ k le.
            ap (λ l. slice_get l k) g.spots
            ∙ item_other a.new.state.spots.items node k (forgot means.live.now g.settled.spot) (λ e. omega (arith, le, e)) ∙ a.rest k (omega (arith, le));
        traps_are =
            ap (λ b. b || led.traps) a.traps_are
            ∙ ap (λ b. has_trap (acts_of_all a.deeds node) || b) (g.traps ∙ ap (list_any is_trap) g.so.seen ∙ traps_seen node g.so.deeds)
            ∙ sym (traps_again (acts_of_all a.deeds node) (acts_by node g.so.deeds)) ∙ ap has_trap (sym acts_so);
        noted = λ e.
            g.noted e ∙ ap (λ ds. notes_on a.new.notes.items (acts_by node ds)) g.so.seen ∙ notes_seen node g.so.deeds a.new.notes.items
            ∙ ap (λ n. notes_on n (acts_by node g.so.deeds)) (a.noted e)
            ∙ sym (notes_again key.notes.items (acts_of_all a.deeds node) (acts_by node g.so.deeds)) ∙ ap (notes_on key.notes.items) (sym acts_so);
        bare = λ e. g.bare e ∙ a.bare e;
      }

  pub all_gone_on : AllGone means key (node + 1) new led.row (traps || led.traps)
  all_gone_on = subst (λ n. AllGone means key n new led.row (traps || led.traps)) (sym (add-one node)) all_gone_next

-- ---- the step

-- it is taken where all wait
pub taken_waits : (machine after : Plain) (acts : List Act) → Takes machine Together acts after → AllWait machine
taken_waits _ after acts (together machine mid _ departs more all led settles) = all

-- a node that waits
waiting_parts : (a b : Bool) → (not a && b) ≡ true → (a ≡ false) × (b ≡ true)
waiting_parts true b e = absurd (true≢false (sym e))
waiting_parts false b e = (refl, e)

module _ (means : Means) (key : Noted) (valid : IsStateOf means.flat key.state) (counted : IsCounted key.state)
    (all : AllWait (plain_at means.flat key.state)) where
  abbrev flat : Flat
  flat = means.flat

  abbrev count : ℕ
  count = length key.state.spots.items

  d : Departed means.flat key.state count
  d = departed means.flat key.state valid counted all count (omega arith)

  have : HaveDeparted means.flat key.state d.now [] d.acts
  have = have_departed means.flat key.state d.now count [] d.acts d.so refl

  long : length (plain_at flat key.state).threads ≡ count
  long = length-map key.state.spots.items (spot_thread flat)

  waits_at_node : (node : ℕ) (spot : Spot) → slice_get key.state.spots.items node ≡ Some spot → (not spot.stopped && spot.arrived) ≡ true
  waits_at_node node spot here =
      let within = slice_get_within key.state.spots.items node spot here in
      sym (waiting_is flat spot) ∙ waits_is flat key.state node spot here ∙ all.each node (omega (arith, within, long))

  pub waiting_here : (node : ℕ) (spot : Spot) → slice_get key.state.spots.items node ≡ Some spot → is_waiting (next_in means.flat spot) ≡ true
  waiting_here node spot here = waiting_is flat spot ∙ waits_at_node node spot here

  pub goes_here : (node : ℕ) (spot : Spot) → slice_get key.state.spots.items node ≡ Some spot → GoesOn means spot
  goes_here node spot here =
      let parts = waiting_parts spot.stopped spot.arrived (waits_at_node node spot here) in
      record { going = parts.0; takes = λ e. absurd (true≢false (sym parts.1 ∙ e)) }

  thread_departed : (node : ℕ) (spot : Spot) → slice_get key.state.spots.items node ≡ Some spot
      → thread_in (plain_at flat d.now) node ≡ Some (thread_then flat spot 0)
  thread_departed node spot here =
      let within = slice_get_within key.state.spots.items node spot here in
      let arrived = (waiting_parts spot.stopped spot.arrived (waits_at_node node spot here)).1 in
      d.before node spot within here
      ∙ ap (λ b. Some (if b then thread_at flat spot else record (answered 0 (thread_at flat spot)) { arrived = false })) (sym arrived)

  -- a node makes as many free acts as may be looked at
  pub long_together_from : (node : ℕ) (spot : Spot) → slice_get key.state.spots.items node ≡ Some spot
      → MakesFree means.looked (Some (thread_then means.flat spot 0)) → ComputesLong (plain_at means.flat key.state) means.looked
  long_together_from node spot here makes =
      long_together flat key.state d.now [] d.acts means.looked have (node, subst (MakesFree means.looked) (sym (thread_departed node spot here)) makes)

  -- all have settled
  module _ (are : AreMeans means) (table : Table) (row : Row) (traps : Bool) (a : AllGone means key (length key.state.spots.items) table row traps) where
    abbrev settled : ℕ → Option Thread
    settled k = spot_thread flat (a.there k)

    abbrev mid : Plain
    mid = plain_at flat d.now

    size : length mid.threads ≡ length (plain_at flat key.state).threads
    size = length-map d.now.spots.items (spot_thread flat) ∙ d.so.size ∙ sym long

    taken : TakesTo (plain_at means.flat key.state) Together (have.departs ++ acts_of_all a.deeds (length (plain_at means.flat key.state).threads))
        (gone_all mid a.deeds settled (length (plain_at means.flat key.state).threads))
    taken =
        all_settle (plain_at flat key.state) mid have.departs a.deeds settled all have.led size (λ node lt.
        let less : node < count = omega (arith, lt, long) in
        let (spot, here) = item_at key.state.spots.items node less in
        subst (λ o. ThreadSettles o (a.deeds node) (settled node)) (sym (thread_departed node spot here)) (a.settles node spot less here))

    new_size : length a.new.state.spots.items ≡ count
    new_size =
        let now = a.of.stands.threads.count in
        let was = a.of.valid.spots in
        was ∙ sym valid.spots

    like_new : AreLike (plain_at flat a.new.state) taken.there
    like_new =
        let n = length (plain_at flat key.state).threads in
        record {
          memory = a.memory ∙ sym d.memory ∙ sym (all_memory mid a.deeds settled n) ∙ sym taken.alike.memory;
          holders =
              a.holders ∙ ap (λ k. freed_all a.deeds k key.state.holders.items) (sym long) ∙ ap (freed_all a.deeds n) (sym d.holders)
              ∙ sym (all_holders mid a.deeds settled n) ∙ sym taken.alike.holders;
          count =
              length-map a.new.state.spots.items (spot_thread flat) ∙ new_size ∙ sym long ∙ sym size ∙ sym (all_size mid a.deeds settled n)
              ∙ sym (ap (λ l. length l) taken.alike.threads);
          threads = λ node. elim (cases_lt node count) [
            | inl lt ↦
                let kept = forgot means.live.now (a.there node) in
                both_is
                (thread_there flat a.new.state node kept (omega (arith, lt, new_size))
                ∙ ap (spot_thread flat) (get_or_from_slice_get a.new.state.spots.items node kept kept (a.done node lt)))
                (same_thread taken.alike node ∙ all_threads mid a.deeds settled n node (omega (arith, size)) (omega (arith, lt, long)))
                (spot_like flat means.live.now are.live (a.there node) (a.within node lt) (a.there node).stopped refl)
            | inr le ↦
                both_is (no_thread flat a.new.state node (omega (arith, le, new_size)))
                (get_or_past taken.there.threads node None
                (omega (arith, le, ap (λ l. length l) taken.alike.threads, all_size mid a.deeds settled n, size, long)))
                stopped
          ];
        }

    pub leads_together : LeadsToRow means table key Together (record { row = row; traps = traps })
    leads_together =
        let n = length (plain_at flat key.state).threads in
        let all_notes = key.notes.items in
        let departs : have.departs ≡ d.acts = sym have.made in
        record {
          next = a.new;
          of = a.of;
          acts = have.departs ++ acts_of_all a.deeds n;
          traps =
              a.traps_are ∙ ap (λ k. has_trap (acts_of_all a.deeds k)) (sym long)
              ∙ ap (λ b. b || has_trap (acts_of_all a.deeds n)) (sym (ap has_trap departs ∙ d.no_trap))
              ∙ sym (traps_again have.departs (acts_of_all a.deeds n));
          takes = record { there = taken.there; takes = taken.takes; alike = like_back like_new };
          noted = λ e.
              a.noted e ∙ ap (λ k. notes_on all_notes (acts_of_all a.deeds k)) (sym long)
              ∙ ap (λ l. notes_on l (acts_of_all a.deeds n)) (sym (ap (notes_on all_notes) departs ∙ d.unnoted all_notes))
              ∙ sym (notes_again all_notes have.departs (acts_of_all a.deeds n));
          bare = a.bare;
        }
