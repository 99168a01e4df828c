-- States that are found from others, and put to those that were found before.
use Rattle.std.proofs.Common.{◌≡◌, ℕ, zero, suc, ◌+◌, ◌<◌, ◌≤◌, ◌^◌, List, [], ◌∷◌, ◌++◌, length, Result, Ok, Err, IfOk, false, inl, inr, refl, sym, subst, ◌∙◌, ap, arith, replicate}
use Rattle.std.specs.Prelude.{Option, Some, None, slice_get, slice_index}
use Rattle.std.specs.List.{IsDistinct}
use Rattle.std.proofs.lemmas.Bool.{cases_lt, cases_eq}
use Rattle.std.proofs.lemmas.Option.{same_Some}
use Rattle.std.proofs.lemmas.List.{get_or-replicate, get_or_past, length-replicate, length-append}
use Rattle.lrc_program.specs.declared.Program.{Program}
use Rattle.lrc_trace.specs.declared.act.Act.{Act}
use Rattle.lrc_trace.specs.declared.act.Deed.{Deed}
use Rattle.lrc_trace.specs.Run.{act_of}
use Rattle.lrc_trace.proofs.Positions.{Does-last}
use Rattle.lrc_exec.specs.declared.spot.Flat.{Flat}
use Rattle.lrc_exec.specs.Plain.{Plain}
use Rattle.lrc_consistency_laws.proofs.UpToRace.{in_range}
use Rattle.lrc_orders.specs.declared.outcomes.Outcome.{Outcome}
use Rattle.lrc_orders.specs.Kept.{Grows}
use Rattle.lrc_exec.specs.States.{IsFirst, plain_at, IsStateOf}
use Rattle.lrc_orders.specs.Notes.{notes_of, notes_with}
use Rattle.lrc_orders.specs.Outcome.{HasOutcome}
use Rattle.lrc_orders.proofs.Counting.{step_counts}
use Rattle.lrc_orders.proofs.Gathering.{put_all}
use Rattle.lrc_orders.proofs.Keeping.{stands_on as stays, item_at}
use Rattle.lrc_orders.proofs.Noting.{notes_more}
use Rattle.lrc_lazy_known.specs.Effect.{word_of, IsKnowledgeAfter}
use Rattle.lrc_lazy_search.specs.declared.state.LazyState.{LazyState}
use Rattle.lrc_lazy_search.specs.declared.search.Task.{Task}
use Rattle.lrc_lazy_search.specs.contracts.state.LazyStatePartialEq.TheImpl.{eq-value}
use Rattle.lrc_lazy.specs.Standing.{with_memory, IsRenewed, Stands, effect_at}
use Rattle.lrc_lazy_search.specs.Searching.{Steps, IsFresh, IsAhead, still, onward, renewed, IsNext, AreNext, CanAct, ComesToTurn, CountsNoneGone, HasStep, HasAll, Leads, to_one, to_turn, AreEnough, of_one, of_all, IsNeat, IsReached, HasKey, AreThere, IsOneOf}
use Rattle.lrc_lazy_search.specs.Searching.{HasNexts, HasEnough, by_one, by_all, IsSearched, AreSearched, IsBegun}
use Rattle.lrc_lazy_search.specs.Task.{IsTask, IsInOrder}
use Rattle.lrc_lazy.proofs.Beginning.{stands_first, first_notes}
use Rattle.lrc_lazy_search.proofs.Ahead.{arrivals_still, fresh_counts}
use Rattle.lrc_lazy.proofs.Renewing.{stands_renewed}
use Rattle.lrc_lazy.proofs.Stepping.{stands_on}

-- ---- lists of next states

pub leads_on : {flat : Flat} {key : LazyState} {P Q : LazyState → Type 0} → ((x : LazyState) → P x → Q x) → Leads flat key P → Leads flat key Q
leads_on f (to_one ahead goes there) = to_one ahead goes (f ahead there)
leads_on f (to_turn comes) = to_turn comes

pub step_on : {flat : Flat} {key : LazyState} {node : ℕ} {deed : Deed} {old new : List LazyState} → Grows old new → HasStep flat key node deed old
    → HasStep flat key node deed new
step_on g h = record { after = h.after; steps = h.steps; leads = leads_on (λ x one. (one.0, stays one.0 x g one.1)) h.leads }

pub next_push : (flat : Flat) (key after : LazyState) (old new : List LazyState) → new ≡ old ++ after ∷ [] → AreNext flat key old → IsNext flat key after
    → AreNext flat key new
next_push flat key after old new e all next = put_all (λ k x. IsNext flat key x) false old new after e all next

-- three things that are said of what a call answers
pub all_say : {T F : Type 0} (P Q R : T → Type 0) (r : Result T F) → IfOk r P → IfOk r Q → IfOk r R → IfOk r (λ x. P x × Q x × R x)
all_say P Q R (Ok x) p q r = (p, q, r)
all_say P Q R (Err f) p q r = tt

-- ---- a state to which an act leads

-- a lazy run leads to the state, in so many acts at most
record Led (program : Program) (flat : Flat) (key : LazyState) (most : ℕ) : Type 0 where
  acts : List Act
  stands : Stands program flat.nodes acts (plain_at flat key.state) key.knowledge
  noted : notes_of flat.nodes acts ≡ key.notes.items
  valid : IsStateOf flat key.state
  counted : (node : ℕ) → slice_index key.state.arrivals.items node ≤ most

led_of : {program : Program} {flat : Flat} {key : LazyState} {most : ℕ} → IsReached program flat key most → Led program flat key most
led_of r = record { acts = r.acts; stands = r.stands; noted = r.noted; valid = r.valid; counted = r.counted }

reached_of : {program : Program} {flat : Flat} {key : LazyState} {most : ℕ} → Led program flat key most → IsNeat flat key → CountsNoneGone flat key
    → IsReached program flat key most
reached_of l neat left = record { acts = l.acts; stands = l.stands; noted = l.noted; valid = l.valid; counted = l.counted; neat = neat; left = left }

module _ (program : Program) (flat : Flat) (words : flat.words ≡ program.words) (locks : flat.locks ≡ program.locks) where
  led_step : (key after : LazyState) (most bound node : ℕ) (deed : Deed) → Led program flat key most → Steps flat key node deed after
      → IsStateOf flat after.state → ((n : ℕ) → slice_index after.state.arrivals.items n ≤ bound) → Led program flat after bound
  led_step key after most bound node deed r steps valid counted =
      let act = act_of node deed in
      let effect = subst (λ l. IsKnowledgeAfter (effect_at flat.nodes l (plain_at flat key.state) node deed) key.knowledge after.knowledge) locks steps.effect in
      let stands = stands_on program flat.nodes r.acts (plain_at flat key.state) key.knowledge r.stands node deed steps.makes.memory steps.makes.later
      (plain_at flat after.state) after.knowledge steps.makes.made steps.gives effect in
      let lt = in_range stands.run.follows (length r.acts) node deed (Does-last r.acts act) in
      record {
        acts = r.acts ++ act ∷ [];
        stands = stands;
        noted = notes_more flat.nodes r.acts act lt ∙ ap (λ notes. notes_with notes act) r.noted ∙ sym steps.notes;
        valid = valid;
        counted = counted;
      }

  led_fresh : (key after : LazyState) (most : ℕ) → Led program flat key most → IsFresh flat key after → Led program flat after most
  led_fresh key after most r fresh =
      let left = subst (λ l. IsRenewed flat.nodes l (plain_at flat key.state) key.knowledge (plain_at flat after.state) after.knowledge) locks fresh.renewed in
      record {
        acts = r.acts;
        stands = stands_renewed program flat.nodes r.acts (plain_at flat key.state) key.knowledge r.stands (plain_at flat after.state) after.knowledge left;
        noted = r.noted ∙ sym fresh.notes;
        valid = fresh.valid;
        counted = λ n. let few = r.counted n in let fewer = fresh_counts fresh n in omega (arith, few, fewer);
      }

  led_ahead : (key ahead : LazyState) (most : ℕ) → Led program flat key most → IsAhead flat key ahead → Led program flat ahead most
  led_ahead key ahead most r still = r
  led_ahead key ahead most r (renewed {mid = mid} before fresh) = led_fresh mid ahead most (led_ahead key mid most r before) fresh
  led_ahead key ahead most r (onward {mid = mid} node deed before forced steps valid) =
      let earlier = led_ahead key mid most r before in
      led_step mid ahead most most node deed earlier steps valid (λ n.
      let few = earlier.counted n in
      let same = arrivals_still flat mid.state ahead.state node deed forced.no_arrive steps.makes n in
      omega (arith, few, same))

  -- a state that is ahead of one
  pub reached_ahead : (key ahead : LazyState) (most : ℕ) → IsReached program flat key most → IsAhead flat key ahead → IsNeat flat ahead
      → CountsNoneGone flat ahead → IsReached program flat ahead most
  reached_ahead key ahead most r goes neat left = reached_of (led_ahead key ahead most (led_of r) goes) neat left

  -- and one that is next
  pub reached_next : (key ahead : LazyState) (most : ℕ) → IsReached program flat key most → IsNext flat key ahead → IsNeat flat ahead
      → CountsNoneGone flat ahead → IsReached program flat ahead (most + 1)
  reached_next key ahead most r n neat left =
      let steps = n.steps in
      reached_of (led_ahead n.after ahead (most + 1)
      (led_step key n.after most (most + 1) n.node n.deed (led_of r) steps n.valid (λ node.
      let few = r.counted node in
      let more = step_counts (with_memory (plain_at flat key.state) steps.makes.memory) (with_memory (plain_at flat n.after.state) steps.makes.later)
      n.node node n.deed steps.makes.made in
      omega (arith, few, more)))
      n.goes) neat left

pub reached_more : {program : Program} {flat : Flat} {key : LazyState} {less more : ℕ} → less ≤ more → IsReached program flat key less
    → IsReached program flat key more
reached_more le r = record {
  acts = r.acts;
  stands = r.stands;
  noted = r.noted;
  valid = r.valid;
  counted = λ node. let few = r.counted node in omega (arith, few, le);
  neat = r.neat;
  left = r.left;
}

-- ---- the beginning

none_arrived : (count node : ℕ) → slice_index (replicate count 0) node ≤ 0
none_arrived count node = elim (cases_lt node count) [
  | inl lt ↦ let zero_is = get_or-replicate {A = ℕ} count node 0 0 lt in omega (arith, zero_is)
  | inr le ↦ let zero_is = get_or_past {X = ℕ} (replicate count 0) node 0 (omega (arith, le, length-replicate {A = ℕ} count 0)) in omega (arith, zero_is)
]

pub first_reached : (task : Task) (key : LazyState) → IsTask task → IsFirst task.flat task.start key.state → IsStateOf task.flat key.state
    → ((word : ℕ) → word_of key.knowledge word ≡ []) → key.notes.items ≡ [] → IsNeat task.flat key → CountsNoneGone task.flat key
    → IsReached task.program.now task.flat key 0
first_reached task key is first valid nothing none neat left =
    let machine = first.begun ∙ is.begun in
    record {
      acts = [];
      stands = subst (λ (m : Plain). Stands task.program.now task.flat.nodes [] m key.knowledge) (sym machine)
          (stands_first task.program.now task.flat.nodes key.knowledge nothing);
      noted = first_notes task.flat.nodes ∙ sym none;
      valid = valid;
      counted = λ node.
          let few = none_arrived task.flat.nodes node in
          let same = ap (λ (m : Plain). slice_index m.arrivals node) machine in
          omega (arith, few, same);
      neat = neat;
      left = left;
    }

pub key_on : {old new : List LazyState} {key : LazyState} → Grows old new → HasKey old key → HasKey new key
key_on g h = record { place = h.place; stored = h.stored; there = stays h.place h.stored g h.there; same = h.same }

pub begun_on : {program : Program} {flat : Flat} {old new : List LazyState} → Grows old new → IsBegun program flat old → IsBegun program flat new
begun_on g b = record { first = b.first; stands = b.stands; none = b.none; leads = leads_on (λ x has. key_on g has) b.leads }

pub first_room : (task : Task) (key : LazyState) → IsFirst task.flat task.start key.state → (n : ℕ) → slice_index key.state.arrivals.items n < 2 ^ 63
first_room task key first n =
    let few = none_arrived task.flat.nodes n in
    let same = ap (λ (m : Plain). slice_index m.arrivals n) first.begun in
    omega (arith, few, same)

-- one of a single state is that one
one_alone : (ahead x : LazyState) → IsOneOf (ahead ∷ []) x → ahead ≡ x
one_alone ahead x (zero, at) = same_Some ahead x at
one_alone ahead x (suc k, at) = cc

-- what lies ahead of the first state is reached
pub first_ahead : (task : Task) (key ahead : LazyState) → IsTask task → IsFirst task.flat task.start key.state → IsStateOf task.flat key.state
    → ((word : ℕ) → word_of key.knowledge word ≡ []) → key.notes.items ≡ [] → IsNeat task.flat key → CountsNoneGone task.flat key
    → IsAhead task.flat key ahead → IsNeat task.flat ahead → CountsNoneGone task.flat ahead → IsReached task.program.now task.flat ahead 0
first_ahead task key ahead is first valid nothing notes whole counts goes neat left =
    reached_ahead task.program.now task.flat is.words is.locks key ahead 0 (first_reached task key is first valid nothing notes whole counts) goes neat left

-- the first state, or one ahead of it, alone
pub first_in_order : (task : Task) (keys : List LazyState) (key ahead : LazyState) → IsTask task → IsFirst task.flat task.start key.state
    → ((word : ℕ) → word_of key.knowledge word ≡ []) → key.notes.items ≡ [] → IsAhead task.flat key ahead
    → ((k : ℕ) (x : LazyState) → slice_get keys k ≡ Some x → IsOneOf (ahead ∷ []) x) → IsReached task.program.now task.flat ahead 0 → HasKey keys ahead
    → IsDistinct eq-value.it keys → IsInOrder task keys
first_in_order task keys key ahead is first nothing notes goes from reached has distinct =
    let machine = first.begun ∙ is.begun in
    record {
      reached = λ k x at.
          subst (λ (y : LazyState). IsReached task.program.now task.flat y k) (one_alone ahead x (from k x at)) (reached_more (omega arith) reached);
      begun = record {
        first = key;
        stands = subst (λ (m : Plain). Stands task.program.now task.flat.nodes [] m key.knowledge) (sym machine)
            (stands_first task.program.now task.flat.nodes key.knowledge nothing);
        none = notes;
        leads = to_one ahead goes has;
      };
      distinct = distinct;
    }

none_distinct : (keys : List LazyState) → keys ≡ [] → IsDistinct eq-value.it keys
unfolding IsDistinct
none_distinct keys none = subst (λ l. IsDistinct eq-value.it l) (sym none) tt

-- no state, where what lies ahead of the first one turns for ever
pub first_turns : (task : Task) (keys : List LazyState) (key : LazyState) → IsTask task → keys ≡ [] → IsFirst task.flat task.start key.state
    → ((word : ℕ) → word_of key.knowledge word ≡ []) → key.notes.items ≡ [] → ComesToTurn task.flat key → IsInOrder task keys
first_turns task keys key is none first nothing notes turns =
    let machine = first.begun ∙ is.begun in
    record {
      reached = λ k x at. let never : ◌≡◌ {A = Option LazyState} None (Some x) = ap (λ l. slice_get l k) (sym none) ∙ at in cc;
      begun = record {
        first = key;
        stands = subst (λ (m : Plain). Stands task.program.now task.flat.nodes [] m key.knowledge) (sym machine)
            (stands_first task.program.now task.flat.nodes key.knowledge nothing);
        none = notes;
        leads = to_turn turns;
      };
      distinct = none_distinct keys none;
    }

-- ---- a state that was searched

pub all_next : (flat : Flat) (keys : List LazyState) (key : LazyState) (nexts : List LazyState) (node : ℕ) → HasAll flat key node nexts
    → AreThere keys nexts → HasNexts flat keys key node
all_next flat keys key nexts node all there deed can =
    let h = all deed can in
    record { after = h.after; steps = h.steps; leads = leads_on (λ x one. there one.0 x one.1) h.leads }

pub enough_next : (flat : Flat) (keys : List LazyState) (key : LazyState) (nexts : List LazyState) → AreEnough flat key nexts → AreThere keys nexts
    → HasEnough flat keys key
enough_next flat keys key nexts (of_one node front first all) there = by_one node front first (all_next flat keys key nexts node all there)
enough_next flat keys key nexts (of_all none all) there = by_all (λ node. all_next flat keys key nexts node (all node) there)

pub searched_next : (flat : Flat) (keys : List LazyState) (outcomes : List Outcome) (key : LazyState) (nexts : List LazyState)
    → AreEnough flat key nexts → AreThere keys nexts → CanAct flat key → IsSearched flat keys outcomes key
searched_next flat keys outcomes key nexts enough there can = record {
  next = enough_next flat keys key nexts enough there;
  gathered = λ none. absurd (none can.node can.deed can.can);
}

-- so is one at which no node can act, whose outcome is there
pub searched_still : (flat : Flat) (keys : List LazyState) (outcomes : List Outcome) (key : LazyState) → ¬ CanAct flat key
    → HasOutcome outcomes key.notes.items → IsSearched flat keys outcomes key
searched_still flat keys outcomes key cannot has = record {
  next = by_all (λ node deed can. absurd (cannot (record { node = node; deed = deed; can = can })));
  gathered = λ none. has;
}

-- what was searched stays so
next_on : (flat : Flat) (old new : List LazyState) (key : LazyState) (node : ℕ) → Grows old new → HasNexts flat old key node → HasNexts flat new key node
next_on flat old new key node g next deed can =
    let n = next deed can in record { after = n.after; steps = n.steps; leads = leads_on (λ x has. key_on g has) n.leads }

enough_on : (flat : Flat) (old new : List LazyState) (key : LazyState) → Grows old new → HasEnough flat old key → HasEnough flat new key
enough_on flat old new key g (by_one node front first next) = by_one node front first (next_on flat old new key node g next)
enough_on flat old new key g (by_all next) = by_all (λ node. next_on flat old new key node g (next node))

pub searched_on : (flat : Flat) (old new : List LazyState) (outcomes more : List Outcome) (key : LazyState) → Grows old new → Grows outcomes more
    → IsSearched flat old outcomes key → IsSearched flat new more key
searched_on flat old new outcomes more key g h s = record {
  next = enough_on flat old new key g s.next;
  gathered = λ none. let o = s.gathered none in record { place = o.place; outcome = o.outcome; there = stays o.place o.outcome h o.there; same = o.same };
}

-- and with one state more
pub searched_more : (flat : Flat) (old new : List LazyState) (outcomes more : List Outcome) (place : ℕ) → Grows old new → Grows outcomes more
    → place < length old → AreSearched flat old outcomes place
    → ((key : LazyState) → slice_get old place ≡ Some key → IsSearched flat new more key) → AreSearched flat new more (place + 1)
searched_more flat old new outcomes more place g h within before here k key lt at =
    let stood = item_at old k (omega (arith, lt, within)) in
    let same : stood.0 ≡ key = same_Some stood.0 key (sym (stays k stood.0 g stood.1) ∙ at) in
    elim (cases_eq k place) [
      | inl now ↦
          subst (IsSearched flat new more) same (here stood.0 (ap (slice_get old) (sym now) ∙ stood.1))
      | inr other ↦
          subst (IsSearched flat new more) same
          (searched_on flat old new outcomes more stood.0 g h (before k stood.0 (omega (arith, lt, other)) stood.1))
    ]

pub grows_long : {A : Type 0} {old new : List A} → Grows old new → length old ≤ length new
grows_long {old = old} g = let long = ap length g.is ∙ length-append old g.more in omega (arith, long)

-- ---- no states, and the first of some

pub no_items : {A : Type 0} (xs : List A) → length xs ≡ 0 → xs ≡ []
no_items [] e = refl
no_items (x ∷ xs) e = absurd (omega (arith, e))

pub first_item : {A : Type 0} (xs : List A) → 0 < length xs → (x : A) × (slice_get xs 0 ≡ Some x)
first_item [] lt = absurd (omega (arith, lt))
first_item (x ∷ xs) lt = (x, refl)
