-- The nodes of a state, as the threads that they stand for.
use Rattle.std.proofs.Common.{◌≡◌, ℕ, ◌<◌, ◌≤◌, List, [], ◌∷◌, Bool, true, false, length, get_or, map, set, refl, sym, subst, ◌∙◌, ap, arith}
use Rattle.std.specs.Prelude.{Option, Some, None, IsSome, IsSomeAnd, if◌then◌else◌, option_map}
use Rattle.std.specs.List.{range_with_len}
use Rattle.std.specs.Vec.{with_item}
use Rattle.std.proofs.lemmas.List.{get_or-map, map-set, length-map, length-set, map-id, set-get_or}
use Rattle.std.proofs.lemmas.List.Elements.{All-set}
use Rattle.std.proofs.lemmas.Option.{same_Some, get_or_from_slice_get}
use Rattle.lrc_exec.specs.declared.spot.Flat.{Flat}
use Rattle.lrc_exec.specs.declared.spot.Spot.{Spot}
use Rattle.lrc_exec.specs.declared.spot.Wish.{Wish}
use Rattle.lrc_exec.specs.Meaning.{Setting, Thread, next_of}
use Rattle.lrc_exec.specs.Ask.{ask_of, answered, resumed, thread_departed, IsResumable, TakesAnswer}
use Rattle.lrc_exec.specs.Plain.{thread_in, with_thread}
use Rattle.lrc_exec.specs.Spots.{spot_stopped, spot_thread, thread_at}
use Rattle.lrc_exec.proofs.PlainParts.{setting-answered, thread_within}
use Rattle.lrc_exec.specs.declared.state.State.{State}
use Rattle.lrc_exec.specs.States.{plain_at, thread_begun, CompletesAt, HasMoved, IsStateOf}
use Rattle.lrc_exec.specs.Wish.{Completes, IsWishOf}

-- a node whose thread goes on
pub record Stands (flat : Flat) (spot : Spot) (t : Thread) : Type 0 where
  pub running : spot.stopped ≡ false
  pub thread_is : record (thread_at flat spot) { arrived = spot.arrived } ≡ t

stands : (flat : Flat) (spot : Spot) (t : Thread) (stopped : Bool) → spot.stopped ≡ stopped
    → (if stopped then None else Some (record (thread_at flat spot) { arrived = spot.arrived })) ≡ Some t → Stands flat spot t
stands flat spot t true e is = cc
stands flat spot t false e is = record { running = e; thread_is = same_Some _ t is }

module _ (flat : Flat) (state : State) (node : ℕ) (d : Spot) where
  pub node_within : (t : Thread) → thread_in (plain_at flat state) node ≡ Some t → node < length state.spots.items
  node_within t at = let lt = thread_within (plain_at flat state) node t at in omega (arith, length-map state.spots.items (spot_thread flat))

  pub thread_there : node < length state.spots.items → thread_in (plain_at flat state) node ≡ spot_thread flat (get_or state.spots.items node d)
  thread_there within = get_or-map (spot_thread flat) state.spots.items node d None within

  pub stands_at : (t : Thread) → thread_in (plain_at flat state) node ≡ Some t → Stands flat (get_or state.spots.items node d) t
  stands_at t at =
      let s = get_or state.spots.items node d in
      stands flat s t s.stopped refl (sym (thread_there (node_within t at)) ∙ at)

-- the state with another node in its place
pub with_spot : (flat : Flat) (state : State) (node : ℕ) (x : Spot)
    → plain_at flat (record state { spots = with_item state.spots node x }) ≡ with_thread (plain_at flat state) node (spot_thread flat x)
with_spot flat state node x = ap (λ ts. record (plain_at flat state) { threads = ts }) (map-set (spot_thread flat) state.spots.items node x)

pub some_and : (o : Option Thread) (P : Thread → Type 0) → IsSomeAnd o P → (t : Thread) × (o ≡ Some t) × P t
some_and None P h = absurd h
some_and (Some t) P h = (t, refl, h)

is_there : (o : Option Thread) → IsSome o → (t : Thread) × (o ≡ Some t)
is_there None e = cc
is_there (Some t) e = (t, refl)

-- what a node's setting knows
first_of : (xs : List Spot) (k : ℕ) → k < length xs → Spot
first_of [] k inside = absurd (omega arith)
first_of (x ∷ xs) k inside = x

pub words_known : (flat : Flat) (state : State) (node : ℕ) (t : Thread) → thread_in (plain_at flat state) node ≡ Some t
    → (t.setting.words ≡ flat.words) × (t.setting.locks ≡ flat.locks)
words_known flat state node t at =
    let within : node < length state.spots.items =
    let lt = thread_within (plain_at flat state) node t at in omega (arith, length-map state.spots.items (spot_thread flat)) in
    let s = stands_at flat state node (first_of state.spots.items node within) t at in
    (ap (λ (x : Thread). x.setting.words) (sym s.thread_is), ap (λ (x : Thread). x.setting.locks) (sym s.thread_is))

-- a node that goes on, once it was answered
pub gone_on : (flat : Flat) (state : State) (node : ℕ) (old new : Spot) (value : ℕ) (arrived : Bool) → old ≡ get_or state.spots.items node old
    → IsSomeAnd (thread_in (plain_at flat state) node) IsResumable → thread_at flat new ≡ answered value (thread_at flat old) → new.stopped ≡ old.stopped
    → plain_at flat (record state { spots = with_item state.spots node (record new { arrived = arrived }) })
    ≡ with_thread (plain_at flat state) node (option_map (resumed value arrived) (thread_in (plain_at flat state) node))
gone_on flat state node old new value arrived is resumable answer stopped =
    let (t, at, goes) = some_and (thread_in (plain_at flat state) node) IsResumable resumable in
    let s = stands_at flat state node old t at in
    let s' : Stands flat old t = subst (λ x. Stands flat x t) (sym is) s in
    let free : old.arrived ≡ false = ap (λ (x : Thread). x.arrived) s'.thread_is ∙ goes.0 in
    let own : thread_at flat old ≡ t = ap (λ b. record (thread_at flat old) { arrived = b }) (sym free) ∙ s'.thread_is in
    with_spot flat state node (record new { arrived = arrived })
    ∙ ap (λ b. with_thread (plain_at flat state) node (if b then None else Some (record (thread_at flat new) { arrived = arrived }))) (stopped ∙ s'.running)
    ∙ ap (λ (x : Thread). with_thread (plain_at flat state) node (Some (record x { arrived = arrived }))) (answer ∙ ap (answered value) own)
    ∙ sym (ap (λ o. with_thread (plain_at flat state) node (option_map (resumed value arrived) o)) at)

-- the thread that is answered is the node's own
pub record Answers (flat : Flat) (state : State) (node : ℕ) (old : Spot) : Type 0 where
  pub takes : TakesAnswer (ask_of (next_of (thread_at flat old)))
  pub number : (number : ℕ) → CompletesAt (plain_at flat state) node number → Completes (thread_at flat old) (thread_at flat old).rest number

pub answers : (flat : Flat) (state : State) (node : ℕ) (old : Spot) → old ≡ get_or state.spots.items node old
    → IsSomeAnd (thread_in (plain_at flat state) node) IsResumable → Answers flat state node old
answers flat state node old is resumable =
    let (t, at, goes) = some_and (thread_in (plain_at flat state) node) IsResumable resumable in
    let s' : Stands flat old t = subst (λ x. Stands flat x t) (sym is) (stands_at flat state node old t at) in
    let free : old.arrived ≡ false = ap (λ (x : Thread). x.arrived) s'.thread_is ∙ goes.0 in
    let own : thread_at flat old ≡ t = ap (λ b. record (thread_at flat old) { arrived = b }) (sym free) ∙ s'.thread_is in
    record {
      takes = subst (λ x. TakesAnswer (ask_of (next_of x))) (sym own) goes.1;
      number = λ number completes. subst (λ (x : Thread). Completes x x.rest number) (sym own) (completes t at goes);
    }

-- the number of what a node asks for completes it
pub wished : (flat : Flat) (state : State) (node : ℕ) (old : Spot) → old ≡ get_or state.spots.items node old → (wish : Wish)
    → IsWishOf (thread_at flat old) wish → CompletesAt (plain_at flat state) node wish.number
wished flat state node old is wish w t at goes =
    let s : Stands flat old t = subst (λ x. Stands flat x t) (sym is) (stands_at flat state node old t at) in
    let free : old.arrived ≡ false = ap (λ (x : Thread). x.arrived) s.thread_is ∙ goes.0 in
    let own : thread_at flat old ≡ t = ap (λ b. record (thread_at flat old) { arrived = b }) (sym free) ∙ s.thread_is in
    subst (λ (x : Thread). Completes x x.rest wish.number) own (w.number (subst (λ x. TakesAnswer (ask_of (next_of x))) (sym own) goes.1))

-- a node that leaves a barrier, and one that stops
pub left : (flat : Flat) (state : State) (node : ℕ) (old : Spot) → old ≡ get_or state.spots.items node old
    → IsSome (thread_in (plain_at flat state) node)
    → plain_at flat (record state { spots = with_item state.spots node (record old { arrived = false }) })
    ≡ with_thread (plain_at flat state) node (option_map thread_departed (thread_in (plain_at flat state) node))
left flat state node old is some =
    let (t, at) = is_there (thread_in (plain_at flat state) node) some in
    let s : Stands flat old t = subst (λ x. Stands flat x t) (sym is) (stands_at flat state node old t at) in
    with_spot flat state node (record old { arrived = false })
    ∙ ap (λ b. with_thread (plain_at flat state) node (if b then None else Some (record (thread_at flat old) { arrived = false }))) s.running
    ∙ ap (λ (x : Thread). with_thread (plain_at flat state) node (Some (record x { arrived = false }))) s.thread_is
    ∙ sym (ap (λ o. with_thread (plain_at flat state) node (option_map thread_departed o)) at)

pub ended : (flat : Flat) (state : State) (node : ℕ) (x : Spot) → x.stopped ≡ true
    → plain_at flat (record state { spots = with_item state.spots node x }) ≡ with_thread (plain_at flat state) node None
ended flat state node x off =
    with_spot flat state node x
    ∙ ap (λ b. with_thread (plain_at flat state) node (if b then None else Some (record (thread_at flat x) { arrived = x.arrived }))) off

-- a node that is there has a place of the code
pub placed : (flat : Flat) (state : State) (node : ℕ) (old : Spot) → old ≡ get_or state.spots.items node old
    → IsSome (thread_in (plain_at flat state) node) → IsStateOf flat state → old.place ≤ length flat.code.now
placed flat state node old is some s =
    let (t, at) = is_there (thread_in (plain_at flat state) node) some in
    subst (λ (x : Spot). x.place ≤ length flat.code.now) (sym is) (s.within node old (node_within flat state node old t at))

-- a node that was answered keeps its number
pub number_kept : (flat : Flat) (value : ℕ) (old new : Spot) → thread_at flat new ≡ answered value (thread_at flat old) → new.me ≡ old.me
number_kept flat value old new is = ap (λ (t : Thread). t.setting.me) is ∙ ap (λ (s : Setting). s.me) (setting-answered value (thread_at flat old))

-- a node that changes keeps its number
numbers_set : (spots : List Spot) (node : ℕ) (old x : Spot) → old ≡ get_or spots node old → x.me ≡ old.me
    → map (λ (s : Spot). s.me) (set spots node x) ≡ map (λ (s : Spot). s.me) spots
numbers_set spots node old x is own =
    map-set (λ (s : Spot). s.me) spots node x
    ∙ ap (set (map (λ (s : Spot). s.me) spots) node) (own ∙ ap (λ (s : Spot). s.me) is)
    ∙ sym (map-set (λ (s : Spot). s.me) spots node (get_or spots node old))
    ∙ ap (map (λ (s : Spot). s.me)) (set-get_or spots node old)

-- a state with another spot of the code, which has the node's number, and is blank if it has stopped
pub state_set : (flat : Flat) (state : State) (node : ℕ) (old x : Spot) → old ≡ get_or state.spots.items node old → IsStateOf flat state
    → x.me ≡ old.me → x.place ≤ length flat.code.now → (x.stopped ≡ true → x ≡ spot_stopped x.me)
    → IsStateOf flat (record state { spots = with_item state.spots node x })
state_set flat state node old x is s own within blank = record {
  memory = s.memory;
  holders = s.holders;
  arrivals = s.arrivals;
  spots = length-set state.spots.items node x ∙ s.spots;
  numbers = numbers_set state.spots.items node old x is own ∙ s.numbers;
  within = All-set (λ (y : Spot). y.place ≤ length flat.code.now) state.spots.items node x within s.within;
  blank = All-set (λ (y : Spot). y.stopped ≡ true → y ≡ spot_stopped y.me) state.spots.items node x blank s.blank;
}

-- a state with another spot has moved where that leads
pub has_moved : (state : State) (node : ℕ) (old x : Spot) (to : Spot → ℕ) → old ≡ get_or state.spots.items node old → x.place ≡ to old
    → HasMoved state node to (record state { spots = with_item state.spots node x })
has_moved state node old x to is place spot there =
    let same : old ≡ spot = is ∙ get_or_from_slice_get state.spots.items node spot old there in
    map-set (λ (s : Spot). s.place) state.spots.items node x ∙ ap (set (map (λ (s : Spot). s.place) state.spots.items) node) (place ∙ ap to same)

-- where a node's thread is there, it has not stopped
pub runs_on : (flat : Flat) (state : State) (node : ℕ) (old : Spot) → old ≡ get_or state.spots.items node old
    → IsSome (thread_in (plain_at flat state) node) → old.stopped ≡ false
runs_on flat state node old is some =
    let (t, at) = is_there (thread_in (plain_at flat state) node) some in
    let s : Stands flat old t = subst (λ x. Stands flat x t) (sym is) (stands_at flat state node old t at) in
    s.running

pub resumes_on : (flat : Flat) (state : State) (node : ℕ) (old : Spot) → old ≡ get_or state.spots.items node old
    → IsSomeAnd (thread_in (plain_at flat state) node) IsResumable → old.stopped ≡ false
resumes_on flat state node old is resumable =
    let (t, at, goes) = some_and (thread_in (plain_at flat state) node) IsResumable resumable in
    let s : Stands flat old t = subst (λ x. Stands flat x t) (sym is) (stands_at flat state node old t at) in
    s.running

-- a spot that goes on has not stopped
pub goes_blank : (spot : Spot) → spot.stopped ≡ false → spot.stopped ≡ true → spot ≡ spot_stopped spot.me
goes_blank spot on off = let e : true ≡ false = sym off ∙ on in cc

-- a thread's setting has the number of its node
number_in : (flat : Flat) (spot : Spot) (t : Thread) → spot_thread flat spot ≡ Some t → spot.me ≡ t.setting.me
number_in flat spot t is = ap (λ (x : Thread). x.setting.me) ((stands flat spot t spot.stopped refl is).thread_is)

numbers_in : (flat : Flat) (f : ℕ → Thread) (spots : List Spot) (ks : List ℕ) → map (spot_thread flat) spots ≡ map (λ k. Some (f k)) ks
    → map (λ (s : Spot). s.me) spots ≡ map (λ k. (f k).setting.me) ks
numbers_in flat f [] [] e = refl
numbers_in flat f [] (k ∷ ks) e = cc
numbers_in flat f (s ∷ spots) [] e = cc
numbers_in flat f (s ∷ spots) (k ∷ ks) e =
    let first : spot_thread flat s ≡ Some (f k) = cc in
    let rest : map (spot_thread flat) spots ≡ map (λ k. Some (f k)) ks = cc in
    ap (λ n. n ∷ map (λ (s : Spot). s.me) spots) (number_in flat s (f k) first) ∙ ap (λ l. (f k).setting.me ∷ l) (numbers_in flat f spots ks rest)

-- nodes that stand at the beginning have their numbers
pub numbers_begun : (flat : Flat) (place count : ℕ) (spots : List Spot)
    → map (spot_thread flat) spots ≡ map (λ me. Some (thread_begun flat place me)) (range_with_len 0 count)
    → map (λ (s : Spot). s.me) spots ≡ range_with_len 0 count
numbers_begun flat place count spots begun = numbers_in flat (thread_begun flat place) spots (range_with_len 0 count) begun ∙ map-id (range_with_len 0 count)
