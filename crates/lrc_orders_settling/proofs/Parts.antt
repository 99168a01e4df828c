-- Parts of a state that change, one by one.
use Rattle.std.proofs.Common.{add-one, ◌≡◌, ℕ, zero, suc, ◌+◌, ◌<◌, ◌≤◌, List, [], ◌∷◌, Bool, true, false, length, get_or, take, refl, sym, subst, ◌∙◌, ap, arith}
use Rattle.std.specs.Prelude.{Option, Some, None, ◌&&◌, not, if◌then◌else◌, Result, Ok, Err, IfOk}
use Rattle.std.specs.Vec.{with_item}
use Rattle.std.proofs.lemmas.List.{length-set, get_or-map}
use Rattle.lrc_trace.specs.declared.act.Deed.{Deed}
use Rattle.lrc_trace.specs.declared.act.Deed.TheVariants.{Release}
use Rattle.lrc_exec.specs.declared.spot.Flat.{Flat}
use Rattle.lrc_exec.specs.declared.spot.Spot.{Spot}
use Rattle.lrc_exec.specs.Plain.{thread_in, with_thread}
use Rattle.lrc_exec.specs.Spots.{thread_at, spot_thread, spot_stopped}
use Rattle.lrc_exec.specs.declared.state.State.{State}
use Rattle.lrc_exec.specs.States.{plain_at, IsStateOf}
use Rattle.lrc_exec.proofs.Spots.{state_set, with_spot}
use Rattle.lrc_orders_laws.specs.Steps.{waits_in}
use Rattle.lrc_orders_settling.specs.Gone.{freed, freed_by, kept_spot}

-- one deed more
pub freed_next : (deeds : List Deed) (i : ℕ) (d : Deed) (holders : List (Option ℕ)) → i < length deeds
    → freed (take (suc i) deeds) holders ≡ freed_by (get_or deeds i d) (freed (take i deeds) holders)
freed_next [] i d holders lt = absurd (omega arith)
freed_next (x ∷ xs) zero d holders lt = refl
freed_next (x ∷ xs) (suc i) d holders lt = freed_next xs i d (freed_by x holders) (omega arith)

pub freed_more : (deeds : List Deed) (i : ℕ) (d : Deed) (holders : List (Option ℕ)) → i < length deeds
    → freed (take (i + 1) deeds) holders ≡ freed_by (get_or deeds i d) (freed (take i deeds) holders)
freed_more deeds i d holders lt = ap (λ n. freed (take n deeds) holders) (add-one i) ∙ freed_next deeds i d holders lt

length-freed_by : (deed : Deed) (holders : List (Option ℕ)) → length (freed_by deed holders) ≡ length holders
length-freed_by (Release lock) holders = length-set holders lock None
length-freed_by _ holders = refl

pub length-freed : (deeds : List Deed) (holders : List (Option ℕ)) → length (freed deeds holders) ≡ length holders
length-freed [] holders = refl
length-freed (deed ∷ deeds) holders = length-freed deeds (freed_by deed holders) ∙ length-freed_by deed holders

-- what is kept of a thread stands for it
kept_by : (flat : Flat) (spot : Spot) (me : ℕ) (stopped : Bool) → spot.stopped ≡ stopped
    → spot_thread flat (if stopped then spot_stopped me else spot) ≡ spot_thread flat spot
kept_by flat spot me true e = sym (ap (λ b. if b then None else Some (record (thread_at flat spot) { arrived = spot.arrived })) e)
kept_by flat spot me false e = refl

pub kept_thread : (flat : Flat) (spot : Spot) (me : ℕ) → spot_thread flat (kept_spot spot me) ≡ spot_thread flat spot
kept_thread flat spot me = kept_by flat spot me spot.stopped refl

-- and is in order
record Kept (flat : Flat) (me : ℕ) (kept : Spot) : Type 0 where
  number : kept.me ≡ me
  within : kept.place ≤ length flat.code.now
  blank : kept.stopped ≡ true → kept ≡ spot_stopped kept.me

kept_fine : (flat : Flat) (spot : Spot) (me : ℕ) (stopped : Bool) → spot.stopped ≡ stopped → spot.place ≤ length flat.code.now
    → (spot.stopped ≡ false → spot.me ≡ me) → Kept flat me (if stopped then spot_stopped me else spot)
kept_fine flat spot me true e placed own = record { number = refl; within = omega arith; blank = λ is. refl }
kept_fine flat spot me false e placed own = record {
  number = own e;
  within = placed;
  blank = λ is. let f : true ≡ false = sym is ∙ e in cc;
}

pub put_state : (flat : Flat) (state : State) (node : ℕ) (old spot : Spot) → old ≡ get_or state.spots.items node old → IsStateOf flat state
    → spot.place ≤ length flat.code.now → (spot.stopped ≡ false → spot.me ≡ old.me)
    → IsStateOf flat (record state { spots = with_item state.spots node (kept_spot spot old.me) })
put_state flat state node old spot is s placed own =
    let k = kept_fine flat spot old.me spot.stopped refl placed own in
    state_set flat state node old (kept_spot spot old.me) is s k.number k.within k.blank

pub put_plain : (flat : Flat) (state : State) (node me : ℕ) (spot : Spot)
    → plain_at flat (record state { spots = with_item state.spots node (kept_spot spot me) }) ≡ with_thread (plain_at flat state) node (spot_thread flat spot)
put_plain flat state node me spot =
    with_spot flat state node (kept_spot spot me) ∙ ap (with_thread (plain_at flat state) node) (kept_thread flat spot me)

-- as many locks, and as many counts
pub with_locks : (flat : Flat) (state new : State) → IsStateOf flat state → new ≡ record state { holders = new.holders }
    → length new.holders.items ≡ length state.holders.items → IsStateOf flat new
with_locks flat state new s is long = subst (IsStateOf flat) (sym is) (record {
  memory = s.memory;
  holders = long ∙ s.holders;
  arrivals = s.arrivals;
  spots = s.spots;
  numbers = s.numbers;
  within = s.within;
  blank = s.blank;
})

-- whether a thread waits
waits_by : (flat : Flat) (spot : Spot) (stopped : Bool)
    → waits_in (if stopped then None else Some (record (thread_at flat spot) { arrived = spot.arrived })) ≡ (not stopped && spot.arrived)
waits_by flat spot true = refl
waits_by flat spot false = refl

pub waits_at : (flat : Flat) (state : State) (node : ℕ) (d : Spot) → node < length state.spots.items
    → waits_in (thread_in (plain_at flat state) node) ≡ (not (get_or state.spots.items node d).stopped && (get_or state.spots.items node d).arrived)
waits_at flat state node d within =
    ap waits_in (get_or-map (spot_thread flat) state.spots.items node d None within)
    ∙ waits_by flat (get_or state.spots.items node d) (get_or state.spots.items node d).stopped

-- what holds of a value holds of another that follows
pub if_ok : {T E : Type 0} (r : Result T E) (P Q : T → Type 0) → ((v : T) → P v → Q v) → IfOk r P → IfOk r Q
if_ok (Ok v) P Q on p = on v p
if_ok (Err e) P Q on p = p
