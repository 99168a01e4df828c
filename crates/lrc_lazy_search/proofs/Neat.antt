-- States that are written in the one way, and count no barriers that are gone.
use Rattle.std.proofs.Common.{◌≡◌, ℕ, zero, suc, ◌<◌, ◌-◌, List, [], ◌∷◌, ◌++◌, false, map, replicate, refl, sym, subst, ◌∙◌, ap, arith}
use Rattle.std.specs.Prelude.{Some, slice_index, slice_set, if◌then◌else◌}
use Rattle.std.proofs.lemmas.List.{get_or-map}
use Rattle.lrc_trace.specs.declared.act.Deed.{Deed}
use Rattle.lrc_trace.specs.declared.act.Deed.TheVariants.{Read, Write}
use Rattle.lrc_exec.specs.declared.spot.Flat.{Flat}
use Rattle.lrc_exec.specs.declared.state.State.{State}
use Rattle.lrc_exec.specs.Plain.{Plain, plain_step, thread_in}
use Rattle.lrc_exec.specs.Spots.{spot_thread}
use Rattle.lrc_exec.specs.States.{plain_at, IsStateOf}
use Rattle.lrc_orders.proofs.Effects.{memory_after}
use Rattle.lrc_orders.proofs.Gathering.{put_all}
use Rattle.lrc_orders_laws.proofs.Parts.{stepped}
use Rattle.lrc_lazy.specs.Standing.{departures_of, is_waiting}
use Rattle.lrc_lazy_search.specs.declared.state.LazyState.{LazyState}
use Rattle.lrc_lazy_search.specs.Searching.{poked, blanked, AreNeat, CountNoneGone, CountsNoneGone, IsBlank, IsNeat}

-- ---- words that are all 0

set_again : (count w v : ℕ) → slice_set (slice_set (replicate count 0) w v) w 0 ≡ replicate count 0
set_again zero w v = refl
set_again (suc count) zero v = refl
set_again (suc count) (suc w) v = ap (λ xs. 0 ∷ xs) (set_again count w v)

zeros_stay : (d : Deed) (count : ℕ) → blanked d (memory_after d (poked d (replicate count 0))) ≡ replicate count 0
zeros_stay (Read w v) count = set_again count w v
zeros_stay (Write w v) count = set_again count w v
zeros_stay d count = refl

-- they are all 0 after a deed whose word is made 0 again
pub blank_after : (flat : Flat) (before mid made after : State) (node : ℕ) (d : Deed) → mid.memory.items ≡ poked d before.memory.items
    → plain_step (plain_at flat mid) node ≡ Some (d, plain_at flat made) → after.memory.items ≡ blanked d made.memory.items → IsBlank flat before
    → IsBlank flat after
blank_after flat before mid made after node d poke make blank zeros =
    let s = stepped (plain_at flat mid) node d (plain_at flat made) make in
    blank
    ∙ ap (blanked d) (ap (λ (m : Plain). m.memory) s.took.is ∙ ap (memory_after d) (poke ∙ ap (poked d) zeros))
    ∙ zeros_stay d flat.words

-- ---- barriers that are gone

-- where the counts are lowered by the least number of departures, none are left of its node
pub none_left : (flat : Flat) (key after : LazyState) (by node : ℕ) → IsStateOf flat key.state → node < flat.nodes
    → by ≡ departures_of (plain_at flat key.state) node → after.state.arrivals.items ≡ map (λ count. count - by) key.state.arrivals.items
    → after.state.spots.items ≡ key.state.spots.items → CountsNoneGone flat after
none_left flat key after by node valid within least arrivals spots =
    let same = ap {B = ℕ} (λ xs. if is_waiting (thread_in (record (plain_at flat after.state) { threads = map (spot_thread flat) xs }) node) then 1 else 0) spots in
    let count = ap (λ (xs : List ℕ). slice_index xs node) arrivals in
    let lower = get_or-map (λ count. count - by) key.state.arrivals.items node 0 0 (omega (arith, within, valid.arrivals)) in
    record { node = node; within = within; none = omega (arith, same, count, lower, least) }

-- ---- lists of such states

pub none_neat : (flat : Flat) (keys : List LazyState) → keys ≡ [] → AreNeat flat keys
none_neat flat keys none = subst (AreNeat flat) (sym none) (λ k x at. cc)

pub neat_push : (flat : Flat) (key : LazyState) (old new : List LazyState) → new ≡ old ++ key ∷ [] → AreNeat flat old → IsNeat flat key → AreNeat flat new
neat_push flat key old new e all this = put_all (λ k x. IsNeat flat x) false old new key e all this

pub count_push : (flat : Flat) (key : LazyState) (old new : List LazyState) → new ≡ old ++ key ∷ [] → CountNoneGone flat old → CountsNoneGone flat key
    → CountNoneGone flat new
count_push flat key old new e all this = put_all (λ k x. CountsNoneGone flat x) false old new key e all this
