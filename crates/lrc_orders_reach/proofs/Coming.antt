-- A thread stays among what was followed.
use Rattle.std.proofs.Common.{◌≡◌, ◌<◌, ◌⊎◌, ◌∙◌, ℕ, List, [], inl, inr, length, get_or, Bool, true, false, refl, sym, ap, subst, arith}
use Rattle.std.specs.Prelude.{Option, Some, None, slice_get, if◌then◌else◌}
use Rattle.std.proofs.lemmas.Option.{same_Some, slice_get-get_or, slice_get_within}
use Rattle.lrc_trace.specs.declared.act.Deed.{Deed}
use Rattle.lrc_exec.specs.declared.spot.Flat.{Flat}
use Rattle.lrc_exec.specs.declared.spot.Spot.{Spot}
use Rattle.lrc_exec.specs.Flat.{rest_at}
use Rattle.lrc_exec.specs.Meaning.{Thread, Next, departs, next_of}
use Rattle.lrc_exec.specs.Spots.{spot_thread, thread_at}
use Rattle.lrc_exec.specs.Follows.{Goes, quietly, printing, reading, writing, acquiring, releasing, arriving, departing, trapping, ending}
use Rattle.lrc_orders_reach.specs.declared.ahead.Follower.{Follower}
use Rattle.lrc_orders_reach.specs.declared.standing.Standing.{Standing}
use Rattle.lrc_orders_reach.specs.Standing.{ComesTo, there, on, HasSome, IsClosed, IsClosedAt, IsOpen, IsPart, IsReach, IsStep, Stands, StandsIn}
use Rattle.lrc_ranges.specs.declared.range.Range.{Range}
use Rattle.lrc_orders_reach.proofs.Afterwards.{next_waiting}
use Rattle.lrc_orders_reach.proofs.Values.{AreInUpTo, AreWithinUpTo, all_within}

-- one of them covers a standing
pub has_none : (all : List Standing) → HasSome all None
has_none all flat me thread none = absurd none

pub has_covered : (all : List Standing) (k : ℕ) (d standing : Standing) → k < length all → IsPart standing (get_or all k d) → HasSome all (Some standing)
has_covered all k d standing within part flat me thread stands =
    record { place = k; standing = get_or all k d; there = slice_get-get_or all k d within; stands = part flat me thread stands }

-- so it is where its steps are
pub closed_at : (follower : Follower) (all : List Standing) (standing : Standing) (first second : Option Standing) → IsStep follower standing first second
    → HasSome all first → HasSome all second → IsClosedAt follower all standing
closed_at follower all standing first second step has_first has_second before after deed stands goes may =
    elim (step before after deed stands goes may) [
      | inl waits ↦ inl waits
      | inr later ↦ inr (elim later [
        | inl one ↦ has_first follower.flat follower.me after one
        | inr two ↦ has_second follower.flat follower.me after two
      ])
    ]

pub closed_all : (follower : Follower) (all : List Standing)
    → ((k : ℕ) (standing : Standing) → k < length all → slice_get all k ≡ Some standing → IsClosedAt follower all standing) → IsClosed follower all
closed_all follower all each before after deed is_in goes may =
    each is_in.place is_in.standing (slice_get_within all is_in.place is_in.standing is_in.there) is_in.there before after deed is_in.stands goes may

-- one act more
pub comes_on : (blocked : List Bool) (first before after : Thread) (deed : Deed) → ComesTo blocked first before → Goes (next_of before) deed (Some after)
    → IsOpen blocked deed → ComesTo blocked first after
comes_on blocked first before after deed (there _) goes may = on before after after deed goes may (there after)
comes_on blocked first before after deed (on _ mid _ d goes' may' more) goes may =
    on first mid after d goes' may' (comes_on blocked mid before after deed more goes may)

-- a thread that waits departs
not_waiting : {next : Next} {deed : Deed} {new : Option Thread} → Goes next deed new → (gone : Thread) → next ≡ departs gone → (blocked : List Bool)
    → IsOpen blocked deed → ⊥
not_waiting departing gone e blocked may = may
not_waiting quietly gone e blocked may = cc
not_waiting printing gone e blocked may = cc
not_waiting reading gone e blocked may = cc
not_waiting writing gone e blocked may = cc
not_waiting acquiring gone e blocked may = cc
not_waiting releasing gone e blocked may = cc
not_waiting arriving gone e blocked may = cc
not_waiting trapping gone e blocked may = cc
not_waiting ending gone e blocked may = cc

-- so a thread stays among what was followed
pub stays : (follower : Follower) (all : List Standing) → IsClosed follower all → (first thread : Thread) → ComesTo follower.blocked.now first thread
    → (first.arrived ≡ true) ⊎ StandsIn follower.flat follower.me all first
    → (thread.arrived ≡ true) ⊎ StandsIn follower.flat follower.me all thread
stays follower all closed first thread (there _) is = is
stays follower all closed first thread (on _ mid _ deed goes may more) is =
    stays follower all closed mid thread more (elim is [
      | inl waits ↦ absurd (not_waiting goes (record first { arrived = false }) (next_waiting first waits) follower.blocked.now may)
      | inr stands ↦ closed first mid deed stands goes may
    ])

-- where the node stands among what is closed, that is all that it comes to
pub reached : (follower : Follower) (spot : Spot) (all : List Standing) → IsClosed follower all
    → ((thread : Thread) → spot_thread follower.flat spot ≡ Some thread → (thread.arrived ≡ true) ⊎ StandsIn follower.flat follower.me all thread)
    → IsReach follower spot all
reached follower spot all closed begun first thread begins comes = stays follower all closed first thread comes (begun first begins)

-- a node that has stopped, or waits at a barrier, comes to nothing
none_closed : (follower : Follower) → IsClosed follower []
none_closed follower before after deed is_in goes may = absurd (none_in is_in.place is_in.standing is_in.there)
  where
    none_in : (k : ℕ) (standing : Standing) → ◌≡◌ {A = Option Standing} None (Some standing) → ⊥
    none_in k standing e = cc

pub reached_none : (follower : Follower) (spot : Spot) → (spot.stopped ≡ true) ⊎ (spot.arrived ≡ true) → IsReach follower spot []
reached_none follower spot out = reached follower spot [] (none_closed follower) (λ thread begins. elim out [
  | inl stopped ↦ let e : None ≡ Some thread = sym (ap (λ b. if b then None else Some (record (thread_at follower.flat spot) { arrived = spot.arrived })) stopped) ∙ begins in cc
  | inr arrived ↦ by_test thread spot.stopped refl begins arrived
])
  where
    by_test : (thread : Thread) (b : Bool) → spot.stopped ≡ b → spot_thread follower.flat spot ≡ Some thread → spot.arrived ≡ true
        → (thread.arrived ≡ true) ⊎ StandsIn follower.flat follower.me [] thread
    by_test thread true e begins arrived =
        let off : None ≡ Some thread = sym (ap (λ b. if b then None else Some (record (thread_at follower.flat spot) { arrived = spot.arrived })) e) ∙ begins in cc
    by_test thread false e begins arrived =
        let is : record (thread_at follower.flat spot) { arrived = spot.arrived } ≡ thread =
        same_Some _ thread (sym (ap (λ b. if b then None else Some (record (thread_at follower.flat spot) { arrived = spot.arrived })) e) ∙ begins) in
        inl (sym (ap (λ (t : Thread). t.arrived) is) ∙ arrived)

pub reached_some : (follower : Follower) (spot : Spot) (first : Standing) (all : List Standing) → spot.stopped ≡ false → spot.arrived ≡ false
    → Stands follower.flat follower.me first (thread_at follower.flat spot) → HasSome all (Some first) → IsClosed follower all → IsReach follower spot all
reached_some follower spot first all on_its_way going stands has closed = reached follower spot all closed (λ thread begins.
    let is : record (thread_at follower.flat spot) { arrived = spot.arrived } ≡ thread =
    same_Some _ thread (sym (ap (λ b. if b then None else Some (record (thread_at follower.flat spot) { arrived = spot.arrived })) on_its_way) ∙ begins) in
    let same : thread_at follower.flat spot ≡ thread =
    ap (λ b. record (thread_at follower.flat spot) { arrived = b }) (sym going) ∙ is in
    inr (has follower.flat follower.me thread (subst (Stands follower.flat follower.me first) same stands)))

-- ---- standings

-- so each covers another whose ranges lie in its own
pub part_of : (inner outer : Standing) → outer.place ≡ inner.place → length inner.names ≡ length outer.names
    → AreWithinUpTo (length outer.names) inner.names outer.names → IsPart inner outer
part_of inner outer same even within flat me thread s = record {
  rest_is = s.rest_is ∙ ap (rest_at flat.code.now) (sym same);
  among = record {
    setting_is = s.among.setting_is;
    size = s.among.size;
    values = all_within inner.names outer.names thread.privates even within s.among.values;
    going = s.among.going;
  };
}

-- where a node stands, with its values
pub stands_with : (flat : Flat) (spot : Spot) (names : List Range) → length spot.privates ≡ 32 → length names ≡ 32 → AreInUpTo 32 names spot.privates
    → Stands flat spot.me (record { place = spot.place; names = names }) (thread_at flat spot)
stands_with flat spot names values size are = record {
  rest_is = refl;
  among = record {
    setting_is = refl;
    size = values;
    values = λ k range at. are k range (let lt = slice_get_within names k range at in omega (arith, lt, size)) at;
    going = refl;
  };
}
