-- What lists that were read are like, whatever the bytes.
use Rattle.std.proofs.Common.{◌≡◌, ◌∙◌, ℕ, ◌+◌, ◌<◌, ◌≤◌, ◌⊎◌, true, not, ◌&&◌, ◌||◌, eqb, ltb, leb, List, length}
use Rattle.std.proofs.Common.{get_or, Option, Some, None, Result, Ok, Err, subst, arith, inl, inr}
use Rattle.std.specs.Prelude.{All, AllPairs, IfOk}
use Rattle.std.specs.List.Sorted.{IsStrictlyIncreasing}
use Rattle.std.proofs.lemmas.Bool.{ltb-true, leb-true, lt-ltb, eqb-true, eq-eqb, or_cases, or_left, or_right, and_parts, and_from}
use Rattle.std.proofs.lemmas.Bool.Decides.{nat_tests}
use Rattle.std.specs.Int.{w32}
use Rattle.lrc_time.specs.Time.{entry}
use Rattle.lrc_store.specs.Interval.{IntervalRecord, by_node}
use Rattle.lrc_wire.specs.declared.fault.WireFault.{WireFault}
use Rattle.lrc_wire.specs.declared.fault.WireFault.TheVariants.{BadNode, BadCount, NotAscending}
use Rattle.lrc_wire.specs.declared.version.Version.{Version}
use Rattle.lrc_envelope.specs.Records.{GoWith, IndexedChangesRecord}
use Rattle.lrc_wire.specs.Reading.{◌>>=◌, Gives, elements_at, is_after, tested, byte_at, number_at, is_below, known_by, stamp_at}
use Rattle.lrc_wire.specs.Reading.{entries_at, entry_at, pages_at, next_interval_at, next_index_at, changes_at, next_part_at}
use Rattle.lrc_wire.proofs.Steps.{bind_ok, ok_is, tested_ok}
use Rattle.lrc_wire.proofs.Along.{Along, elements_along, along_at, Ascends, Follow, All-from_follow, AllPairs-from_follow, increasing_from_follow, lt-trans}

-- what a function returned has what reading says
pub if_gives : {X Y : Type 0} (view : X → Y) (r : Result X WireFault) (read : Result Y WireFault) (P : X → Type 0) → Gives view r read
    → ((x : X) → read ≡ Ok (view x) → P x) → IfOk r P
if_gives view (Ok x) read P given says = says x given
if_gives view (Err fault) read P given says = tt

-- ---- times

-- an entry of a stamp
entry_begun : (own node : ℕ) (bytes : List ℕ) (n : ℕ) (rest : List ℕ) → entry_at (Some own) node bytes ≡ Ok (n, rest) → (not (eqb node own) || leb 1 n) ≡ true
unfolding entry_at
entry_begun own node bytes n rest e = (tested_ok (λ n. not (eqb node own) || leb 1 n) BadCount (number_at w32 bytes) (n, rest) e).1

own_begun : (own n : ℕ) → (not (eqb own own) || leb 1 n) ≡ true → 1 ≤ n
own_begun own n h = grind (arith, nat_tests)

entries_along : (own nodes : ℕ) (bytes stamp rest : List ℕ) → entries_at (Some own) nodes bytes ≡ Ok (stamp, rest) → (length stamp ≡ nodes)
    × Along (λ node n. (not (eqb node own) || leb 1 n) ≡ true) (λ node _. node + 1) 0 stamp
unfolding entries_at
entries_along own nodes bytes stamp rest e =
    elements_along (entry_at (Some own)) (λ node _. node + 1) (λ node n. (not (eqb node own) || leb 1 n) ≡ true) (entry_begun own) nodes 0 bytes stamp rest e

pub entries_long : (own nodes : ℕ) (bytes stamp rest : List ℕ) → entries_at (Some own) nodes bytes ≡ Ok (stamp, rest) → length stamp ≡ nodes
entries_long own nodes bytes stamp rest e = (entries_along own nodes bytes stamp rest e).0

pub entries_begun : (own nodes : ℕ) (bytes stamp rest : List ℕ) → entries_at (Some own) nodes bytes ≡ Ok (stamp, rest) → own < nodes → 1 ≤ entry stamp own
entries_begun own nodes bytes stamp rest e lt =
    let h = entries_along own nodes bytes stamp rest e in
    own_begun own (get_or stamp own 0) (along_at (λ node n. (not (eqb node own) || leb 1 n) ≡ true) 0 stamp 0 own own (omega arith) (omega (arith, h.0)) h.1)

stamp_entries : (nodes own : ℕ) (bytes stamp rest : List ℕ) → stamp_at nodes own bytes ≡ Ok (stamp, rest) → (after : List ℕ)
    × (entries_at (Some own) nodes after ≡ Ok (stamp, rest))
unfolding stamp_at
stamp_entries nodes own bytes stamp rest e =
    let a = bind_ok (tested (λ n. eqb n nodes) BadCount (byte_at bytes)) (λ count. entries_at (Some own) nodes count.1) (stamp, rest) e in
    (a.0.1, a.2)

pub stamp_long : (nodes own : ℕ) (bytes stamp rest : List ℕ) → stamp_at nodes own bytes ≡ Ok (stamp, rest) → length stamp ≡ nodes
stamp_long nodes own bytes stamp rest e =
    let a = stamp_entries nodes own bytes stamp rest e in entries_long own nodes a.0 stamp rest a.1

-- ---- intervals

-- a node before another, or an index before another of the same node
abbrev Comes : ℕ × ℕ → ℕ × ℕ → Type 0
Comes a b = (a.0 < b.0) ⊎ ((a.0 ≡ b.0) × (a.1 < b.1))

pub below_is : (a b : ℕ × ℕ) → is_below a b ≡ true → Comes a b
below_is a b h =
    elim (or_cases (ltb a.0 b.0) (eqb a.0 b.0 && ltb a.1 b.1) h) [
      | inl p ↦ inl (ltb-true a.0 b.0 p)
      | inr q ↦ let r = and_parts (eqb a.0 b.0) (ltb a.1 b.1) q in inr (eqb-true a.0 b.0 r.0, ltb-true a.1 b.1 r.1)
    ]

pub below_from : (a b : ℕ × ℕ) → Comes a b → is_below a b ≡ true
below_from a b (inl p) = or_left (ltb a.0 b.0) (eqb a.0 b.0 && ltb a.1 b.1) (lt-ltb a.0 b.0 p)
below_from a b (inr q) = or_right (ltb a.0 b.0) (eqb a.0 b.0 && ltb a.1 b.1) (and_from (eqb a.0 b.0) (ltb a.1 b.1) (eq-eqb a.0 b.0 q.0) (lt-ltb a.1 b.1 q.1))

Comes-trans : (a b c : ℕ × ℕ) → Comes a b → Comes b c → Comes a c
Comes-trans a b c (inl p) (inl q) = inl (omega arith)
Comes-trans a b c (inl p) (inr q) = inl (omega arith)
Comes-trans a b c (inr p) (inl q) = inl (omega arith)
Comes-trans a b c (inr p) (inr q) = inr (p.0 ∙ q.0, omega arith)

pub below-trans : (a b c : ℕ × ℕ) → is_below a b ≡ true → is_below b c ≡ true → is_below a c ≡ true
below-trans a b c p q = below_from a c (Comes-trans a b c (below_is a b p) (below_is b c q))

next_interval_ascends : (v : Version) (nodes : ℕ) (before : Option (ℕ × ℕ)) (bytes : List ℕ) (x : IntervalRecord) (rest : List ℕ)
    → next_interval_at v nodes before bytes ≡ Ok (x, rest) → Ascends is_below known_by (λ interval. length interval.stamp ≡ nodes) before x
unfolding next_interval_at
next_interval_ascends v nodes before bytes x rest e =
    let a = bind_ok (tested (λ n. ltb n nodes) BadNode (byte_at bytes))
    (λ node. tested (λ stamp. is_after is_below before (node.0, entry stamp node.0)) NotAscending
    (stamp_at nodes node.0 node.1) >>= λ stamp. pages_at v stamp.1 >>= λ pages. Ok (record { node = node.0; stamp = stamp.0; pages = pages.0 }, pages.1))
    (x, rest) e in
    let b = bind_ok (tested (λ stamp. is_after is_below before (a.0.0, entry stamp a.0.0)) NotAscending (stamp_at nodes a.0.0 a.0.1))
    (λ stamp. pages_at v stamp.1 >>= λ pages. Ok (record { node = a.0.0; stamp = stamp.0; pages = pages.0 }, pages.1)) (x, rest) a.2 in
    let c = bind_ok (pages_at v b.0.1) (λ pages. Ok (record { node = a.0.0; stamp = b.0.0; pages = pages.0 }, pages.1)) (x, rest) b.2 in
    let t = tested_ok (λ stamp. is_after is_below before (a.0.0, entry stamp a.0.0)) NotAscending (stamp_at nodes a.0.0 a.0.1) b.0 b.1 in
    let made : IntervalRecord × List ℕ = (record { node = a.0.0; stamp = b.0.0; pages = c.0.0 }, c.0.1) in
    subst (λ (y : IntervalRecord × List ℕ). Ascends is_below known_by (λ interval. length interval.stamp ≡ nodes) before y.0) (ok_is made (x, rest) c.2)
    (stamp_long nodes a.0.0 a.0.1 b.0.0 b.0.1 t.0, t.1)

intervals_follow : (v : Version) (nodes count : ℕ) (bytes : List ℕ) (xs : List IntervalRecord) (rest : List ℕ)
    → elements_at (next_interval_at v nodes) (λ _ interval. Some (known_by interval)) count None bytes ≡ Ok (xs, rest)
    → Follow is_below known_by (λ interval. length interval.stamp ≡ nodes) None xs
intervals_follow v nodes count bytes xs rest e =
    (elements_along (next_interval_at v nodes) (λ _ interval. Some (known_by interval)) (Ascends is_below known_by (λ interval. length interval.stamp ≡ nodes))
    (next_interval_ascends v nodes) count None bytes xs rest e).1

pub intervals_go_with : (v : Version) (nodes count : ℕ) (bytes : List ℕ) (xs : List IntervalRecord) (rest : List ℕ)
    → elements_at (next_interval_at v nodes) (λ _ interval. Some (known_by interval)) count None bytes ≡ Ok (xs, rest) → GoWith nodes xs
intervals_go_with v nodes count bytes xs rest e =
    All-from_follow is_below known_by (λ interval. length interval.stamp ≡ nodes) None xs (intervals_follow v nodes count bytes xs rest e)

pub intervals_ascend : (v : Version) (nodes count : ℕ) (bytes : List ℕ) (xs : List IntervalRecord) (rest : List ℕ)
    → elements_at (next_interval_at v nodes) (λ _ interval. Some (known_by interval)) count None bytes ≡ Ok (xs, rest) → AllPairs (λ a b. by_node a b ≡ true) xs
intervals_ascend v nodes count bytes xs rest e =
    AllPairs-from_follow is_below known_by (λ interval. length interval.stamp ≡ nodes) below-trans None xs (intervals_follow v nodes count bytes xs rest e)

-- ---- indices

next_index_ascends : (before : Option ℕ) (bytes : List ℕ) (index : ℕ) (rest : List ℕ) → next_index_at before bytes ≡ Ok (index, rest)
    → Ascends ltb (λ n. n) (λ n. 1 ≤ n) before index
unfolding next_index_at
next_index_ascends before bytes index rest e =
    let t = tested_ok (is_after ltb before) NotAscending (tested (λ n. leb 1 n) BadCount (number_at w32 bytes)) (index, rest) e in
    let u = tested_ok (λ n. leb 1 n) BadCount (number_at w32 bytes) (index, rest) t.0 in
    (leb-true 1 index u.1, t.1)

indices_follow : (count : ℕ) (bytes indices rest : List ℕ) → elements_at next_index_at (λ _ index. Some index) count None bytes ≡ Ok (indices, rest)
    → (length indices ≡ count) × Follow ltb (λ n. n) (λ n. 1 ≤ n) None indices
indices_follow count bytes indices rest e =
    elements_along next_index_at (λ _ index. Some index) (Ascends ltb (λ n. n) (λ n. 1 ≤ n)) next_index_ascends count None bytes indices rest e

pub indices_long : (count : ℕ) (bytes indices rest : List ℕ) → elements_at next_index_at (λ _ index. Some index) count None bytes ≡ Ok (indices, rest)
    → length indices ≡ count
indices_long count bytes indices rest e = (indices_follow count bytes indices rest e).0

pub indices_begun : (count : ℕ) (bytes indices rest : List ℕ) → elements_at next_index_at (λ _ index. Some index) count None bytes ≡ Ok (indices, rest)
    → All (λ n. 1 ≤ n) indices
indices_begun count bytes indices rest e = All-from_follow ltb (λ n. n) (λ n. 1 ≤ n) None indices (indices_follow count bytes indices rest e).1

pub indices_increase : (count : ℕ) (bytes indices rest : List ℕ) → elements_at next_index_at (λ _ index. Some index) count None bytes ≡ Ok (indices, rest)
    → IsStrictlyIncreasing indices
indices_increase count bytes indices rest e = increasing_from_follow (λ n. 1 ≤ n) None indices (indices_follow count bytes indices rest e).1

-- ---- parts

next_part_ascends : (v : Version) (before : Option ℕ) (bytes : List ℕ) (part : IndexedChangesRecord) (rest : List ℕ)
    → next_part_at v before bytes ≡ Ok (part, rest) → Ascends ltb (λ p. p.index) (λ p. 1 ≤ p.index) before part
unfolding next_part_at
next_part_ascends v before bytes part rest e =
    let a = bind_ok (next_index_at before bytes) (λ index. changes_at v index.1 >>= λ changes. Ok (record { index = index.0; changes = changes.0 }, changes.1))
    (part, rest) e in
    let b = bind_ok (changes_at v a.0.1) (λ changes. Ok (record { index = a.0.0; changes = changes.0 }, changes.1)) (part, rest) a.2 in
    let made : IndexedChangesRecord × List ℕ = (record { index = a.0.0; changes = b.0.0 }, b.0.1) in
    subst (λ (y : IndexedChangesRecord × List ℕ). Ascends ltb (λ p. p.index) (λ p. 1 ≤ p.index) before y.0) (ok_is made (part, rest) b.2)
    (next_index_ascends before bytes a.0.0 a.0.1 a.1)

parts_follow : (v : Version) (count : ℕ) (bytes : List ℕ) (parts : List IndexedChangesRecord) (rest : List ℕ)
    → elements_at (next_part_at v) (λ _ part. Some part.index) count None bytes ≡ Ok (parts, rest) → (length parts ≡ count)
    × Follow ltb (λ p. p.index) (λ p. 1 ≤ p.index) None parts
parts_follow v count bytes parts rest e =
    elements_along (next_part_at v) (λ _ part. Some part.index) (Ascends ltb (λ p. p.index) (λ p. 1 ≤ p.index))
    (next_part_ascends v) count None bytes parts rest e

pub parts_long : (v : Version) (count : ℕ) (bytes : List ℕ) (parts : List IndexedChangesRecord) (rest : List ℕ)
    → elements_at (next_part_at v) (λ _ part. Some part.index) count None bytes ≡ Ok (parts, rest) → length parts ≡ count
parts_long v count bytes parts rest e = (parts_follow v count bytes parts rest e).0

pub parts_ascend : (v : Version) (count : ℕ) (bytes : List ℕ) (parts : List IndexedChangesRecord) (rest : List ℕ)
    → elements_at (next_part_at v) (λ _ part. Some part.index) count None bytes ≡ Ok (parts, rest) → AllPairs (λ a b. a.index < b.index) parts
parts_ascend v count bytes parts rest e =
    let h = AllPairs-from_follow ltb (λ p. p.index) (λ p. 1 ≤ p.index) lt-trans None parts (parts_follow v count bytes parts rest e).1 in
    λ i j d lt within. ltb-true _ _ (h i j d lt within)
