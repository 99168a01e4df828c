-- The readers of the parts of several kinds agree with how the parts are spelled.
use Rattle.std.proofs.Common.{◌≡◌, ◌∙◌, ℕ, zero, suc, ◌+◌, ◌<◌, ◌≤◌, Bool, true, false, not, ◌&&◌, ◌||◌, eqb, ltb, leb, List, ◌++◌}
use Rattle.std.proofs.Common.{length, get_or, Option, Some, None, Ok, refl, sym, subst, arith}
use Rattle.std.specs.Prelude.{All}
use Rattle.std.specs.Int.{w16, w32}
use Rattle.std.specs.List.{flat_map}
use Rattle.lrc_page.specs.Pages.{IsRising}
use Rattle.std.proofs.lemmas.Bool.{eqb-true, eq-eqb, ltb-true, lt-ltb, leb-true, le-leb, and_parts, and_from}
use Rattle.std.proofs.lemmas.List.{get_or_default}
use Rattle.std.proofs.lemmas.List.Elements.{All-from_get_or, All-weaker}
use Rattle.std.proofs.lemmas.Bool.Decides.{nat_tests}
use Rattle.lrc_time.specs.Time.{entry}
use Rattle.lrc_page.specs.declared.TheConstants.{MOST_PAGES}
use Rattle.lrc_envelope.specs.declared.limits.TheConstants.{MOST_LOCKS, MOST_NODES}
use Rattle.lrc_wire.specs.declared.fault.WireFault.TheVariants.{BadNode, BadCount, NotAscending}
use Rattle.lrc_wire.specs.declared.version.Version.{Version}
use Rattle.lrc_wire.specs.declared.version.Version.TheVariants.{One, Two}
use Rattle.lrc_wire.specs.Versions.{pages_in}
use Rattle.lrc_wire.specs.Ranges.{HasBits, IsTime, IsEpisode}
use Rattle.lrc_wire.specs.Spelling.{byte, number, numbers, flag, time, pages}
use Rattle.lrc_wire.specs.Reading.{byte_at, number_at, tested, is_after, elements_at, lock_at, node_at, episode_at, page_at}
use Rattle.lrc_wire.specs.Reading.{flag_at, entry_at, entries_at, time_at, stamp_at, next_page_at, pages_at}
use Rattle.lrc_wire.proofs.Bytes.{IsBytes, Takes}
use Rattle.lrc_wire.proofs.Steps.{ok_is}
use Rattle.lrc_wire.proofs.Along.{Along, Ascends, Follow, along_at, along_from, All-from_along, along_from_all}
use Rattle.lrc_wire.proofs.Along.{All-from_follow, AllPairs-from_follow, follow_from_pairs, lt-trans, few_below}
use Rattle.lrc_wire.proofs.Sequences.{Agrees-counted}
use Rattle.lrc_wire.proofs.Agrees.{Agrees, Agrees-as, Agrees-tested, step, byte_agrees, number16_agrees, number32_agrees, elements_agree}

-- ---- fields of one number

pub lock_agrees : Agrees lock_at byte (λ n. n < MOST_LOCKS)
unfolding lock_at
lock_agrees =
    Agrees-as _ byte (λ n. HasBits 8 n
    × (ltb n MOST_LOCKS ≡ true)) (λ n. n < MOST_LOCKS) (λ n h. ltb-true n MOST_LOCKS h.1) (λ n lt. (omega arith, lt-ltb n MOST_LOCKS lt))
    (Agrees-tested byte_at byte (HasBits 8) (λ n. ltb n MOST_LOCKS) BadCount byte_agrees)

pub node_agrees : Agrees node_at byte (λ n. n < MOST_NODES)
unfolding node_at
node_agrees =
    Agrees-as _ byte (λ n. HasBits 8 n
    × (ltb n MOST_NODES ≡ true)) (λ n. n < MOST_NODES) (λ n h. ltb-true n MOST_NODES h.1) (λ n lt. (omega arith, lt-ltb n MOST_NODES lt))
    (Agrees-tested byte_at byte (HasBits 8) (λ n. ltb n MOST_NODES) BadNode byte_agrees)

pub episode_agrees : Agrees episode_at (number w32) IsEpisode
unfolding episode_at
episode_agrees =
    Agrees-as _ (number w32) (λ n. HasBits 32 n
    × (leb 1 n ≡ true)) IsEpisode (λ n h. record { begun = leb-true 1 n h.1; bits = h.0 }) (λ n h. (h.bits, le-leb 1 n h.begun))
    (Agrees-tested (number_at w32) (number w32) (HasBits 32) (λ n. leb 1 n) BadCount number32_agrees)

pub pages_in-le : (v : Version) → pages_in v ≤ MOST_PAGES
pages_in-le One = omega arith
pages_in-le Two = omega arith

pub page_agrees : (v : Version) → Agrees (page_at v) (number w16) (λ n. n < pages_in v)
unfolding page_at
page_agrees v =
    Agrees-as _ (number w16) (λ n. HasBits 16 n
    × (ltb n (pages_in v) ≡ true)) (λ n. n < pages_in v) (λ n h. ltb-true n (pages_in v) h.1)
    (λ n lt. (omega (arith, pages_in-le v), lt-ltb n (pages_in v) lt))
    (Agrees-tested (number_at w16) (number w16) (HasBits 16) (λ n. ltb n (pages_in v)) BadCount number16_agrees)

flag_byte : (n : ℕ) → n < 2 → flag (eqb n 1) ≡ byte n
unfolding flag
flag_byte zero lt = refl
flag_byte (suc zero) lt = refl
flag_byte (suc (suc n)) lt = absurd (omega arith)

flag_takes : (bytes : List ℕ) (b : Bool) (rest : List ℕ) → IsBytes bytes → flag_at bytes ≡ Ok (b, rest) → Takes bytes (flag b) rest × Unit {0}
unfolding flag_at
flag_takes bytes b rest fits e =
    let a = step (λ bytes. tested (λ n. ltb n 2) BadCount (byte_at bytes)) byte (λ n. HasBits 8 n
    × (ltb n 2 ≡ true)) (Agrees-tested byte_at byte (HasBits 8) (λ n. ltb n 2) BadCount byte_agrees) bytes (λ n. Ok (eqb n.0 1, n.1)) (b, rest) fits e in
    let spelled : flag (eqb a.value 1) ≡ byte a.value = flag_byte a.value (ltb-true a.value 2 a.fits.1) in
    subst (λ (y : Bool × List ℕ). Takes bytes (flag y.0) y.1 × Unit {0}) (ok_is (eqb a.value 1, a.rest) (b, rest) a.then) (rw spelled a.took, tt)

flag_again : (b : Bool) (rest : List ℕ) → Unit {0} → flag_at (flag b ++ rest) ≡ Ok (b, rest)
unfolding flag_at flag byte byte_at tested
flag_again false rest h = refl
flag_again true rest h = refl

pub flag_agrees : Agrees flag_at flag (λ b. Unit {0})
flag_agrees = record { takes = flag_takes; again = flag_again }

-- ---- times

entry_agrees : (node : ℕ) → Agrees (entry_at None node) (number w32) (HasBits 32)
unfolding entry_at
entry_agrees node = number32_agrees

-- the entries of a time
entries_agree : (nodes : ℕ) → Agrees (entries_at None nodes) (numbers w32) (λ time. (length time ≡ nodes) × All (HasBits 32) time)
unfolding entries_at numbers
entries_agree nodes =
    Agrees-as _ (flat_map (number w32)) (λ time. (length time ≡ nodes) × Along (λ _ n. HasBits 32 n) (λ node _. node + 1) 0 time) (λ time. (length time ≡ nodes)
    × All (HasBits 32) time)
    (λ time h. (h.0, All-from_along (HasBits 32) (λ node _. node + 1) 0 time h.1))
    (λ time h. (h.0, along_from_all (HasBits 32) (λ node _. node + 1) 0 time h.1))
    (elements_agree (entry_at None) (λ node _. node + 1) (number w32) (λ _ n. HasBits 32 n) entry_agrees nodes 0)

-- a stamp's own entry is at least 1
abbrev pub IsStamp : ℕ → ℕ → List ℕ → Type 0
IsStamp nodes own stamp = (length stamp ≡ nodes) × All (HasBits 32) stamp × (1 ≤ entry stamp own)

abbrev Counts : ℕ → ℕ → ℕ → Type 0
Counts own node n = HasBits 32 n × ((not (eqb node own) || leb 1 n) ≡ true)

counted : (own node n : ℕ) → node ≡ own → (not (eqb node own) || leb 1 n) ≡ true → 1 ≤ n
counted own node n e h = grind (arith, nat_tests)

counts : (own node n : ℕ) → (node ≡ own → 1 ≤ n) → (not (eqb node own) || leb 1 n) ≡ true
counts own node n h = grind (arith, nat_tests)

own_begun : (stamp : List ℕ) (own k d : ℕ) → own ≡ k → k < length stamp → 1 ≤ entry stamp own → 1 ≤ get_or stamp k d
own_begun stamp own k d same lt h = rw (get_or_default stamp k d 0 lt) (subst (λ (i : ℕ). 1 ≤ get_or stamp i 0) same h)

counts_bits : (own node : ℕ) (stamp : List ℕ) → Along (Counts own) (λ node _. node + 1) node stamp → All (HasBits 32) stamp
counts_bits own node stamp h =
    All-from_get_or (HasBits 32) stamp 0 (λ i within. (along_at (Counts own) node stamp 0 i (node + i) refl within h).0)

stamp_entry_agrees : (own node : ℕ) → Agrees (entry_at (Some own) node) (number w32) (Counts own node)
unfolding entry_at
stamp_entry_agrees own node = Agrees-tested (number_at w32) (number w32) (HasBits 32) (λ n. not (eqb node own) || leb 1 n) BadCount number32_agrees

stamp_entries_agree : (nodes own : ℕ) → own < nodes → Agrees (entries_at (Some own) nodes) (numbers w32) (IsStamp nodes own)
unfolding entries_at numbers
stamp_entries_agree nodes own within =
    Agrees-as _ (flat_map (number w32)) (λ stamp. (length stamp ≡ nodes) × Along (Counts own) (λ node _. node + 1) 0 stamp) (IsStamp nodes own)
    (λ stamp h. (
      h.0,
      counts_bits own 0 stamp h.1,
      counted own own (get_or stamp own 0) refl (along_at (Counts own) 0 stamp 0 own own (omega arith) (omega (arith, h.0)) h.1).1,
    ))
    (λ stamp h. (
      h.0,
      along_from (Counts own) 0 stamp
          (λ k place d e lt. ((h.1 k d lt), counts own place (get_or stamp k d) (λ same. own_begun stamp own k d (omega arith) lt h.2))),
    ))
    (elements_agree (entry_at (Some own)) (λ node _. node + 1) (number w32) (Counts own) (stamp_entry_agrees own) nodes 0)

-- a time whose count was read
pub is_time : (nodes : ℕ) (entries : List ℕ) → (leb 1 nodes && leb nodes MOST_NODES) ≡ true → length entries ≡ nodes → All (HasBits 32) entries → IsTime entries
is_time nodes entries test long bits =
    let both = and_parts (leb 1 nodes) (leb nodes MOST_NODES) test in
    record {
      some = omega (arith, leb-true 1 nodes both.0);
      few = omega (arith, leb-true nodes MOST_NODES both.1);
      bits = bits;
    }

pub time_agrees : Agrees time_at time IsTime
unfolding time_at time
time_agrees =
    Agrees-as _ _ (λ entries. (HasBits 8 (length entries) × ((leb 1 (length entries) && leb (length entries) MOST_NODES) ≡ true)) × All (HasBits 32) entries)
    IsTime
    (λ entries h. is_time (length entries) entries h.0.1 refl h.1)
    (λ entries h. (
      (
        omega (arith, h.few),
        and_from (leb 1 (length entries)) (leb (length entries) MOST_NODES) (le-leb 1 (length entries) h.some) (le-leb (length entries) MOST_NODES h.few),
      ),
      h.bits,
    ))
    (Agrees-counted (Agrees-tested byte_at byte (HasBits 8) (λ n. leb 1 n && leb n MOST_NODES) BadCount byte_agrees) (λ nodes _. entries_agree nodes))

module _ (nodes own : ℕ) (few : nodes ≤ MOST_NODES) (within : own < nodes) where
  -- as many entries as were counted
  stamp_entries_counted : (n : ℕ) → HasBits 8 n × (eqb n nodes ≡ true)
      → Agrees (entries_at (Some own) nodes) (numbers w32) (λ entries. (length entries ≡ n) × IsStamp nodes own entries)
  stamp_entries_counted n counted =
      let same = eqb-true n nodes counted.1 in
      Agrees-as _ (numbers w32) (IsStamp nodes own) (λ entries. (length entries ≡ n) × IsStamp nodes own entries)
      (λ entries h. (h.0 ∙ sym same, h)) (λ entries h. h.1) (stamp_entries_agree nodes own within)

  pub stamp_agrees : Agrees (stamp_at nodes own) time (IsStamp nodes own)
  unfolding stamp_at time
  stamp_agrees =
      Agrees-as _ _ (λ entries. (HasBits 8 (length entries) × (eqb (length entries) nodes ≡ true)) × IsStamp nodes own entries) (IsStamp nodes own)
      (λ entries h. h.1)
      (λ entries h. ((omega (arith, few, h.0), eq-eqb (length entries) nodes h.0), h))
      (Agrees-counted (Agrees-tested byte_at byte (HasBits 8) (λ n. eqb n nodes) BadCount byte_agrees) stamp_entries_counted)

-- ---- pages

abbrev pub ArePages : Version → List ℕ → Type 0
ArePages v ps = All (λ page. page < pages_in v) ps × IsRising ps

pub pages_few : (v : Version) (ps : List ℕ) → ArePages v ps → length ps ≤ MOST_PAGES
pages_few v ps h =
    few_below (λ n. n) ps h.1 MOST_PAGES (All-weaker (λ n. n < pages_in v) (λ n. n < MOST_PAGES) (λ n lt. omega (arith, lt, pages_in-le v)) ps h.0)

module _ (v : Version) where
  next_page_agrees : (before : Option ℕ) → Agrees (next_page_at v before) (number w16) (Ascends ltb (λ n. n) (λ n. n < pages_in v) before)
  unfolding next_page_at
  next_page_agrees before = Agrees-tested (page_at v) (number w16) (λ n. n < pages_in v) (is_after ltb before) NotAscending (page_agrees v)

  elements_of_pages : (count : ℕ)
      → Agrees (elements_at (next_page_at v) (λ _ page. Some page) count None) (numbers w16) (λ ps. (length ps ≡ count) × ArePages v ps)
  unfolding numbers is_after
  elements_of_pages count =
      Agrees-as _ (flat_map (number w16)) (λ ps. (length ps ≡ count) × Follow ltb (λ n. n) (λ n. n < pages_in v) None ps) (λ ps. (length ps ≡ count)
      × ArePages v ps)
      (λ ps h. (
        h.0,
        (
          All-from_follow ltb (λ n. n) (λ n. n < pages_in v) None ps h.1,
          λ i j d lt within. ltb-true _ _ (AllPairs-from_follow ltb (λ n. n) (λ n. n < pages_in v) lt-trans None ps h.1 i j d lt within),
        ),
      ))
      (λ ps h. (
        h.0,
        follow_from_pairs ltb (λ n. n) (λ n. n < pages_in v) None ps h.1.0 (λ i j d lt within. lt-ltb _ _ (h.1.1 i j d lt within))
            (λ k d within. refl),
      ))
      (elements_agree (next_page_at v) (λ _ page. Some page) (number w16) (Ascends ltb (λ n. n) (λ n. n < pages_in v)) next_page_agrees count None)

  pub pages_agree : Agrees (pages_at v) pages (ArePages v)
  unfolding pages_at pages
  pages_agree =
      Agrees-as _ _ (λ ps. HasBits 16 (length ps) × ArePages v ps) (ArePages v)
      (λ ps h. h.1) (λ ps h. (omega (arith, pages_few v ps h), h))
      (Agrees-counted number16_agrees (λ count _. elements_of_pages count))
