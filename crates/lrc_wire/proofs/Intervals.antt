-- The readers of intervals agree with how intervals are spelled.
use Rattle.std.proofs.Common.{◌≡◌, ℕ, ◌<◌, ◌≤◌, true, ltb, List, length, Option, Some, None, refl, arith}
use Rattle.std.specs.Prelude.{All, AllPairs}
use Rattle.std.specs.List.{flat_map}
use Rattle.std.proofs.lemmas.Bool.{ltb-true, lt-ltb}
use Rattle.std.proofs.lemmas.List.Elements.{All-weaker}
use Rattle.lrc_time.specs.Time.{entry}
use Rattle.lrc_page.specs.declared.TheConstants.{MOST_PAGES}
use Rattle.lrc_wire.specs.declared.version.Version.{Version}
use Rattle.lrc_wire.specs.Versions.{pages_in}
use Rattle.lrc_store.specs.Interval.{IntervalRecord, IsInterval, by_node}
use Rattle.lrc_envelope.specs.declared.limits.TheConstants.{MOST_NODES}
use Rattle.lrc_wire.specs.declared.fault.WireFault.TheVariants.{BadNode, NotAscending}
use Rattle.lrc_wire.specs.Ranges.{HasBits, NamesPages}
use Rattle.lrc_wire.specs.Spelling.{byte, time, pages, interval, intervals}
use Rattle.lrc_wire.specs.Reading.{byte_at, tested, is_after, elements_at, stamp_at}
use Rattle.lrc_wire.specs.Reading.{is_below, known_by, next_interval_at, intervals_at}
use Rattle.lrc_wire.proofs.Along.{Ascends, Follow, All-from_follow, AllPairs-from_follow, follow_from_pairs}
use Rattle.lrc_wire.proofs.Agrees.{Agrees, Agrees-as, Agrees-tested, byte_agrees, number32_agrees, elements_agree}
use Rattle.lrc_wire.proofs.Sequences.{whole, then_fields, last_field, Agrees-counted}
use Rattle.lrc_wire.proofs.Fields.{IsStamp, stamp_agrees, ArePages, pages_agree, pages_in-le}
use Rattle.lrc_wire.proofs.Shapes.{below-trans}

-- an interval beside a time of so many nodes
pub record IsBeside (v : Version) (nodes : ℕ) (x : IntervalRecord) : Type 0 where
  pub is_interval : IsInterval x
  pub long : length x.stamp ≡ nodes
  pub bits : All (HasBits 32) x.stamp
  pub pages : NamesPages v x

module _ (v : Version) (nodes : ℕ) (few : nodes ≤ MOST_NODES) where
  interval_node_agrees : Agrees (λ bytes. tested (λ n. ltb n nodes) BadNode (byte_at bytes)) byte (λ n. n < nodes)
  interval_node_agrees =
      Agrees-as _ byte (λ n. HasBits 8 n × (ltb n nodes ≡ true)) (λ n. n < nodes) (λ n h. ltb-true n nodes h.1) (λ n lt. (omega arith, lt-ltb n nodes lt))
      (Agrees-tested byte_at byte (HasBits 8) (λ n. ltb n nodes) BadNode byte_agrees)

  -- the fields of an interval, and what each of them fits
  abbrev FitInterval : Option (ℕ × ℕ) → IntervalRecord → Type 0
  FitInterval before x = (x.node < nodes)
      × ((IsStamp nodes x.node x.stamp × (is_after is_below before (x.node, entry x.stamp x.node) ≡ true)) × ArePages v x.pages)

  beside_from : (x : IntervalRecord) → x.node < nodes → IsStamp nodes x.node x.stamp → ArePages v x.pages → IsBeside v nodes x
  beside_from x within stamp pages = record {
    is_interval = record {
      counted = omega (arith, within, stamp.0);
      begun = stamp.2;
      ascending = pages.1;
      in_range = All-weaker (λ n. n < pages_in v) (λ n. n < MOST_PAGES) (λ n lt. omega (arith, lt, pages_in-le v)) x.pages pages.0;
    };
    long = stamp.0;
    bits = stamp.1;
    pages = pages.0;
  }

  next_interval_agrees : (before : Option (ℕ × ℕ)) → Agrees (next_interval_at v nodes before) interval (Ascends is_below known_by (IsBeside v nodes) before)
  unfolding next_interval_at interval
  next_interval_agrees before =
      Agrees-as _ _ (FitInterval before) (Ascends is_below known_by (IsBeside v nodes) before)
      (λ x h. (beside_from x h.0 h.1.0.0 h.1.1, h.1.0.1))
      (λ x h. (
        omega (arith, h.0.is_interval.counted, h.0.long),
        (((h.0.long, h.0.bits, h.0.is_interval.begun), h.1), (h.0.pages, h.0.is_interval.ascending)),
      ))
      (whole (λ (x : IntervalRecord). (x.node, (x.stamp, x.pages))) (λ r _. refl) (λ x. refl)
      (then_fields interval_node_agrees (λ node within.
      then_fields (Agrees-tested (stamp_at nodes node) time (IsStamp nodes node) (λ stamp. is_after is_below before (node, entry stamp node)) NotAscending
      (stamp_agrees nodes node few within)) (λ stamp _.
      last_field (λ pages. record { node = node; stamp = stamp; pages = pages }) (pages_agree v)))))

  -- intervals beside a time of so many nodes, in order
  abbrev pub AreBeside : List IntervalRecord → Type 0
  AreBeside xs = All (IsBeside v nodes) xs × AllPairs (λ a b. by_node a b ≡ true) xs

  elements_of_intervals : (count : ℕ)
      → Agrees (elements_at (next_interval_at v nodes) (λ _ x. Some (known_by x)) count None) (flat_map interval) (λ xs. (length xs ≡ count) × AreBeside xs)
  unfolding is_after
  elements_of_intervals count =
      Agrees-as _ (flat_map interval) (λ xs. (length xs ≡ count) × Follow is_below known_by (IsBeside v nodes) None xs) (λ xs. (length xs ≡ count)
      × AreBeside xs)
      (λ xs h. (
        h.0,
        (
          All-from_follow is_below known_by (IsBeside v nodes) None xs h.1,
          AllPairs-from_follow is_below known_by (IsBeside v nodes) below-trans None xs h.1,
        ),
      ))
      (λ xs h. (h.0, follow_from_pairs is_below known_by (IsBeside v nodes) None xs h.1.0 h.1.1 (λ k d within. refl)))
      (elements_agree (next_interval_at v nodes) (λ _ x. Some (known_by x)) interval
      (Ascends is_below known_by (IsBeside v nodes)) next_interval_agrees count None)

  pub intervals_agree : Agrees (intervals_at v nodes) intervals (λ xs. HasBits 32 (length xs) × AreBeside xs)
  unfolding intervals_at intervals
  intervals_agree = Agrees-counted number32_agrees (λ count _. elements_of_intervals count)
