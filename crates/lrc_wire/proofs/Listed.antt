-- The reader of indices agrees with how they are spelled.
use Rattle.std.proofs.Common.{◌≡◌, ℕ, ◌≤◌, true, ltb, leb, List, length, Option, Some, None}
use Rattle.std.specs.Prelude.{All}
use Rattle.std.specs.Int.{w32}
use Rattle.std.specs.List.{flat_map}
use Rattle.std.specs.List.Sorted.{IsStrictlyIncreasing}
use Rattle.std.proofs.lemmas.Bool.{leb-true, le-leb}
use Rattle.std.proofs.lemmas.List.Elements.{All-weaker}
use Rattle.lrc_wire.specs.declared.fault.WireFault.TheVariants.{BadCount, NotAscending}
use Rattle.lrc_wire.specs.Ranges.{HasBits, FitIndices}
use Rattle.lrc_wire.specs.Spelling.{number, numbers, indices}
use Rattle.lrc_wire.specs.Reading.{number_at, tested, is_after, elements_at, count_at, next_index_at, indices_at}
use Rattle.lrc_wire.proofs.Along.{Ascends, Follow, All-from_follow, increasing_from_follow, follow_from_increasing}
use Rattle.lrc_wire.proofs.Sequences.{Agrees-counted}
use Rattle.lrc_wire.proofs.Agrees.{Agrees, Agrees-as, Agrees-tested, number32_agrees, elements_agree}

-- an index, at least 1
pub record IsIndex (index : ℕ) : Type 0 where
  pub begun : 1 ≤ index
  pub bits : HasBits 32 index

pub count_agrees : Agrees count_at (number w32) (λ n. HasBits 32 n × (1 ≤ n))
unfolding count_at
count_agrees =
    Agrees-as _ (number w32) (λ n. HasBits 32 n × (leb 1 n ≡ true)) (λ n. HasBits 32 n
    × (1 ≤ n)) (λ n h. (h.0, leb-true 1 n h.1)) (λ n h. (h.0, le-leb 1 n h.1))
    (Agrees-tested (number_at w32) (number w32) (HasBits 32) (λ n. leb 1 n) BadCount number32_agrees)

index_agrees : Agrees (λ bytes. tested (λ n. leb 1 n) BadCount (number_at w32 bytes)) (number w32) IsIndex
index_agrees =
    Agrees-as _ (number w32) (λ n. HasBits 32 n
    × (leb 1 n ≡ true)) IsIndex (λ n h. record { begun = leb-true 1 n h.1; bits = h.0 }) (λ n h. (h.bits, le-leb 1 n h.begun))
    (Agrees-tested (number_at w32) (number w32) (HasBits 32) (λ n. leb 1 n) BadCount number32_agrees)

pub next_index_agrees : (before : Option ℕ) → Agrees (next_index_at before) (number w32) (Ascends ltb (λ n. n) IsIndex before)
unfolding next_index_at
next_index_agrees before =
    Agrees-tested (λ bytes. tested (λ n. leb 1 n) BadCount (number_at w32 bytes)) (number w32) IsIndex (is_after ltb before) NotAscending index_agrees

elements_of_indices : (count : ℕ)
    → Agrees (elements_at next_index_at (λ _ index. Some index) count None) (numbers w32)
    (λ ns. (length ns ≡ count) × (All IsIndex ns × IsStrictlyIncreasing ns))
unfolding numbers
elements_of_indices count =
    Agrees-as _ (flat_map (number w32)) (λ ns. (length ns ≡ count) × Follow ltb (λ n. n) IsIndex None ns) (λ ns. (length ns ≡ count)
    × (All IsIndex ns × IsStrictlyIncreasing ns))
    (λ ns h. (h.0, (All-from_follow ltb (λ n. n) IsIndex None ns h.1, increasing_from_follow IsIndex None ns h.1)))
    (λ ns h. (h.0, follow_from_increasing IsIndex ns h.1.0 h.1.1))
    (elements_agree next_index_at (λ _ index. Some index) (number w32) (Ascends ltb (λ n. n) IsIndex) next_index_agrees count None)

-- indices as they are read
abbrev CountedIndices : List ℕ → Type 0
CountedIndices ns = (HasBits 32 (length ns) × (1 ≤ length ns)) × (All IsIndex ns × IsStrictlyIncreasing ns)

pub indices_agree : Agrees indices_at indices FitIndices
unfolding indices_at indices
indices_agree =
    Agrees-as _ _ CountedIndices FitIndices
    (λ ns h. record {
      some = h.0.1;
      count = h.0.0;
      are = record { begun = All-weaker IsIndex (λ n. 1 ≤ n) (λ n q. q.begun) ns h.1.0; ascending = h.1.1 };
      bits = All-weaker IsIndex (HasBits 32) (λ n q. q.bits) ns h.1.0;
    })
    (λ ns h. ((h.count, h.some), ((λ k d within. record { begun = h.are.begun k d within; bits = h.bits k d within }), h.are.ascending)))
    (Agrees-counted count_agrees (λ count _. elements_of_indices count))
