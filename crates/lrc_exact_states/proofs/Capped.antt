-- What a key keeps of numbers is no higher than the cap.
use Rattle.std.proofs.Common.{ℕ, zero, suc, ◌≤◌, All, Bool, true, false, List, [], ◌∷◌, map, arith}
use Rattle.std.specs.Prelude.{Option, Some, None, if◌then◌else◌, nat_le}
use Rattle.lrc_program.specs.declared.Program.{Program}
use Rattle.lrc_trace.specs.declared.act.Act.{Act}
use Rattle.lrc_time.specs.Time.{entry, weight_of}
use Rattle.lrc_exact.specs.Memory.{Rank, Word}
use Rattle.lrc_exact.specs.Rule.{Knowledge, Shape, State}
use Rattle.lrc_exact_states.specs.Levels.{Change}
use Rattle.lrc_exact_states.specs.Runs.{Base, here}
use Rattle.lrc_exact_states.specs.Key.{AreHeightsUpTo, capped_above, change_beyond, change_kept, each_from, Gap, gap_of, gaps_of, heights_of, IsChangeUpTo, IsKeyUpTo, IsMarkUpTo, key_of, known_at, mark_kept, Place, places_in, word_kept}

module _ {A : Type 0} (P : A → Type 0) where
  all_cons : (x : A) (xs : List A) → P x → All P xs → All P (x ∷ xs)
  all_cons x xs one rest zero d lt = one
  all_cons x xs one rest (suc i) d lt = rest i d (omega (arith, lt))

  all_each : (value : ℕ → A) → ((i : ℕ) → P (value i)) → (first count : ℕ) → All P (each_from first count value)
  all_each value each first zero = λ i d lt. absurd (omega (arith, lt))
  all_each value each first (suc count) = all_cons (value first) (each_from (suc first) count value) (each first) (all_each value each (suc first) count)

  all_mapped : {B : Type 0} (f : B → A) → ((x : B) → P (f x)) → (xs : List B) → All P (map f xs)
  all_mapped f each [] = λ i d lt. absurd (omega (arith, lt))
  all_mapped f each (x ∷ xs) = all_cons (f x) (map f xs) (each x) (all_mapped f each xs)

module _ (cap : ℕ) where
  mark_capped : (bound : ℕ) (mark : Option Rank) → IsMarkUpTo cap (mark_kept cap bound mark)
  mark_capped bound None = tt
  mark_capped bound (Some rank) = go (nat_le rank.weight bound)
    where
      go : (b : Bool) → IsMarkUpTo cap (if b then None else Some (record { weight = capped_above cap bound rank.weight; node = rank.node }))
      go true = tt
      go false = omega arith

  change_capped : (bound : ℕ) (change : Option Change) → IsChangeUpTo cap (change_kept cap bound change)
  change_capped bound None = tt
  change_capped bound (Some change) = omega arith

  heights_capped : (nodes : ℕ) (floor : List ℕ) (knows : Option Knowledge) → AreHeightsUpTo cap (heights_of cap nodes floor knows)
  heights_capped nodes floor None = tt
  heights_capped nodes floor (Some knows) =
      all_each (λ (height : ℕ). height ≤ cap) (λ q. capped_above cap (entry floor q) (entry knows.time q)) (λ q. omega arith) 0 nodes

  gaps_capped : (bound words nodes : ℕ) (knows other : Option Knowledge)
      → All (λ (gap : Gap). All (IsChangeUpTo cap) gap.changes) (gaps_of cap bound words nodes knows other)
  gaps_capped bound words nodes knows other =
      all_each (λ (gap : Gap). All (IsChangeUpTo cap) gap.changes) (λ node. gap_of cap bound words node knows other)
      (λ node. all_each (IsChangeUpTo cap) (λ word. change_kept cap bound (change_beyond node word knows other))
      (λ word. change_capped bound (change_beyond node word knows other)) 0 words) 0 nodes

  module _ (program : Program) (shape : Shape) (base : Base) (run : List Act) (states : List State) where
    abbrev bound : ℕ
    bound = weight_of base.floor

    abbrev known : Place → Option Knowledge
    known place = known_at shape base run states place

    capped : IsKeyUpTo cap (key_of program shape cap base run states)
    capped = record {
      marks = all_each (λ (words : List Word). All (λ (word : Word). IsMarkUpTo cap word.mark) words)
          (λ node. each_from 0 program.words (λ (word : ℕ). word_kept cap bound ((here shape run states node).words word)))
          (λ node.
          all_each (λ (word : Word). IsMarkUpTo cap word.mark) (λ word. word_kept cap bound ((here shape run states node).words word))
          (λ word. mark_capped bound ((here shape run states node).words word).mark) 0 program.words) 0 shape.nodes;
      heights = all_mapped (AreHeightsUpTo cap) (λ place. heights_of cap shape.nodes base.floor (known place))
          (λ place. heights_capped shape.nodes base.floor (known place)) (places_in program shape base run);
      changes = all_mapped (λ (row : List (List Gap)). All (λ (gaps : List Gap). All (λ (gap : Gap). All (IsChangeUpTo cap) gap.changes) gaps) row)
          (λ place. map (λ (other : Place). gaps_of cap bound program.words shape.nodes (known place) (known other)) (places_in program shape base run))
          (λ place.
          all_mapped (λ (gaps : List Gap). All (λ (gap : Gap). All (IsChangeUpTo cap) gap.changes) gaps)
          (λ other. gaps_of cap bound program.words shape.nodes (known place) (known other))
          (λ other. gaps_capped bound program.words shape.nodes (known place) (known other)) (places_in program shape base run)) (places_in program shape base run);
    }

pub key_capped : (program : Program) (shape : Shape) (cap : ℕ) (base : Base) (run : List Act) (states : List State)
    → IsKeyUpTo cap (key_of program shape cap base run states)
key_capped program shape cap base run states = capped cap program shape base run states
