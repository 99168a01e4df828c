-- The machine where the nodes have arrived at some barriers before.
use Rattle.std.proofs.Common.{◌≡◌, ℕ, ◌+◌, ◌<◌, List, [], ◌∷◌, length, map, inl, inr, refl, sym, ◌∙◌, ap, arith}
use Rattle.std.specs.Prelude.{◌&&◌, Option, nat_le, slice_index, slice_set}
use Rattle.std.specs.List.{list_all}
use Rattle.std.proofs.lemmas.Bool.{cases_lt, le-leb, lt-leb}
use Rattle.std.proofs.lemmas.List.{get_or-map, map-set}
use Rattle.lrc_trace.specs.declared.act.Deed.{Deed}
use Rattle.lrc_trace.specs.declared.act.Deed.TheVariants.{Arrive, Depart}
use Rattle.lrc_exec.specs.Meaning.{Thread}
use Rattle.lrc_exec.specs.Plain.{Plain, all_arrived}
use Rattle.lrc_consistency_laws.proofs.Runs.{CanDo}
use Rattle.lrc_orders.proofs.Effects.{after_of, arrivals_after}
use Rattle.lrc_lazy.specs.Standing.{advanced, with_memory}

-- none more: it is as it is
none_gone : (xs : List ℕ) → map (λ count. 0 + count) xs ≡ xs
none_gone [] = refl
none_gone (x ∷ xs) = let e : 0 + x ≡ x = omega arith in ap (λ y. y ∷ map (λ count. 0 + count) xs) e ∙ ap (λ l. x ∷ l) (none_gone xs)

pub advanced_none : (machine : Plain) → advanced 0 machine ≡ machine
advanced_none machine = ap (λ xs. record machine { arrivals = xs }) (none_gone machine.arrivals)

-- twice some are those of both
twice : (a b : ℕ) (xs : List ℕ) → map (λ count. a + count) (map (λ count. b + count) xs) ≡ map (λ count. a + b + count) xs
twice a b [] = refl
twice a b (x ∷ xs) =
    let e : a + (b + x) ≡ a + b + x = omega arith in
    ap (λ y. y ∷ map (λ count. a + count) (map (λ count. b + count) xs)) e ∙ ap (λ l. (a + b + x) ∷ l) (twice a b xs)

pub advanced_twice : (a b : ℕ) (machine : Plain) → advanced a (advanced b machine) ≡ advanced (a + b) machine
advanced_twice a b machine = ap (λ xs. record machine { arrivals = xs }) (twice a b machine.arrivals)

-- ---- what can be done does not depend on them

least_moved : (gone a b : ℕ) → nat_le (gone + a) (gone + b) ≡ nat_le a b
least_moved gone a b = elim (cases_lt b a) [
  | inl lt ↦ lt-leb (gone + a) (gone + b) (omega (arith, lt)) ∙ sym (lt-leb a b lt)
  | inr le ↦ le-leb (gone + a) (gone + b) (omega (arith, le)) ∙ sym (le-leb a b le)
]

all_moved : (gone a : ℕ) (xs : List ℕ) → list_all (λ count. nat_le (gone + a) count) (map (λ count. gone + count) xs) ≡ list_all (λ count. nat_le a count) xs
all_moved gone a [] = refl
all_moved gone a (x ∷ xs) =
    ap (λ b. b && list_all (λ count. nat_le (gone + a) count) (map (λ count. gone + count) xs)) (least_moved gone a x)
    ∙ ap (λ b. nat_le a x && b) (all_moved gone a xs)

module _ (gone : ℕ) (machine : Plain) (node : ℕ) (within : node < length machine.arrivals) where
  pub count_moved : slice_index (advanced gone machine).arrivals node ≡ gone + slice_index machine.arrivals node
  count_moved = get_or-map (λ count. gone + count) machine.arrivals node 0 0 within

  arrived_moved : all_arrived (advanced gone machine) node ≡ all_arrived machine node
  arrived_moved =
      ap (λ least. list_all (λ count. nat_le least count) (advanced gone machine).arrivals) count_moved
      ∙ all_moved gone (slice_index machine.arrivals node) machine.arrivals

  pub can_moved : (memory : List ℕ) (d : Deed) → CanDo (with_memory machine memory) node d → CanDo (with_memory (advanced gone machine) memory) node d
  can_moved memory Depart can = arrived_moved ∙ can
  can_moved memory d can = can

  pub can_back : (memory : List ℕ) (d : Deed) → CanDo (with_memory (advanced gone machine) memory) node d → CanDo (with_memory machine memory) node d
  can_back memory Depart can = sym arrived_moved ∙ can
  can_back memory d can = can

  arrivals_moved : (d : Deed) → arrivals_after node d (advanced gone machine).arrivals ≡ map (λ count. gone + count) (arrivals_after node d machine.arrivals)
  arrivals_moved Arrive =
      let more : gone + (slice_index machine.arrivals node + 1) ≡ gone + slice_index machine.arrivals node + 1 = omega arith in
      ap (λ n. slice_set (advanced gone machine).arrivals node (n + 1)) count_moved
      ∙ sym (map-set (λ count. gone + count) machine.arrivals node (slice_index machine.arrivals node + 1)
      ∙ ap (slice_set (advanced gone machine).arrivals node) more)
  arrivals_moved _ = refl

  -- and the machine after it is moved in the same way
  pub after_moved : (d : Deed) (t : Option Thread) → after_of (advanced gone machine) node d t ≡ advanced gone (after_of machine node d t)
  after_moved d t = ap (λ xs. record (after_of (advanced gone machine) node d t) { arrivals = xs }) (arrivals_moved d)
