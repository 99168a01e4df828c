-- A state without more barriers that are gone.
use Rattle.std.proofs.Common.{◌≡◌, ℕ, suc, ◌+◌, ◌-◌, ◌<◌, ◌≤◌, List, [], ◌∷◌, length, map, true, refl, sym, subst, ◌∙◌, ap, arith}
use Rattle.std.specs.Prelude.{All, Option, slice_index}
use Rattle.std.proofs.lemmas.List.{length-map}
use Rattle.lrc_exec.specs.declared.spot.Flat.{Flat}
use Rattle.lrc_exec.specs.declared.spot.Spot.{Spot}
use Rattle.lrc_exec.specs.Spots.{spot_stopped, spot_thread}
use Rattle.lrc_exec.specs.Plain.{Plain}
use Rattle.lrc_exec.specs.States.{plain_at, IsStateOf}
use Rattle.lrc_lazy_known.specs.Effect.{word_of, IsKnowledgeWithout}
use Rattle.lrc_lazy_known.proofs.Dropping.{without_none}
use Rattle.lrc_lazy.specs.Standing.{advanced, departures_of}
use Rattle.lrc_lazy.proofs.Advancing.{advanced_none}
use Rattle.lrc_lazy_search.specs.declared.state.LazyState.{LazyState}
use Rattle.lrc_lazy_search.specs.Searching.{IsFresh}

-- without none it is the same
pub fresh_itself : (flat : Flat) (key : LazyState) → IsStateOf flat key.state → IsFresh flat key key
fresh_itself flat key valid = record {
  renewed = record {
    count = 0;
    departed = λ n lt. omega arith;
    is = sym (advanced_none (plain_at flat key.state));
    known = λ word. without_none (flat.nodes + flat.locks) (word_of key.knowledge word);
  };
  valid = valid;
  notes = refl;
}

-- counts that are lowered, and raised again
raised : (by : ℕ) (xs : List ℕ) → ((n : ℕ) → n < length xs → by ≤ slice_index xs n) → map (λ count. by + count) (map (λ count. count - by) xs) ≡ xs
raised by [] most = refl
raised by (x ∷ xs) most =
    let least = most 0 (omega arith) in
    let e : by + (x - by) ≡ x = omega (arith, least) in
    ap (λ y. y ∷ map (λ count. by + count) (map (λ count. count - by) xs)) e
    ∙ ap (λ l. x ∷ l) (raised by xs (λ n lt. most (suc n) (omega (arith, lt))))

module _ (flat : Flat) (key after : LazyState) (by : ℕ) (valid : IsStateOf flat key.state)
    (departed : (n : ℕ) → n < flat.nodes → by ≤ departures_of (plain_at flat key.state) n)
    (memory : after.state.memory.items ≡ key.state.memory.items) (holders : after.state.holders.items ≡ key.state.holders.items)
    (spots : after.state.spots.items ≡ key.state.spots.items)
    (arrivals : after.state.arrivals.items ≡ map (λ count. count - by) key.state.arrivals.items)
    (known : IsKnowledgeWithout (flat.nodes + flat.locks) by key.knowledge after.knowledge) (notes : after.notes.items ≡ key.notes.items) where
  arrived : (n : ℕ) → n < length key.state.arrivals.items → by ≤ slice_index key.state.arrivals.items n
  arrived n lt = let few = departed n (omega (arith, lt, valid.arrivals)) in omega (arith, few)

  abbrev machine_of : List ℕ → List (Option ℕ) → List ℕ → List Spot → Plain
  machine_of words locks counts nodes = record { memory = words; holders = locks; arrivals = counts; threads = map (spot_thread flat) nodes }

  counts_are : map (λ count. by + count) after.state.arrivals.items ≡ key.state.arrivals.items
  counts_are = ap (map (λ count. by + count)) arrivals ∙ raised by key.state.arrivals.items arrived

  machine_is : plain_at flat key.state ≡ advanced by (plain_at flat after.state)
  machine_is =
      let old = key.state in
      let new = after.state in
      let counts = map (λ count. by + count) new.arrivals.items in
      ap (λ xs. machine_of old.memory.items old.holders.items xs old.spots.items) (sym counts_are)
      ∙ ap (λ xs. machine_of xs old.holders.items counts old.spots.items) (sym memory)
      ∙ ap (λ xs. machine_of new.memory.items xs counts old.spots.items) (sym holders)
      ∙ ap (λ xs. machine_of new.memory.items new.holders.items counts xs) (sym spots)

  pub fresh_after : IsFresh flat key after
  fresh_after = record {
    renewed = record { count = by; departed = departed; is = machine_is; known = known };
    valid = record {
      memory = ap length memory ∙ valid.memory;
      holders = ap (λ (xs : List (Option ℕ)). length xs) holders ∙ valid.holders;
      arrivals = ap (λ (xs : List ℕ). length xs) arrivals ∙ length-map key.state.arrivals.items (λ count. count - by) ∙ valid.arrivals;
      spots = ap (λ (xs : List Spot). length xs) spots ∙ valid.spots;
      numbers = ap (map (λ (spot : Spot). spot.me)) spots ∙ valid.numbers;
      within = subst (All (λ (spot : Spot). spot.place ≤ length flat.code.now)) (sym spots) valid.within;
      blank = subst (All (λ (spot : Spot). spot.stopped ≡ true → spot ≡ spot_stopped spot.me)) (sym spots) valid.blank;
    };
    notes = notes;
  }
