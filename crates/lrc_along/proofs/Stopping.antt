-- Where a run along an order begins, and where it stops.
use Rattle.std.proofs.Common.{◌≡◌, ◌∙◌, ◌⊎◌, ◌++◌, ℕ, zero, suc, Bool, true, false, List, [], ◌∷◌, Option, Some, None, inl, inr, refl, sym, ap, ap₂, subst, length, map, append-nil, append_assoc, arith}
use Rattle.std.specs.Prelude.{option_map, position, slice_get, if◌then◌else◌}
use Rattle.std.specs.List.{range_with_len}
use Rattle.std.proofs.lemmas.Option.{same_Some, slice_get_cases}
use Rattle.lrc_program.specs.declared.Program.{Program}
use Rattle.lrc_trace.specs.declared.act.Act.{Act}
use Rattle.lrc_protocol.specs.declared.event.Event.{Event}
use Rattle.lrc_protocol.specs.declared.event.Event.TheVariants as events
use Rattle.lrc_protocol.specs.Node.{Node, OptionsRecord, fresh_node}
use Rattle.lrc_protocol.specs.Run.{World, event_on, fresh_world, run_of}
use Rattle.lrc_along.proofs.Events.{all_before, one_before}
use Rattle.lrc_along.proofs.Onward.{onward}
use Rattle.lrc_along.specs.Along.{AreDue, BeginsInTurn, IsAlong, NoneDue, Stops, alone, done, elsewhere, unready}
use Rattle.lrc_along.specs.Due.{IsAtTurn, IsDue, envelopes_in, has_begun, is_midway, is_ready_at, may_come, needs_message}

-- ---- where a run along an order stops

module _ (program : Program) (nodes : ℕ) (order : List Act) (world : World) where
  none_for : (act : Act) → IsAtTurn program nodes order world.acts act → (needs ready : Bool) → needs_message world act ≡ needs
      → is_ready_at world act.node ≡ ready
      → (if needs then option_map events.Deliver (position (may_come act.node) (envelopes_in world)) else (if ready then Some (events.Run act.node) else None)) ≡ None
      → Stops program nodes order world
  none_for act turn true ready needs is none = by_place (position (may_come act.node) (envelopes_in world)) refl none
    where
      by_place : (o : Option ℕ) → position (may_come act.node) (envelopes_in world) ≡ o → option_map events.Deliver o ≡ None → Stops program nodes order world
      by_place None at e = alone act turn needs at
      by_place (Some place) at e = cc
  none_for act turn false true needs is none = cc
  none_for act turn false false needs is none = unready act turn needs is

  pub stops_so : IsAlong program nodes order world.acts → NoneDue program nodes order world → Stops program nodes order world
  stops_so along (inr none) =
      none_for none.0 none.1 (needs_message world none.0) (is_ready_at world none.0.node) refl refl none.2
  stops_so along (inl none) = elim (slice_get_cases order (length world.acts)).1 [
    | inl some ↦ elsewhere some.0 some.2 (none some.0)
    | inr past ↦ let so : length world.acts ≡ length order = omega (arith, past.0, along.within) in done so
  ]

-- ---- along the order

split_last : {X : Type 0} (xs before : List X) (x y : X) (after : List X) → xs ++ x ∷ [] ≡ before ++ y ∷ after
    → ((before ≡ xs) × (y ≡ x)) ⊎ ((rest : List X) × (xs ≡ before ++ y ∷ rest))
split_last [] [] x y after is = let same : y ≡ x = cc in inl (refl, same)
split_last [] (b ∷ []) x y after is = let never : [] ≡ y ∷ after = cc in cc
split_last [] (b ∷ c ∷ before) x y after is = let never : [] ≡ c ∷ before ++ y ∷ after = cc in cc
split_last (z ∷ xs) [] x y after is = let same : z ≡ y = cc in inr (xs, ap (λ w. w ∷ xs) same)
split_last (z ∷ xs) (b ∷ before) x y after is =
    let first : z ≡ b = cc in
    let others : xs ++ x ∷ [] ≡ before ++ y ∷ after = cc in
    elim (split_last xs before x y after others) [
      | inl same ↦ inl (ap₂ (λ w ws. w ∷ ws) (sym first) same.0, same.1)
      | inr more ↦ inr (more.0, ap₂ (λ w ws. w ∷ ws) first more.1)
    ]

module _ (program : Program) (nodes : ℕ) (options : OptionsRecord) (order : List Act) where
  pub due_more : (es : List Event) (event : Event) → AreDue program nodes options order es
      → ((world : World) → run_of program nodes options es ≡ Some world → IsDue program nodes order world event)
      → AreDue program nodes options order (es ++ event ∷ [])
  due_more es event due last before after e world is runs = elim (split_last es before event e after is) [
    | inl same ↦ subst (IsDue program nodes order world) (sym same.1) (last world (ap (run_of program nodes options) (sym same.0) ∙ runs))
    | inr more ↦ due before more.0 e world more.1 runs
  ]

-- ---- the beginning

-- at the beginning no node has begun an act
none_begun : (f : ℕ → Node) → ((n : ℕ) → is_midway (f n).mail.wait ≡ false) → (ns : List ℕ) (k : ℕ)
    → has_begun (slice_get (map (λ (node : Node). record { node = node; log = [] }) (map f ns)) k) ≡ true → ⊥
none_begun f idle [] k h = cc
none_begun f idle (n ∷ ns) zero h = let never : false ≡ true = sym (idle n) ∙ h in cc
none_begun f idle (n ∷ ns) (suc k) h = none_begun f idle ns k h

no_events : (before : List Event) (event : Event) (after : List Event) → [] ≡ before ++ event ∷ after → ⊥
no_events [] event after is = cc
no_events (x ∷ before) event after is = cc

module _ (program : Program) (nodes : ℕ) (options : OptionsRecord) (order : List Act) where
  -- before any event none is due, no act is made, and none is begun
  pub none_due : AreDue program nodes options order []
  none_due before after event world split runs = absurd (no_events before event after split)

  pub none_made : IsAlong program nodes order (fresh_world program nodes options).acts
  none_made = record { within = omega arith; deeds = refl; statements = refl }

  pub none_begun_there : BeginsInTurn program nodes order (fresh_world program nodes options)
  none_begun_there node h = absurd (none_begun (fresh_node program nodes options) (λ n. refl) (range_with_len 0 nodes) node h)

-- ---- from the beginning on

module _ (program : Program) (nodes : ℕ) (options : OptionsRecord) (order : List Act) where
  goes_along : (rest before : List Event) (world end : World) → run_of program nodes options before ≡ Some world
      → IsAlong program nodes order world.acts → BeginsInTurn program nodes order world → AreDue program nodes options order (before ++ rest)
      → run_of program nodes options (before ++ rest) ≡ Some end → IsAlong program nodes order end.acts × BeginsInTurn program nodes order end
  goes_along [] before world end runs so_far begun due goes =
      let same : world ≡ end = same_Some world end (sym runs ∙ sym (ap (run_of program nodes options) (append-nil before)) ∙ goes) in
      subst (λ (w : World). IsAlong program nodes order w.acts × BeginsInTurn program nodes order w) same (so_far, begun)
  goes_along (event ∷ rest) before world end runs so_far begun due goes =
      let split : (before ++ event ∷ []) ++ rest ≡ before ++ event ∷ rest = append_assoc before (event ∷ []) rest in
      let next = all_before program nodes options (before ++ event ∷ []) rest end (ap (run_of program nodes options) split ∙ goes) in
      let b = one_before program nodes options before event next.0 next.1 in
      let same : b.0 ≡ world = same_Some b.0 world (sym b.1 ∙ runs) in
      let e = subst (λ w. event_on w event ≡ Some next.0) same b.2 in
      let on = onward program nodes options order before world runs so_far begun event next.0 (due before rest event world refl runs) e next.1 in
      goes_along rest (before ++ event ∷ []) next.0 end next.1 on.so_far_is on.begun_is (subst (AreDue program nodes options order) (sym split) due)
      (ap (run_of program nodes options) split ∙ goes)

  pub all_along : (events : List Event) (world : World) → run_of program nodes options events ≡ Some world → AreDue program nodes options order events
      → IsAlong program nodes order world.acts × BeginsInTurn program nodes order world
  all_along events world runs due =
      goes_along events [] (fresh_world program nodes options) world refl (none_made program nodes options order)
      (none_begun_there program nodes options order) due runs
