-- Steps that were taken.
use Rattle.std.proofs.Common.{◌≡◌, ℕ, ◌+◌, ◌-◌, ◌^◌, ◌<◌, ◌≤◌, List, [], ◌∷◌, ◌++◌, ◌⊎◌, inl, inr, Bool, true, false, length, get_or, map, refl, sym, subst, ◌∙◌, ap, arith, append_assoc}
use Rattle.std.specs.Prelude.{Option, Some, slice_index, if◌then◌else◌}
use Rattle.std.specs.List.{range_with_len}
use Rattle.std.proofs.lemmas.Bool.{cases_lt}
use Rattle.std.proofs.lemmas.List.{get_or-map, length-map, get_or_past}
use Rattle.lrc_trace.specs.declared.act.Act.{Act}
use Rattle.lrc_trace.specs.declared.act.Deed.{Deed}
use Rattle.lrc_trace.specs.Run.{act_of}
use Rattle.lrc_exec.specs.declared.spot.Flat.{Flat}
use Rattle.lrc_exec.specs.declared.spot.Spot.{Spot}
use Rattle.lrc_exec.specs.Meaning.{Thread}
use Rattle.lrc_exec.specs.Plain.{Plain, thread_in, plain_step}
use Rattle.lrc_consistency_laws.proofs.Plainly.{one_more}
use Rattle.lrc_exec.specs.declared.state.State.{State}
use Rattle.lrc_exec.specs.States.{plain_at}
use Rattle.lrc_orders_laws.specs.Free.{is_contended, is_free_in, TurnsIn}
use Rattle.lrc_orders_laws.specs.Settling.{IsSettled, IsSettledAt}
use Rattle.lrc_orders_laws.specs.Steps.{AllWait}
use Rattle.lrc_orders_laws.proofs.Parts.{stepped}
use Rattle.lrc_orders_settling.specs.Settling.{MakesFree}
use Rattle.lrc_orders_settling.specs.declared.step.Step.TheVariants.{Alone, Together}
use Rattle.lrc_orders_settling.specs.Gone.{HasSettled}
use Rattle.lrc_orders_settling.specs.Taking.{count_of, ComputesLong, HasTaken, HaveDeparted, IsCounted, alone, together}

few : (b : Bool) (n : ℕ) → n ≡ (if b then 1 else 0) → n < 2 ^ 64 - 1
few true n e = omega (arith, e)
few false n e = omega (arith, e)

-- there is room for one arrive more
pub counted_room : (state : State) → IsCounted state → (node : ℕ) → slice_index state.arrivals.items node < 2 ^ 64 - 1
counted_room state counted node = at state.spots.items
    (ap (λ l. slice_index l node) counted)
  where
    at : (spots : List Spot) → slice_index state.arrivals.items node ≡ slice_index (map count_of spots) node → slice_index state.arrivals.items node < 2 ^ 64 - 1
    at [] e = omega (arith, e, get_or_past (map count_of []) node 0 (omega arith))
    at (x ∷ spots) e = elim (cases_lt node (length (x ∷ spots))) [
      | inl lt ↦
          few (get_or (x ∷ spots) node x).arrived (slice_index state.arrivals.items node) (e ∙ get_or-map count_of (x ∷ spots) node x 0 lt)
      | inr le ↦
          omega (arith, e, get_or_past (map count_of (x ∷ spots)) node 0 (omega (arith, le, length-map (x ∷ spots) count_of)))
    ]

-- after one node's step the others are settled
pub others_settled : (machine mid : Plain) (node : ℕ) (deed : Deed) → IsSettled machine → plain_step machine node ≡ Some (deed, mid)
    → (k : ℕ) → (k < node) ⊎ (node + 1 ≤ k) → IsSettledAt mid k
others_settled machine mid node deed is step k apart =
    let s = stepped machine node deed mid step in
    subst (λ (o : Option Thread). is_free_in o ≡ true → TurnsIn o) (sym (s.others k (elim apart [
      | inl lt ↦ λ e. absurd (omega (arith, lt, e))
      | inr le ↦ λ e. absurd (omega (arith, le, e))
    ]))) (is.each k)

module _ (flat : Flat) (old mid new : State) (before between after : List Act) where
  pub taken_alone : (node : ℕ) (deed : Deed) → is_contended deed ≡ true → plain_step (plain_at flat old) node ≡ Some (deed, plain_at flat mid)
      → between ≡ before ++ act_of node deed ∷ [] → HasSettled flat mid new between after → HasTaken flat old (Alone node) new before after
  taken_alone node deed kind step put s = record {
    acts = act_of node deed ∷ s.acts;
    takes = record {
      there = s.settles.there;
      takes = alone (plain_at flat old) (plain_at flat mid) s.settles.there node deed s.acts kind step s.settles.settles;
      alike = s.settles.alike;
    };
    made = s.made ∙ ap (λ l. l ++ s.acts) put ∙ append_assoc before (act_of node deed ∷ []) s.acts;
  }

  pub taken_together : AllWait (plain_at flat old) → HaveDeparted flat old mid before between → HasSettled flat mid new between after
      → HasTaken flat old Together new before after
  taken_together wait d s = record {
    acts = d.departs ++ s.acts;
    takes = record {
      there = s.settles.there;
      takes = together (plain_at flat old) (plain_at flat mid) s.settles.there d.departs s.acts wait d.led s.settles.settles;
      alike = s.settles.alike;
    };
    made = s.made ∙ ap (λ l. l ++ s.acts) d.made ∙ append_assoc before d.departs s.acts;
  }

pub long_alone : (machine mid : Plain) (node : ℕ) (deed : Deed) (most : ℕ) → plain_step machine node ≡ Some (deed, mid)
    → (k : ℕ) × MakesFree most (thread_in mid k) → ComputesLong machine most
long_alone machine mid node deed most step makes = record {
  order = node ∷ [];
  acts = act_of node deed ∷ [];
  there = mid;
  led = one_more machine mid mid node deed [] [] step refl;
  node = makes.0;
  makes = makes.1;
}

pub long_together : (flat : Flat) (old mid : State) (before between : List Act) (most : ℕ) → HaveDeparted flat old mid before between
    → (k : ℕ) × MakesFree most (thread_in (plain_at flat mid) k) → ComputesLong (plain_at flat old) most
long_together flat old mid before between most d makes = record {
  order = range_with_len 0 (length (plain_at flat old).threads);
  acts = d.departs;
  there = plain_at flat mid;
  led = d.led;
  node = makes.0;
  makes = makes.1;
}
