-- By acts that are no read, write or acquire: such an act is made before a step of another node, or after it.
use Rattle.std.proofs.Common.{◌≡◌, ℕ, zero, suc, ◌+◌, List, [], ◌∷◌, ◌⊎◌, inl, inr, true, false, refl, sym, ap, ◌∙◌, subst, arith}
use Rattle.std.specs.Prelude.{Option, Some, None}
use Rattle.std.specs.List.{range_with_len}
use Rattle.std.proofs.lemmas.Bool.{cases_eq}
use Rattle.std.proofs.lemmas.Option.{some_pair_parts}
use Rattle.lrc_trace.specs.declared.act.Act.{Act}
use Rattle.lrc_trace.specs.declared.act.Deed.{Deed}
use Rattle.lrc_trace.specs.declared.act.Deed.TheVariants.{Depart}
use Rattle.lrc_trace.specs.Run.{act_of}
use Rattle.lrc_exec.specs.Meaning.{Thread, Next}
use Rattle.lrc_exec.specs.Plain.{Plain, thread_in, plain_step, plain_from}
use Rattle.lrc_exec.specs.Follows.{Goes, quietly, printing, reading, writing, acquiring, releasing, arriving, departing, trapping, ending}
use Rattle.lrc_consistency_laws.proofs.Plainly.{one_more}
use Rattle.lrc_orders.specs.Stuck.{IsAtRest}
use Rattle.lrc_orders_laws.specs.Free.{is_contended, is_free}
use Rattle.lrc_orders_laws.specs.Settling.{Settles, settled, settling}
use Rattle.lrc_orders_laws.specs.Steps.{waits_in}
use Rattle.lrc_orders_laws.proofs.Parts.{stepped}
use Rattle.lrc_orders_laws.proofs.Held.{Held, held_after}
use Rattle.lrc_orders_laws.proofs.Diamond.{diamond, true_is_false}
use Rattle.lrc_orders_laws.proofs.Finishing.{free_steady}
use Rattle.lrc_orders_laws.proofs.Settle.{settling_free}
use Rattle.lrc_orders_laws.proofs.Aligned.{AtBarrier, aligned_past, at_barrier, depart_step}

-- acts that are no read, write or acquire lead from one state to another
pub data Steadily : Plain → Plain → Type 0 where
  here : (machine : Plain) → Steadily machine machine
  on : (machine mid final : Plain) (node : ℕ) (deed : Deed) → is_contended deed ≡ false → plain_step machine node ≡ Some (deed, mid)
      → Steadily mid final → Steadily machine final

pub steadily_on : {a b c : Plain} → Steadily a b → Steadily b c → Steadily a c
steadily_on (here machine) s = s
steadily_on {c = c} (on machine mid final node deed steady step more) s = on machine mid c node deed steady step (steadily_on more s)

pub settles_steadily : {machine there : Plain} {acts : List Act} → Settles machine acts there → Steadily machine there
settles_steadily (settled machine is) = here machine
settles_steadily (settling machine after there node deed acts next step more) =
    let s = stepped machine node deed after step in
    on machine after there node deed (free_steady s.took.goes (settling_free next s)) step (settles_steadily more)

-- an order that leads from one state to another
pub record LedTo (machine there : Plain) : Type 0 where
  pub order : List ℕ
  pub acts : List Act
  pub led : plain_from machine order ≡ Some (acts, there)

pub steadily_led : {machine there : Plain} → Steadily machine there → LedTo machine there
steadily_led (here machine) = record { order = []; acts = []; led = refl }
steadily_led (on machine mid there node deed steady step more) =
    let rest = steadily_led more in
    record {
      order = node ∷ rest.order;
      acts = act_of node deed ∷ rest.acts;
      led = one_more machine mid there node deed rest.order rest.acts step rest.led;
    }

none_made : (made : Deed × Plain) → ◌≡◌ {A = Option (Deed × Plain)} None (Some made) → ⊥
none_made made e = cc

pub rest_steadily : {machine there : Plain} → Steadily machine there → IsAtRest machine → machine ≡ there
rest_steadily (here machine) still = refl
rest_steadily (on machine mid there node deed steady step more) still =
    absurd (none_made (deed, mid) (sym (still node) ∙ step))

-- ---- aside

-- a step from where a way begins is still to come at its end, and both ways meet behind it
pub record StillToCome (machine after final : Plain) (node : ℕ) (deed : Deed) : Type 0 where
  pub there : Plain
  pub step : plain_step final node ≡ Some (deed, there)
  pub steadily : Steadily after there
  pub own : thread_in final node ≡ thread_in machine node

-- a step from where a way begins is one of the way, or it is still to come at its end
pub aside : {machine final : Plain} → Steadily machine final → Held machine → (node : ℕ) (deed : Deed) (after : Plain)
    → plain_step machine node ≡ Some (deed, after) → Steadily after final ⊎ StillToCome machine after final node deed
aside (here machine) held node deed after step = inr (record { there = after; step = step; steadily = here after; own = refl })
aside (on machine mid final other made steady first more) held node deed after step = elim (cases_eq other node) [
  | inl same ↦
      let both = some_pair_parts made deed mid after (sym first ∙ ap (plain_step machine) same ∙ step) in
      inl (subst (λ m. Steadily m final) both.1 more)
  | inr apart ↦
      let one = stepped machine other made mid first in
      let its = stepped machine node deed after step in
      let d = diamond machine held other node apart made deed mid after one its steady in
      elim (aside more (held_after machine held other made mid one) node deed d.far d.first_then) [
        | inl over ↦ inl (on after d.far final other made steady d.second_then over)
        | inr still ↦ inr (record {
          there = still.there;
          step = still.step;
          steadily = on after d.far still.there other made steady d.second_then still.steadily;
          own = still.own ∙ one.others node (λ e. apart (sym e));
        })
      ]
]

-- ---- a barrier

pub record HaveDeparted (machine : Plain) (place many long count : ℕ) : Type 0 where
  pub there : Plain
  pub departs : List Act
  pub led : plain_from machine (range_with_len place many) ≡ Some (departs, there)
  pub steadily : Steadily machine there
  pub barrier : AtBarrier there count long long

-- the nodes from a place on depart
pub all_depart : (many place long count : ℕ) → place + many ≡ long → (machine : Plain) → AtBarrier machine count place long
    → HaveDeparted machine place many long count
all_depart zero place long count sum machine b =
    let e : place ≡ long = omega (arith, sum) in
    record {
      there = machine;
      departs = [];
      led = refl;
      steadily = here machine;
      barrier = subst (λ k. AtBarrier machine count k long) e b;
    }
all_depart (suc many) place long count sum machine b =
    let d = depart_step machine count place long b (omega (arith, sum)) in
    let rest = all_depart many (place + 1) long count (omega (arith, sum)) d.after d.barrier in
    record {
      there = rest.there;
      departs = act_of place Depart ∷ rest.departs;
      led = one_more machine d.after rest.there place Depart (range_with_len (place + 1) many) rest.departs d.step rest.led;
      steadily = on machine d.after rest.there place Depart refl d.step rest.steadily;
      barrier = rest.barrier;
    }

-- past a barrier no node departs
pub nobody_departs : (machine after : Plain) (node long count : ℕ) (deed : Deed) → AtBarrier machine count long long
    → plain_step machine node ≡ Some (deed, after) → deed ≡ Depart → ⊥
nobody_departs machine after node long count deed b step is =
    let s = stepped machine node deed after step in
    let all = at_barrier machine b.held (aligned_past machine count long b) node after deed s is in
    let waits = all.waits node (omega arith) s.within in
    let gone = b.gone node s.thread (let size = b.size in let within = s.within in omega (arith, size, within)) s.there in
    true_is_false s.thread.arrived (sym (ap waits_in s.there) ∙ waits) gone

-- what is no read, write or acquire is free, or a depart
pub free_or_depart : {next : Next} {deed : Deed} {new : Option Thread} → Goes next deed new → is_contended deed ≡ false
    → (is_free next ≡ true) ⊎ (deed ≡ Depart)
free_or_depart quietly e = inl refl
free_or_depart printing e = inl refl
free_or_depart reading e = true_is_false true refl e
free_or_depart writing e = true_is_false true refl e
free_or_depart acquiring e = true_is_false true refl e
free_or_depart releasing e = inl refl
free_or_depart arriving e = inl refl
free_or_depart departing e = inr refl
free_or_depart trapping e = inl refl
free_or_depart ending e = inl refl
