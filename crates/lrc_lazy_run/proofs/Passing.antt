-- Where all states were passed, no lazy run has the notes.
use Rattle.std.proofs.Common.{◌≡◌, ℕ, zero, suc, ◌+◌, ◌<◌, List, [], ◌∷◌, ◌++◌, length, inl, inr, refl, sym, subst, ◌∙◌, ap, arith}
use Rattle.std.specs.Prelude.{Some, slice_get}
use Rattle.std.proofs.lemmas.Bool.{cases_eq}
use Rattle.std.proofs.lemmas.List.{length_push}
use Rattle.std.proofs.lemmas.Option.{same_Some, slice_get_within}
use Rattle.lrc_program.specs.declared.Program.{Program}
use Rattle.lrc_trace.specs.declared.act.Act.{Act}
use Rattle.lrc_trace.specs.declared.act.Deed.{Deed}
use Rattle.lrc_trace.specs.Run.{act_of}
use Rattle.lrc_exec.specs.declared.spot.Flat.{Flat}
use Rattle.lrc_orders.specs.Kept.{Grows}
use Rattle.lrc_exec.specs.States.{plain_at}
use Rattle.lrc_orders.proofs.Keeping.{item_at, stands_on as stays}
use Rattle.lrc_lazy.specs.Lazy.{IsLazyRun, IsLazyOutcome}
use Rattle.lrc_lazy.specs.Standing.{CanMake}
use Rattle.lrc_lazy.proofs.Coming.{lazy_shorter}
use Rattle.lrc_lazy.proofs.Stepping.{can_make, none_there}
use Rattle.lrc_lazy_search.specs.declared.state.LazyState.{LazyState}
use Rattle.lrc_lazy_search.proofs.Adding.{key_on}
use Rattle.lrc_lazy_search.proofs.Same.{notes_same, stands_same}
use Rattle.lrc_lazy_run.specs.Ways.{ArePassed, BeginsThere, IsPassed, LeadsTo}
use Rattle.lrc_lazy_run.proofs.Leading.{leads_fresh, leads_on}

-- what was passed stays so
pub passed_on : {flat : Flat} {old new : List LazyState} {notes : List Act} {key : LazyState} → Grows old new → IsPassed flat old notes key → IsPassed flat new notes key
passed_on g p = record {
  next = λ node deed can. let n = p.next node deed can in record { after = n.after; steps = n.steps; left = n.left; fresh = n.fresh; has = key_on g n.has };
  other = p.other;
}

-- and one more is
pub passed_more : (flat : Flat) (old new : List LazyState) (notes : List Act) (place : ℕ) → Grows old new → place < length old → ArePassed flat old notes place
    → ((key : LazyState) → slice_get old place ≡ Some key → IsPassed flat new notes key) → ArePassed flat new notes (place + 1)
passed_more flat old new notes place g within before here k key lt at =
    let stood = item_at old k (omega (arith, lt, within)) in
    let same : stood.0 ≡ key = same_Some stood.0 key (sym (stays k stood.0 g stood.1) ∙ at) in
    elim (cases_eq k place) [
      | inl now ↦ subst (IsPassed flat new notes) same (here stood.0 (ap (slice_get old) (sym now) ∙ stood.1))
      | inr other ↦ subst (IsPassed flat new notes) same (passed_on g (before k stood.0 (omega (arith, lt, other)) stood.1))
    ]

-- a list that has an item ends in one
ends_in : (x : Act) (xs : List Act) → (ys : List Act) × (y : Act) × (x ∷ xs ≡ ys ++ y ∷ [])
ends_in x [] = ([], x, refl)
ends_in x (z ∷ zs) = let rest = ends_in z zs in (x ∷ rest.0, rest.1, ap (λ l. x ∷ l) rest.2)

module _ (program : Program) (flat : Flat) (words : flat.words ≡ program.words) (locks : flat.locks ≡ program.locks) (keys : List LazyState) (notes : List Act)
    (begun : BeginsThere program flat keys) (passed : ArePassed flat keys notes (length keys)) where
  -- the run leads to some state
  record Found (acts : List Act) : Type 0 where
    place : ℕ
    key : LazyState
    at : slice_get keys place ≡ Some key
    led : LeadsTo program flat acts key

  found_next : (acts : List Act) (node : ℕ) (deed : Deed) → Found acts → IsLazyRun program flat.nodes (acts ++ act_of node deed ∷ [])
      → Found (acts ++ act_of node deed ∷ [])
  found_next acts node deed f run =
      let p = passed f.place f.key (slice_get_within keys f.place f.key f.at) f.at in
      let can = can_make program flat.nodes acts (plain_at flat f.key.state) f.key.knowledge f.led.stands node deed run in
      let next = p.next node deed (subst (λ n. CanMake n (plain_at flat f.key.state) f.key.knowledge node deed) (sym words) can) in
      let led = leads_fresh program flat words locks (acts ++ act_of node deed ∷ []) next.after next.left
      (leads_on program flat words locks acts f.key next.after node deed f.led next.steps) next.fresh in
      record {
        place = next.has.place;
        key = next.has.stored;
        at = next.has.there;
        led = record {
          stands = stands_same program flat.nodes flat (acts ++ act_of node deed ∷ []) next.left next.has.stored next.has.same led.stands;
          noted = led.noted ∙ notes_same next.left next.has.stored next.has.same;
        };
      }

  found_all : (n : ℕ) (acts : List Act) → length acts ≡ n → IsLazyRun program flat.nodes acts → Found acts
  found_all n [] long run = record { place = 0; key = begun.first; at = begun.there; led = begun.led }
  found_all zero (x ∷ xs) long run = absurd (omega (arith, long))
  found_all (suc n) (x ∷ xs) long run =
      let split = ends_in x xs in
      let ys = split.0 in
      let y = split.1 in
      let here = subst (λ l. IsLazyRun program flat.nodes l) split.2 run in
      let count = length_push ys y in
      let total = ap length split.2 in
      subst Found (sym split.2)
      (found_next ys y.node y.deed (found_all n ys (omega (arith, count, total, long)) (lazy_shorter program flat.nodes ys y here)) here)

  pub none_has : ¬ IsLazyOutcome program flat.nodes notes
  none_has o =
      let f = found_all (length o.acts) o.acts refl o.run in
      let p = passed f.place f.key (slice_get_within keys f.place f.key f.at) f.at in
      p.other (λ node deed can.
      none_there program flat.nodes o.acts (plain_at flat f.key.state) f.key.knowledge f.led.stands o.over node deed
      (subst (λ n. CanMake n (plain_at flat f.key.state) f.key.knowledge node deed) words can)) (sym f.led.noted ∙ o.are)
