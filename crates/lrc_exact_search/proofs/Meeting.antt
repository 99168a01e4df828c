-- Runs that are met, and put to those that were met before, and outcomes that are gathered.
use Rattle.std.proofs.Common.{◌≡◌, ℕ, zero, suc, ◌+◌, ◌<◌, ◌≤◌, List, [], ◌∷◌, ◌++◌, length, take, Bool, true, false, inl, inr, sym, subst, ◌∙◌, ap, arith}
use Rattle.std.specs.Prelude.{Err, Ok, OnOk, Option, Result, Some, None, if◌then◌else◌, slice_get}
use Rattle.std.specs.List.{IsDistinct}
use Rattle.std.proofs.lemmas.Bool.{cases_eq, cases_lt}
use Rattle.std.proofs.lemmas.List.{length-append, length_push, take-append-le}
use Rattle.std.proofs.lemmas.Option.{same_Some, slice_get_within}
use Rattle.lrc_program.specs.declared.Program.{Program}
use Rattle.lrc_trace.specs.declared.act.Act.{Act}
use Rattle.lrc_trace.proofs.Positions.{slice_get-front, slice_get-seam}
use Rattle.lrc_orders.specs.declared.outcomes.Outcome.{Outcome}
use Rattle.lrc_orders.specs.Kept.{Grows}
use Rattle.lrc_orders.specs.Outcome.{HasOutcome}
use Rattle.lrc_orders.proofs.Gathering.{put_all}
use Rattle.lrc_orders.proofs.Keeping.{stands_on as stays, put_grows, item_at}
use Rattle.lrc_exact.specs.Rule.{Shape}
use Rattle.lrc_exact_laws.specs.Laws.{IsExactRun}
use Rattle.lrc_exact_search.specs.declared.search.Met.{Met}
use Rattle.lrc_exact_search.specs.contracts.search.MetPartialEq.TheImpl.{eq-value}
use Rattle.lrc_exact_search.specs.Searching.{acts_in, AreInOrder, AreRunsOf, AreSearched, GoesOn, further, parts, endless, IsEndedExactRun, IsMet, IsSearched, Parts}

-- what follows where it is needed only after a success
pub on_ok : {E A : Type 0} {P Q : Type 0} (r : Result A E) → (P → Q) → OnOk r P → OnOk r Q
on_ok (Ok x) f p = f p
on_ok (Err e) f p = p

-- ---- runs

pub met_on : {old new : List Met} {acts : List Act} → Grows old new → IsMet old acts → IsMet new acts
met_on g m = record { place = m.place; met = m.met; there = stays m.place m.met g m.there; same = m.same }

pub has_on : {old new : List Outcome} {notes : List Act} → Grows old new → HasOutcome old notes → HasOutcome new notes
has_on g o = record { place = o.place; outcome = o.outcome; there = stays o.place o.outcome g o.there; same = o.same }

module _ (program : Program) (shape : Shape) where
  pub more_in_order : (old new : List Met) (met : Met) (b : Bool) → AreInOrder program shape old → new ≡ (if b then old else old ++ met ∷ [])
      → IsExactRun program shape met.acts.items → IsDistinct eq-value.it new → AreInOrder program shape new
  more_in_order old new met b order put exact distinct = record {
    exact = put_all (λ k (x : Met). IsExactRun program shape x.acts.items) b old new met put order.exact exact;
    distinct = distinct;
    begun = met_on (put_grows b old new met put) order.begun;
  }

  pub first_in_order : (old new : List Met) (met : Met) (b : Bool) → old ≡ [] → new ≡ (if b then old else old ++ met ∷ []) → IsMet new []
      → IsExactRun program shape met.acts.items → IsDistinct eq-value.it new → AreInOrder program shape new
  first_in_order old new met b none put begun exact distinct = record {
    exact = put_all (λ k (x : Met). IsExactRun program shape x.acts.items) b old new met put
        (λ k x at. let never : ◌≡◌ {A = Option Met} None (Some x) = ap (λ l. slice_get l k) (sym none) ∙ at in cc) exact;
    distinct = distinct;
    begun = begun;
  }

  -- what was looked at stays so
  parts_on : {old new : List Met} {outcomes more : List Outcome} {acts : List Act} → Grows old new → Grows outcomes more
      → Parts program shape old outcomes acts → Parts program shape new more acts
  parts_on g h p = record {
    nexts = λ act longer. met_on g (p.nexts act longer);
    gathered = λ over. has_on h (p.gathered over);
  }

  goes_further : {old new : List Met} {outcomes more : List Outcome} {acts ahead : List Act} → Grows old new → Grows outcomes more
      → GoesOn program shape old outcomes acts ahead → GoesOn program shape new more acts ahead
  goes_further g h (further lt met) = further lt (met_on g met)
  goes_further g h (parts p) = parts (parts_on g h p)
  goes_further g h (endless e) = endless e

  pub searched_on : {old new : List Met} {outcomes more : List Outcome} {acts : List Act} → Grows old new → Grows outcomes more
      → IsSearched program shape old outcomes acts → IsSearched program shape new more acts
  searched_on g h s = record { ahead = s.ahead; goes = s.goes; then = goes_further g h s.then }

  -- and with one run more
  pub searched_more : (old new : List Met) (outcomes more : List Outcome) (place : ℕ) → Grows old new → Grows outcomes more → place < length old
      → AreSearched program shape old outcomes place
      → ((met : Met) → slice_get old place ≡ Some met → IsSearched program shape new more met.acts.items) → AreSearched program shape new more (place + 1)
  searched_more old new outcomes more place g h within before here k met lt at =
      let stood = item_at old k (omega (arith, lt, within)) in
      let same : stood.0 ≡ met = same_Some stood.0 met (sym (stays k stood.0 g stood.1) ∙ at) in
      elim (cases_eq k place) [
        | inl now ↦
            subst (λ (m : Met). IsSearched program shape new more m.acts.items) same (here stood.0 (ap (slice_get old) (sym now) ∙ stood.1))
        | inr other ↦
            subst (λ (m : Met). IsSearched program shape new more m.acts.items) same
            (searched_on g h (before k stood.0 (omega (arith, lt, other)) stood.1))
      ]

  -- ---- outcomes

  -- an outcome and its run are put to the others, or neither is
  pub runs_more : (old new : List Outcome) (outcome : Outcome) (b : Bool) (runs later : List Met) (met : Met) → new ≡ (if b then old else old ++ outcome ∷ [])
      → later ≡ (if b then runs else runs ++ met ∷ []) → IsEndedExactRun program shape outcome.notes.items met.acts.items
      → AreRunsOf program shape old runs → AreRunsOf program shape new later
  runs_more old new outcome true runs later met put put' ended sound =
      subst (λ os. AreRunsOf program shape os later) (sym put) (subst (AreRunsOf program shape old) (sym put') sound)
  runs_more old new outcome false runs later met put put' ended sound = record {
    many =
        let a = ap length put in
        let b = ap length put' in
        let c = length_push old outcome in
        let d = length_push runs met in
        let e = sound.many in
        omega (arith, a, b, c, d, e);
    each = λ place found at.
        let at' : slice_get (old ++ outcome ∷ []) place ≡ Some found = ap (λ l. slice_get l place) (sym put) ∙ at in
        let within = slice_get_within (old ++ outcome ∷ []) place found at' in
        let long = length_push old outcome in
        elim (cases_lt place (length old)) [
          | inl lt ↦
              let r = sound.each place found (sym (slice_get-front old (outcome ∷ []) place lt) ∙ at') in
              record { met = r.met; there = stays place r.met (record { more = met ∷ []; is = put' }) r.there; is = r.is }
          | inr le ↦
              let last : place ≡ length old = omega (arith, within, long, le) in
              let same : outcome ≡ found = same_Some outcome found (sym (slice_get-seam old outcome []) ∙ ap (slice_get (old ++ outcome ∷ [])) (sym last) ∙ at') in
              record {
                met = met;
                there =
                    ap (λ l. slice_get l place) put' ∙ ap (slice_get (runs ++ met ∷ [])) (last ∙ sym sound.many) ∙ slice_get-seam runs met [];
                is = subst (λ (o : Outcome). IsEndedExactRun program shape o.notes.items met.acts.items) same ended;
              }
        ];
  }

  pub no_runs : (outcomes : List Outcome) (runs : List Met) → outcomes ≡ [] → runs ≡ [] → AreRunsOf program shape outcomes runs
  no_runs outcomes runs none none' = record {
    many = ap length none' ∙ sym (ap length none);
    each = λ place outcome at.
        let never : ◌≡◌ {A = Option Outcome} None (Some outcome) = ap (λ l. slice_get l place) (sym none) ∙ at in
        cc;
  }

-- ---- how many acts there are

pub acts_front : (n : ℕ) (runs : List Met) → acts_in (take n runs) ≤ acts_in runs
acts_front zero runs = omega arith
acts_front (suc n) [] = omega arith
acts_front (suc n) (x ∷ runs) = let few = acts_front n runs in omega (arith, few)

pub acts_next : (n : ℕ) (runs : List Met) (met : Met) → slice_get runs n ≡ Some met → acts_in (take (suc n) runs) ≡ acts_in (take n runs) + length met.acts.items
acts_next n [] met at = let never : ⊥ = cc in absurd never
acts_next zero (x ∷ runs) met at = let same = same_Some x met at in let long = ap (λ (m : Met). length m.acts.items) same in omega (arith, long)
acts_next (suc n) (x ∷ runs) met at = let rest = acts_next n runs met at in omega (arith, rest)

pub acts_grown : {old new : List Met} → Grows old new → (n : ℕ) → n ≤ length old → acts_in (take n new) ≡ acts_in (take n old)
acts_grown {old} {new} g n le = ap (λ l. acts_in (take n l)) g.is ∙ ap acts_in (take-append-le n old g.more le)

pub counted_more : (old new : List Met) (place : ℕ) (met : Met) (few more : ℕ) → Grows old new → slice_get old place ≡ Some met
    → few ≤ acts_in (take place old) → more ≤ few + length met.acts.items → more ≤ acts_in (take (place + 1) new)
counted_more old new place met few more g at counted added =
    let within = slice_get_within old place met at in
    let step : acts_in (take (place + 1) old) ≡ acts_in (take (suc place) old) =
    ap (λ k. acts_in (take k old)) (let one : place + 1 ≡ suc place = omega arith in one) in
    let next = acts_next place old met at in
    let same = acts_grown g (place + 1) (omega (arith, within)) in
    omega (arith, counted, added, step, next, same)

pub grows_long : {A : Type 0} {old new : List A} → Grows old new → length old ≤ length new
grows_long {old = old} g = let long = ap length g.is ∙ length-append old g.more in omega (arith, long)
