-- Where all runs are looked at, the outcomes are exactly those of the exact runs.
use Rattle.std.proofs.Common.{◌≡◌, ℕ, zero, suc, ◌+◌, ◌<◌, ◌≤◌, List, [], ◌∷◌, ◌++◌, length, inl, inr, sym, subst, ◌∙◌, ap, arith, append_assoc}
use Rattle.std.specs.Prelude.{◌↔◌, ◌⊎◌}
use Rattle.std.proofs.lemmas.List.{append-nil, length_push}
use Rattle.std.proofs.lemmas.Option.{slice_get_within}
use Rattle.lrc_program.specs.declared.Program.{Program}
use Rattle.lrc_trace.specs.declared.act.Act.{Act}
use Rattle.lrc_trace.specs.Run.{act_of}
use Rattle.lrc_orders.specs.declared.outcomes.Outcome.{Outcome}
use Rattle.lrc_orders.specs.Notes.{notes_of}
use Rattle.lrc_orders.specs.Outcome.{HasOutcome}
use Rattle.lrc_lazy.specs.Lazy.{IsOver}
use Rattle.lrc_exact.specs.Rule.{Shape}
use Rattle.lrc_exact_laws.specs.Laws.{IsExactRun}
use Rattle.lrc_exact_outcomes.specs.Outcome.{IsExactOutcome}
use Rattle.lrc_exact_outcomes.proofs.Fronting.{in_front}
use Rattle.lrc_exact_outcomes.proofs.Running.{exact_front, may_come, one_deed}
use Rattle.lrc_exact_search.specs.declared.search.Met.{Met}
use Rattle.lrc_exact_search.specs.Run.{IsAhead, still, onward, IsEndless, IsFree}
use Rattle.lrc_exact_search.specs.Searching.{AreRunsOf, IsMet, Parts, GoesOn, further, parts, endless, IsSearched, AreSearched}

-- ---- what lies ahead of a run

pub ahead_long : {program : Program} {shape : Shape} {acts ahead : List Act} → IsAhead program shape acts ahead → length acts ≤ length ahead
ahead_long still = omega arith
ahead_long (onward {mid = mid} act before free) = let few = ahead_long before in let one = length_push mid act in omega (arith, few, one)

pub ahead_again : {program : Program} {shape : Shape} {acts mid ahead : List Act} → IsAhead program shape acts mid → IsAhead program shape mid ahead
    → IsAhead program shape acts ahead
ahead_again first still = first
ahead_again first (onward act before free) = onward act (ahead_again first before) free

pub ahead_exact : {program : Program} {shape : Shape} {acts ahead : List Act} → IsExactRun program shape acts → IsAhead program shape acts ahead
    → IsExactRun program shape ahead
ahead_exact run still = run
ahead_exact run (onward act before free) = free.longer

-- ---- what is found ahead of a run that was looked at, where acts in between led further

module _ {program : Program} {shape : Shape} {runs : List Met} {outcomes : List Outcome} {acts mid : List Act} (first : IsAhead program shape acts mid) where
  pub searched_endless : IsEndless program shape mid → IsSearched program shape runs outcomes acts
  searched_endless e = record { ahead = mid; goes = first; then = endless e }

  pub searched_further : {ahead : List Act} → IsAhead program shape mid ahead → length mid < length ahead → IsMet runs ahead
      → IsSearched program shape runs outcomes acts
  searched_further {ahead} goes lt met =
      let few = ahead_long first in
      record { ahead = ahead; goes = ahead_again first goes; then = further (omega (arith, few, lt)) met }

  pub searched_parts : {ahead : List Act} → IsAhead program shape mid ahead → Parts program shape runs outcomes ahead
      → IsSearched program shape runs outcomes acts
  searched_parts {ahead} goes p = record { ahead = ahead; goes = ahead_again first goes; then = parts p }

-- ---- runs that end

module _ (program : Program) (shape : Shape) (runs : List Met) (outcomes : List Outcome)
    (searched : AreSearched program shape runs outcomes (length runs)) where
  abbrev nodes : ℕ
  nodes = shape.nodes

  -- some run that goes on from these acts, in so many acts at most, and ends
  record Left (acts notes : List Act) (most : ℕ) : Type 0 where
    more : List Act
    run : IsExactRun program shape (acts ++ more)
    over : IsOver program nodes (acts ++ more)
    are : notes_of nodes (acts ++ more) ≡ notes
    few : length acts + length more ≤ most

  one_behind : (acts : List Act) (x : Act) (more : List Act) → acts ++ x ∷ more ≡ (acts ++ x ∷ []) ++ more
  one_behind acts x more = sym (append_assoc acts (x ∷ []) more)

  -- behind its next act
  left_behind : (acts : List Act) (x : Act) (more notes : List Act) (most : ℕ) → IsExactRun program shape (acts ++ x ∷ more)
      → IsOver program nodes (acts ++ x ∷ more) → notes_of nodes (acts ++ x ∷ more) ≡ notes → length acts + suc (length more) ≤ most
      → Left (acts ++ x ∷ []) notes most
  left_behind acts x more notes most run over are few =
      let is = one_behind acts x more in
      let long = length_push acts x in
      record {
        more = more;
        run = subst (IsExactRun program shape) is run;
        over = subst (IsOver program nodes) is over;
        are = ap (notes_of nodes) (sym is) ∙ are;
        few = omega (arith, few, long);
      }

  left_free : (acts : List Act) (act : Act) (notes : List Act) (most : ℕ) → IsFree program shape acts act → Left acts notes most
      → Left (acts ++ act ∷ []) notes most
  left_free acts act notes most free l =
      let f = in_front program shape act.node act.deed free.free l.more acts l.run l.over (may_come program shape acts act free.longer) in
      let other = act_of act.node f.other in
      let front = exact_front program shape (acts ++ other ∷ []) f.rest (subst (IsExactRun program shape) (one_behind acts other f.rest) f.run) in
      let same : f.other ≡ act.deed = one_deed program shape acts act.node f.other act.deed front free.longer in
      let is : other ≡ act = ap (λ d. act_of act.node d) same in
      let few = l.few in
      let shorter = f.shorter in
      subst (λ (x : Act). Left (acts ++ x ∷ []) notes most) is
      (left_behind acts other f.rest notes most f.run f.over (f.are ∙ l.are) (omega (arith, few, shorter)))

  left_ahead : (acts ahead notes : List Act) (most : ℕ) → IsAhead program shape acts ahead → Left acts notes most → Left ahead notes most
  left_ahead acts ahead notes most still l = l
  left_ahead acts ahead notes most (onward {mid = mid} act before free) l =
      left_free mid act notes most free (left_ahead acts mid notes most before l)

  -- a run that is met was looked at
  met_searched : (acts : List Act) → IsMet runs acts → IsSearched program shape runs outcomes acts
  met_searched acts m =
      subst (IsSearched program shape runs outcomes) m.same (searched m.place m.met (slice_get_within runs m.place m.met m.there) m.there)

  -- a run that was looked at goes on to one that was too, and is longer
  record Kept (acts notes : List Act) (most : ℕ) : Type 0 where
    later : List Act
    searched_too : IsSearched program shape runs outcomes later
    left : Left later notes most
    longer : length acts < length later

  part : (acts ahead notes : List Act) (most : ℕ) → length acts ≤ length ahead → Parts program shape runs outcomes ahead → (more : List Act)
      → IsExactRun program shape (ahead ++ more) → IsOver program nodes (ahead ++ more) → notes_of nodes (ahead ++ more) ≡ notes
      → length ahead + length more ≤ most → HasOutcome outcomes notes ⊎ Kept acts notes most
  part acts ahead notes most long p [] run over are few =
      let is = append-nil ahead in
      inl (subst (HasOutcome outcomes) (ap (notes_of nodes) (sym is) ∙ are) (p.gathered (subst (IsOver program nodes) is over)))
  part acts ahead notes most long p (x ∷ more) run over are few =
      let front = exact_front program shape (ahead ++ x ∷ []) more (subst (IsExactRun program shape) (one_behind ahead x more) run) in
      let one = length_push ahead x in
      inr (record {
        later = ahead ++ x ∷ [];
        searched_too = met_searched (ahead ++ x ∷ []) (p.nexts x front);
        left = left_behind ahead x more notes most run over are few;
        longer = omega (arith, long, one);
      })

  goes_on : (acts ahead notes : List Act) (most : ℕ) → length acts ≤ length ahead → GoesOn program shape runs outcomes acts ahead
      → Left ahead notes most → HasOutcome outcomes notes ⊎ Kept acts notes most
  goes_on acts ahead notes most long (further lt met) l =
      inr (record { later = ahead; searched_too = met_searched ahead met; left = l; longer = lt })
  goes_on acts ahead notes most long (parts p) l = part acts ahead notes most long p l.more l.run l.over l.are l.few
  goes_on acts ahead notes most long (endless e) l =
      let far = e (suc most) in
      let few = (left_ahead ahead far.0 notes most far.1 l).few in
      let many = far.2 in
      absurd (omega (arith, few, many))

  -- so each run that ends has an outcome that was gathered
  ends : (count : ℕ) (acts notes : List Act) (most : ℕ) → most ≤ length acts + count → IsSearched program shape runs outcomes acts
      → Left acts notes most → HasOutcome outcomes notes
  ends zero acts notes most le s l = elim (goes_on acts s.ahead notes most (ahead_long s.goes) s.then (left_ahead acts s.ahead notes most s.goes l)) [
    | inl has ↦ has
    | inr k ↦
        let few = k.left.few in
        let longer = k.longer in
        absurd (omega (arith, le, few, longer))
  ]
  ends (suc count) acts notes most le s l = elim (goes_on acts s.ahead notes most (ahead_long s.goes) s.then (left_ahead acts s.ahead notes most s.goes l)) [
    | inl has ↦ has
    | inr k ↦ let longer = k.longer in ends count k.later notes most (omega (arith, le, longer)) k.searched_too k.left
  ]

  has_outcome : IsMet runs [] → (notes : List Act) → IsExactOutcome program shape notes → HasOutcome outcomes notes
  has_outcome begun notes o =
      ends (length o.acts) [] notes (length o.acts) (omega arith) (met_searched [] begun)
      (record { more = o.acts; run = o.run; over = o.over; are = o.are; few = omega arith })

  pub exact : IsMet runs [] → (ended : List Met) → AreRunsOf program shape outcomes ended → (notes : List Act)
      → IsExactOutcome program shape notes ↔ HasOutcome outcomes notes
  exact begun ended sound notes = (
    has_outcome begun notes,
    λ has.
        let r = sound.each has.place has.outcome has.there in
        record { acts = r.met.acts.items; run = r.is.run; over = r.is.over; are = r.is.are ∙ has.same },
  )
