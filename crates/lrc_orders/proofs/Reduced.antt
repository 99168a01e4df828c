-- A run without what one of its accesses leads to: where the machine that leaves that out stands, beside the one that does not.
use Rattle.std.proofs.Common.{◌≡◌, ℕ, ◌+◌, ◌<◌, List, Bool, inl, inr, length, sym, subst, ◌∙◌, ap, arith}
use Rattle.std.specs.Prelude.{Option, None, slice_index, slice_index_or}
use Rattle.std.proofs.lemmas.Bool.{cases_eq}
use Rattle.std.proofs.lemmas.List.{length-set, get_or-set_other}
use Rattle.lrc_trace.specs.declared.act.Act.{Act}
use Rattle.lrc_trace.specs.declared.act.Deed.{Deed}
use Rattle.lrc_trace.specs.declared.act.Deed.TheVariants.{Write, Acquire, Release, Arrive}
use Rattle.lrc_trace.specs.Run.{Does, arrives_before}
use Rattle.lrc_trace.specs.Order.{Precedes, program, HappensBefore, base, further, Reaches}
use Rattle.lrc_trace.proofs.Positions.{Does-node, Does-deed, Does-one_node, Does-one_deed}
use Rattle.lrc_exec.specs.Meaning.{Thread}
use Rattle.lrc_exec.specs.Plain.{Plain, thread_in}
use Rattle.lrc_consistency_laws.specs.Matching.{Matches}
use Rattle.lrc_orders.specs.Meeting.{next_access_in, next_access}
use Rattle.lrc_orders.proofs.Effects.{after_of, set_alike, length-memory, length-holders, length-arrivals, memory_alike, holders_alike, arrivals_alike}
use Rattle.lrc_orders.proofs.Effects.{memory_other, holders_other, arrivals_other, arrival_counted, arrivals_rise}

-- a chain goes on by one step more
pub reaches_on : {run : List Act} {i x k : ℕ} → Reaches run i x → Precedes run x k → HappensBefore run i k
reaches_on {run} {i} {x} {k} (inl e) step = base (subst (λ y. Precedes run y k) (sym e) step)
reaches_on (inr h) step = further h step

module _ (run : List Act) (i : ℕ) where
  -- before position k, none of the node's acts is the access or comes after it
  abbrev pub Clean : ℕ → ℕ → Type 0
  Clean k node = (x : ℕ) (d : Deed) → x < k → Does run x node d → Reaches run i x → ⊥

  -- no such act writes the word,
  abbrev pub Unwritten : ℕ → ℕ → Type 0
  Unwritten k w = (x n v : ℕ) → x < k → Does run x n (Write w v) → Reaches run i x → ⊥

  -- and none gets the lock or gives it back
  pub record Unlocked (k l : ℕ) : Type 0 where
    pub got : (x n : ℕ) → x < k → Does run x n (Acquire l) → Reaches run i x → ⊥
    pub given : (x n : ℕ) → x < k → Does run x n (Release l) → Reaches run i x → ⊥

  module _ (p : ℕ) (access : Option (ℕ × Bool)) where
    -- `whole` is the machine before position k of the run, and `part` the one that has left those acts out: they are alike
    -- but for what those acts did, and the node of the access waits before it
    pub record Reduced (k : ℕ) (whole part : Plain) : Type 0 where
      pub threads : (n : ℕ) → Clean k n → thread_in part n ≡ thread_in whole n
      pub memory : (w : ℕ) → Unwritten k w → slice_index part.memory w ≡ slice_index whole.memory w
      pub holders : (l : ℕ) → Unlocked k l → slice_index_or part.holders l None ≡ slice_index_or whole.holders l None
      pub arrivals : (n : ℕ) → Clean k n → slice_index part.arrivals n ≡ slice_index whole.arrivals n
      pub arrived : (x n : ℕ) → x < k → Does run x n Arrive → (Reaches run i x → ⊥) → arrives_before run n x < slice_index part.arrivals n
      pub waits : i < k → next_access part p ≡ access
      pub threads_long : length part.threads ≡ length whole.threads
      pub memory_long : length part.memory ≡ length whole.memory
      pub holders_long : length part.holders ≡ length whole.holders
      pub arrivals_long : length part.arrivals ≡ length whole.arrivals

    -- an act that is left out
    module _ (k node : ℕ) (d : Deed) (here : Does run k node d) (whole part : Plain) (r : Reduced k whole part) where
      pub skipped : (t : Option Thread) → Reaches run i k → (i ≡ k → next_access part p ≡ access) → Reduced (k + 1) (after_of whole node d t) part
      skipped t tainted waits =
          let apart : (n : ℕ) → Clean (k + 1) n → n ≡ node → ⊥ = λ n clean e. clean k d (omega arith) (Does-node (sym e) here) tainted in
          record {
            threads = λ n clean.
                r.threads n (λ x e lt. clean x e (omega arith))
                ∙ sym (get_or-set_other whole.threads node n t None (apart n clean));
            memory = λ w clean.
                r.memory w (λ x n v lt. clean x n v (omega arith))
                ∙ sym (memory_other d w whole.memory (λ v e. clean k node v (omega arith) (Does-deed e here) tainted));
            holders = λ l clean.
                r.holders l (record { got = λ x n lt. clean.got x n (omega arith); given = λ x n lt. clean.given x n (omega arith) })
                ∙ sym (holders_other node d l whole.holders (λ e. clean.got k node (omega arith) (Does-deed e here) tainted)
                (λ e. clean.given k node (omega arith) (Does-deed e here) tainted));
            arrivals = λ n clean.
                r.arrivals n (λ x e lt. clean x e (omega arith)) ∙ sym (arrivals_other node d n whole.arrivals (apart n clean));
            arrived = λ x n lt does kept. elim (cases_eq x k) [
              | inl same ↦ absurd (kept (subst (λ y. Reaches run i y) (sym same) tainted))
              | inr other ↦ r.arrived x n (omega arith) does kept
            ];
            waits = λ lt. elim (cases_eq i k) [
              | inl same ↦ waits same
              | inr other ↦ r.waits (omega arith)
            ];
            threads_long = r.threads_long ∙ sym (length-set whole.threads node t);
            memory_long = r.memory_long ∙ sym (length-memory d whole.memory);
            holders_long = r.holders_long ∙ sym (length-holders node d whole.holders);
            arrivals_long = r.arrivals_long ∙ sym (length-arrivals node d whole.arrivals);
          }

      -- an act that is kept
      module _ (kept : Reaches run i k → ⊥) where
        -- its node has done nothing that is left out
        pub own_clean : Clean k node
        own_clean x e lt does tainted = kept (inr (reaches_on tainted (program lt does here)))

        pub kept_too : (t : Option Thread) → Matches run k whole → node < length whole.arrivals
            → (i < k → p ≡ node → ⊥) → Reduced (k + 1) (after_of whole node d t) (after_of part node d t)
        kept_too t m within apart = record {
          threads = λ n clean. set_alike part.threads whole.threads node n t None r.threads_long (λ other. r.threads n (λ x e lt. clean x e (omega arith)));
          memory = λ w clean. memory_alike d w part.memory whole.memory r.memory_long (r.memory w (λ x n v lt. clean x n v (omega arith)));
          holders = λ l clean.
              holders_alike node d l part.holders whole.holders r.holders_long
              (r.holders l (record { got = λ x n lt. clean.got x n (omega arith); given = λ x n lt. clean.given x n (omega arith) }));
          arrivals = λ n clean.
              arrivals_alike node d n part.arrivals whole.arrivals r.arrivals_long (r.arrivals node own_clean)
              (r.arrivals n (λ x e lt. clean x e (omega arith)));
          arrived = λ x n lt does kept'. elim (cases_eq x k) [
            | inl same ↦
                let does' : Does run k n Arrive = subst (λ y. Does run y n Arrive) same does in
                let is : node ≡ n = Does-one_node here does' in
                let arrives : d ≡ Arrive = Does-one_deed here does' in
                let long = r.arrivals_long in
                let counted = arrival_counted node part.arrivals (omega arith) in
                let before = r.arrivals node own_clean ∙ m.arrivals node within in
                let now : arrives_before run node k < slice_index (after_of part node Arrive t).arrivals node = omega arith in
                let now' : arrives_before run node k < slice_index (after_of part node d t).arrivals node =
                subst (λ e. arrives_before run node k < slice_index (after_of part node e t).arrivals node) (sym arrives) now in
                let now'' : arrives_before run n k < slice_index (after_of part node d t).arrivals n =
                subst (λ y. arrives_before run y k < slice_index (after_of part node d t).arrivals y) is now' in
                subst (λ y. arrives_before run n y < slice_index (after_of part node d t).arrivals n) (sym same) now''
            | inr other ↦
                let before = r.arrived x n (omega arith) does kept' in
                let rise = arrivals_rise node d n part.arrivals in
                omega arith
          ];
          waits = λ lt.
              let earlier : i < k = elim (cases_eq i k) [
                | inl same ↦ absurd (kept (inl same))
                | inr other ↦ omega arith
              ] in
              ap (λ o. next_access_in o) (get_or-set_other part.threads node p t None (apart earlier)) ∙ r.waits earlier;
          threads_long = length-set part.threads node t ∙ r.threads_long ∙ sym (length-set whole.threads node t);
          memory_long = length-memory d part.memory ∙ r.memory_long ∙ sym (length-memory d whole.memory);
          holders_long = length-holders node d part.holders ∙ r.holders_long ∙ sym (length-holders node d whole.holders);
          arrivals_long = length-arrivals node d part.arrivals ∙ r.arrivals_long ∙ sym (length-arrivals node d whole.arrivals);
        }
