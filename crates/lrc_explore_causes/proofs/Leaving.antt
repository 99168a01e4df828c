-- A run without some of its acts: where the machine that leaves these out stands, beside the one that does not. What happens before an act
-- that stays does too.
use Rattle.std.proofs.Common.{◌≡◌, ℕ, ◌+◌, ◌<◌, List, Bool, inl, inr, length, sym, subst, ◌∙◌, ap, arith}
use Rattle.std.specs.Prelude.{Option, None, slice_index, slice_index_or}
use Rattle.std.proofs.lemmas.Bool.{cases_eq}
use Rattle.std.proofs.lemmas.List.{length-set, get_or-set_other}
use Rattle.lrc_trace.specs.declared.act.Act.{Act}
use Rattle.lrc_trace.specs.declared.act.Deed.{Deed}
use Rattle.lrc_trace.specs.declared.act.Deed.TheVariants.{Write, Acquire, Release, Arrive}
use Rattle.lrc_trace.specs.Run.{Does, arrives_before}
use Rattle.lrc_trace.specs.Order.{Precedes, program}
use Rattle.lrc_trace.proofs.Positions.{Does-node, Does-deed, Does-one_node, Does-one_deed}
use Rattle.lrc_exec.specs.Meaning.{Thread}
use Rattle.lrc_exec.specs.Plain.{Plain, thread_in}
use Rattle.lrc_consistency_laws.specs.Matching.{Matches}
use Rattle.lrc_orders.specs.Meeting.{next_access_in, next_access}
use Rattle.lrc_orders.proofs.Effects.{after_of, set_alike, length-memory, length-holders, length-arrivals, memory_alike, holders_alike, arrivals_alike}
use Rattle.lrc_orders.proofs.Effects.{memory_other, holders_other, arrivals_other, arrival_counted, arrivals_rise}

module _ (run : List Act) (Stays : ℕ → Type 0) (closed : (x k : ℕ) → Precedes run x k → Stays k → Stays x) where
  -- before position k all of the node's acts stay,
  abbrev pub Clean : ℕ → ℕ → Type 0
  Clean k node = (x : ℕ) (d : Deed) → x < k → Does run x node d → Stays x

  -- all that write the word,
  abbrev pub Unwritten : ℕ → ℕ → Type 0
  Unwritten k w = (x n v : ℕ) → x < k → Does run x n (Write w v) → Stays x

  -- and all that get the lock or give it back
  pub record Unlocked (k l : ℕ) : Type 0 where
    pub got : (x n : ℕ) → x < k → Does run x n (Acquire l) → Stays x
    pub given : (x n : ℕ) → x < k → Does run x n (Release l) → Stays x

  module _ (i p : ℕ) (access : Option (ℕ × Bool)) where
    -- `whole` is the machine before position k of the run, and `part` the one that has left acts out: they are alike but for what those acts
    -- did, and the node of the access at i waits before it
    pub record Leaves (k : ℕ) (whole part : Plain) : Type 0 where
      pub threads : (n : ℕ) → Clean k n → thread_in part n ≡ thread_in whole n
      pub memory : (w : ℕ) → Unwritten k w → slice_index part.memory w ≡ slice_index whole.memory w
      pub holders : (l : ℕ) → Unlocked k l → slice_index_or part.holders l None ≡ slice_index_or whole.holders l None
      pub arrivals : (n : ℕ) → Clean k n → slice_index part.arrivals n ≡ slice_index whole.arrivals n
      pub arrived : (x n : ℕ) → x < k → Does run x n Arrive → Stays x → arrives_before run n x < slice_index part.arrivals n
      pub waits : i < k → next_access part p ≡ access
      pub threads_long : length part.threads ≡ length whole.threads
      pub memory_long : length part.memory ≡ length whole.memory
      pub holders_long : length part.holders ≡ length whole.holders
      pub arrivals_long : length part.arrivals ≡ length whole.arrivals

    module _ (k node : ℕ) (d : Deed) (here : Does run k node d) (whole part : Plain) (r : Leaves k whole part) where
      -- an act that goes
      pub skipped : (t : Option Thread) → (Stays k → ⊥) → (i ≡ k → next_access part p ≡ access) → Leaves (k + 1) (after_of whole node d t) part
      skipped t goes waits =
          let apart : (n : ℕ) → Clean (k + 1) n → n ≡ node → ⊥ = λ n clean e. goes (clean k d (omega arith) (Does-node (sym e) here)) in
          record {
            threads = λ n clean.
                r.threads n (λ x e lt. clean x e (omega arith))
                ∙ sym (get_or-set_other whole.threads node n t None (apart n clean));
            memory = λ w clean.
                r.memory w (λ x n v lt. clean x n v (omega arith))
                ∙ sym (memory_other d w whole.memory (λ v e. goes (clean k node v (omega arith) (Does-deed e here))));
            holders = λ l clean.
                r.holders l (record { got = λ x n lt. clean.got x n (omega arith); given = λ x n lt. clean.given x n (omega arith) })
                ∙ sym (holders_other node d l whole.holders (λ e. goes (clean.got k node (omega arith) (Does-deed e here)))
                (λ e. goes (clean.given k node (omega arith) (Does-deed e here))));
            arrivals = λ n clean.
                r.arrivals n (λ x e lt. clean x e (omega arith)) ∙ sym (arrivals_other node d n whole.arrivals (apart n clean));
            arrived = λ x n lt does stays. elim (cases_eq x k) [
              | inl same ↦ absurd (goes (subst Stays same stays))
              | inr other ↦ r.arrived x n (omega arith) does stays
            ];
            waits = λ lt. elim (cases_eq i k) [
              | inl same ↦ waits same
              | inr other ↦ r.waits (omega arith)
            ];
            threads_long = r.threads_long ∙ sym (length-set whole.threads node t);
            memory_long = r.memory_long ∙ sym (length-memory d whole.memory);
            holders_long = r.holders_long ∙ sym (length-holders node d whole.holders);
            arrivals_long = r.arrivals_long ∙ sym (length-arrivals node d whole.arrivals);
          }

      -- an act that stays
      module _ (stays : Stays k) where
        -- all that its node has done stays
        pub own_clean : Clean k node
        own_clean x e lt does = closed x k (program lt does here) stays

        pub kept_too : (t : Option Thread) → Matches run k whole → node < length whole.arrivals
            → (i < k → p ≡ node → ⊥) → (i ≡ k → ⊥) → Leaves (k + 1) (after_of whole node d t) (after_of part node d t)
        kept_too t m within apart out = record {
          threads = λ n clean. set_alike part.threads whole.threads node n t None r.threads_long (λ other. r.threads n (λ x e lt. clean x e (omega arith)));
          memory = λ w clean. memory_alike d w part.memory whole.memory r.memory_long (r.memory w (λ x n v lt. clean x n v (omega arith)));
          holders = λ l clean.
              holders_alike node d l part.holders whole.holders r.holders_long
              (r.holders l (record { got = λ x n lt. clean.got x n (omega arith); given = λ x n lt. clean.given x n (omega arith) }));
          arrivals = λ n clean.
              arrivals_alike node d n part.arrivals whole.arrivals r.arrivals_long (r.arrivals node own_clean)
              (r.arrivals n (λ x e lt. clean x e (omega arith)));
          arrived = λ x n lt does also. elim (cases_eq x k) [
            | inl same ↦
                let does' : Does run k n Arrive = subst (λ y. Does run y n Arrive) same does in
                let is : node ≡ n = Does-one_node here does' in
                let arrives : d ≡ Arrive = Does-one_deed here does' in
                let long = r.arrivals_long in
                let counted = arrival_counted node part.arrivals (omega arith) in
                let before = r.arrivals node own_clean ∙ m.arrivals node within in
                let now : arrives_before run node k < slice_index (after_of part node Arrive t).arrivals node = omega arith in
                let now' : arrives_before run node k < slice_index (after_of part node d t).arrivals node =
                subst (λ e. arrives_before run node k < slice_index (after_of part node e t).arrivals node) (sym arrives) now in
                let now'' : arrives_before run n k < slice_index (after_of part node d t).arrivals n =
                subst (λ y. arrives_before run y k < slice_index (after_of part node d t).arrivals y) is now' in
                subst (λ y. arrives_before run n y < slice_index (after_of part node d t).arrivals n) (sym same) now''
            | inr other ↦
                let before = r.arrived x n (omega arith) does also in
                let rise = arrivals_rise node d n part.arrivals in
                omega arith
          ];
          waits = λ lt.
              let earlier : i < k = elim (cases_eq i k) [
                | inl same ↦ absurd (out same)
                | inr other ↦ omega arith
              ] in
              ap (λ o. next_access_in o) (get_or-set_other part.threads node p t None (apart earlier)) ∙ r.waits earlier;
          threads_long = length-set part.threads node t ∙ r.threads_long ∙ sym (length-set whole.threads node t);
          memory_long = length-memory d part.memory ∙ r.memory_long ∙ sym (length-memory d whole.memory);
          holders_long = length-holders node d part.holders ∙ r.holders_long ∙ sym (length-holders node d whole.holders);
          arrivals_long = length-arrivals node d part.arrivals ∙ r.arrivals_long ∙ sym (length-arrivals node d whole.arrivals);
        }
