-- What a step leads to, where it is known to what each thread settles.
use Rattle.std.proofs.Common.{◌≡◌, ℕ, zero, suc, ◌<◌, ◌≤◌, List, [], ◌∷◌, ◌++◌, inl, inr, true, length, refl, sym, ap, ◌∙◌, subst, arith, append_assoc, append-nil}
use Rattle.std.specs.Prelude.{Option, Some, None, slice_index_or, slice_set}
use Rattle.std.specs.List.{range_with_len}
use Rattle.std.proofs.lemmas.Bool.{cases_eq, cases_lt}
use Rattle.std.proofs.lemmas.List.{get_or-set_same, get_or-set_other, get_or_past, length-set}
use Rattle.lrc_trace.specs.declared.act.Act.{Act}
use Rattle.lrc_trace.specs.declared.act.Deed.{Deed}
use Rattle.lrc_trace.specs.Run.{act_of}
use Rattle.lrc_exec.specs.Meaning.{Thread}
use Rattle.lrc_exec.specs.Plain.{Plain, plain_from, plain_step, thread_in}
use Rattle.lrc_orders.proofs.Counting.{step_threads}
use Rattle.lrc_orders.proofs.Standing.{step_within}
use Rattle.lrc_orders_laws.specs.Free.{is_contended, is_free_in, TurnsIn}
use Rattle.lrc_orders_laws.specs.Rows.{AreAlike}
use Rattle.lrc_orders_laws.specs.Settling.{IsSettled, IsSettledAt, Settles, settled}
use Rattle.lrc_orders_laws.specs.Steps.{AllWait}
use Rattle.lrc_orders_laws.specs.Threads.{ThreadSettles}
use Rattle.lrc_orders_laws.proofs.Diamond.{true_is_false}
use Rattle.lrc_orders_settling.specs.declared.step.Step.TheVariants.{Alone, Together}
use Rattle.lrc_orders_settling.specs.Gone.{acts_by, freed, gone}
use Rattle.lrc_orders_settling.specs.Taking.{Takes, TakesTo, alone, together}
use Rattle.lrc_orders_settling.proofs.OneNode.{going, settles_settled}
use Rattle.lrc_orders_settling.proofs.Taken.{others_settled}
use Rattle.lrc_orders_table.specs.All.{acts_of_all, gone_all}

-- a thread is settled where it is the same as one that is
settled_by : (machine : Plain) (node : ℕ) (o : Option Thread) → thread_in machine node ≡ o → (is_free_in o ≡ true → TurnsIn o) → IsSettledAt machine node
settled_by machine node o is so = subst (λ (x : Option Thread). is_free_in x ≡ true → TurnsIn x) (sym is) so

-- a thread that has settled
settled_there : (machine after : Plain) (node : ℕ) (deeds : List Deed) (there : Option Thread) → node < length machine.threads
    → AreAlike after (gone machine node deeds there) → ThreadSettles (thread_in machine node) deeds there → IsSettledAt after node
settled_there machine after node deeds there within alike s =
    settled_by after node there
    (ap (λ l. slice_index_or l node None) alike.threads ∙ get_or-set_same machine.threads node there None within)
    (settles_settled s)

-- ---- one node

pub one_settles : (machine mid : Plain) (node : ℕ) (deed : Deed) (deeds : List Deed) (there : Option Thread) → IsSettled machine
    → is_contended deed ≡ true → plain_step machine node ≡ Some (deed, mid) → ThreadSettles (thread_in mid node) deeds there
    → TakesTo machine (Alone node) (act_of node deed ∷ acts_by node deeds) (gone mid node deeds there)
one_settles machine mid node deed deeds there is kind step s =
    let within : node < length mid.threads =
    let long = step_threads machine mid node deed step in
    let less = step_within machine node (deed, mid) step in
    omega (arith, long, less) in
    let g = going mid node within (λ k lt. others_settled machine mid node deed is step k (inl lt)) (thread_in mid node) there deeds refl s in
    let final : IsSettled g.after = record {
      each = λ k. elim (cases_eq k node) [
        | inl same ↦ subst (λ n. IsSettledAt g.after n) (sym same) (settled_there mid g.after node deeds there within g.alike s)
        | inr apart ↦
            settled_by g.after k (thread_in mid k)
            (ap (λ l. slice_index_or l k None) g.alike.threads ∙ get_or-set_other mid.threads node k there None apart)
            (others_settled machine mid node deed is step k (elim (cases_lt k node) [
              | inl lt ↦ inl lt
              | inr le ↦ inr (omega (arith, le, apart))
            ]))
      ];
    } in
    record {
      there = g.after;
      takes = subst (λ l. Takes machine (Alone node) (act_of node deed ∷ l) g.after) (append-nil (acts_by node deeds))
          (alone machine mid g.after node deed (acts_by node deeds ++ []) kind step (g.on [] g.after (settled g.after final)));
      alike = g.alike;
    }

-- ---- all nodes

-- the nodes before one have settled
record GoingsAll (machine : Plain) (deeds : ℕ → List Deed) (there : ℕ → Option Thread) (node : ℕ) : Type 0 where
  after : Plain
  alike : AreAlike after (gone_all machine deeds there node)
  on : (rest : List Act) (final : Plain) → Settles after rest final → Settles machine (acts_of_all deeds node ++ rest) final
  size : length after.threads ≡ length machine.threads
  done : (k : ℕ) → k < node → IsSettledAt after k
  still : (k : ℕ) → node ≤ k → thread_in after k ≡ thread_in machine k

gone_alike : {a b : Plain} (node : ℕ) (deeds : List Deed) (there : Option Thread) → AreAlike a b → AreAlike (gone a node deeds there) (gone b node deeds there)
gone_alike node deeds there e = record {
  memory = e.memory;
  holders = ap (freed deeds) e.holders;
  threads = ap (λ l. slice_set l node there) e.threads;
}

alike_again : {a b c : Plain} → AreAlike a b → AreAlike b c → AreAlike a c
alike_again e f = record { memory = e.memory ∙ f.memory; holders = e.holders ∙ f.holders; threads = e.threads ∙ f.threads }

module _ (machine : Plain) (deeds : ℕ → List Deed) (there : ℕ → Option Thread)
    (s : (node : ℕ) → node < length machine.threads → ThreadSettles (thread_in machine node) (deeds node) (there node)) where
  goings_next : (node : ℕ) → node < length machine.threads → GoingsAll machine deeds there node → GoingsAll machine deeds there (suc node)
  goings_next node lt so =
      let within : node < length so.after.threads = let e = so.size in omega (arith, lt, e) in
      let own : ThreadSettles (thread_in so.after node) (deeds node) (there node) =
      subst (λ o. ThreadSettles o (deeds node) (there node)) (sym (so.still node (omega arith))) (s node lt) in
      let g = going so.after node within so.done (thread_in so.after node) (there node) (deeds node) refl own in
      let other : (k : ℕ) → (k ≡ node → ⊥) → thread_in g.after k ≡ thread_in so.after k = λ k apart.
      ap (λ l. slice_index_or l k None) g.alike.threads ∙ get_or-set_other so.after.threads node k (there node) None apart in
      record {
        after = g.after;
        alike = alike_again g.alike (gone_alike node (deeds node) (there node) so.alike);
        on = λ rest final more.
            subst (λ l. Settles machine l final) (sym (append_assoc (acts_of_all deeds node) (acts_by node (deeds node)) rest))
            (so.on (acts_by node (deeds node) ++ rest) final (g.on rest final more));
        size = ap (λ l. length l) g.alike.threads ∙ length-set so.after.threads node (there node) ∙ so.size;
        done = λ k less. elim (cases_eq k node) [
          | inl same ↦
              subst (λ n. IsSettledAt g.after n) (sym same) (settled_there so.after g.after node (deeds node) (there node) within g.alike own)
          | inr apart ↦
              settled_by g.after k (thread_in so.after k) (other k apart) (so.done k (omega (arith, less, apart)))
        ];
        still = λ k le. other k (λ e. omega (arith, le, e)) ∙ so.still k (omega (arith, le));
      }

  goings_all : (node : ℕ) → node ≤ length machine.threads → GoingsAll machine deeds there node
  goings_all zero le = record {
    after = machine;
    alike = record { memory = refl; holders = refl; threads = refl };
    on = λ rest final more. more;
    size = refl;
    done = λ k less. absurd (omega (arith, less));
    still = λ k le. refl;
  }
  goings_all (suc node) le = goings_next node (omega (arith, le)) (goings_all node (omega (arith, le)))

pub all_settle : (machine mid : Plain) (departs : List Act) (deeds : ℕ → List Deed) (there : ℕ → Option Thread) → AllWait machine
    → plain_from machine (range_with_len 0 (length machine.threads)) ≡ Some (departs, mid) → length mid.threads ≡ length machine.threads
    → ((node : ℕ) → node < length machine.threads → ThreadSettles (thread_in mid node) (deeds node) (there node))
    → TakesTo machine Together (departs ++ acts_of_all deeds (length machine.threads)) (gone_all mid deeds there (length machine.threads))
all_settle machine mid departs deeds there wait led long s =
    let nodes = length machine.threads in
    let so = goings_all mid deeds there (λ node lt. s node (omega (arith, lt, long))) nodes (omega (arith, long)) in
    let final : IsSettled so.after = record {
      each = λ k. elim (cases_lt k nodes) [
        | inl lt ↦ so.done k lt
        | inr past ↦
            settled_by so.after k None
            (get_or_past so.after.threads k None (let e = so.size in omega (arith, past, long, e))) (λ e. true_is_false true refl (sym e))
      ];
    } in
    record {
      there = so.after;
      takes = subst (λ l. Takes machine Together (departs ++ l) so.after) (append-nil (acts_of_all deeds nodes))
          (together machine mid so.after departs (acts_of_all deeds nodes ++ []) wait led (so.on [] so.after (settled so.after final)));
      alike = so.alike;
    }
