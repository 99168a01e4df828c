-- Steps, orders, meetings and rest of states whose threads go on alike.
use Rattle.std.proofs.Common.{◌≡◌, ℕ, ◌+◌, List, [], ◌∷◌, Bool, true, false, inl, inr, length, refl, sym, subst, ◌∙◌, ap, arith}
use Rattle.std.specs.Prelude.{Option, Some, None, IsSome, if◌then◌else◌, is_none, nat_le, option_and_then, slice_index, slice_index_or, slice_set}
use Rattle.std.specs.List.{list_all}
use Rattle.std.proofs.lemmas.Bool.{cases_eq, cases_lt}
use Rattle.std.proofs.lemmas.List.{length-set, get_or-set_same, get_or-set_other, get_or_past}
use Rattle.std.proofs.lemmas.Option.{some_pair_parts}
use Rattle.lrc_trace.specs.declared.act.Act.{Act}
use Rattle.lrc_trace.specs.declared.act.Deed.{Deed}
use Rattle.lrc_trace.specs.declared.act.Deed.TheVariants.{Read, Acquire, Depart}
use Rattle.lrc_exec.specs.Meaning.{Thread, Next, next_of}
use Rattle.lrc_exec.specs.Plain.{Plain, all_arrived, deed_done, nobody_holds, thread_in, plain_step, plain_from, with_thread}
use Rattle.lrc_exec.proofs.PlainLaws.{plain_from-begins}
use Rattle.lrc_consistency_laws.proofs.Plainly.{one_more}
use Rattle.lrc_orders.specs.Meeting.{access_of, next_access_in, Meet}
use Rattle.lrc_orders.specs.Stuck.{IsAtRest, IsStuck}
use Rattle.lrc_orders_laws.specs.Alike.{DoAlike, quiet, prints, reads, writes, acquires, releases, arrives, departs, traps, ends}
use Rattle.lrc_orders_laws.specs.Alike.{GoOnAlike, BothAlike, stopped, going, StandAlike, StepsAlike, RunsAlike}

-- a deed and what it leads to
abbrev ran : List Act → Plain → Option (List Act × Plain)
ran acts machine = Some (acts, machine)

abbrev to_be : Deed → Plain → Option (Deed × Plain)
to_be deed machine = Some (deed, machine)

module _ (Related : Thread → Thread → Type 0) (go : GoOnAlike Related) where
  -- a node's thread is put in both
  put : (machine other : Plain) → StandAlike Related machine other → (node : ℕ) (t u : Option Thread) → BothAlike Related t u → (k : ℕ)
      → BothAlike Related (slice_index_or (slice_set machine.threads node t) k None) (slice_index_or (slice_set other.threads node u) k None)
  put machine other a node t u both k = elim (cases_eq k node) [
    | inl same ↦ elim (cases_lt node (length machine.threads)) [
      | inl lt ↦
          let count = a.count in
          subst (λ n. BothAlike Related (slice_index_or (slice_set machine.threads node t) n None) (slice_index_or (slice_set other.threads node u) n None))
          (sym same)
          (subst (λ x. BothAlike Related x (slice_index_or (slice_set other.threads node u) node None)) (sym (get_or-set_same machine.threads node t None lt))
          (subst (λ x. BothAlike Related t x) (sym (get_or-set_same other.threads node u None (omega (arith, lt, count)))) both))
      | inr le ↦
          let count = a.count in
          let long = length-set machine.threads node t in
          let long' = length-set other.threads node u in
          subst (λ x. BothAlike Related x (slice_index_or (slice_set other.threads node u) k None))
          (sym (get_or_past (slice_set machine.threads node t) k None (omega (arith, le, same, long))))
          (subst (λ x. BothAlike Related None x) (sym (get_or_past (slice_set other.threads node u) k None (omega (arith, le, same, long', count)))) stopped)
    ]
    | inr apart ↦
        subst (λ x. BothAlike Related x (slice_index_or (slice_set other.threads node u) k None)) (sym (get_or-set_other machine.threads node k t None apart))
        (subst (λ x. BothAlike Related (thread_in machine k) x) (sym (get_or-set_other other.threads node k u None apart)) (a.threads k))
  ]

  counts : (machine other : Plain) → StandAlike Related machine other → (node : ℕ) (t u : Option Thread)
      → length (slice_set machine.threads node t) ≡ length (slice_set other.threads node u)
  counts machine other a node t u = length-set machine.threads node t ∙ a.count ∙ sym (length-set other.threads node u)

  -- what a deed leads to, here and there
  record Done (node : ℕ) (deed : Deed) (after other : Plain) (m : Next) : Type 0 where
    there : Plain
    is : deed_done other node m ≡ Some (deed, there)
    alike : StandAlike Related after there

  done : (machine other : Plain) (node : ℕ) (m : Next) (made deed : Deed) (now there after : Plain) → to_be made now ≡ to_be deed after
      → deed_done other node m ≡ to_be made there → StandAlike Related now there → Done node deed after other m
  done machine other node m made deed now there after e is alike =
      let parts = some_pair_parts made deed now after e in
      record {
        there = there;
        is = is ∙ ap (λ d. to_be d there) parts.0;
        alike = subst (λ x. StandAlike Related x there) parts.1 alike;
      }

  module _ (machine other : Plain) (a : StandAlike Related machine other) (node : ℕ) where
    moved : (t u : Option Thread) → BothAlike Related t u → StandAlike Related (with_thread machine node t) (with_thread other node u)
    moved t u both = record {
      memory = a.memory;
      holders = a.holders;
      arrivals = a.arrivals;
      count = counts machine other a node t u;
      threads = put machine other a node t u both;
    }

    deed_in : (n m : Next) → DoAlike Related n m → (deed : Deed) (after : Plain) → deed_done machine node n ≡ Some (deed, after)
        → Done node deed after other m
    deed_in n m (quiet {t} {u} r) deed after e = done machine other node m _ deed _ (with_thread other node (Some u)) after e refl (moved (Some t) (Some u) (going r))
    deed_in n m (prints {t = t} {u = u} r) deed after e =
        done machine other node m _ deed _ (with_thread other node (Some u)) after e refl (moved (Some t) (Some u) (going r))
    deed_in n m (reads {word = w} {t = t} {u = u} r) deed after e =
        let value = slice_index machine.memory w in
        let same : value ≡ slice_index other.memory w = ap (λ l. slice_index l w) a.memory in
        done machine other node m _ deed _ (with_thread other node (Some (u value))) after e
        (ap (λ v. to_be (Read w v) (with_thread other node (Some (u v)))) (sym same))
        (moved (Some (t value)) (Some (u value)) (going (r value)))
    deed_in n m (writes {word = w} {value = v} {t = t} {u = u} r) deed after e =
        done machine other node m _ deed _ (record (with_thread other node (Some u)) { memory = slice_set other.memory w v }) after e refl (record {
          memory = ap (λ l. slice_set l w v) a.memory;
          holders = a.holders;
          arrivals = a.arrivals;
          count = counts machine other a node (Some t) (Some u);
          threads = put machine other a node (Some t) (Some u) (going r);
        })
    deed_in n m (acquires {lock = l} {t = t} {u = u} r) deed after e = free_or_not (nobody_holds machine l) refl e
      where
        here : Plain
        here = record (with_thread machine node (Some t)) { holders = slice_set machine.holders l (Some node) }

        free_or_not : (b : Bool) → nobody_holds machine l ≡ b
            → (if b then to_be (Acquire l) here else None) ≡ Some (deed, after) → Done node deed after other m
        free_or_not true is e' =
            let free : nobody_holds other l ≡ true = sym (ap (λ (hs : List (Option ℕ)). is_none (slice_index_or hs l None)) a.holders) ∙ is in
            let there : Plain = record (with_thread other node (Some u)) { holders = slice_set other.holders l (Some node) } in
            done machine other node m _ deed here there after e'
            (ap (λ b. if b then to_be (Acquire l) there else None) free) (record {
              memory = a.memory;
              holders = ap (λ hs. slice_set hs l (Some node)) a.holders;
              arrivals = a.arrivals;
              count = counts machine other a node (Some t) (Some u);
              threads = put machine other a node (Some t) (Some u) (going r);
            })
        free_or_not false is e' = cc
    deed_in n m (releases {lock = l} {t = t} {u = u} r) deed after e =
        done machine other node m _ deed _ (record (with_thread other node (Some u)) { holders = slice_set other.holders l None }) after e refl (record {
          memory = a.memory;
          holders = ap (λ hs. slice_set hs l None) a.holders;
          arrivals = a.arrivals;
          count = counts machine other a node (Some t) (Some u);
          threads = put machine other a node (Some t) (Some u) (going r);
        })
    deed_in n m (arrives {t = t} {u = u} r) deed after e =
        done machine other node m _ deed _ (record (with_thread other node (Some u)) { arrivals = slice_set other.arrivals node (slice_index other.arrivals node + 1) })
        after e refl (record {
          memory = a.memory;
          holders = a.holders;
          arrivals = ap (λ l. slice_set l node (slice_index l node + 1)) a.arrivals;
          count = counts machine other a node (Some t) (Some u);
          threads = put machine other a node (Some t) (Some u) (going r);
        })
    deed_in n m (departs {t = t} {u = u} r) deed after e = all_or_not (all_arrived machine node) refl e
      where
        all_or_not : (b : Bool) → all_arrived machine node ≡ b
            → (if b then to_be Depart (with_thread machine node (Some t)) else None) ≡ Some (deed, after)
            → Done node deed after other m
        all_or_not true is e' =
            let all : all_arrived other node ≡ true =
            sym (ap (λ (counts : List ℕ). list_all (λ count. nat_le (slice_index counts node) count) counts) a.arrivals) ∙ is in
            done machine other node m _ deed (with_thread machine node (Some t)) (with_thread other node (Some u)) after e'
            (ap (λ b. if b then to_be Depart (with_thread other node (Some u)) else None) all)
            (moved (Some t) (Some u) (going r))
        all_or_not false is e' = cc
    deed_in n m traps deed after e = done machine other node m _ deed _ (with_thread other node None) after e refl (moved None None stopped)
    deed_in n m ends deed after e = done machine other node m _ deed _ (with_thread other node None) after e refl (moved None None stopped)

    step_in : (t u : Option Thread) → thread_in machine node ≡ t → thread_in other node ≡ u → BothAlike Related t u → (deed : Deed) (after : Plain)
        → option_and_then (λ thread. deed_done machine node (next_of thread)) t ≡ Some (deed, after) → StepsAlike Related other node deed after
    step_in t u at there stopped deed after e = cc
    step_in t' u' at there (going {t} {u} r) deed after e =
        let d = deed_in (next_of t) (next_of u) (go.each t u r) deed after e in
        record {
          there = d.there;
          is = ap (λ o. option_and_then (λ thread. deed_done other node (next_of thread)) o) there ∙ d.is;
          alike = d.alike;
        }

  pub step : (machine other : Plain) → StandAlike Related machine other → (node : ℕ) (deed : Deed) (after : Plain)
      → plain_step machine node ≡ Some (deed, after) → StepsAlike Related other node deed after
  step machine other a node deed after e =
      step_in machine other a node (thread_in machine node) (thread_in other node) refl refl (a.threads node) deed after e

  run_in : (order : List ℕ) (machine other : Plain) → StandAlike Related machine other → (acts : List Act) (final : Plain)
      → plain_from machine order ≡ Some (acts, final) → RunsAlike Related other order acts final
  run_in [] machine other a acts final e =
      let parts = some_pair_parts [] acts machine final e in
      record {
        there = other;
        is = ap (λ l. ran l other) parts.0;
        alike = subst (λ x. StandAlike Related x other) parts.1 a;
      }
  run_in (node ∷ order) machine other a acts final e =
      let b = plain_from-begins machine node order (acts, final) e in
      let s = step machine other a node b.step.0 b.step.1 b.step_is in
      let m = run_in order b.step.1 s.there s.alike b.more.0 b.more.1 b.more_is in
      let is : acts ≡ record { node = node; deed = b.step.0 } ∷ b.more.0 = ap (λ (r : List Act × Plain). r.0) b.run_is in
      let same : final ≡ b.more.1 = ap (λ (r : List Act × Plain). r.1) b.run_is in
      record {
        there = m.there;
        is = one_more other s.there m.there node b.step.0 order b.more.0 s.is m.is ∙ ap (λ l. ran l m.there) (sym is);
        alike = subst (λ x. StandAlike Related x m.there) (sym same) m.alike;
      }

  pub runs : (machine other final : Plain) (order : List ℕ) (acts : List Act) → StandAlike Related machine other
      → plain_from machine order ≡ Some (acts, final) → RunsAlike Related other order acts final
  runs machine other final order acts a e = run_in order machine other a acts final e

  -- ---- what comes next

  access_same : (n m : Next) → DoAlike Related n m → access_of n ≡ access_of m
  access_same n m (quiet r) = refl
  access_same n m (prints r) = refl
  access_same n m (reads r) = refl
  access_same n m (writes r) = refl
  access_same n m (acquires r) = refl
  access_same n m (releases r) = refl
  access_same n m (arrives r) = refl
  access_same n m (departs r) = refl
  access_same n m traps = refl
  access_same n m ends = refl

  next_same : (t u : Option Thread) → BothAlike Related t u → next_access_in t ≡ next_access_in u
  next_same t u stopped = refl
  next_same t' u' (going {t} {u} r) = access_same (next_of t) (next_of u) (go.each t u r)

  pub meets : (machine other : Plain) → StandAlike Related machine other → (p q : ℕ) → Meet machine p q → Meet other p q
  meets machine other a p q meet = record {
    apart = meet.apart;
    word = meet.word;
    first_writes = meet.first_writes;
    second_writes = meet.second_writes;
    first = sym (next_same (thread_in machine p) (thread_in other p) (a.threads p)) ∙ meet.first;
    second = sym (next_same (thread_in machine q) (thread_in other q) (a.threads q)) ∙ meet.second;
    writes = meet.writes;
  }

-- ---- the other way round

abbrev pub Back : (Thread → Thread → Type 0) → Thread → Thread → Type 0
Back Related t u = Related u t

module _ (Related : Thread → Thread → Type 0) where
  back_next : (n m : Next) → DoAlike Related m n → DoAlike (Back Related) n m
  back_next n m (quiet r) = quiet r
  back_next n m (prints r) = prints r
  back_next n m (reads r) = reads r
  back_next n m (writes r) = writes r
  back_next n m (acquires r) = acquires r
  back_next n m (releases r) = releases r
  back_next n m (arrives r) = arrives r
  back_next n m (departs r) = departs r
  back_next n m traps = traps
  back_next n m ends = ends

  pub back : GoOnAlike Related → GoOnAlike (Back Related)
  back go = record { each = λ t u r. back_next (next_of t) (next_of u) (go.each u t r) }

  back_both : (t u : Option Thread) → BothAlike Related u t → BothAlike (Back Related) t u
  back_both t u stopped = stopped
  back_both t u (going r) = going r

  pub back_stand : (machine other : Plain) → StandAlike Related machine other → StandAlike (Back Related) other machine
  back_stand machine other a = record {
    memory = sym a.memory;
    holders = sym a.holders;
    arrivals = sym a.arrivals;
    count = sym a.count;
    threads = λ node. back_both (thread_in other node) (thread_in machine node) (a.threads node);
  }

module _ (Related : Thread → Thread → Type 0) (go : GoOnAlike Related) (machine other : Plain) (a : StandAlike Related machine other) where
  -- what is at rest here is there: else its step would be one here
  pub rests : IsAtRest machine → IsAtRest other
  rests still node = none_of (plain_step other node) refl
    where
      no_both : (s : Deed × Plain) → None ≡ Some s → ⊥
      no_both s h = cc

      none_of : (o : Option (Deed × Plain)) → plain_step other node ≡ o → plain_step other node ≡ None
      none_of (Some s) e =
          let b = step (Back Related) (back Related go) other machine (back_stand Related machine other a) node s.0 s.1 e in
          absurd (no_both (s.0, b.there) (sym (still node) ∙ b.is))
      none_of _ e = e

  unfinished_in : (t u : Option Thread) → BothAlike Related t u → IsSome t → IsSome u
  unfinished_in t u stopped some = some
  unfinished_in t u (going r) some = refl

  pub sticks : IsStuck machine → IsStuck other
  sticks stuck = (rests stuck.0, (stuck.1.0, unfinished_in (thread_in machine stuck.1.0) (thread_in other stuck.1.0) (a.threads stuck.1.0) stuck.1.1))
