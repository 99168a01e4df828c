-- A whole run, step by step, on the plain machine.
use Rattle.std.proofs.Common.{◌≡◌, ℕ, suc, ◌+◌, ◌<◌, List, [], ◌∷◌, ◌++◌, true, false, inl, inr, length, drop, map, sym}
use Rattle.std.proofs.Common.{subst, ◌∙◌, ap, refl, arith, add-one, add-zero, zero-add, replicate}
use Rattle.std.specs.Prelude.{Option, Some, None, is_none, nat_le, slice_index, slice_index_or, slice_set, if◌then◌else◌, option_map, option_and_then}
use Rattle.std.specs.List.{range_with_len}
use Rattle.std.proofs.lemmas.Bool.{cases_eq, cases_lt, eq-eqb, ne_eqb, le-leb, leb-true}
use Rattle.std.proofs.lemmas.List.{get_or-set_same, get_or-set_other, length-set, get_or_past, get_or_default}
use Rattle.std.proofs.lemmas.List.{length-replicate, get_or-replicate, length-map, get_or-map}
use Rattle.std.proofs.lemmas.List.FromFn.{length-range_with_len, get_or-range_with_len}
use Rattle.std.proofs.lemmas.List.Sums.{AllPass-from_list_all, list_all-from_AllPass}
use Rattle.std.proofs.lemmas.Option.{same_Some}
use Rattle.lrc_program.specs.declared.Program.{Program}
use Rattle.lrc_trace.specs.declared.act.Act.{Act}
use Rattle.lrc_trace.specs.declared.act.Deed.{Deed}
use Rattle.lrc_trace.specs.declared.act.Deed.TheVariants.{Read, Acquire, Release, Depart}
use Rattle.lrc_trace.specs.Run.{Does, arrives_before, departs_before}
use Rattle.lrc_trace.specs.Synchronization.{Holds}
use Rattle.lrc_exec.specs.Meaning.{Thread, Next, next_of}
use Rattle.lrc_exec.specs.Plain.{Plain, nobody_holds, all_arrived, deed_done, thread_in, plain_step, plain_from, plain_start, start_of, with_thread}
use Rattle.lrc_exec.specs.Follows.{Goes, quietly, printing, reading, writing, acquiring, releasing, arriving, departing}
use Rattle.lrc_exec.specs.Follows.{trapping, ending, Makes, and_then, deeds_of, nodes_of_acts, FollowsText}
use Rattle.lrc_consistency_laws.specs.InOrder.{last_value}
use Rattle.lrc_consistency_laws.proofs.Ahead.{does_ahead, drop_ahead}
use Rattle.lrc_exec.proofs.NextLaws.{IsFine, next_of-fine}
use Rattle.lrc_exec.proofs.PlainParts.{thread_within}
use Rattle.lrc_consistency_laws.specs.Matching.{IsPaired, ThreadFits, Matches}
use Rattle.lrc_consistency_laws.proofs.Step.{none_since, holder_cases, step}

-- the deeds of a node, past an act of its own and of another
pub deeds_of-own : (a : Act) (more : List Act) → deeds_of a.node (a ∷ more) ≡ a.deed ∷ deeds_of a.node more
deeds_of-own a more = rw (eq-eqb a.node a.node refl)

pub deeds_of-other : (a : Act) (more : List Act) (n : ℕ) → (a.node ≡ n → ⊥) → deeds_of n (a ∷ more) ≡ deeds_of n more
deeds_of-other a more n h = rw (ne_eqb a.node n h)

-- the thread that makes a deed
pub record Makes_first (o : Option Thread) (d : Deed) (ds : List Deed) : Type 0 where
  pub thread : Thread
  pub after : Option Thread
  pub is : o ≡ Some thread
  pub goes : Goes (next_of thread) d after
  pub more : Makes after ds

pub makes_first : {o : Option Thread} {d : Deed} {ds : List Deed} → Makes o (d ∷ ds) → Makes_first o d ds
makes_first (and_then {t = t} {after = after} g m) = record { thread = t; after = after; is = refl; goes = g; more = m }

-- no lock is held at first
unheld : (locks l : ℕ) → slice_index_or (replicate locks false) l false ≡ false
unheld locks l = elim (cases_lt l locks) [
  | inl lt ↦ get_or-replicate locks l false false lt
  | inr le ↦ get_or_past (replicate locks false) l false (omega (arith, length-replicate locks false))
]

-- what the machine asks of a deed beyond the thread's word
abbrev pub CanDo : Plain → ℕ → Deed → Type 0
CanDo machine node (Read w v) = v ≡ slice_index machine.memory w
CanDo machine node (Acquire l) = nobody_holds machine l ≡ true
CanDo machine node Depart = all_arrived machine node ≡ true
CanDo machine node _ = Unit {0}

-- the machine after a deed: the node's thread is the one after it, and there are as many nodes
pub record Done (machine : Plain) (node : ℕ) (n : Next) (d : Deed) (t : Option Thread) (after : Plain) : Type 0 where
  pub is : deed_done machine node n ≡ Some (d, after)
  pub threads : after.threads ≡ slice_set machine.threads node t
  pub size : length after.arrivals ≡ length machine.arrivals

module _ (machine : Plain) (node : ℕ) where
  -- what the thread may do and the machine allows is done
  pub done : {n : Next} {d : Deed} {t : Option Thread} → Goes n d t → CanDo machine node d → (after : Plain) × Done machine node n d t after
  done (quietly {t = t}) can = (with_thread machine node (Some t), record { is = refl; threads = refl; size = refl })
  done (printing {t = t}) can = (with_thread machine node (Some t), record { is = refl; threads = refl; size = refl })
  done (reading {t = t} {w = w} {v = v}) can = (
    with_thread machine node (Some (t v)),
    record {
      is = ap (λ x. Some (Read w x, with_thread machine node (Some (t x)))) (sym can);
      threads = refl;
      size =
          refl;
    },
  )
  done (writing {t = t} {w = w} {v = v}) can =
      (record (with_thread machine node (Some t)) { memory = slice_set machine.memory w v }, record { is = refl; threads = refl; size = refl })
  done (acquiring {t = t} {l = l}) can =
      let after : Plain = record (with_thread machine node (Some t)) { holders = slice_set machine.holders l (Some node) } in
      (after, record { is = ap (λ b. if b then Some (Acquire l, after) else None) can; threads = refl; size = refl })
  done (releasing {t = t} {l = l}) can =
      (record (with_thread machine node (Some t)) { holders = slice_set machine.holders l None }, record { is = refl; threads = refl; size = refl })
  done (arriving {t = t}) can = (
    record (with_thread machine node (Some t)) { arrivals = slice_set machine.arrivals node (slice_index machine.arrivals node + 1) },
    record {
      is =
          refl;
      threads = refl;
      size = length-set machine.arrivals node (slice_index machine.arrivals node + 1);
    },
  )
  done (departing {t = t}) can = (
    with_thread machine node (Some t),
    record {
      is = ap (λ b. if b then Some (Depart, with_thread machine node (Some t)) else None) can;
      threads =
          refl;
      size = refl;
    },
  )
  done (trapping {c = c}) can = (with_thread machine node None, record { is = refl; threads = refl; size = refl })
  done ending can = (with_thread machine node None, record { is = refl; threads = refl; size = refl })

-- what a deed that was done says of the run
abbrev pub SoundAt : List Act → ℕ → ℕ → ℕ → Deed → Type 0
SoundAt run nodes j node (Read w v) = v ≡ last_value run j w
SoundAt run nodes j node (Acquire l) = (other : ℕ) → Holds run j other l → ⊥
SoundAt run nodes j node (Release l) = Holds run j node l
SoundAt run nodes j node Depart = (other : ℕ) → other < nodes → departs_before run node j < arrives_before run other j
SoundAt run nodes j node _ = Unit {0}

module _ (run : List Act) (nodes j node : ℕ) (machine : Plain) (t : Thread) (at : thread_in machine node ≡ Some t) (m : Matches run j machine)
    (size : length machine.arrivals ≡ nodes) where
  waits_paired : t.arrived ≡ true → slice_index machine.arrivals node ≡ departs_before run node j + 1
  waits_paired e =
      let f = m.threads node t at in
      let paired : IsPaired true (arrives_before run node j) (departs_before run node j) =
      subst (λ b. IsPaired b (arrives_before run node j) (departs_before run node j)) e f.paired in
      let within : node < length machine.arrivals = let lt = thread_within machine node t at in let s = m.sizes in omega arith in
      m.arrivals node within ∙ paired

  -- what the run says of a deed, the machine allows
  pub can_do : {n : Next} {d : Deed} {t' : Option Thread} → Goes n d t' → IsFine t n → SoundAt run nodes j node d → CanDo machine node d
  can_do quietly f s = tt
  can_do printing f s = tt
  can_do (reading {w = w} {v = v}) f s = let words = (m.threads node t at).words in s ∙ sym (m.memory w (let lt = f.0 in omega arith))
  can_do writing f s = tt
  can_do (acquiring {l = l}) f s = elim (holder_cases (slice_index_or machine.holders l None)) [
    | inl e ↦ ap is_none e
    | inr (p, e) ↦ absurd (s p (m.held l p e).0)
  ]
  can_do releasing f s = tt
  can_do arriving f s = tt
  can_do departing f s =
      let paired = waits_paired f.0 in
      list_all-from_AllPass (λ count. nat_le (slice_index machine.arrivals node) count) machine.arrivals (λ k d lt.
      let more = s k (omega arith) in
      let count = get_or_default machine.arrivals k d 0 lt ∙ m.arrivals k lt in
      le-leb (slice_index machine.arrivals node) (slice_index_or machine.arrivals k d) (omega arith))
  can_do trapping f s = tt
  can_do ending f s = tt

  -- and what the machine allows, the run says
  pub is_sound : {n : Next} {d : Deed} {t' : Option Thread} → Goes n d t' → IsFine t n → CanDo machine node d → SoundAt run nodes j node d
  is_sound quietly f can = tt
  is_sound printing f can = tt
  is_sound (reading {w = w} {v = v}) f can = let words = (m.threads node t at).words in can ∙ m.memory w (let lt = f.0 in omega arith)
  is_sound writing f can = tt
  is_sound (acquiring {l = l}) f can = λ other h. m.free l (none_since (slice_index_or machine.holders l None) can) other h
  is_sound (releasing {l = l}) f can = (m.threads node t at).held l f.1
  is_sound arriving f can = tt
  is_sound departing f can = λ other lt.
      let paired = waits_paired f.0 in
      let all = AllPass-from_list_all (λ count. nat_le (slice_index machine.arrivals node) count) machine.arrivals can in
      let within : other < length machine.arrivals = omega arith in
      let le = leb-true (slice_index machine.arrivals node) (slice_index machine.arrivals other) (all other 0 within) in
      let count = m.arrivals other within in
      omega arith
  is_sound trapping f can = tt
  is_sound ending f can = tt

-- the machine at position j of the run, with these acts still to come
pub record Ready (run : List Act) (nodes j : ℕ) (machine : Plain) (ahead : List Act) : Type 0 where
  pub stands : drop j run ≡ ahead
  pub matches : Matches run j machine
  pub size : length machine.arrivals ≡ nodes
  pub makes : (n : ℕ) → n < nodes → Makes (thread_in machine n) (deeds_of n ahead)

-- the threads after a step
pub thread_after : (machine after : Plain) (node : ℕ) (t : Option Thread) → after.threads ≡ slice_set machine.threads node t → node < length machine.threads
    → thread_in after node ≡ t
thread_after machine after node t e within = ap (λ ts. slice_index_or ts node None) e ∙ get_or-set_same machine.threads node t None within

pub other_after : (machine after : Plain) (node n : ℕ) (t : Option Thread) → after.threads ≡ slice_set machine.threads node t → (n ≡ node → ⊥)
    → thread_in after n ≡ thread_in machine n
other_after machine after node n t e other = ap (λ ts. slice_index_or ts n None) e ∙ get_or-set_other machine.threads node n t None other

-- one act of the run is a step of the machine
record Stepped (run : List Act) (nodes j : ℕ) (machine : Plain) (a : Act) (more : List Act) : Type 0 where
  after : Plain
  is : plain_step machine a.node ≡ Some (a.deed, after)
  ready : Ready run nodes (j + 1) after more

stepped : (run : List Act) (nodes j : ℕ) (machine : Plain) (a : Act) (more : List Act) → Ready run nodes j machine (a ∷ more) → a.node < nodes
    → SoundAt run nodes j a.node a.deed → Stepped run nodes j machine a more
stepped run nodes j machine a more r in_range sound =
    let first = makes_first (subst (λ ds. Makes (thread_in machine a.node) ds) (deeds_of-own a more) (r.makes a.node in_range)) in
    let f = next_of-fine first.thread in
    let can = can_do run nodes j a.node machine first.thread first.is r.matches r.size first.goes f sound in
    let result = done machine a.node first.goes can in
    let after = result.0 in
    let within = thread_within machine a.node first.thread first.is in
    let here = does_ahead run j a more r.stands in
    record {
      after = after;
      is = ap (λ o. option_and_then (λ thread. deed_done machine a.node (next_of thread)) o) first.is ∙ result.1.is;
      ready = record {
        stands = ap (λ i. drop i run) (add-one j) ∙ drop_ahead run j a more r.stands;
        matches = step run j a.node machine first.thread first.is r.matches (next_of first.thread) f a.deed after result.1.is here;
        size = result.1.size ∙ r.size;
        makes = λ n lt. elim (cases_eq n a.node) [
          | inl same ↦
              let own : Makes (thread_in after a.node) (deeds_of a.node more) =
              subst (λ t. Makes t (deeds_of a.node more)) (sym (thread_after machine after a.node first.after result.1.threads within)) first.more in
              subst (λ k. Makes (thread_in after k) (deeds_of k more)) (sym same) own
          | inr other ↦
              let as_before = other_after machine after a.node n first.after result.1.threads other in
              subst (λ t. Makes t (deeds_of n more)) (sym as_before)
              (subst (λ ds. Makes (thread_in machine n) ds) (deeds_of-other a more n (λ e. other (sym e))) (r.makes n lt))
        ];
      };
    }

-- a stretch of the run is one of the machine
pub record Led (run : List Act) (nodes j : ℕ) (machine : Plain) (stretch tail : List Act) : Type 0 where
  pub final : Plain
  pub is : plain_from machine (nodes_of_acts stretch) ≡ Some (stretch, final)
  pub ready : Ready run nodes (j + length stretch) final tail

pub led : (run : List Act) (nodes j : ℕ) (machine : Plain) (stretch tail : List Act) → Ready run nodes j machine (stretch ++ tail)
    → ((k n : ℕ) (d : Deed) → Does run k n d → n < nodes) → ((k n : ℕ) (d : Deed) → k < j + length stretch → Does run k n d → SoundAt run nodes k n d)
    → Led run nodes j machine stretch tail
led run nodes j machine [] tail r in_range sound =
    record { final = machine; is = refl; ready = subst (λ k. Ready run nodes k machine tail) (sym (add-zero j)) r }
led run nodes j machine (a ∷ stretch) tail r in_range sound =
    let here = does_ahead run j a (stretch ++ tail) r.stands in
    let s = stepped run nodes j machine a (stretch ++ tail) r (in_range j a.node a.deed here) (sound j a.node a.deed (omega arith) here) in
    let rest = led run nodes (j + 1) s.after stretch tail s.ready in_range (λ k n d lt h. sound k n d (omega arith) h) in
    let e : j + 1 + length stretch ≡ j + suc (length stretch) = omega arith in
    record {
      final = rest.final;
      is =
          ap (option_and_then (λ step. option_map (λ more. (record { node = a.node; deed = step.0 } ∷ more.0, more.1)) (plain_from step.1 (nodes_of_acts stretch))))
          s.is
          ∙ ap (option_map (λ more. (record { node = a.node; deed = a.deed } ∷ more.0, more.1))) rest.is;
      ready = subst (λ k. Ready run nodes k rest.final tail) e rest.ready;
    }

-- the machine at the beginning
pub thread_at_start : (program : Program) (nodes n : ℕ) → n < nodes → thread_in (plain_start program nodes) n ≡ Some (start_of program nodes n)
thread_at_start program nodes n lt =
    let nodes_listed = length-range_with_len 0 nodes in
    get_or-map (λ me. Some (start_of program nodes me)) (range_with_len 0 nodes) n 0 None (omega arith)
    ∙ ap (λ me. Some (start_of program nodes me)) (get_or-range_with_len 0 nodes n 0 lt ∙ zero-add n)

pub nobody : (locks l : ℕ) → slice_index_or {A = Option ℕ} (replicate locks None) l None ≡ None
nobody locks l = elim (cases_lt l locks) [
  | inl lt ↦ get_or-replicate locks l None None lt
  | inr le ↦ get_or_past (replicate locks None) l None (omega (arith, length-replicate {A = Option ℕ} locks None))
]

pub start_matches : (program : Program) (nodes : ℕ) (run : List Act) → Matches run 0 (plain_start program nodes)
start_matches program nodes run =
    let no_holder : (n l : ℕ) → Holds run 0 n l → ⊥ = λ n l h. let lt = h.earlier in omega arith in
    let counted : length (map (λ me. Some (start_of program nodes me)) (range_with_len 0 nodes)) ≡ nodes =
    length-map (range_with_len 0 nodes) (λ me. Some (start_of program nodes me)) ∙ length-range_with_len 0 nodes in
    record {
      memory = λ w lt. get_or-replicate program.words w 0 0 (omega (arith, length-replicate {A = ℕ} program.words 0));
      free = λ l e n h. no_holder n l h;
      held = λ l p e. let x : None ≡ Some p = sym (nobody program.locks l) ∙ e in cc;
      arrivals = λ n lt. get_or-replicate nodes n 0 0 (omega (arith, length-replicate {A = ℕ} nodes 0));
      sizes = counted ∙ sym (length-replicate {A = ℕ} nodes 0);
      threads = λ n t e.
          let within : n < nodes = let lt = thread_within (plain_start program nodes) n t e in omega arith in
          let is : start_of program nodes n ≡ t = same_Some (start_of program nodes n) t (sym (thread_at_start program nodes n within) ∙ e) in
          subst (λ x. ThreadFits run 0 (plain_start program nodes) n x) is (record {
            words = sym (length-replicate {A = ℕ} program.words 0);
            locks = sym (length-replicate {A = Option ℕ} program.locks None);
            paired = refl;
            held = λ l h. let x : false ≡ true = sym (unheld 64 l) ∙ h in cc;
          });
    }

pub start_ready : (program : Program) (nodes : ℕ) (run : List Act) → FollowsText program nodes run → Ready run nodes 0 (plain_start program nodes) run
start_ready program nodes run follows = record {
  stands = refl;
  matches = start_matches program nodes run;
  size = length-replicate {A = ℕ} nodes 0;
  makes = λ n lt. subst (λ t. Makes t (deeds_of n run)) (sym (thread_at_start program nodes n lt)) (follows.each n lt);
}
