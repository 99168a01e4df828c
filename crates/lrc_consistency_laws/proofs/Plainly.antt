-- Runs of the plain machine, taken apart: what they follow, and that they are well synchronized.
use Rattle.std.proofs.Common.{◌≡◌, ℕ, ◌+◌, ◌-◌, ◌<◌, ◌≤◌, List, [], ◌∷◌, ◌++◌, Bool, true, false, inl, inr}
use Rattle.std.proofs.Common.{length, drop, sym, subst, ◌∙◌, ap, refl, arith, add-one}
use Rattle.std.specs.Prelude.{Option, Some, None, slice_index, slice_index_or, slice_set, if◌then◌else◌, option_map, option_and_then}
use Rattle.std.proofs.lemmas.Bool.{cases_eq}
use Rattle.std.proofs.lemmas.List.{length-set, length-drop, length-replicate}
use Rattle.std.proofs.lemmas.Option.{same_Some, some_pair_parts, option_and_then_some, get_or_from_slice_get}
use Rattle.lrc_program.specs.declared.Program.{Program}
use Rattle.lrc_trace.specs.declared.act.Act.{Act}
use Rattle.lrc_trace.specs.declared.act.Deed.{Deed}
use Rattle.lrc_trace.specs.declared.act.Deed.TheVariants.{Read, Acquire, Release, Depart}
use Rattle.lrc_trace.specs.Run.{Does, act_of}
use Rattle.lrc_trace.specs.Synchronization.{IsWellSynchronized}
use Rattle.lrc_trace.proofs.Positions.{Does-one_node, Does-one_deed, Does-within}
use Rattle.lrc_trace.proofs.Intervals.{act_at}
use Rattle.lrc_exec.specs.Meaning.{Thread, Next, quiet, prints, reads, writes, acquires, releases, arrives, departs, traps, ends, next_of}
use Rattle.lrc_exec.specs.Plain.{Plain, nobody_holds, all_arrived, deed_done, thread_in, plain_step, plain_from, plain, plain_start}
use Rattle.lrc_exec.specs.Follows.{Goes, quietly, printing, reading, writing, acquiring, releasing, arriving, departing}
use Rattle.lrc_exec.specs.Follows.{trapping, ending, Makes, nothing_more, and_then, deeds_of, FollowsText}
use Rattle.lrc_consistency_laws.specs.InOrder.{ReadsInOrder}
use Rattle.lrc_consistency_laws.proofs.Ahead.{does_ahead, drop_ahead}
use Rattle.lrc_exec.proofs.NextLaws.{next_of-fine}
use Rattle.lrc_exec.proofs.PlainLaws.{then_from, plain_from-append}
use Rattle.lrc_exec.proofs.PlainParts.{thread_within}
use Rattle.lrc_consistency_laws.specs.Matching.{Matches}
use Rattle.lrc_consistency_laws.proofs.Step.{step}
use Rattle.lrc_consistency_laws.proofs.Runs.{CanDo, SoundAt, is_sound, deeds_of-own, deeds_of-other, thread_after, other_after, thread_at_start, start_matches}

option_map_some : {A B P : Type 0} (f : A → B) (o : Option A) (y : B) → option_map f o ≡ Some y → ((x : A) → o ≡ Some x → f x ≡ y → P) → P
option_map_some f None y e go = cc
option_map_some f (Some x) y e go = go x refl (same_Some (f x) y e)

-- the first step of a run of the machine, and the rest
pub record Stepwise (machine : Plain) (node : ℕ) (order : List ℕ) (acts : List Act) (final : Plain) : Type 0 where
  pub deed : Deed
  pub after : Plain
  pub more : List Act
  pub first : plain_step machine node ≡ Some (deed, after)
  pub rest : plain_from after order ≡ Some (more, final)
  pub acts_are : acts ≡ act_of node deed ∷ more

pub stepwise : (machine : Plain) (node : ℕ) (order : List ℕ) (acts : List Act) (final : Plain) → plain_from machine (node ∷ order) ≡ Some (acts, final)
    → Stepwise machine node order acts final
stepwise machine node order acts final e =
    let go : Deed × Plain → Option (List Act × Plain) =
    λ step. option_map (λ more. (record { node = node; deed = step.0 } ∷ more.0, more.1)) (plain_from step.1 order) in
    option_and_then_some go (plain_step machine node) (acts, final) e (λ step first afterwards.
    option_map_some (λ more. (record { node = node; deed = step.0 } ∷ more.0, more.1)) (plain_from step.1 order) (
      acts,
      final,
    ) afterwards (λ more rest is. record {
      deed = step.0;
      after = step.1;
      more = more.0;
      first = first;
      rest = rest ∙ ap (λ p. Some (more.0, p)) (ap (λ p. p.1) is);
      acts_are = sym (ap (λ p. p.0) is);
    }))

-- a step and a run after it are a run
pub one_more : (machine after final : Plain) (node : ℕ) (deed : Deed) (order : List ℕ) (more : List Act) → plain_step machine node ≡ Some (deed, after)
    → plain_from after order ≡ Some (more, final) → plain_from machine (node ∷ order) ≡ Some (act_of node deed ∷ more, final)
one_more machine after final node deed order more first rest =
    ap (option_and_then (λ step. option_map (λ m. (record { node = node; deed = step.0 } ∷ m.0, m.1)) (plain_from step.1 order))) first
    ∙ ap (option_map (λ m. (record { node = node; deed = deed } ∷ m.0, m.1))) rest

-- a run and a run after it are a run
pub plain_from-joined : (xs ys : List ℕ) (machine mid final : Plain) (made later : List Act) → plain_from machine xs ≡ Some (made, mid)
    → plain_from mid ys ≡ Some (later, final) → plain_from machine (xs ++ ys) ≡ Some (made ++ later, final)
plain_from-joined xs ys machine mid final made later e f =
    plain_from-append machine xs ys ∙ ap (λ run. then_from run ys) e ∙ ap (option_map (λ more. (made ++ more.0, more.1))) f

-- a deed that was done: what the thread did, and what the machine allowed
record Undone (machine : Plain) (node : ℕ) (n : Next) (d : Deed) (after : Plain) : Type 0 where
  thread : Option Thread
  goes : Goes n d thread
  can : CanDo machine node d
  threads : after.threads ≡ slice_set machine.threads node thread
  size : length after.arrivals ≡ length machine.arrivals

module _ (machine : Plain) (node : ℕ) where
  undo : (n : Next) (d₀ : Deed) (after₀ : Plain) (d : Deed) (after : Plain) → ◌≡◌ {A = Option (Deed × Plain)} (Some (d₀, after₀)) (Some (d, after))
      → Undone machine node n d₀ after₀ → Undone machine node n d after
  undo n d₀ after₀ d after e u =
      let parts = some_pair_parts d₀ d after₀ after e in
      subst (λ x. Undone machine node n x after) parts.0 (subst (λ x. Undone machine node n d₀ x) parts.1 u)

  undo_if : (b : Bool) (n : Next) (d₀ : Deed) (after₀ : Plain) (d : Deed) (after : Plain)
      → ◌≡◌ {A = Option (Deed × Plain)} (if b then Some (d₀, after₀) else None) (Some (d, after)) → (b ≡ true → Undone machine node n d₀ after₀)
      → Undone machine node n d after
  undo_if true n d₀ after₀ d after e u = undo n d₀ after₀ d after e (u refl)
  undo_if false n d₀ after₀ d after e u = cc

  undone : (n : Next) (d : Deed) (after : Plain) → deed_done machine node n ≡ Some (d, after) → Undone machine node n d after
  undone (quiet t) d after e = undo (quiet t) _ _ d after e (record { thread = Some t; goes = quietly; can = tt; threads = refl; size = refl })
  undone (prints v t) d after e = undo (prints v t) _ _ d after e (record { thread = Some t; goes = printing; can = tt; threads = refl; size = refl })
  undone (reads w t) d after e =
      undo (reads w t) _ _ d after e (record { thread = Some (t (slice_index machine.memory w)); goes = reading; can = refl; threads = refl; size = refl })
  undone (writes w v t) d after e = undo (writes w v t) _ _ d after e (record { thread = Some t; goes = writing; can = tt; threads = refl; size = refl })
  undone (acquires l t) d after e =
      undo_if (nobody_holds machine l) (acquires l t) _ _ d after e (λ b. record { thread = Some t; goes = acquiring; can = b; threads = refl; size = refl })
  undone (releases l t) d after e = undo (releases l t) _ _ d after e (record { thread = Some t; goes = releasing; can = tt; threads = refl; size = refl })
  undone (arrives t) d after e =
      undo (arrives t) _ _ d after e (record {
        thread = Some t;
        goes = arriving;
        can = tt;
        threads = refl;
        size =
            length-set machine.arrivals node (slice_index machine.arrivals node + 1);
      })
  undone (departs t) d after e =
      undo_if (all_arrived machine node) (departs t) _ _ d after e (λ b. record { thread = Some t; goes = departing; can = b; threads = refl; size = refl })
  undone (traps c) d after e = undo (traps c) _ _ d after e (record { thread = None; goes = trapping; can = tt; threads = refl; size = refl })
  undone ends d after e = undo ends _ _ d after e (record { thread = None; goes = ending; can = tt; threads = refl; size = refl })

-- what a run of the machine from position j on says of the whole run
record SoundFrom (run : List Act) (nodes j : ℕ) (machine : Plain) (ahead : List Act) : Type 0 where
  sound : (k n : ℕ) (d : Deed) → j ≤ k → Does run k n d → SoundAt run nodes k n d
  in_range : (k n : ℕ) (d : Deed) → j ≤ k → Does run k n d → n < nodes
  makes : (n : ℕ) → n < nodes → Makes (thread_in machine n) (deeds_of n ahead)

module _ (run : List Act) (nodes : ℕ) where
  nothing_ahead : (j k n : ℕ) (d : Deed) → drop j run ≡ [] → j ≤ k → Does run k n d → ⊥
  nothing_ahead j k n d e le h =
      let within = Does-within h in
      let short : length run - j ≡ 0 = sym (length-drop j run) ∙ ap length e in
      omega arith

  sound_from : (order : List ℕ) (ahead : List Act) (j : ℕ) (machine final : Plain) → plain_from machine order ≡ Some (ahead, final) → drop j run ≡ ahead
      → Matches run j machine → length machine.arrivals ≡ nodes → SoundFrom run nodes j machine ahead
  sound_from [] ahead j machine final e stands m size =
      let none = some_pair_parts [] ahead machine final e in
      let at_end = stands ∙ sym none.0 in
      record {
        sound = λ k n d le h. absurd (nothing_ahead j k n d at_end le h);
        in_range = λ k n d le h. absurd (nothing_ahead j k n d at_end le h);
        makes = λ n lt. subst (λ acts. Makes (thread_in machine n) (deeds_of n acts)) none.0 nothing_more;
      }
  sound_from (node ∷ order) ahead j machine final e stands m size =
      let s = stepwise machine node order ahead final e in
      option_and_then_some (λ t. deed_done machine node (next_of t)) (thread_in machine node) (s.deed, s.after) s.first (λ t at is.
      let u = undone machine node (next_of t) s.deed s.after is in
      let a = act_of node s.deed in
      let stands' = stands ∙ s.acts_are in
      let here : Does run j node s.deed = does_ahead run j a s.more stands' in
      let within = thread_within machine node t at in
      let node_in_range : node < nodes = let sizes = m.sizes in omega arith in
      let now : SoundAt run nodes j node s.deed = is_sound run nodes j node machine t at m size u.goes (next_of-fine t) u.can in
      let rest = sound_from order s.more (j + 1) s.after final s.rest (ap (λ i. drop i run) (add-one j)
      ∙ drop_ahead run j a s.more stands') (step run j node machine t at m (next_of t) (next_of-fine t) s.deed s.after is here) (u.size ∙ size) in
      let own : Makes (thread_in machine node) (s.deed ∷ deeds_of node s.more) =
      subst (λ o. Makes o (s.deed ∷ deeds_of node s.more)) (sym at)
      (and_then u.goes (subst (λ o. Makes o (deeds_of node s.more)) (thread_after machine s.after node u.thread u.threads within)
      (rest.makes node node_in_range))) in
      record {
        sound = λ k n d le h. elim (cases_eq k j) [
          | inl same ↦
              let h' = subst (λ i. Does run i n d) same h in
              subst (λ i. SoundAt run nodes i n d) (sym same)
              (subst (λ x. SoundAt run nodes j x d) (Does-one_node here h') (subst (λ x. SoundAt run nodes j node x) (Does-one_deed here h') now))
          | inr later ↦ rest.sound k n d (omega arith) h
        ];
        in_range = λ k n d le h. elim (cases_eq k j) [
          | inl same ↦ subst (λ x. x < nodes) (Does-one_node here (subst (λ i. Does run i n d) same h)) node_in_range
          | inr later ↦ rest.in_range k n d (omega arith) h
        ];
        makes = λ n lt. subst (λ acts. Makes (thread_in machine n) (deeds_of n acts)) (sym s.acts_are) (elim (cases_eq n node) [
          | inl same ↦ subst (λ k. Makes (thread_in machine k) (deeds_of k (a ∷ s.more))) (sym same)
              (subst (λ ds. Makes (thread_in machine node) ds) (sym (deeds_of-own a s.more)) own)
          | inr other ↦ subst (λ ds. Makes (thread_in machine n) ds) (sym (deeds_of-other a s.more n (λ x. other (sym x))))
              (subst (λ o. Makes o (deeds_of n s.more)) (other_after machine s.after node n u.thread u.threads other) (rest.makes n lt))
        ]);
      })

-- what the plain machine makes follows the text, is well synchronized, and reads what was written last
pub record PlainFacts (program : Program) (nodes : ℕ) (run : List Act) : Type 0 where
  pub follows : FollowsText program nodes run
  pub synchronized : IsWellSynchronized nodes run
  pub in_order : ReadsInOrder run

pub facts : (program : Program) (nodes : ℕ) (order : List ℕ) (run : List Act) → plain program nodes order ≡ Some run → PlainFacts program nodes run
facts program nodes order run e =
    option_map_some (λ r. r.0) (plain_from (plain_start program nodes) order) run e (λ found made is.
    let made' : plain_from (plain_start program nodes) order ≡ Some (run, found.1) = made ∙ ap (λ acts. Some (acts, found.1)) is in
    let s = sound_from run nodes order run 0 (plain_start program nodes) found.1 made' refl (start_matches program nodes run) (length-replicate {A =
    ℕ} nodes 0) in
    record {
      follows = record {
        in_range = λ k d lt.
            let a = act_at run k lt in
            let at : slice_index_or run k d ≡ a.0 = get_or_from_slice_get run k a.0 d a.1.stands in
            subst (λ x. x.node < nodes) (sym at) (s.in_range k a.0.node a.0.deed (omega arith) a.1);
        each = λ n lt. subst (λ o. Makes o (deeds_of n run)) (thread_at_start program nodes n lt) (s.makes n lt);
      };
      synchronized = record {
        acquires = λ k n l h. s.sound k n (Acquire l) (omega arith) h;
        releases = λ k n l h. s.sound k n (Release l) (omega arith) h;
        departs = λ k n h. s.sound k n Depart (omega arith) h;
      };
      in_order = λ k w v h. s.sound k h.0 (Read w v) (omega arith) h.1;
    })
