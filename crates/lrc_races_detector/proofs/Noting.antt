-- The last accesses of the variables, one event further.
use Rattle.std.proofs.Common.{◌≡◌, ℕ, ◌+◌, ◌<◌, ◌⊎◌, List, [], ◌∷◌, ◌++◌, get_or, inl, inr, refl, sym, subst, ◌∙◌, ap, arith}
use Rattle.std.specs.Prelude.{Option, Some, None, Bool, true, false, Contains, option_to_list}
use Rattle.std.proofs.lemmas.List.Elements.{Contains-append_left, Contains-append_right, Contains-append_cases}
use Rattle.std.proofs.lemmas.Option.{same_Some}
use Rattle.std.proofs.lemmas.Bool.{cases_eq}
use Rattle.lrc_races_trace.specs.declared.event.Event.{Event}
use Rattle.lrc_races_trace.specs.declared.event.Placed.{Placed}
use Rattle.lrc_races_trace.specs.declared.event.Operation.TheVariants.{Read, Write}
use Rattle.lrc_races_trace.specs.Trace.{At, Accesses, Writes}
use Rattle.lrc_races_trace.proofs.Positions.{At-one}
use Rattle.lrc_races_detector.specs.declared.variables.Last.{Last}
use Rattle.lrc_races_detector.specs.declared.variables.Variables.{Variables}
use Rattle.lrc_races_detector.specs.Covers.{operation_of}
use Rattle.lrc_races_detector.specs.Variables.{thread_of, lasts_of, write_of, noted, IsAscending, IsNoted, IsNotedAt}
use Rattle.lrc_races_detector.specs.Knowing.{IsLastAt, IsLastOf, IsLast, IsRow, AccessOf, WriteOf, AreVariables}
use Rattle.lrc_races_detector.proofs.Pairs.{pairs-append, pairs-left, pairs-right}

module _ (events : List Event) (n : ℕ) (These : ℕ → Type 0) where
  pub last-same : (o : Option Placed) → (These n → ⊥) → IsLastOf events n These o → IsLastOf events (n + 1) These o
  last-same (Some p) none old =
      let lt = old.before in
      record {
        before = omega arith;
        at = old.at;
        is = old.is;
        last = λ k below h.
            elim (cases_eq k n) [
              | inl here ↦ absurd (none (subst These here h))
              | inr other ↦ old.last k (omega arith) h
            ];
      }
  last-same None none old = λ k below h.
      elim (cases_eq k n) [
        | inl here ↦ none (subst These here h)
        | inr other ↦ old k (omega arith) h
      ]

  pub last-here : (placed : Placed) → placed.position ≡ n → At events n placed.event → These n → IsLastAt events (n + 1) These placed
  last-here placed is at here = record {
    before = omega arith;
    at = subst (λ m. At events m placed.event) (sym is) at;
    is = subst These (sym is) here;
    last = λ k below h. omega arith;
  }

module _ (events : List Event) (n : ℕ) (b : Event) (here : At events n b) where
  -- what the event accesses
  access_here : (v u : ℕ) → AccessOf events v u n → (b.thread ≡ u) × Accesses b v
  access_here v u (a, at, of, accesses) =
      let same = At-one at here in
      (sym (ap (λ (x : Event). x.thread) same) ∙ of, subst (λ (x : Event). Accesses x v) same accesses)

  write_here : (v u : ℕ) → WriteOf events v u n → (b.thread ≡ u) × Writes b v
  write_here v u (a, at, of, writes) =
      let same = At-one at here in
      (sym (ap (λ (x : Event). x.thread) same) ∙ of, subst (λ (x : Event). Writes x v) same writes)

  pub last_kept : (v : ℕ) (last : Last) → (AccessOf events v (thread_of last) n → ⊥) → IsLast events n v last → IsLast events (n + 1) v last
  last_kept v last none old = record {
    access = last-same events n (AccessOf events v (thread_of last)) (Some last.access) none old.access;
    write = last-same events n (WriteOf events v (thread_of last)) last.write (λ (a, at, of, writes). none (a, at, of, inr writes)) old.write;
  }

  row_kept : (v : ℕ) (lasts : List Last) → ((u : ℕ) → AccessOf events v u n → ⊥) → IsRow events n v lasts → IsRow events (n + 1) v lasts
  row_kept v lasts none old = record {
    ascending = old.ascending;
    sound = λ last h. last_kept v last (none (thread_of last)) (old.sound last h);
    complete = λ u k below h.
        elim (cases_eq k n) [
          | inl here ↦ absurd (none u (subst (AccessOf events v u) here h))
          | inr other ↦ old.complete u k (omega arith) h
        ];
  }

  pub variables_kept : (variables : Variables) → ((v : ℕ) → b.operation ≡ Read v → ⊥) → ((v : ℕ) → b.operation ≡ Write v → ⊥)
      → AreVariables events n variables → AreVariables events (n + 1) variables
  variables_kept variables no_read no_write old v =
      row_kept v (lasts_of variables v) (λ u h. elim ((access_here v u h).1) [ inl r ↦ no_read v r | inr w ↦ no_write v w ]) (old v)

  pub one_variable : (is_write : Bool) (v w : ℕ) → b.operation ≡ operation_of is_write v → Accesses b w → w ≡ v
  one_variable true v w e (inl r) = let never : ⊥ = cc in absurd never
  one_variable true v w e (inr h) = cc
  one_variable false v w e (inl r) = cc
  one_variable false v w e (inr h) = let never : ⊥ = cc in absurd never

  -- the last write, where the event is none
  write_kept : (v : ℕ) → b.operation ≡ Read v → (old : Option Last) → ((last : Last) → old ≡ Some last → (thread_of last ≡ b.thread) × IsLast events n v last)
      → (old ≡ None → (k : ℕ) → k < n → AccessOf events v b.thread k → ⊥) → IsLastOf events (n + 1) (WriteOf events v b.thread) (write_of old)
  write_kept v op (Some last) is none =
      let (same, was) = is last refl in
      last-same events n (WriteOf events v b.thread) last.write (λ h. let w = (write_here v b.thread h).1 in let never : ⊥ = cc in never)
      (subst (λ t. IsLastOf events n (WriteOf events v t) last.write) same was.write)
  write_kept v op None is none =
      last-same events n (WriteOf events v b.thread) None (λ h. let w = (write_here v b.thread h).1 in let never : ⊥ = cc in never)
      (λ k lt (a, at, of, writes). none refl k lt (a, at, of, inr writes))

  last_noted : (is_write : Bool) (v : ℕ) → b.operation ≡ operation_of is_write v → (old : Option Last) (placed : Placed) → placed.position ≡ n → placed.event ≡ b
      → ((last : Last) → old ≡ Some last → (thread_of last ≡ b.thread) × IsLast events n v last)
      → (old ≡ None → (k : ℕ) → k < n → AccessOf events v b.thread k → ⊥) → IsLast events (n + 1) v (noted old placed is_write)
  last_noted is_write v op old placed position event is none =
      let at : At events n placed.event = subst (λ x. At events n x) (sym event) here in
      let own : b.thread ≡ placed.event.thread = sym (ap (λ (x : Event). x.thread) event) in
      subst (λ t. IsLastAt events (n + 1) (AccessOf events v t) placed × IsLastOf events (n + 1) (WriteOf events v t) (noted old placed is_write).write
      → IsLast events (n + 1) v (noted old placed is_write)) (sym own) (λ (f, g). record { access = f; write = g })
      (last-here events n (AccessOf events v b.thread) placed position at (b, here, refl, accesses is_write op), write is_write op at)
    where
      accesses : (w : Bool) → b.operation ≡ operation_of w v → Accesses b v
      accesses true e = inr e
      accesses false e = inl e

      write : (w : Bool) → b.operation ≡ operation_of w v → At events n placed.event → IsLastOf events (n + 1) (WriteOf events v b.thread) (noted old placed w).write
      write true e at = last-here events n (WriteOf events v b.thread) placed position at (b, here, refl, e)
      write false e at = write_kept v e old is none

  module _ (is_write : Bool) (v : ℕ) (op : b.operation ≡ operation_of is_write v) (before after : List Last) (placed : Placed)
      (position : placed.position ≡ n) (event : placed.event ≡ b) (old : IsRow events n v before) (noted' : IsNotedAt before after placed is_write) where
    abbrev front : List Last
    front = noted'.front

    abbrev back : List Last
    back = noted'.back

    abbrev middle : List Last
    middle = option_to_list noted'.old

    abbrev new : Last
    new = noted noted'.old placed is_write

    own_thread : placed.event.thread ≡ b.thread
    own_thread = ap (λ (x : Event). x.thread) event

    was_front : (last : Last) → Contains front last → Contains before last
    was_front last h = subst (λ xs. Contains xs last) (sym noted'.was) (Contains-append_left front (middle ++ back) last h)

    was_back : (last : Last) → Contains back last → Contains before last
    was_back last h = subst (λ xs. Contains xs last) (sym noted'.was) (Contains-append_right front (middle ++ back) last (Contains-append_right middle back last h))

    was_old : (last : Last) → noted'.old ≡ Some last → Contains before last
    was_old last e =
        subst (λ xs. Contains xs last) (sym noted'.was) (Contains-append_right front (middle ++ back) last (Contains-append_left middle back last
        (subst (λ o. Contains (option_to_list o) last) (sym e) (0, omega arith, refl))))

    old_of : (o : Option Last) → (last : Last) → Contains (option_to_list o) last → o ≡ Some last
    old_of (Some x) last (k, lt, e) = elim (cases_eq k 0) [ inl z ↦ ap Some (sym (ap (λ i. get_or (x ∷ []) i last) z) ∙ e) | inr other ↦ absurd (omega arith) ]
    old_of None last (k, lt, e) = absurd (omega arith)

    split : (last : Last) → Contains before last → Contains front last ⊎ (noted'.old ≡ Some last) ⊎ Contains back last
    split last h =
        elim (Contains-append_cases front (middle ++ back) last (subst (λ xs. Contains xs last) noted'.was h)) [
          | inl f ↦ inl f
          | inr r ↦ elim (Contains-append_cases middle back last r) [ inl m ↦ inr (inl (old_of noted'.old last m)) | inr g ↦ inr (inr g) ]
        ]

    in_front : (last : Last) → Contains front last → Contains after last
    in_front last h = subst (λ xs. Contains xs last) (sym noted'.is) (Contains-append_left front (new ∷ back) last h)

    in_new : Contains after new
    in_new = subst (λ xs. Contains xs new) (sym noted'.is) (Contains-append_right front (new ∷ back) new (0, omega arith, refl))

    in_back : (last : Last) → Contains back last → Contains after last
    in_back last h = subst (λ xs. Contains xs last) (sym noted'.is) (Contains-append_right front (new ∷ back) last (Contains-append_right (new ∷ []) back last h))

    -- no entry of another thread is of an access here
    apart : (last : Last) → (thread_of last ≡ placed.event.thread → ⊥) → AccessOf events v (thread_of last) n → ⊥
    apart last other h = other (sym (access_here v (thread_of last) h).0 ∙ sym own_thread)

    new_is : IsLast events (n + 1) v new
    new_is = last_noted is_write v op noted'.old placed position event
        (λ last e. (noted'.own last e ∙ own_thread, old.sound last (was_old last e)))
        (λ none k lt h.
        let (last, in_before, of) = old.complete b.thread k lt h in
        elim (split last in_before) [
          | inl f ↦ let lower = noted'.below last f in let e = own_thread in omega arith
          | inr (inl e) ↦ let never : ⊥ = cc in never
          | inr (inr g) ↦ let higher = noted'.above last g in let e = own_thread in omega arith
        ])

    abbrev Lower : Last → Last → Type 0
    Lower x y = thread_of x < thread_of y

    ascending_now : IsAscending (front ++ new ∷ back)
    ascending_now =
        let all : IsAscending (front ++ (middle ++ back)) = subst IsAscending noted'.was old.ascending in
        pairs-append Lower front (new ∷ back) (pairs-left Lower front (middle ++ back) all)
        (pairs-append Lower (new ∷ []) back (λ i j d lt within. absurd (omega arith)) (pairs-right Lower middle back (pairs-right Lower front (middle ++ back) all))
        (λ x y in_x in_y. let e = ap thread_of (only x in_x) in let higher = noted'.above y in_y in omega arith))
        (λ x y in_x in_y.
        let lower = noted'.below x in_x in
        elim (Contains-append_cases (new ∷ []) back y in_y) [
          | inl one ↦ let e = ap thread_of (only y one) in omega arith
          | inr g ↦ let higher = noted'.above y g in omega arith
        ])
      where
        only : (x : Last) → Contains (new ∷ []) x → new ≡ x
        only x (k, lt, e) = elim (cases_eq k 0) [ inl z ↦ sym (ap (λ i. get_or (new ∷ []) i x) z) ∙ e | inr other ↦ absurd (omega arith) ]

    pub row_noted : IsRow events (n + 1) v after
    row_noted = record {
      ascending = subst IsAscending (sym noted'.is) ascending_now;
      sound = λ last h.
          elim (Contains-append_cases front (new ∷ back) last (subst (λ xs. Contains xs last) noted'.is h)) [
            | inl f ↦ last_kept v last (apart last (λ e. let lower = noted'.below last f in omega arith)) (old.sound last (was_front last f))
            | inr r ↦
                elim (Contains-append_cases (new ∷ []) back last r) [
                  | inl one ↦ subst (λ x. IsLast events (n + 1) v x) (same_Some new last (old_of (Some new) last one)) new_is
                  | inr g ↦ last_kept v last (apart last (λ e. let higher = noted'.above last g in omega arith)) (old.sound last (was_back last g))
                ]
          ];
      complete = λ u k below h.
          elim (cases_eq k n) [
            | inl same ↦ (new, in_new, own_thread ∙ (access_here v u (subst (AccessOf events v u) same h)).0)
            | inr other ↦
                let (last, in_before, of) = old.complete u k (omega arith) h in
                elim (split last in_before) [
                  | inl f ↦ (last, in_front last f, of)
                  | inr (inl e) ↦ (new, in_new, sym (noted'.own last e) ∙ of)
                  | inr (inr g) ↦ (last, in_back last g, of)
                ]
          ];
    }

  pub variables_noted : (is_write : Bool) (v : ℕ) → b.operation ≡ operation_of is_write v → (variables after : Variables) (placed : Placed)
      → placed.position ≡ n → placed.event ≡ b → IsNoted variables after v placed is_write → AreVariables events n variables → AreVariables events (n + 1) after
  variables_noted is_write v op variables after placed position event noted' old w =
      elim (cases_eq w v) [
        | inl same ↦
            subst (λ x. IsRow events (n + 1) x (lasts_of after x)) (sym same)
            (row_noted is_write v op (lasts_of variables v) (lasts_of after v) placed position event (old v) (noted'.here.noted (old v).ascending))
        | inr other ↦
            subst (λ r. IsRow events (n + 1) w r) (sym (noted'.others w other))
            (row_kept w (lasts_of variables w) (λ u h. other (one_variable is_write v w op (access_here w u h).1)) (old w))
      ]
