-- The pairs that are told of an access.
use Rattle.std.proofs.Common.{◌≡◌, ◌≢◌, ℕ, zero, suc, ◌+◌, ◌<◌, ◌≤◌, List, [], ◌∷◌, ◌++◌, length, get_or, take, inl, inr, refl, sym, subst, ◌∙◌, ap, ap₂, arith, add-one}
use Rattle.std.specs.Prelude.{◌↔◌, ◌==◌, nat_lt, Option, Some, None, Bool, true, false, if◌then◌else◌, AllPairs, Contains, option_to_list, slice_get}
use Rattle.std.proofs.lemmas.Bool.{cases_eq, cases_lt, lt-ltb, eq-eqb, ne_eqb}
use Rattle.std.proofs.lemmas.List.Elements.{Contains-push, Contains-push_cases, Contains-append_left}
use Rattle.std.proofs.lemmas.List.Quantifiers.{all_pairs_push}
use Rattle.std.proofs.lemmas.Option.{slice_get-get_or}
use Rattle.std.proofs.lemmas.List.{append-nil, get_or_default, length_push, take_more}
use Rattle.lrc_races_trace.specs.declared.event.Event.{Event}
use Rattle.lrc_races_trace.specs.declared.event.Pair.{Pair}
use Rattle.lrc_races_trace.specs.declared.event.Placed.{Placed}
use Rattle.lrc_races_trace.specs.declared.event.Operation.TheVariants.{Read, Write}
use Rattle.lrc_races_trace.specs.Trace.{At, Accesses, Writes}
use Rattle.lrc_races_trace.specs.Order.{HappensBefore, program, base}
use Rattle.lrc_races_trace.specs.Races.{Conflict, Races, IsTold, ComesFirst, AreToldAt}
use Rattle.lrc_races_trace.proofs.Positions.{At-one}
use Rattle.lrc_races_trace.proofs.HappensBefore.{transitive}
use Rattle.lrc_races_detector.specs.declared.variables.Last.{Last}
use Rattle.lrc_races_detector.specs.Covers.{operation_of}
use Rattle.lrc_races_detector.specs.Variables.{thread_of, told_with, told_one, told_at, told_below}
use Rattle.lrc_races_detector.specs.Knowing.{Gathers, IsLastAt, IsLastOf, IsLast, IsRow, AccessOf, WriteOf}
use Rattle.lrc_races_detector.proofs.Gathering.{Gathers-one}
use Rattle.lrc_races_detector.specs.declared.places.Place.{Place}
use Rattle.lrc_races_detector.specs.Placed.{row_in}
use Rattle.lrc_races_detector.proofs.Pairs.{contained_at}
use Rattle.lrc_races_detector.proofs.Placing.{row-append}
use Rattle.lrc_races_detector.proofs.Pushing.{slice_get-append, slice_get-push_new}

-- ---- the list, as a program makes it

told-prefix : (xs ys : List Last) (known : List ℕ) (later : Placed) (w : Bool) (i : ℕ) → i ≤ length xs
    → told_below (xs ++ ys) known later w i ≡ told_below xs known later w i
told-prefix xs ys known later w zero le = refl
told-prefix xs ys known later w (suc i) le =
    ap₂ (λ (ps : List Pair) (o : Option Last). ps ++ option_to_list (told_at o known later w)) (told-prefix xs ys known later w i (omega arith))
    (slice_get-append xs ys i (omega arith))

told-push : (xs : List Last) (x : Last) (known : List ℕ) (later : Placed) (w : Bool)
    → told_below (xs ++ x ∷ []) known later w (length (xs ++ x ∷ [])) ≡ told_below xs known later w (length xs) ++ option_to_list (told_one x known later w)
told-push xs x known later w =
    ap (λ n. told_below (xs ++ x ∷ []) known later w n) (length_push xs x ∙ add-one (length xs))
    ∙ ap₂ (λ (ps : List Pair) (o : Option Last). ps ++ option_to_list (told_at o known later w)) (told-prefix xs (x ∷ []) known later w (length xs) (omega arith))
    (slice_get-push_new xs x)

told-with : (xs : List Last) (o : Option Last) (known : List ℕ) (later : Placed) (w : Bool)
    → told_below (xs ++ (option_to_list o ++ [])) known later w (length (xs ++ (option_to_list o ++ [])))
    ≡ told_below xs known later w (length xs) ++ option_to_list (told_at o known later w)
told-with xs (Some x) known later w = told-push xs x known later w
told-with xs None known later w =
    ap (λ (ys : List Last). told_below ys known later w (length ys)) (append-nil xs) ∙ sym (append-nil (told_below xs known later w (length xs)))

-- the pairs with the entry at one place more
pub told-next : (lasts : List Last) (order : List Place) (known : List ℕ) (later : Placed) (w : Bool) (i : ℕ) (d : Place) (r : Option Pair)
    → i < length order → r ≡ told_at (slice_get lasts (get_or order i d).index) known later w
    → told_below (row_in lasts (take (i + 1) order)) known later w (length (row_in lasts (take (i + 1) order)))
    ≡ told_below (row_in lasts (take i order)) known later w (length (row_in lasts (take i order))) ++ option_to_list r
told-next lasts order known later w i d r lt e =
    let row = row_in lasts (take i order) in
    let one = slice_get lasts (get_or order i d).index in
    let more : row_in lasts (take (i + 1) order) ≡ row ++ (option_to_list one ++ []) =
    ap (row_in lasts) (take_more order i d lt) ∙ row-append lasts (take i order) (get_or order i d ∷ []) in
    ap (λ (ys : List Last). told_below ys known later w (length ys)) more ∙ told-with row one known later w
    ∙ ap (λ o. told_below row known later w (length row) ++ option_to_list o) (sym e)

-- ---- pairs

abbrev place : ℕ → Event → Placed
place position event = record { position = position; event = event }

abbrev pair_of : Placed → Placed → Pair
pair_of earlier later = record { earlier = earlier; later = later }

placed-equal : (a b : Placed) → a.position ≡ b.position → a.event ≡ b.event → a ≡ b
placed-equal a b e f = ap (λ m. place m a.event) e ∙ ap (λ v. place b.position v) f

pair-equal : (p : Pair) (x y : Placed) → p.earlier ≡ x → p.later ≡ y → p ≡ pair_of x y
pair-equal p x y e f = ap (λ z. pair_of z p.later) e ∙ ap (λ z. pair_of x z) f

-- ---- what is told with one thread

-- the accesses with which a write, or a read, conflicts
abbrev pub Rival : List Event → Bool → ℕ → ℕ → ℕ → Type 0
Rival events true v u k = AccessOf events v u k
Rival events false v u k = WriteOf events v u k

rival_last : (events : List Event) (n v : ℕ) (w : Bool) (last : Last) → IsLast events n v last
    → IsLastOf events n (Rival events w v (thread_of last)) (if w then Some last.access else last.write)
rival_last events n v true last is = is.access
rival_last events n v false last is = is.write

pub rival_access : (events : List Event) (v u k : ℕ) (w : Bool) → Rival events w v u k → AccessOf events v u k
rival_access events v u k true h = h
rival_access events v u k false (a, at, of, writes) = (a, at, of, inr writes)

module _ (events : List Event) (later : Placed) (here : At events later.position later.event) (w : Bool) (v : ℕ)
    (op : later.event.operation ≡ operation_of w v) (known : List ℕ) (g : Gathers events (λ k. k ≡ later.position) known) where
  abbrev n : ℕ
  n = later.position

  abbrev b : Event
  b = later.event

  rival_conflict : (w' : Bool) → b.operation ≡ operation_of w' v → (u k : ℕ) → u ≢ b.thread → Rival events w' v u k
      → (a : Event) × At events k a × (a.thread ≡ u) × Conflict a b
  rival_conflict true e u k apart (a, at, of, accesses) =
      (a, at, of, record { variable = v; apart = λ same. apart (sym of ∙ same); first = accesses; second = inr e; writes = inr e })
  rival_conflict false e u k apart (a, at, of, writes) =
      (a, at, of, record { variable = v; apart = λ same. apart (sym of ∙ same); first = inr writes; second = inl e; writes = inl writes })

  conflict_rival : (w' : Bool) → b.operation ≡ operation_of w' v → (u k : ℕ) (a : Event) → At events k a → a.thread ≡ u → Conflict a b → Rival events w' v u k
  conflict_rival true e u k a at of c =
      let same : c.variable ≡ v = elim c.second [ inl r ↦ let never : ⊥ = cc in absurd never | inr h ↦ cc ] in
      (a, at, of, subst (λ x. Accesses a x) same c.first)
  conflict_rival false e u k a at of c =
      let same : c.variable ≡ v = elim c.second [ inl r ↦ cc | inr h ↦ let never : ⊥ = cc in absurd never ] in
      elim c.writes [
        | inl h ↦ (a, at, of, subst (λ x. Writes a x) same h)
        | inr h ↦ let never : ⊥ = cc in absurd never
      ]

  pub race_rival : (u k : ℕ) (a : Event) → At events k a → a.thread ≡ u → Races events k n → Rival events w v u k
  race_rival u k a at of r =
      let first : r.a ≡ a = At-one r.first at in
      let second : r.b ≡ b = At-one r.second here in
      conflict_rival w op u k a at of (subst (λ y. Conflict a y) second (subst (λ x. Conflict x r.b) first r.conflict))

  race_apart : (k : ℕ) (a : Event) → At events k a → Races events k n → a.thread ≢ b.thread
  race_apart k a at r same =
      r.conflict.apart (ap (λ (x : Event). x.thread) (At-one r.first at) ∙ same ∙ sym (ap (λ (x : Event). x.thread) (At-one r.second here)))

  rival_races : (u k : ℕ) → u ≢ b.thread → k < n → Rival events w v u k → (HappensBefore events k n → ⊥) → Races events k n
  rival_races u k apart lt h unordered =
      let (a, at, of, conflict) = rival_conflict w op u k apart h in
      record { a = a; b = b; earlier = lt; first = at; second = here; conflict = conflict; unordered = unordered }

  rival_at : (u k : ℕ) → u ≢ b.thread → Rival events w v u k → (a : Event) × At events k a × (a.thread ≡ u)
  rival_at u k apart h = let (a, at, of, conflict) = rival_conflict w op u k apart h in (a, at, of)

  -- whether an access before n is known says whether it happens before n
  pub known_before : (k : ℕ) (a : Event) → At events k a → k < n → k < get_or known a.thread 0 → HappensBefore events k n
  known_before k a at lt below = elim (Gathers-one events n known g k a at below) [ inl same ↦ absurd (omega arith) | inr h ↦ h ]

  before_known : (k : ℕ) (a : Event) → At events k a → HappensBefore events k n → k < get_or known a.thread 0
  before_known k a at h = g.complete k n a at refl (inr h)

  module _ (u : ℕ) (apart : u ≢ b.thread) (x : Placed) (is : IsLastAt events n (Rival events w v u) x) where
    x_thread : x.event.thread ≡ u
    x_thread = let (a, at, of) = rival_at u x.position apart is.is in ap (λ (y : Event). y.thread) (At-one is.at at) ∙ of

    -- what races with n of the thread is not later than the last, which then races too
    last_unordered : (k : ℕ) (a : Event) → At events k a → a.thread ≡ u → Races events k n → HappensBefore events x.position n → ⊥
    last_unordered k a at of r h =
        let le = is.last k r.earlier (race_rival u k a at of r) in
        elim (cases_eq k x.position) [
          | inl same ↦ r.unordered (subst (λ m. HappensBefore events m n) (sym same) h)
          | inr other ↦ r.unordered (transitive (base (program (omega arith) at is.at (of ∙ sym x_thread))) h)
        ]

    pub last_told : (get_or known u 0 ≤ x.position) → IsTold events (record { earlier = x; later = later })
    last_told above = record {
      first = is.at;
      second = here;
      races = rival_races u x.position apart is.before is.is (λ h.
          let below = before_known x.position x.event is.at h in
          let same = ap (λ t. get_or known t 0) x_thread in
          omega arith);
      last = λ k c at of r. is.last k r.earlier (race_rival u k c at (of ∙ x_thread) r);
    }

    pub told_last : (p : Pair) → IsTold events p → p.later.position ≡ n → p.earlier.event.thread ≡ u
        → (get_or known u 0 ≤ x.position) × (p ≡ record { earlier = x; later = later })
    told_last p told at_n of =
        let races : Races events p.earlier.position n = subst (λ m. Races events p.earlier.position m) at_n told.races in
        let unordered : HappensBefore events x.position n → ⊥ = last_unordered p.earlier.position p.earlier.event told.first of races in
        let last_races : Races events x.position p.later.position =
        subst (λ m. Races events x.position m) (sym at_n) (rival_races u x.position apart is.before is.is unordered) in
        let le = told.last x.position x.event is.at (x_thread ∙ sym of) last_races in
        let ge = is.last p.earlier.position races.earlier (race_rival u p.earlier.position p.earlier.event told.first of races) in
        let same : p.earlier.position ≡ x.position = omega arith in
        let first : p.earlier.event ≡ x.event = At-one told.first (subst (λ m. At events m x.event) (sym same) is.at) in
        let second : p.later.event ≡ b = At-one told.second (subst (λ m. At events m b) (sym at_n) here) in (
          elim (cases_lt x.position (get_or known u 0)) [
            | inl below ↦ absurd (unordered (known_before x.position x.event is.at is.before (let e = ap (λ t. get_or known t 0) x_thread in omega arith)))
            | inr above ↦ above
          ],
          pair-equal p x later (placed-equal p.earlier x same first) (placed-equal p.later later at_n second),
        )

  -- what is told with a thread is the pair of it
  module _ (u : ℕ) (apart : u ≢ b.thread) where
    with_exact : (o : Option Placed) → IsLastOf events n (Rival events w v u) o → (p : Pair)
        → (told_with o (get_or known u 0) later ≡ Some p) ↔ (IsTold events p × (p.later.position ≡ n) × (p.earlier.event.thread ≡ u))
    with_exact None none p = (
      λ e. let never : ⊥ = cc in absurd never,
      λ (told, at_n, of).
          let races : Races events p.earlier.position n = subst (λ m. Races events p.earlier.position m) at_n told.races in
          absurd (none p.earlier.position races.earlier (race_rival u p.earlier.position p.earlier.event told.first of races)),
    )
    with_exact (Some x) is p =
        elim (cases_lt x.position (get_or known u 0)) [
          | inl below ↦
              let test : nat_lt x.position (get_or known u 0) ≡ true = lt-ltb x.position (get_or known u 0) below in (
                λ e. let none : told_with (Some x) (get_or known u 0) later ≡ None = rw test refl in let never : ⊥ = cc in absurd never,
                λ (told, at_n, of). let (above, same) = told_last u apart x is p told at_n of in absurd (omega arith),
              )
          | inr above ↦
              let pair : Pair = record { earlier = x; later = later } in
              let test : nat_lt x.position (get_or known u 0) ≡ false = grind arith in
              let some : told_with (Some x) (get_or known u 0) later ≡ Some pair = rw test refl in (
                λ e.
                    let same : pair ≡ p = cc in
                    subst (λ (q : Pair). IsTold events q × (q.later.position ≡ n) × (q.earlier.event.thread ≡ u)) same
                    (last_told u apart x is above, refl, x_thread u apart x is),
                λ (told, at_n, of). let (above', same) = told_last u apart x is p told at_n of in some ∙ ap Some (sym same),
              )
        ]

  one_exact : (last : Last) → IsLast events n v last → (p : Pair)
      → (told_one last known later w ≡ Some p) ↔ (IsTold events p × (p.later.position ≡ n) × (p.earlier.event.thread ≡ thread_of last))
  one_exact last is p =
      let u = thread_of last in
      elim (cases_eq u b.thread) [
        | inl same ↦
            let test : (u == b.thread) ≡ true = eq-eqb u b.thread same in (
              λ e. let none : told_one last known later w ≡ None = rw test refl in let never : ⊥ = cc in absurd never,
              λ (told, at_n, of). absurd (race_apart p.earlier.position p.earlier.event told.first
                  (subst (λ m. Races events p.earlier.position m) at_n told.races) (of ∙ same)),
            )
        | inr apart ↦
            let test : (u == b.thread) ≡ false = ne_eqb u b.thread apart in
            let with : told_one last known later w ≡ told_with (if w then Some last.access else last.write) (get_or known u 0) later = rw test refl in
            let exact = with_exact u apart (if w then Some last.access else last.write) (rival_last events n v w last is) p in
            (λ e. exact.0 (sym with ∙ e), λ told. with ∙ exact.1 told)
      ]

  -- ---- the list

  module _ (lasts : List Last) (are : IsRow events n v lasts) where
    abbrev d : Last
    d = record { access = later; write = None }

    abbrev thread_at : ℕ → ℕ
    thread_at k = thread_of (get_or lasts k d)

    record AreToldBelow (i : ℕ) (pairs : List Pair) : Type 0 where
      in_order : AllPairs ComesFirst pairs
      exact : (p : Pair) → Contains pairs p ↔ (IsTold events p × (p.later.position ≡ n) × ((k : ℕ) × (k < i) × (p.earlier.event.thread ≡ thread_at k)))

    more : (i : ℕ) → i < length lasts → (pairs : List Pair) (o : Option Pair)
        → ((p : Pair) → (o ≡ Some p) ↔ (IsTold events p × (p.later.position ≡ n) × (p.earlier.event.thread ≡ thread_at i)))
        → AreToldBelow i pairs → AreToldBelow (suc i) (pairs ++ option_to_list o)
    more i lt pairs None none old = rw append-nil (record {
      in_order = old.in_order;
      exact = λ p. (
        λ h. let (told, at, (k, below, of)) = (old.exact p).0 h in (told, at, (k, omega arith, of)),
        λ (told, at, (k, below, of)).
            elim (cases_eq k i) [
              | inl same ↦ let e = (none p).1 (told, at, of ∙ ap thread_at same) in let never : ⊥ = cc in absurd never
              | inr other ↦ (old.exact p).1 (told, at, (k, omega arith, of))
            ],
      );
    })
    more i lt pairs (Some q) is old =
        let (q_told, q_at, q_of) = (is q).0 refl in
        record {
          in_order = all_pairs_push ComesFirst pairs q old.in_order (λ j e j_in.
              let (told, at, (k, below, of)) = (old.exact (get_or pairs j e)).0 (j, j_in, get_or_default pairs j (get_or pairs j e) e j_in) in
              let lower = are.ascending k i d below lt in
              inr (at ∙ sym q_at, omega arith));
          exact = λ p. (
            λ h.
                elim (Contains-push_cases pairs q p h) [
                  | inl before ↦ let (told, at, (k, below, of)) = (old.exact p).0 before in (told, at, (k, omega arith, of))
                  | inr same ↦
                      subst (λ (x : Pair). IsTold events x × (x.later.position ≡ n) × ((k : ℕ) × (k < suc i) × (x.earlier.event.thread ≡ thread_at k))) same
                      (q_told, q_at, (i, omega arith, q_of))
                ],
            λ (told, at, (k, below, of)).
                elim (cases_eq k i) [
                  | inl same ↦
                      let e = (is p).1 (told, at, of ∙ ap thread_at same) in
                      let one : q ≡ p = cc in
                      subst (λ (x : Pair). Contains (pairs ++ q ∷ []) x) one (Contains-push pairs q)
                  | inr other ↦ Contains-append_left pairs (q ∷ []) p ((old.exact p).1 (told, at, (k, omega arith, of)))
                ],
          );
        }

    told_so_far : (i : ℕ) → i ≤ length lasts → AreToldBelow i (told_below lasts known later w i)
    told_so_far zero le = record {
      in_order = λ i j e lt within. absurd (omega arith);
      exact = λ p. (λ (k, lt, h). absurd (omega arith), λ (told, at, (k, below, of)). absurd (omega arith));
    }
    told_so_far (suc i) le =
        let lt : i < length lasts = omega arith in
        let last : Last = get_or lasts i d in
        subst (λ o. AreToldBelow (suc i) (told_below lasts known later w i ++ option_to_list (told_at o known later w))) (sym (slice_get-get_or lasts i d lt))
        (more i lt (told_below lasts known later w i) (told_one last known later w) (one_exact last (are.sound last (contained_at lasts i d lt))) (told_so_far i (omega arith)))

    pub told_all : AreToldAt events n (told_below lasts known later w (length lasts))
    told_all =
        let all = told_so_far (length lasts) (omega arith) in
        record {
          in_order = all.in_order;
          exact = λ p. (
            λ h. let (told, at, (k, below, of)) = (all.exact p).0 h in (told, at),
            λ (told, at).
                let races : Races events p.earlier.position n = subst (λ m. Races events p.earlier.position m) at told.races in
                let rival = race_rival p.earlier.event.thread p.earlier.position p.earlier.event told.first refl races in
                let (last, (k, within, is), of) = are.complete p.earlier.event.thread p.earlier.position races.earlier
                (rival_access events v p.earlier.event.thread p.earlier.position w rival) in
                let same : get_or lasts k d ≡ last = get_or_default lasts k d last within ∙ is in
                (all.exact p).1 (told, at, (k, within, sym of ∙ sym (ap thread_of same))),
          );
        }

-- ---- nothing is told of what is no access

pub told_none : (events : List Event) (n : ℕ) (b : Event) → At events n b → ((v : ℕ) → b.operation ≡ Read v → ⊥) → ((v : ℕ) → b.operation ≡ Write v → ⊥)
    → AreToldAt events n []
told_none events n b here no_read no_write = record {
  in_order = λ i j d lt within. absurd (omega arith);
  exact = λ p. (
    λ (k, lt, h). absurd (omega arith),
    λ (told, at).
        let races : Races events p.earlier.position n = subst (λ m. Races events p.earlier.position m) at told.races in
        let second : Accesses b races.conflict.variable = subst (λ (x : Event). Accesses x races.conflict.variable) (At-one races.second here) races.conflict.second in
        elim second [ inl r ↦ absurd (no_read races.conflict.variable r) | inr h ↦ absurd (no_write races.conflict.variable h) ],
  );
}
