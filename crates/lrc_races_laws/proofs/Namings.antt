-- What is said has one list of names of each kind, and so one trace.
use Rattle.std.proofs.Common.{◌≡◌, ◌≢◌, ℕ, zero, suc, ◌<◌, ◌≤◌, ◌⊎◌, List, [], ◌∷◌, length, get_or, take, inl, inr, sym, subst, refl, ◌∙◌, ap, ap₂}
use Rattle.std.proofs.Common.{arith}
use Rattle.std.specs.Prelude.{Option, Some, None, AllPairs, Contains, slice_get}
use Rattle.std.proofs.lemmas.Bool.{cases_lt}
use Rattle.std.proofs.lemmas.Option.{slice_get_within, get_or_from_slice_get}
use Rattle.std.proofs.lemmas.List.{get_or_default, get_or-take, length-take}
use Rattle.lrc_races_trace.specs.declared.event.Event.{Event}
use Rattle.lrc_races_trace.specs.declared.event.Operation.{Operation}
use Rattle.lrc_races_trace.specs.declared.event.Operation.TheVariants as Op
use Rattle.lrc_races_lines.specs.declared.line.Kind.{Kind}
use Rattle.lrc_races_text.specs.Says.{Said}
use Rattle.lrc_races_text.specs.Naming.{AreFirstNamed, Numbers, Naming, IsNaming, IsOperation, IsLocated, IsEvent, AreEvents, no_events, event_more}
use Rattle.lrc_races_text.specs.Naming.{IsTrace}
use Rattle.lrc_races_text.specs.Naming.{read, write, acquire, release, post, wait, fork, join, arrive, depart, idle}
use Rattle.lrc_races_laws.proofs.Pairs.{first_or, later, first, none_in, in_order_one}

-- ---- the first so many of a list

in_front : (xs : List (List ℕ)) (k j : ℕ) (d : List ℕ) → j < k → j < length xs → Contains (take k xs) (get_or xs j d)
in_front xs k j d lt within =
    let short = length-take k xs in
    (j, omega arith, get_or-take k xs j (get_or xs j d) lt ∙ get_or_default xs j (get_or xs j d) d within)

not_in_front : (xs : List (List ℕ)) (k j : ℕ) (d : List ℕ) → AllPairs (λ x y. x ≢ y) xs → k ≤ j → j < length xs
    → Contains (take k xs) (get_or xs j d) → ⊥
not_in_front xs k j d distinct le within (m, lt, is) =
    let short = length-take k xs in
    let less : m < k = omega arith in
    let in_xs : m < length xs = omega arith in
    let x = get_or xs j d in
    distinct m j d (omega arith) within (get_or_default xs m d x in_xs ∙ sym (get_or-take k xs m x less) ∙ is)

-- what comes with one mention more is that mention
one_more : (n : ℕ) (ms : List (List ℕ)) (x y : List ℕ) → Contains (take (suc n) ms) x → Contains (take (suc n) ms) y
    → ¬ Contains (take n ms) y → Contains (take n ms) x ⊎ (x ≡ y)
one_more n [] x y in_x in_y out = absurd (none_in x in_x)
one_more zero (m ∷ ms) x y in_x in_y out =
    elim (first_or m x [] in_x) [
      | inr rest ↦ absurd (none_in x rest)
      | inl is ↦ elim (first_or m y [] in_y) [ inr rest ↦ absurd (none_in y rest) | inl also ↦ inr (sym is ∙ also) ]
    ]
one_more (suc n) (m ∷ ms) x y in_x in_y out =
    elim (first_or m x (take (suc n) ms) in_x) [
      | inl is ↦ inl (subst (λ z. Contains (m ∷ take n ms) z) is (first m (take n ms)))
      | inr rest ↦ elim (first_or m y (take (suc n) ms) in_y) [
        | inl also ↦ absurd (out (subst (λ z. Contains (m ∷ take n ms) z) also (first m (take n ms))))
        | inr more ↦ elim (one_more n ms x y rest more (λ h. out (later m y (take n ms) h))) [
          | inl earlier ↦ inl (later m x (take n ms) earlier)
          | inr same ↦ inr same
        ]
      ]
    ]

-- ---- the order of first mentions

-- when so many are mentioned, the one is among them and the other is not
record IsSooner (mentions : List (List ℕ)) (x y : List ℕ) : Type 0 where
  when : ℕ
  has : Contains (take when mentions) x
  lacks : ¬ Contains (take when mentions) y

longer : (n m : ℕ) (ms : List (List ℕ)) (x : List ℕ) → n ≤ m → Contains (take n ms) x → Contains (take m ms) x
longer n m ms x le (k, lt, is) =
    let short = length-take n ms in
    let long = length-take m ms in
    let less : k < n = omega arith in
    (k, omega arith, get_or-take m ms k x (omega arith) ∙ sym (get_or-take n ms k x less) ∙ is)

sooner_apart : (mentions : List (List ℕ)) (x y : List ℕ) → IsSooner mentions x y → IsSooner mentions y x → ⊥
sooner_apart mentions x y a b =
    elim (cases_lt a.when b.when) [
      | inl lt ↦ b.lacks (longer a.when b.when mentions x (omega arith) a.has)
      | inr le ↦ a.lacks (longer b.when a.when mentions y le b.has)
    ]

module _ (mentions names : List (List ℕ)) (f : AreFirstNamed mentions names) where
  -- when a name is mentioned, those before it were
  sooner : (n i j : ℕ) (d : List ℕ) → i < j → j < length names → Contains (take n mentions) (get_or names j d)
      → IsSooner mentions (get_or names i d) (get_or names j d)
  sooner zero i j d lt within there = absurd (none_in (get_or names j d) (nothing mentions (get_or names j d) there))
    where
      nothing : (ms : List (List ℕ)) (x : List ℕ) → Contains (take 0 ms) x → Contains [] x
      nothing ms x h = h
  sooner (suc n) i j d lt within there =
      let (k, le, same) = f.in_order n in
      let y = get_or names j d in
      let x = get_or names i d in
      elim (cases_lt j k) [
        | inl before ↦ sooner n i j d lt within ((same y).0 (in_front names k j d before within))
        | inr behind ↦
            let out : ¬ Contains (take n mentions) y = λ h. not_in_front names k j d f.distinct behind within ((same y).1 h) in
            let (m, few, also) = f.in_order (suc n) in
            elim (cases_lt j m) [
              | inr past ↦ absurd (not_in_front names m j d f.distinct past within ((also y).1 there))
              | inl inside ↦
                  let x_there = (also x).0 (in_front names m i d (omega arith) (omega arith)) in
                  elim (one_more n mentions x y x_there there out) [
                    | inl earlier ↦ record { when = n; has = earlier; lacks = out }
                    | inr equal ↦ absurd (f.distinct i j d lt within equal)
                  ]
            ]
      ]

  all_mentions : (x : List ℕ) → Contains mentions x → Contains (take (length mentions) mentions) x
  all_mentions x (k, lt, is) =
      let short = length-take (length mentions) mentions in
      (k, omega arith, get_or-take (length mentions) mentions k x lt ∙ is)

  names_in_order : AllPairs (IsSooner mentions) names
  names_in_order i j d lt within =
      let y = get_or names j d in
      let there : Contains names y = (j, within, get_or_default names j y d within) in
      sooner (length mentions) i j d lt within (all_mentions y ((f.exact y).0 there))

pub one_naming : (mentions names others : List (List ℕ)) → AreFirstNamed mentions names → AreFirstNamed mentions others → names ≡ others
one_naming mentions names others a b =
    in_order_one (IsSooner mentions) (sooner_apart mentions) names others (names_in_order mentions names a) (names_in_order mentions others b)
    (λ x. (λ h. (b.exact x).1 ((a.exact x).0 h), λ h. (a.exact x).1 ((b.exact x).0 h)))

-- ---- numbers

not_below : (names : List (List ℕ)) (name : List ℕ) (n m : ℕ) → AllPairs (λ x y. x ≢ y) names → slice_get names n ≡ Some name
    → slice_get names m ≡ Some name → n < m → ⊥
not_below names name n m distinct a b lt =
    distinct n m name lt (slice_get_within names m name b)
    (get_or_from_slice_get names n name name a ∙ sym (get_or_from_slice_get names m name name b))

pub one_number : (names : List (List ℕ)) (name : List ℕ) (n m : ℕ) → AllPairs (λ x y. x ≢ y) names → Numbers names name n → Numbers names name m
    → n ≡ m
one_number names name n m distinct a b =
    elim (cases_lt n m) [
      | inl lt ↦ absurd (not_below names name n m distinct a.at b.at lt)
      | inr le ↦ elim (cases_lt m n) [ inl lt ↦ absurd (not_below names name m n distinct b.at a.at lt) | inr ge ↦ omega arith ]
    ]

-- ---- events

module _ {said : List Said} (naming : Naming) (names : IsNaming said naming) where
  one_thread : (name : List ℕ) (n m : ℕ) → Numbers naming.threads name n → Numbers naming.threads name m → n ≡ m
  one_thread name n m a b = one_number naming.threads name n m names.threads.distinct a b

  one_variable : (name : List ℕ) (n m : ℕ) → Numbers naming.variables name n → Numbers naming.variables name m → n ≡ m
  one_variable name n m a b = one_number naming.variables name n m names.variables.distinct a b

  one_lock : (name : List ℕ) (n m : ℕ) → Numbers naming.locks name n → Numbers naming.locks name m → n ≡ m
  one_lock name n m a b = one_number naming.locks name n m names.locks.distinct a b

  one_barrier : (name : List ℕ) (n m : ℕ) → Numbers naming.barriers name n → Numbers naming.barriers name m → n ≡ m
  one_barrier name n m a b = one_number naming.barriers name n m names.barriers.distinct a b

  one_operation : {target : List ℕ} {kind : Kind} {one other : Operation} → IsOperation naming target kind one → IsOperation naming target kind other
      → one ≡ other
  one_operation {target} (read {v = v} a) (read {v = w} b) = ap Op.Read (one_variable target v w a b)
  one_operation {target} (write {v = v} a) (write {v = w} b) = ap Op.Write (one_variable target v w a b)
  one_operation {target} (acquire {l = l} a) (acquire {l = m} b) = ap Op.Acquire (one_lock target l m a b)
  one_operation {target} (release {l = l} a) (release {l = m} b) = ap Op.Release (one_lock target l m a b)
  one_operation {target} (post {l = l} a) (post {l = m} b) = ap Op.Post (one_lock target l m a b)
  one_operation {target} (wait {l = l} a) (wait {l = m} b) = ap Op.Wait (one_lock target l m a b)
  one_operation {target} (fork {u = u} a) (fork {u = t} b) = ap Op.Fork (one_thread target u t a b)
  one_operation {target} (join {u = u} a) (join {u = t} b) = ap Op.Join (one_thread target u t a b)
  one_operation {target} (arrive {x = x} a) (arrive {x = y} b) = ap Op.Arrive (one_barrier target x y a b)
  one_operation {target} (depart {x = x} a) (depart {x = y} b) = ap Op.Depart (one_barrier target x y a b)
  one_operation idle idle = refl

  one_place : (location : List ℕ) (one other : Option ℕ) → IsLocated naming.locations location one → IsLocated naming.locations location other
      → one ≡ other
  one_place location None None a b = refl
  one_place location None (Some m) a b = absurd (b.0 a)
  one_place location (Some n) None a b = absurd (a.0 b)
  one_place location (Some n) (Some m) a b = ap Some (one_number naming.locations location n m names.locations.distinct a.1 b.1)

  same_event : (a b : Event) → a.thread ≡ b.thread → a.operation ≡ b.operation → a.line ≡ b.line → a.location ≡ b.location → a ≡ b
  same_event a b t o l p =
      ap (λ (x : ℕ). let e : Event = record { thread = x; operation = a.operation; line = a.line; location = a.location } in e) t
      ∙ ap (λ (x : Operation). let e : Event = record { thread = b.thread; operation = x; line = a.line; location = a.location } in e) o
      ∙ ap (λ (x : ℕ). let e : Event = record { thread = b.thread; operation = b.operation; line = x; location = a.location } in e) l
      ∙ ap (λ (x : Option ℕ). let e : Event = record { thread = b.thread; operation = b.operation; line = b.line; location = x } in e) p

  one_event : (s : Said) (a b : Event) → IsEvent naming s a → IsEvent naming s b → a ≡ b
  one_event s a b is also =
      same_event a b (one_thread s.saying.thread a.thread b.thread is.thread also.thread) (one_operation is.operation also.operation)
      (is.line ∙ sym also.line) (one_place s.saying.location a.location b.location is.location also.location)

  one_events : {all : List Said} {one other : List Event} → AreEvents naming all one → AreEvents naming all other → one ≡ other
  one_events no_events no_events = refl
  one_events (event_more {said = s} {event = a} is rest) (event_more {event = b} also more) =
      ap₂ (λ (e : Event) (es : List Event). e ∷ es) (one_event s a b is also) (one_events rest more)

same_naming : (a b : Naming) → a.threads ≡ b.threads → a.variables ≡ b.variables → a.locks ≡ b.locks → a.barriers ≡ b.barriers
    → a.locations ≡ b.locations → a ≡ b
same_naming a b t v l x p =
    let with : List (List ℕ) → List (List ℕ) → List (List ℕ) → List (List ℕ) → List (List ℕ) → Naming =
    λ t v l x p. record { threads = t; variables = v; locks = l; barriers = x; locations = p } in
    ap (λ z. with z a.variables a.locks a.barriers a.locations) t ∙ ap (λ z. with b.threads z a.locks a.barriers a.locations) v
    ∙ ap (λ z. with b.threads b.variables z a.barriers a.locations) l ∙ ap (λ z. with b.threads b.variables b.locks z a.locations) x
    ∙ ap (λ z. with b.threads b.variables b.locks b.barriers z) p

pub one_names : (said : List Said) (naming others : Naming) → IsNaming said naming → IsNaming said others → naming ≡ others
one_names said naming others a b =
    same_naming naming others (one_naming _ _ _ a.threads b.threads) (one_naming _ _ _ a.variables b.variables)
    (one_naming _ _ _ a.locks b.locks) (one_naming _ _ _ a.barriers b.barriers) (one_naming _ _ _ a.locations b.locations)

pub one_trace : (said : List Said) (naming others : Naming) (events more : List Event) → IsTrace said naming events → IsTrace said others more
    → (naming ≡ others) × (events ≡ more)
one_trace said naming others events more a b =
    let same = one_names said naming others a.names b.names in
    (same, one_events {said = said} naming a.names a.numbered (subst (λ n. AreEvents n said more) (sym same) b.numbered))
