-- What two accesses are to each other.
use Rattle.std.proofs.Common.{◌≡◌, ℕ, ◌<◌, ◌≤◌, List, not, inl, inr, refl, sym, subst, ap, ◌∙◌, arith}
use Rattle.std.specs.Prelude.{◌⊎◌, ◌↔◌, IsTrue, Bool, true, false, slice_index}
use Rattle.std.proofs.lemmas.Bool.{cases_lt}
use Rattle.lrc_races_trace.specs.declared.event.Event.{Event}
use Rattle.lrc_races_trace.specs.declared.event.Operation.TheVariants.{Read}
use Rattle.lrc_races_trace.specs.Trace.{At, Accesses, Writes}
use Rattle.lrc_races_trace.specs.Races.{Conflict}
use Rattle.lrc_races_sure.specs.Leading.{IsByWay}
use Rattle.lrc_races_sure.specs.Sure.{IsSureRace}
use Rattle.lrc_races_witness.specs.declared.relation.Access.{Access}
use Rattle.lrc_races_witness.specs.declared.relation.Relation.{Relation}
use Rattle.lrc_races_witness.specs.declared.relation.Relation.TheVariants.{OneThread, TwoVariables, BothRead, Ordered, Reached, Sure}
use Rattle.lrc_races_witness.specs.Past.{IsPast, IsWay}
use Rattle.lrc_races_witness.specs.Relations.{IsAccessOn, IsThatOn, AreRelated, one_thread, two_variables, both_read, ordered, reached, sure, IsRelation, both, first_none, second_none}

-- what a test of the opposite says
pub not_set : (b : Bool) → not b ≡ true → b ≡ false
not_set true is = let never : ⊥ = cc in absurd never
not_set false is = refl

pub is_set : (b : Bool) → not b ≡ false → b ≡ true
is_set true is = refl
is_set false is = let never : ⊥ = cc in absurd never

reads : (is_write : Bool) (a : Event) (v : ℕ) → (IsTrue is_write ↔ Writes a v) → is_write ≡ false → Accesses a v → a.operation ≡ Read v
reads is_write a v writes unset (inl r) = r
reads is_write a v writes unset (inr w) = let is : is_write ≡ true = writes.1 w in let never : ⊥ = cc in absurd never

module _ (events : List Event) (first second : ℕ) (one other : Access) (is : IsThatOn events first one) (is' : IsThatOn events second other) where
  threads : is.event.thread ≡ is'.event.thread → one.thread ≡ other.thread
  threads same = sym is.of ∙ same ∙ is'.of

  pub of_one_thread : one.thread ≡ other.thread → IsRelation events first second (OneThread one.thread)
  of_one_thread same =
      subst (λ t. IsRelation events first second (OneThread t)) is.of (both is.is is'.is (one_thread (is.of ∙ same ∙ sym is'.of)))

  module _ (apart : one.thread ≡ other.thread → ⊥) where
    pub of_two_variables : (one.variable ≡ other.variable → ⊥) → IsRelation events first second TwoVariables
    of_two_variables differ = both is.is is'.is (two_variables (λ same. apart (threads same)) differ)

    module _ (same : one.variable ≡ other.variable) where
      pub of_readers : one.is_write ≡ false → other.is_write ≡ false → IsRelation events first second BothRead
      of_readers unset unset' = both is.is is'.is (both_read (λ e. apart (threads e)) same (reads one.is_write is.event one.variable is.writes unset is.is.accesses)
          (reads other.is_write is'.event other.variable is'.writes unset' is'.is.accesses))

      pub of_rivals : (relation : Relation) → IsTrue one.is_write ⊎ IsTrue other.is_write
          → ((a b : Event) → At events one.position a → At events other.position b → a.thread ≡ one.thread → Conflict a b
          → AreRelated events one.position other.position one.variable other.variable a b relation)
          → IsRelation events first second relation
      of_rivals relation writes related =
          both is.is is'.is (related is.event is'.event is.is.at is'.is.at is.of (record {
            variable = one.variable;
            apart = λ e. apart (threads e);
            first = is.is.accesses;
            second = subst (λ v. Accesses is'.event v) (sym same) is'.is.accesses;
            writes = elim writes [
              | inl w ↦ inl (is.writes.0 w)
              | inr w ↦ inr (subst (λ v. Writes is'.event v) (sym same) (is'.writes.0 w))
            ];
          }))

-- whether a position is below what is known of a thread, as a test says
pub below_of : (xs ys : List ℕ) (t i : ℕ) (b : Bool) → (IsTrue b ↔ (i < slice_index xs t)) → b ≡ true → xs ≡ ys → i < slice_index ys t
below_of xs ys t i b test said same = subst (λ zs. i < slice_index zs t) same (test.0 said)

pub above_of : (xs ys : List ℕ) (t i : ℕ) (b : Bool) → (IsTrue b ↔ (i < slice_index xs t)) → b ≡ false → xs ≡ ys → slice_index ys t ≤ i
above_of xs ys t i b test said same =
    elim (cases_lt i (slice_index xs t)) [
      | inl below ↦ let is : b ≡ true = test.1 below in let never : ⊥ = cc in absurd never
      | inr above ↦ subst (λ zs. slice_index zs t ≤ i) same above
    ]

-- the accesses at i and j are a sure race of these lines
pub record IsSureOn (events : List Event) (i j first second : ℕ) : Type 0 where
  pub v : ℕ
  pub w : ℕ
  pub a : Event
  pub b : Event
  pub one : IsAccessOn events first i v a
  pub other : IsAccessOn events second j w b
  pub race : IsSureRace events i j

-- a relation that is a sure race has its accesses
module _ {events : List Event} {i j : ℕ} where
  related_surely : {k l v w : ℕ} {a b : Event} {relation : Relation} → AreRelated events k l v w a b relation → relation ≡ Sure i j
      → (k ≡ i) × (l ≡ j) × IsSureRace events k l
  related_surely (one_thread e) is = let never : ⊥ = cc in absurd never
  related_surely (two_variables e f) is = let never : ⊥ = cc in absurd never
  related_surely (both_read e f g h) is = let never : ⊥ = cc in absurd never
  related_surely (ordered e f) is = let never : ⊥ = cc in absurd never
  related_surely (reached e f) is = let never : ⊥ = cc in absurd never
  related_surely {k} {l} (sure r) is = let at : k ≡ i = cc in let at' : l ≡ j = cc in (at, at', r)

  pub sure_on : {first second : ℕ} {relation : Relation} → IsRelation events first second relation → relation ≡ Sure i j → IsSureOn events i j first second
  sure_on (first_none none) is = let never : ⊥ = cc in absurd never
  sure_on (second_none has none) is = let never : ⊥ = cc in absurd never
  sure_on {first} {second} (both {i = k} {j = l} {v = v} {w = w} {a = a} {b = b} one other related) is =
      let (at, at', race) = related_surely related is in
      record {
        v = v;
        w = w;
        a = a;
        b = b;
        one = subst (λ m. IsAccessOn events first m v a) at one;
        other = subst (λ m. IsAccessOn events second m w b) at' other;
        race = subst (λ m. IsSureRace events m j) at (subst (λ m. IsSureRace events k m) at' race);
      }

module _ (events : List Event) (one other : Access) (lt : one.position < other.position) (a b : Event) (at : At events one.position a)
    (at' : At events other.position b) (of : a.thread ≡ one.thread) (conflict : Conflict a b) where
  abbrev i : ℕ
  i = one.position

  abbrev j : ℕ
  j = other.position

  abbrev Are : Relation → Type 0
  Are relation = AreRelated events i j one.variable other.variable a b relation

  here : (known : List ℕ) → slice_index known a.thread ≡ slice_index known one.thread
  here known = ap (λ t. slice_index known t) of

  pub are_ordered : (known : List ℕ) → IsPast events j known → i < slice_index known one.thread → Are Ordered
  are_ordered known past below =
      let e = here known in
      elim ((past.exact i a at).0 (omega arith)) [
        | inl same ↦ absurd (omega arith)
        | inr before ↦ ordered conflict before
      ]

  pub are_reached : (known : List ℕ) → IsPast events j known → slice_index known one.thread ≤ i → IsByWay events i j → Are Reached
  are_reached known past above way =
      reached (record {
        a = a;
        b = b;
        earlier = lt;
        first = at;
        second = at';
        conflict = conflict;
        unordered = λ before. let e = here known in let below = (past.exact i a at).1 (inr before) in omega arith;
      }) way

  pub is_by_way : (led : List ℕ) → IsWay events j led → i < slice_index led one.thread → IsByWay events i j
  is_by_way led way below = let e = here led in (way.exact i a at).0 (omega arith)

  pub are_sure : (led : List ℕ) → IsWay events j led → slice_index led one.thread ≤ i → Are (Sure i j)
  are_sure led way beyond =
      sure (record {
        a = a;
        b = b;
        earlier = lt;
        first = at;
        second = at';
        conflict = conflict;
        free = λ h. let e = here led in let below = (way.exact i a at).1 h in omega arith;
      })
