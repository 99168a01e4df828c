-- The variables that race, and those that no claim has.
use Rattle.std.proofs.Common.{◌≡◌, ◌+◌, ℕ, ◌<◌, List, [], ◌∷◌, ◌++◌, Bool, true, length, get_or, refl, sym, subst, ap, ◌∙◌, arith}
use Rattle.std.specs.Prelude.{◌↔◌, AllPairs, Contains, Option, Some, None, slice_get, unwrap_or}
use Rattle.std.proofs.lemmas.Option.{slice_get-get_or, slice_get_within, get_or_from_slice_get, same_Some}
use Rattle.lrc_races_trace.specs.declared.event.Event.{Event}
use Rattle.lrc_races_trace.specs.Trace.{Accesses, At}
use Rattle.lrc_races_trace.proofs.Positions.{At-one, At-within}
use Rattle.lrc_races_text.specs.declared.asked.Sought.{Sought}
use Rattle.lrc_races_text.specs.Naming.{Naming, Numbers}
use Rattle.lrc_races_text.specs.Spelled.{name_at}
use Rattle.lrc_races_witness.specs.Relations.{AreByLine}
use Rattle.lrc_races_score.specs.Claims.{variable, first}
use Rattle.lrc_races_score.specs.declared.report.LinedClaim.{LinedClaim}
use Rattle.lrc_races_claims.specs.Racing.{RacingAt}
use Rattle.lrc_races_claims.specs.Firsts.{IsFirstLine, IsMarked, line_of}
use Rattle.lrc_races_claims.specs.Judging.{AreFacts}
use Rattle.lrc_races_claims.specs.declared.judging.Facts.{Facts}
use Rattle.lrc_races_missed.specs.declared.key.Key.{Key}
use Rattle.lrc_races_missed.specs.declared.key.Key.TheVariants as keyed
use Rattle.lrc_races_missed.specs.declared.variables.Racing.{Racing}
use Rattle.lrc_races_missed.specs.Keys.{AreKeys, variable_key, first_key}
use Rattle.lrc_races_missed.specs.Missed.{AreAllRacing, AreMissedFirsts, AreMissedVariables, AreNumbered, IsRacing}
use Rattle.lrc_races_missed.specs.Racings.{GivesRacing}
use Rattle.lrc_races_missed.proofs.Given.{AreGiven, given_more, given_none, given_same}
use Rattle.lrc_races_missed.proofs.KeyLemmas.{claimed_key, key_claimed, only_first, only_variable}

-- ---- all that race

abbrev pub GivenRacing : List Event → Facts → ℕ → List Racing → Type 0
GivenRacing events facts n all = AreGiven events (λ k. GivesRacing facts) (λ one other. one.line < other.line) n all

module _ (events : List Event) (facts : Facts) (by_line : AreByLine events) where
  carries : (k l : ℕ) (a b : Event) (x w : Racing) → GivesRacing facts a x → GivesRacing facts b w → a.line < b.line → x.line < w.line
  carries k l a b x w g h lt = let e = g.on in let f = h.on in omega arith

  pub racing_more : (n : ℕ) (is : Event) (found : Option Racing) (racing : Racing) → slice_get events n ≡ Some is
      → ((other : Racing) → GivesRacing facts is other ↔ (found ≡ Some other)) → found ≡ Some racing → (all : List Racing)
      → GivenRacing events facts n all → GivenRacing events facts (n + 1) (all ++ racing ∷ [])
  racing_more n is found racing here test own all given =
      given_more events (λ a b. a.line < b.line) (λ one other. one.line < other.line) (λ k. GivesRacing facts) by_line carries n is here racing
      ((test racing).1 own) (λ w gives. same_Some w racing (sym ((test w).0 gives) ∙ own)) all given

  pub racing_passed : (n : ℕ) (is : Event) (found : Option Racing) → slice_get events n ≡ Some is
      → ((other : Racing) → GivesRacing facts is other ↔ (found ≡ Some other)) → found ≡ None → (all : List Racing)
      → GivenRacing events facts n all → GivenRacing events facts (n + 1) all
  racing_passed n is found here test none all given =
      given_same events (λ a b. a.line < b.line) (λ one other. one.line < other.line) (λ k. GivesRacing facts) by_line carries n is here
      (λ racing gives. let is : found ≡ Some racing = (test racing).0 gives in let never : ⊥ = cc in never) all given

pub racing_none : (events : List Event) (facts : Facts) (all : List Racing) → all ≡ [] → GivenRacing events facts 0 all
racing_none events facts all e =
    subst (λ (l : List Racing). GivenRacing events facts 0 l) (sym e)
    (given_none events (λ k. GivesRacing facts) (λ (one : Racing) (other : Racing). one.line < other.line))

pub racing_are : (sought : Sought) (events : List Event) (facts : Facts) (n : ℕ) (all : List Racing) → n ≡ length events → AreByLine events
    → AreFacts sought events facts → GivenRacing events facts n all → AreAllRacing sought events all
racing_are sought events facts n all end by_line are given = record {
  ascending = given.in_order;
  exact = λ racing. (
    λ has.
        let some = (given.exact racing).0 has in
        let at : At events some.k some.y = record { is = some.at } in
        first_is racing some.k some.y at some.gives.accesses some.gives.on some.gives.first,
    λ is.
        (given.exact racing).1 (record {
          k = is.position;
          y = is.is;
          before = let within = At-within is.first.racing.access.at in omega arith;
          at = is.first.racing.access.at.is;
          gives = record {
            accesses = is.first.racing.access.accesses;
            on = is.on;
            first = first_line racing is;
          };
        }),
  );
}
  where
    marked : (racing : Racing) (k : ℕ) (c : Event) → RacingAt sought events racing.variable k c → IsMarked events facts.marks.items racing.variable k c
    marked racing k c is =
        let within = At-within is.access.at in
        let long = are.marked.long in
        let here = slice_get-get_or facts.marks.items k true (omega arith) in
        record {
          at = is.access.at;
          accesses = is.access.accesses;
          mark = subst (λ (m : Bool). slice_get facts.marks.items k ≡ Some m) ((are.marked.exact k (get_or facts.marks.items k true) here).1 is.races) here;
        }

    first_is : (racing : Racing) (k : ℕ) (a : Event) → At events k a → Accesses a racing.variable → a.line ≡ racing.line
        → line_of facts.firsts.marked racing.variable ≡ Some racing.line → IsRacing sought events racing
    first_is racing k a at accesses on own =
        let one = subst (λ (o : Option ℕ). IsFirstLine (length events) (IsMarked events facts.marks.items racing.variable) o) own
        (are.firsts.marked racing.variable) in
        record {
          position = one.position;
          is = one.event;
          first = record {
            racing = record {
              access = record { at = one.these.at; accesses = one.these.accesses };
              races = (are.marked.exact one.position true one.these.mark).0 refl;
            };
            first = λ l other is. one.first l other (At-within is.access.at) (marked racing l other is);
          };
          on = one.on;
        }

    of_line : (racing : Racing) (is : IsRacing sought events racing) (found : Option ℕ)
        → IsFirstLine (length events) (IsMarked events facts.marks.items racing.variable) found → found ≡ Some racing.line
    of_line racing is (Some line) one =
        let up = one.first is.position is.is (At-within is.first.racing.access.at) (marked racing is.position is.is is.first.racing) in
        let down = is.first.first one.position one.event (record {
          access = record { at = one.these.at; accesses = one.these.accesses };
          races = (are.marked.exact one.position true one.these.mark).0 refl;
        }) in
        let same : one.position ≡ is.position = omega arith in
        let e : one.event ≡ is.is = At-one (subst (λ m. At events m one.event) same one.these.at) is.first.racing.access.at in
        ap Some (sym one.on ∙ ap (λ (a : Event). a.line) e ∙ is.on)
    of_line racing is None none =
        absurd (none is.position is.is (At-within is.first.racing.access.at) (marked racing is.position is.is is.first.racing))

    first_line : (racing : Racing) → IsRacing sought events racing → line_of facts.firsts.marked racing.variable ≡ Some racing.line
    first_line racing is = of_line racing is (line_of facts.firsts.marked racing.variable) (are.firsts.marked racing.variable)

-- ---- those that no claim has

module _ (key_of : Racing → Key) (keys : List Key) where
  pub record GivesItself (position : ℕ) (is racing : Racing) : Type 0 where
    pub same : is ≡ racing
    pub free : ¬ Contains keys (key_of racing)

abbrev pub GivenFree : (Racing → Key) → List Key → List Racing → ℕ → List Racing → Type 0
GivenFree key_of keys all n missed = AreGiven all (GivesItself key_of keys) (λ one other. one.line < other.line) n missed

module _ (key_of : Racing → Key) (keys : List Key) (all : List Racing) (ascending : AllPairs (λ one other. one.line < other.line) all) where
  carries_free : (k l : ℕ) (a b x w : Racing) → GivesItself key_of keys k a x → GivesItself key_of keys l b w → a.line < b.line → x.line < w.line
  carries_free k l a b x w g h lt =
      let e : a.line ≡ x.line = ap (λ (r : Racing). r.line) g.same in
      let f : b.line ≡ w.line = ap (λ (r : Racing). r.line) h.same in
      omega arith

  pub free_more : (n : ℕ) (racing : Racing) → slice_get all n ≡ Some racing → ¬ Contains keys (key_of racing) → (missed : List Racing)
      → GivenFree key_of keys all n missed → GivenFree key_of keys all (n + 1) (missed ++ racing ∷ [])
  free_more n racing here free missed given =
      given_more all (λ one other. one.line < other.line) (λ one other. one.line < other.line) (GivesItself key_of keys) ascending carries_free n racing here
      racing (record { same = refl; free = free }) (λ w gives. sym gives.same) missed given

  pub free_passed : (n : ℕ) (racing : Racing) → slice_get all n ≡ Some racing → Contains keys (key_of racing) → (missed : List Racing)
      → GivenFree key_of keys all n missed → GivenFree key_of keys all (n + 1) missed
  free_passed n racing here has missed given =
      given_same all (λ one other. one.line < other.line) (λ one other. one.line < other.line) (GivesItself key_of keys) ascending carries_free n racing here
      (λ w gives. gives.free (subst (λ r. Contains keys (key_of r)) gives.same has)) missed given

pub free_none : (key_of : Racing → Key) (keys : List Key) (all missed : List Racing) → missed ≡ [] → GivenFree key_of keys all 0 missed
free_none key_of keys all missed e =
    subst (λ (l : List Racing). GivenFree key_of keys all 0 l) (sym e)
    (given_none all (GivesItself key_of keys) (λ (one : Racing) (other : Racing). one.line < other.line))

free_exact : (key_of : Racing → Key) (keys : List Key) (all missed : List Racing) (n : ℕ) → n ≡ length all → GivenFree key_of keys all n missed
    → (racing : Racing) → Contains missed racing ↔ (Contains all racing × ¬ Contains keys (key_of racing))
free_exact key_of keys all missed n end given racing = (
  λ has.
      let some = (given.exact racing).0 has in (
        subst (λ r. Contains all r) some.gives.same (some.k, slice_get_within all some.k some.y some.at, get_or_from_slice_get all some.k some.y some.y some.at),
        some.gives.free,
      ),
  λ ((k, lt, is), free). (given.exact racing).1 (record {
    k = k;
    y = racing;
    before = omega arith;
    at = slice_get-get_or all k racing lt ∙ ap Some is;
    gives = record { same = refl; free = free };
  }),
)

named : (naming : Naming) (v : ℕ) → v < length naming.variables → Numbers naming.variables (name_at naming.variables v) v
named naming v lt =
    let at = slice_get-get_or naming.variables v [] lt in
    record { at = at ∙ ap Some (sym (ap (λ (o : Option (List ℕ)). unwrap_or o []) at)) }

abbrev pub variable_key_of : Racing → Key
variable_key_of racing = keyed.Variable racing.variable

abbrev pub first_key_of : Racing → Key
first_key_of racing = keyed.First racing.variable racing.line

module _ (sought : Sought) (naming : Naming) (events : List Event) (claims : List LinedClaim) (places : List (List ℕ)) (keys : List Key) (all missed : List Racing)
    (are : AreAllRacing sought events all) (numbered : AreNumbered naming events) (are_keys : AreKeys naming.variables places claims keys) where
  has_name : (racing : Racing) → Contains all racing → Numbers naming.variables (name_at naming.variables racing.variable) racing.variable
  has_name racing has =
      let is = (are.exact racing).0 has in
      named naming racing.variable (numbered is.position racing.variable is.is is.first.racing.access.at is.first.racing.access.accesses)

  pub variables_are : (n : ℕ) → n ≡ length all → GivenFree variable_key_of keys all n missed → AreMissedVariables sought naming events claims missed
  variables_are n end given = record {
    ascending = given.in_order;
    exact = λ racing.
        let name = name_at naming.variables racing.variable in
        let both = free_exact variable_key_of keys all missed n end given racing in (
          λ has.
              let (there, free) = both.0 has in (
                (are.exact racing).0 there,
                λ claimed. free (key_claimed naming.variables places claims keys are_keys (variable name) (variable_key_of racing)
                    (variable_key (has_name racing there)) claimed),
              ),
          λ (is, free).
              let there = (are.exact racing).1 is in
              both.1 (
                there,
                λ has. free (claimed_key naming.variables places claims keys are_keys (variable name) (variable_key_of racing)
                    (λ other key. only_variable naming.variables places name racing.variable (has_name racing there) other (variable_key_of racing) refl key) has),
              ),
        );
  }

  pub firsts_are : (n : ℕ) → n ≡ length all → GivenFree first_key_of keys all n missed → AreMissedFirsts sought naming events claims missed
  firsts_are n end given = record {
    ascending = given.in_order;
    exact = λ racing.
        let name = name_at naming.variables racing.variable in
        let both = free_exact first_key_of keys all missed n end given racing in (
          λ has.
              let (there, free) = both.0 has in (
                (are.exact racing).0 there,
                λ claimed. free (key_claimed naming.variables places claims keys are_keys (first name racing.line) (first_key_of racing)
                    (first_key (has_name racing there)) claimed),
              ),
          λ (is, free).
              let there = (are.exact racing).1 is in
              both.1 (
                there,
                λ has. free (claimed_key naming.variables places claims keys are_keys (first name racing.line) (first_key_of racing)
                    (λ other key. only_first naming.variables places name racing.variable racing.line (has_name racing there) other (first_key_of racing) refl key) has),
              ),
        );
  }
