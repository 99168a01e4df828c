-- Places of two traces: which cannot race, and what stays so further on.
use Rattle.std.proofs.Common.{◌≡◌, ◌∙◌, ℕ, ◌+◌, ◌<◌, ◌≤◌, ◌++◌, ◌∷◌, [], inl, inr, Bool, List, Some, length, get_or, ap, refl, sym, subst, ⊎_elim, arith}
use Rattle.std.specs.Prelude.{Contains, IsTrue, slice_get}
use Rattle.std.proofs.lemmas.Bool.{cases_eq, cases_lt}
use Rattle.std.proofs.lemmas.Option.{get_or_from_slice_get, slice_get_read, slice_get_within, slice_get-get_or}
use Rattle.lrc_trace.specs.declared.race.Race.{Race}
use Rattle.lrc_trace.specs.Trace.{TraceRecord}
use Rattle.lrc_race.specs.declared.places.TouchedPlace.{TouchedPlace}
use Rattle.lrc_judge.specs.Adding.{Adds, IsOfSome}
use Rattle.lrc_race.specs.Places.{IsBefore, AreInOrder}
use Rattle.lrc_race.specs.Races.{RisesAlong, race_named}
use Rattle.lrc_race.specs.Pairs.{AreWithin, IsBehind, IsRaceOfPlaces, IsRaceAt, IsRaceFrom}
use Rattle.lrc_race.specs.Comparable.{AreListed}
use Rattle.lrc_judge.proofs.Additions.{adds-same, adds-push, adds-iff, below-more, IsBelow}
use Rattle.lrc_race.proofs.Same.{some_same}

-- ---- elements at their numbers

pub contains_at : {X : Type 0} → (xs : List X) (x : X) → Contains xs x → (k : ℕ) × (slice_get xs k ≡ Some x)
contains_at xs x (k, within, is) = (k, slice_get_read xs (length xs) k x refl within (sym is))

pub at_contains : {X : Type 0} → (xs : List X) (k : ℕ) (x : X) → slice_get xs k ≡ Some x → Contains xs x
at_contains xs k x is = (k, slice_get_within xs k x is, get_or_from_slice_get xs k x x is)

-- ---- places that do not race

pub behind-no_race : (rise : Bool) (a : TraceRecord) (x : TouchedPlace) (b : TraceRecord) (y : TouchedPlace) (race : Race)
    → IsBehind rise a x b y → IsRaceOfPlaces a x b y race → ⊥
behind-no_race rise a x b y race behind r =
    ⊎_elim
    (λ (less : y.word < x.word). omega (arith, r.word))
    (λ (up, same, knows).
    let s : knows.s ≡ r.s = some_same knows.s r.s (sym knows.first ∙ r.first) in
    let t : knows.t ≡ r.t = some_same knows.t r.t (sym knows.second ∙ r.second) in
    r.unordered.first (rw (← s, ← t) knows.knows))
    behind

pub ahead-no_race : (rise : Bool) (a : TraceRecord) (x : TouchedPlace) (b : TraceRecord) (y : TouchedPlace) (race : Race)
    → IsBehind rise b y a x → IsRaceOfPlaces a x b y race → ⊥
ahead-no_race rise a x b y race behind r =
    ⊎_elim
    (λ (less : x.word < y.word). omega (arith, r.word))
    (λ (up, same, knows).
    let t : knows.s ≡ r.t = some_same knows.s r.t (sym knows.first ∙ r.second) in
    let s : knows.t ≡ r.s = some_same knows.t r.s (sym knows.second ∙ r.first) in
    r.unordered.second (rw (← s, ← t) knows.knows))
    behind

-- what is behind a place is behind every later place of its trace
pub behind-later : (rise : Bool) (a : TraceRecord) (x later : TouchedPlace) (b : TraceRecord) (y : TouchedPlace) → (IsTrue rise → RisesAlong a)
    → IsBefore x later → later.segment < length a.segments → IsBehind rise a x b y → IsBehind rise a later b y
behind-later rise a x later b y rises before within behind =
    ⊎_elim
    (λ (less : y.word < x.word).
    ⊎_elim (λ (more : x.word < later.word). inl (omega arith)) (λ (same, lower). inl (omega (arith, same))) before)
    (λ (up, same, knows).
    ⊎_elim
    (λ (more : x.word < later.word). inl (omega (arith, same)))
    (λ (words, lower).
    let s = get_or a.segments later.segment knows.s in
    let there : slice_get a.segments later.segment ≡ Some s = slice_get-get_or a.segments later.segment knows.s within in
    let covers = rises up x.segment later.segment knows.s s lower knows.first there in
    inr (
      up,
      same ∙ words,
      record {
        s = s;
        t = knows.t;
        first = there;
        second = knows.second;
        knows = omega (arith, covers b.node, knows.knows);
      },
    ))
    before)
    behind

-- two places have one race
one_race : (a : TraceRecord) (x : TouchedPlace) (b : TraceRecord) (y : TouchedPlace) (q r : Race)
    → IsRaceOfPlaces a x b y q → IsRaceOfPlaces a x b y r → q ≡ r
one_race a x b y q r first second =
    let s : first.s ≡ second.s = some_same first.s second.s (sym first.first ∙ second.first) in
    let t : first.t ≡ second.t = some_same first.t second.t (sym first.second ∙ second.second) in
    first.named ∙ ap (λ u. race_named x.word a u b first.t) s ∙ ap (λ u. race_named x.word a second.s b u) t ∙ sym second.named

-- ---- the races of one place

module _ (a : TraceRecord) (x : TouchedPlace) (b : TraceRecord) (ys : List TouchedPlace) (from : ℕ) where
  abbrev pub IsStretchAt : ℕ → Race → Type 0
  IsStretchAt k race = (from ≤ k) × IsRaceAt a x b ys k race

  pub stretch-none : (xs : List Race) → Adds xs xs (IsBelow IsStretchAt from)
  stretch-none xs = adds-same xs (IsBelow IsStretchAt from) (λ race (k, less, (after, is)). omega arith)

  pub stretch-same : (rs qs : List Race) (k : ℕ) (y : TouchedPlace) → slice_get ys k ≡ Some y
      → ((race : Race) → ¬ IsRaceOfPlaces a x b y race)
      → Adds rs qs (IsBelow IsStretchAt k) → Adds rs qs (IsBelow IsStretchAt (k + 1))
  stretch-same rs qs k y is none adds =
      below-more IsStretchAt rs qs qs k adds
      (adds-same qs (IsStretchAt k) (λ race (after, (z, there, r)).
      none race (subst (λ w. IsRaceOfPlaces a x b w race) (some_same z y (sym there ∙ is)) r)))

  pub stretch-push : (rs qs ps : List Race) (k : ℕ) (y : TouchedPlace) (race : Race) → from ≤ k → slice_get ys k ≡ Some y
      → IsRaceOfPlaces a x b y race → ps ≡ qs ++ race ∷ []
      → Adds rs qs (IsBelow IsStretchAt k) → Adds rs ps (IsBelow IsStretchAt (k + 1))
  stretch-push rs qs ps k y race after is r pushed adds =
      below-more IsStretchAt rs qs ps k adds
      (adds-iff qs ps (λ q. q ≡ race) (IsStretchAt k)
      (λ q same. (after, (y, is, subst (IsRaceOfPlaces a x b y) (sym same) r)))
      (λ q (late, (z, there, other)).
      one_race a x b y q race (subst (λ w. IsRaceOfPlaces a x b w q) (some_same z y (sym there ∙ is)) other) r)
      (adds-push qs ps race pushed))

  -- where nothing from a number on races
  pub stretch-all : (rs qs : List Race) (n : ℕ)
      → ((k : ℕ) (y : TouchedPlace) (race : Race) → n ≤ k → slice_get ys k ≡ Some y → ¬ IsRaceOfPlaces a x b y race)
      → Adds rs qs (IsBelow IsStretchAt n) → Adds rs qs (IsRaceFrom a x b ys from)
  stretch-all rs qs n none adds =
      adds-iff rs qs (IsBelow IsStretchAt n) (IsRaceFrom a x b ys from)
      (λ race (k, below, (after, is)). (k, after, is))
      (λ race (k, after, (y, is, r)).
      ⊎_elim (λ (below : k < n). (k, below, (after, (y, is, r)))) (λ (late : n ≤ k). absurd (none k y race late is r)) (cases_lt k n))
      adds

-- ---- places in order

-- the place that stands for what is not there
abbrev pub nowhere : TouchedPlace
nowhere = record { word = 0; segment = 0 }

pub order_at : (ys : List TouchedPlace) → AreInOrder ys → (k j : ℕ) (y z : TouchedPlace) → k ≤ j → slice_get ys k ≡ Some y
    → slice_get ys j ≡ Some z → IsBefore y z
order_at ys sorted k j y z before y_is z_is =
    ⊎_elim
    (λ (same : k ≡ j).
    let one : y ≡ z = some_same y z (sym y_is ∙ ap (slice_get ys) same ∙ z_is) in
    inr (ap (λ (p : TouchedPlace). p.word) one, omega (arith, ap (λ (p : TouchedPlace). p.segment) one)))
    (λ (apart : k ≡ j → ⊥).
    rw (get_or_from_slice_get ys k y nowhere y_is, get_or_from_slice_get ys j z nowhere z_is) at
    (sorted k j nowhere (omega arith) (slice_get_within ys j z z_is)))
    (cases_eq k j)

pub within_at : (b : TraceRecord) (ys : List TouchedPlace) → AreWithin b ys → (k : ℕ) (y : TouchedPlace) → slice_get ys k ≡ Some y
    → y.segment < length b.segments
within_at b ys within k y is =
    subst (λ (p : TouchedPlace). p.segment < length b.segments) (get_or_from_slice_get ys k y nowhere is)
    (within k nowhere (slice_get_within ys k y is))

-- what stands after a place that is ahead does not race
pub ahead-rest : (rise : Bool) (a : TraceRecord) (x : TouchedPlace) (b : TraceRecord) (ys : List TouchedPlace) → (IsTrue rise → RisesAlong b)
    → AreListed b ys → (k : ℕ) (y : TouchedPlace) → slice_get ys k ≡ Some y → IsBehind rise b y a x
    → (j : ℕ) (z : TouchedPlace) (race : Race) → k ≤ j → slice_get ys j ≡ Some z → ¬ IsRaceOfPlaces a x b z race
ahead-rest rise a x b ys rises listed k y y_is ahead j z race late z_is =
    ahead-no_race rise a x b z race
    (behind-later rise b y z a x rises (order_at ys listed.in_order k j y z late y_is z_is) (within_at b ys listed.within j z z_is) ahead)

-- the races from a number on are all, where those before are behind
pub from-all : (rise : Bool) (a : TraceRecord) (x : TouchedPlace) (b : TraceRecord) (ys : List TouchedPlace) (start : ℕ) (rs qs : List Race)
    → ((k : ℕ) (y : TouchedPlace) → k < start → slice_get ys k ≡ Some y → IsBehind rise a x b y)
    → Adds rs qs (IsRaceFrom a x b ys start) → Adds rs qs (IsOfSome ys (IsRaceOfPlaces a x b))
from-all rise a x b ys start rs qs behind adds =
    adds-iff rs qs (IsRaceFrom a x b ys start) (IsOfSome ys (IsRaceOfPlaces a x b))
    (λ race (k, late, (y, is, r)). (y, at_contains ys k y is, r))
    (λ race (y, there, r).
    let (k, is) = contains_at ys y there in
    ⊎_elim
    (λ (below : k < start). absurd (behind-no_race rise a x b y race (behind k y below is) r))
    (λ (late : start ≤ k). (k, late, (y, is, r)))
    (cases_lt k start))
    adds
