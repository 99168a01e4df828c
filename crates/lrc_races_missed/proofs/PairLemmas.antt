-- The pairs that are told and that no claim has, with those of one event more, and all.
use Rattle.std.proofs.Common.{◌≡◌, ◌+◌, ℕ, ◌<◌, List, [], ◌∷◌, ◌++◌, length, map, inl, inr, refl, sym, subst, ap, ◌∙◌, arith, append_assoc}
use Rattle.std.specs.Prelude.{◌↔◌, AllPairs, Contains, Some, slice_get}
use Rattle.std.proofs.lemmas.Bool.{cases_eq}
use Rattle.std.proofs.lemmas.List.{append-nil, map-append}
use Rattle.std.proofs.lemmas.List.Elements.{Contains-append_cases, Contains-append_left, Contains-append_right}
use Rattle.std.proofs.lemmas.Option.{slice_get-get_or, slice_get_within, get_or_from_slice_get}
use Rattle.lrc_races_trace.specs.declared.event.Event.{Event}
use Rattle.lrc_races_trace.specs.declared.event.Pair.{Pair}
use Rattle.lrc_races_trace.specs.Races.{ComesFirst}
use Rattle.lrc_races_trace.proofs.Positions.{At-within}
use Rattle.lrc_races_detector.proofs.Pairs.{pairs-append}
use Rattle.lrc_races_text.specs.declared.asked.Sought.{Sought}
use Rattle.lrc_races_text.specs.declared.asked.Sought.TheVariants.{AllRaces, SureRaces}
use Rattle.lrc_races_text.specs.Sought.{AreSoughtAt}
use Rattle.lrc_races_score.specs.Claims.{pair}
use Rattle.lrc_races_score.specs.declared.report.LinedClaim.{LinedClaim}
use Rattle.lrc_races_missed.specs.declared.key.Key.{Key}
use Rattle.lrc_races_missed.specs.declared.key.Key.TheVariants as keyed
use Rattle.lrc_races_missed.specs.declared.pairs.TwoLines.{TwoLines}
use Rattle.lrc_races_missed.specs.Keyless.{AreLinesAdded, IsKeyless}
use Rattle.lrc_races_missed.specs.Keys.{AreKeys, pair_key}
use Rattle.lrc_races_missed.specs.Missed.{AreMissedPairs, Claims, IsToldOf, lines_of}
use Rattle.lrc_races_missed.proofs.Given.{AreGiven, given_more, given_none, given_same}
use Rattle.lrc_races_missed.proofs.KeyLemmas.{claimed_key, key_claimed, only_pair}

-- ---- the pairs of one event

pub record GivesPair (keys : List Key) (position : ℕ) (is told : Pair) : Type 0 where
  pub same : is ≡ told
  pub free : IsKeyless keys (lines_of is)

-- of the first n pairs those are given whose lines are added
pub record AreAdded (keys : List Key) (told : List Pair) (n : ℕ) (old new : List TwoLines) : Type 0 where
  pub pairs : List Pair
  pub given : AreGiven told (GivesPair keys) ComesFirst n pairs
  pub lines : new ≡ old ++ map lines_of pairs

module _ (keys : List Key) (told : List Pair) (ordered : AllPairs ComesFirst told) where
  carries : (k l : ℕ) (a b x w : Pair) → GivesPair keys k a x → GivesPair keys l b w → ComesFirst a b → ComesFirst x w
  carries k l a b x w g h first = subst (λ p. ComesFirst p w) g.same (subst (λ p. ComesFirst a p) h.same first)

  pub added_more : (n : ℕ) (is : Pair) → slice_get told n ≡ Some is → IsKeyless keys (lines_of is) → (old lines new : List TwoLines)
      → new ≡ lines ++ lines_of is ∷ [] → AreAdded keys told n old lines → AreAdded keys told (n + 1) old new
  added_more n is here free old lines new e are = record {
    pairs = are.pairs ++ is ∷ [];
    given = given_more told ComesFirst ComesFirst (GivesPair keys) ordered carries n is here is (record { same = refl; free = free })
        (λ w gives. sym gives.same) are.pairs are.given;
    lines = e ∙ ap (λ l. l ++ lines_of is ∷ []) are.lines ∙ append_assoc old (map lines_of are.pairs) (lines_of is ∷ [])
        ∙ ap (λ l. old ++ l) (sym (map-append lines_of are.pairs (is ∷ [])));
  }

  pub added_same : (n : ℕ) (is : Pair) → slice_get told n ≡ Some is → (IsKeyless keys (lines_of is) → ⊥) → (old lines : List TwoLines)
      → AreAdded keys told n old lines → AreAdded keys told (n + 1) old lines
  added_same n is here none old lines are = record {
    pairs = are.pairs;
    given = given_same told ComesFirst ComesFirst (GivesPair keys) ordered carries n is here (λ w gives. none gives.free) are.pairs are.given;
    lines = are.lines;
  }

pub added_none : (keys : List Key) (told : List Pair) (old : List TwoLines) → AreAdded keys told 0 old old
added_none keys told old = record { pairs = []; given = given_none told (GivesPair keys) ComesFirst; lines = sym (append-nil old) }

pub added_all : (keys : List Key) (told : List Pair) (n : ℕ) (old new : List TwoLines) → n ≡ length told → AreAdded keys told n old new
    → AreLinesAdded keys told old new
added_all keys told n old new end are = (
  are.pairs,
  record {
    in_order = are.given.in_order;
    exact = λ is. (
      λ has.
          let some = (are.given.exact is).0 has in (
            subst (λ p. Contains told p) some.gives.same (some.k, slice_get_within told some.k some.y some.at, get_or_from_slice_get told some.k some.y some.y some.at),
            subst (λ p. IsKeyless keys (lines_of p)) some.gives.same some.gives.free,
          ),
      λ ((k, lt, same), free). (are.given.exact is).1 (record {
        k = k;
        y = is;
        before = omega arith;
        at = slice_get-get_or told k is lt ∙ ap Some same;
        gives = record { same = refl; free = free };
      }),
    );
  },
  are.lines,
)

-- ---- those of the events so far

pub record AreBefore (sought : Sought) (events : List Event) (keys : List Key) (n : ℕ) (lines : List TwoLines) : Type 0 where
  pub pairs : List Pair
  pub in_order : AllPairs ComesFirst pairs
  pub exact : (told : Pair) → Contains pairs told ↔ (IsToldOf sought events told × (told.later.position < n) × IsKeyless keys (lines_of told))
  pub lines_are : lines ≡ map lines_of pairs

pub before_none : (sought : Sought) (events : List Event) (keys : List Key) (lines : List TwoLines) → lines ≡ [] → AreBefore sought events keys 0 lines
before_none sought events keys lines e = record {
  pairs = [];
  in_order = λ i j d lt within. absurd (omega arith);
  exact = λ told. (λ (k, lt, is). absurd (omega arith), λ (is, lt, free). absurd (omega arith));
  lines_are = e;
}

-- what is told of an event, of either sort of races
record AreAt (sought : Sought) (events : List Event) (n : ℕ) (told : List Pair) : Type 0 where
  in_order : AllPairs ComesFirst told
  exact : (pair : Pair) → Contains told pair ↔ (IsToldOf sought events pair × (pair.later.position ≡ n))

are_at : (sought : Sought) (events : List Event) (n : ℕ) (told : List Pair) → AreSoughtAt sought events n told → AreAt sought events n told
are_at AllRaces events n told at = record { in_order = at.in_order; exact = at.exact }
are_at SureRaces events n told at = record { in_order = at.in_order; exact = at.exact }

pub told_in_order : (sought : Sought) (events : List Event) (n : ℕ) (told : List Pair) → AreSoughtAt sought events n told → AllPairs ComesFirst told
told_in_order sought events n told at = (are_at sought events n told at).in_order

pub before_more : (sought : Sought) (events : List Event) (keys : List Key) (n : ℕ) (told : List Pair) (lines new : List TwoLines)
    → AreSoughtAt sought events n told → AreLinesAdded keys told lines new → AreBefore sought events keys n lines
    → AreBefore sought events keys (n + 1) new
before_more sought events keys n told lines new at (more, are, e) before =
    let here = are_at sought events n told at in
    record {
      pairs = before.pairs ++ more;
      in_order = pairs-append ComesFirst before.pairs more before.in_order are.in_order (λ p q has has'.
          let (is, lt, free) = (before.exact p).0 has in
          let (there, free') = (are.exact q).0 has' in
          let (is', same) = (here.exact q).0 there in
          let less : p.later.position < q.later.position = omega arith in
          inl less);
      exact = λ pair. (
        λ has. elim (Contains-append_cases before.pairs more pair has) [
          | inl was ↦ let (is, lt, free) = (before.exact pair).0 was in (is, (let less : pair.later.position < n + 1 = omega arith in less), free)
          | inr now ↦
              let (there, free) = (are.exact pair).0 now in
              let (is, same) = (here.exact pair).0 there in
              (is, (let less : pair.later.position < n + 1 = omega arith in less), free)
        ],
        λ (is, lt, free). elim (cases_eq pair.later.position n) [
          | inl same ↦ Contains-append_right before.pairs more pair ((are.exact pair).1 ((here.exact pair).1 (is, same), free))
          | inr other ↦ Contains-append_left before.pairs more pair ((before.exact pair).1 (is, (let less : pair.later.position < n = omega arith in less), free))
        ],
      );
      lines_are = e ∙ ap (λ l. l ++ map lines_of more) before.lines_are ∙ sym (map-append lines_of before.pairs more);
    }

told_within : (sought : Sought) (events : List Event) (told : Pair) → IsToldOf sought events told → told.later.position < length events
told_within AllRaces events told is = At-within is.second
told_within SureRaces events told is = At-within is.second

pub before_all : (sought : Sought) (events : List Event) (claims : List LinedClaim) (variables places : List (List ℕ)) (keys : List Key) (n : ℕ)
    (lines : List TwoLines) → n ≡ length events → AreKeys variables places claims keys → AreBefore sought events keys n lines
    → (pairs : List Pair) × AreMissedPairs sought events claims pairs × (lines ≡ map lines_of pairs)
before_all sought events claims variables places keys n lines end are before = (
  before.pairs,
  record {
    in_order = before.in_order;
    exact = λ told. (
      λ has.
          let (is, lt, free) = (before.exact told).0 has in (
            is,
            (
              λ claimed. free.0 (there told.earlier.event.line told.later.event.line claimed),
              λ claimed. free.1 (there told.later.event.line told.earlier.event.line claimed),
            ),
          ),
      λ (is, free).
          let within = told_within sought events told is in
          (before.exact told).1 (
            is,
            (let less : told.later.position < n = omega arith in less),
            (λ has. free.0 (back told.earlier.event.line told.later.event.line has), λ has. free.1 (back told.later.event.line told.earlier.event.line has)),
          ),
    );
  },
  before.lines_are,
)
  where
    there : (line other : ℕ) → Claims claims (pair line other) → Contains keys (keyed.Pair line other)
    there line other claimed = key_claimed variables places claims keys are (pair line other) (keyed.Pair line other) pair_key claimed

    back : (line other : ℕ) → Contains keys (keyed.Pair line other) → Claims claims (pair line other)
    back line other has = claimed_key variables places claims keys are (pair line other) (keyed.Pair line other)
        (λ claim is. only_pair variables places line other claim (keyed.Pair line other) refl is) has
