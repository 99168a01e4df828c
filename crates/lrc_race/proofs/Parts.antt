-- Parts of lists of places.
use Rattle.std.proofs.Common.{◌≡◌, ℕ, ◌+◌, ◌-◌, ◌<◌, ◌≤◌, ◌++◌, ◌∙◌, true, false, List, length}
use Rattle.std.proofs.Common.{get_or, take, drop, ltb, leb, ap, sym, subst, ⊎_elim, arith, length-drop}
use Rattle.std.specs.Prelude.{Contains}
use Rattle.std.specs.List.{AllWithin}
use Rattle.std.specs.List.Sorted.{IsNonDecreasingBy}
use Rattle.std.proofs.lemmas.Bool.{cases_eq, leb-false, ltb-true}
use Rattle.std.proofs.lemmas.List.{get_or-drop, get_or-take, get_or_default, length-take, take-append-drop}
use Rattle.std.proofs.lemmas.List.Elements.{All-contains, Contains-append_cases, Contains-append_left, Contains-append_right, Contains-get_or}
use Rattle.lrc_trace.specs.declared.race.Race.{Race}
use Rattle.lrc_trace.specs.Trace.{TraceRecord}
use Rattle.lrc_race.specs.declared.places.TouchedPlace.{TouchedPlace}
use Rattle.lrc_judge.specs.Adding.{Adds}
use Rattle.lrc_race.specs.Places.{AreInOrder, IsPartOf}
use Rattle.lrc_race.specs.Pairs.{IsRaceOfLists}
use Rattle.lrc_race.specs.Comparable.{AreListed}
use Rattle.lrc_judge.proofs.Additions.{adds-iff}

-- ---- the front and the rest of a list

module _ (places : List TouchedPlace) (n : ℕ) (sorted : AreInOrder places) where
  split : (p : TouchedPlace) → Contains places p → Contains (take n places ++ drop n places) p
  split p there = subst (λ ps. Contains ps p) (sym (take-append-drop n places)) there

  joined : (p : TouchedPlace) → Contains (take n places ++ drop n places) p → Contains places p
  joined p there = subst (λ ps. Contains ps p) (take-append-drop n places) there

  pub rest-part : (P : TouchedPlace → Type 0) → ((p : TouchedPlace) → Contains (take n places) p → P p → ⊥)
      → IsPartOf places (drop n places) P
  rest-part P none = record {
    sorted = λ i j d before within.
        rw (get_or-drop n places i d, get_or-drop n places j d)
        (sorted (n + i) (n + j) d (omega arith) (omega (arith, within, length-drop n places)));
    sound = λ p there. joined p (Contains-append_right (take n places) (drop n places) p there);
    cover = λ p there meant.
        ⊎_elim (λ front. absurd (none p front meant)) (λ rest. rest)
        (Contains-append_cases (take n places) (drop n places) p (split p there));
  }

  pub front-part : (P : TouchedPlace → Type 0) → ((p : TouchedPlace) → Contains (drop n places) p → P p → ⊥)
      → IsPartOf places (take n places) P
  front-part P none = record {
    sorted = λ i j d before within.
        let short = length-take n places in
        let first : i < n = omega (arith, before, within, short) in
        let last : j < n = omega (arith, within, short) in
        rw (get_or-take n places i d first, get_or-take n places j d last) (sorted i j d before (omega (arith, within, short)));
    sound = λ p there. joined p (Contains-append_left (take n places) (drop n places) p there);
    cover = λ p there meant.
        ⊎_elim (λ front. front) (λ rest. absurd (none p rest meant))
        (Contains-append_cases (take n places) (drop n places) p (split p there));
  }

-- ---- what holds up to a number, and from there on

front-holds : (places : List TouchedPlace) (n : ℕ) (P : TouchedPlace → Type 0) → AllWithin P places 0 n
    → (p : TouchedPlace) → Contains (take n places) p → P p
front-holds places n P all p (k, within, is) =
    let low : k < n = omega (arith, within, length-take n places) in
    subst P (sym (get_or-take n places k p low) ∙ is) (all k p (omega arith) low)

rest-holds : (places : List TouchedPlace) (n : ℕ) (P : TouchedPlace → Type 0) → AllWithin P places n (length places)
    → (p : TouchedPlace) → Contains (drop n places) p → P p
rest-holds places n P all p (k, within, is) =
    subst P (sym (get_or-drop n places k p) ∙ is) (all (n + k) p (omega arith) (omega (arith, within, length-drop n places)))

-- places in order do so by words
pub words-rise : (places : List TouchedPlace) → AreInOrder places → IsNonDecreasingBy (λ p. p.word) places
words-rise places sorted i j d before within =
    ⊎_elim
    (λ (same : i ≡ j). let words = ap (λ n. (get_or places n d).word) same in omega (arith, words))
    (λ (apart : i ≡ j → ⊥).
    ⊎_elim
    (λ (less : (get_or places i d).word < (get_or places j d).word). omega (arith, less))
    (λ (same, segments). omega (arith, same))
    (sorted i j d (omega arith) within))
    (cases_eq i j)

pub rest-part-words : (places : List TouchedPlace) (word n : ℕ) → AreInOrder places → AllWithin (λ p. ltb p.word word ≡ true) places 0 n
    → IsPartOf places (drop n places) (λ p. word ≤ p.word)
rest-part-words places word n sorted all =
    rest-part places n sorted (λ p. word ≤ p.word)
    (λ p front late. omega (arith, late, ltb-true p.word word (front-holds places n (λ p. ltb p.word word ≡ true) all p front)))

pub front-part-words : (places : List TouchedPlace) (word n : ℕ) → AreInOrder places
    → AllWithin (λ p. leb p.word word ≡ false) places n (length places) → IsPartOf places (take n places) (λ p. p.word ≤ word)
front-part-words places word n sorted all =
    front-part places n sorted (λ p. p.word ≤ word)
    (λ p rest early. omega (arith, early, leb-false p.word word (rest-holds places n (λ p. leb p.word word ≡ false) all p rest)))

-- a word of the list is not before its first and not after its last
pub between-words : (places : List TouchedPlace) (q d : TouchedPlace) → AreInOrder places → Contains places q
    → ((get_or places 0 d).word ≤ q.word) × (q.word ≤ (get_or places (length places - 1) d).word)
between-words places q d sorted (k, within, is) =
    let here = ap (λ (p : TouchedPlace). p.word) (get_or_default places k d q within ∙ is) in (
      omega (arith, words-rise places sorted 0 k d (omega arith) within, here),
      omega (arith, words-rise places sorted k (length places - 1) d (omega arith) (omega arith), here),
    )

-- ---- parts of parts

pub part-part : (places rest part : List TouchedPlace) (P Q R : TouchedPlace → Type 0) → ((p : TouchedPlace) → R p → P p × Q p)
    → IsPartOf places rest P → IsPartOf rest part Q → IsPartOf places part R
part-part places rest part P Q R both first second = record {
  sorted = second.sorted;
  sound = λ p there. first.sound p (second.sound p there);
  cover = λ p there meant. second.cover p (first.cover p there (both p meant).0) (both p meant).1;
}

pub part-listed : (trace : TraceRecord) (places part : List TouchedPlace) (P : TouchedPlace → Type 0) → AreListed trace places
    → IsPartOf places part P → AreListed trace part
part-listed trace places part P listed is = record {
  within = λ k d less.
      All-contains (λ p. p.segment < length trace.segments) places (get_or part k d) listed.within
      (is.sound (get_or part k d) (Contains-get_or part k d less));
  in_order = is.sorted;
}

-- of a word that the list has
abbrev pub IsOfWord : List TouchedPlace → TouchedPlace → Type 0
IsOfWord others p = (q : TouchedPlace) × Contains others q × (q.word ≡ p.word)

-- the races of lists are those of their parts of words that the other has
pub parts-race : (a : TraceRecord) (xs near : List TouchedPlace) (b : TraceRecord) (ys others : List TouchedPlace) (rs qs : List Race)
    → IsPartOf xs near (IsOfWord ys) → IsPartOf ys others (IsOfWord near) → Adds rs qs (IsRaceOfLists a near b others)
    → Adds rs qs (IsRaceOfLists a xs b ys)
parts-race a xs near b ys others rs qs first second adds =
    adds-iff rs qs (IsRaceOfLists a near b others) (IsRaceOfLists a xs b ys)
    (λ race (x, x_in, (y, y_in, r)). (x, first.sound x x_in, (y, second.sound y y_in, r)))
    (λ race (x, x_in, (y, y_in, r)).
    let x_near = first.cover x x_in (y, y_in, sym r.word) in
    (x, x_near, (y, second.cover y y_in (x, x_near, r.word), r)))
    adds
