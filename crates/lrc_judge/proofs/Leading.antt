-- Of pairs in order the first one of each race.
use Rattle.std.proofs.Common.{◌≡◌, ℕ, ◌+◌, ◌<◌, ◌≤◌, ◌⊎◌, ◌++◌, Bool, true, false, not, cond, List, [], ◌∷◌, Some, length, inl, inr, refl, sym, subst, ◌∙◌, ap, arith}
use Rattle.std.specs.Prelude.{Contains, slice_get}
use Rattle.std.specs.BTreeMap.{is_at}
use Rattle.std.specs.BTreeSet.{BTreeSet, contains, IsEmpty, Updates}
use Rattle.std.specs.List.{list_any}
use Rattle.std.proofs.lemmas.Bool.{cases_Bool, cases_eq, false≢true}
use Rattle.std.proofs.lemmas.List.Elements.{Contains-push, Contains-push_cases, Contains-append_left}
use Rattle.std.proofs.lemmas.Option.{same_Some, slice_get_within}
use Rattle.lrc_trace.specs.declared.act.Act.{Act}
use Rattle.lrc_trace.specs.declared.race.Race.{Race}
use Rattle.lrc_judge.specs.declared.lanes.Pair.{Pair}
use Rattle.lrc_judge.specs.Leaders.{AreLeaders, IsLeaderAt}
use Rattle.lrc_judge.specs.Races.{IsNameOf, race_cmp}
use Rattle.lrc_judge.proofs.Ascending.{race_eq-cmp, race_eq-exact}
use Rattle.lrc_judge.proofs.Naming.{name_one}

-- The set has the names of the first i pairs, and the leaders are the first of each name among these.
pub record AreLeading (run : List Act) (intervals : List ℕ) (pairs : List Pair) (i : ℕ) (set : BTreeSet Race) (leaders : List Pair) : Type 0 where
  pub named : (race : Race) → contains race_cmp set race ≡ true
      → (j : ℕ) × (leader : Pair) × (j < i) × (slice_get pairs j ≡ Some leader) × Contains leaders leader × IsNameOf run intervals leader race
  pub names : (m : ℕ) (other : Pair) (race : Race) → m < i → slice_get pairs m ≡ Some other → IsNameOf run intervals other race
      → contains race_cmp set race ≡ true
  pub sound : (pair : Pair) → Contains leaders pair → (k : ℕ) × IsLeaderAt run intervals pairs k pair
  pub complete : (k : ℕ) (pair : Pair) (race : Race) → k < i → slice_get pairs k ≡ Some pair → IsNameOf run intervals pair race
      → (j : ℕ) × (leader : Pair) × (j ≤ k) × (slice_get pairs j ≡ Some leader) × Contains leaders leader × IsNameOf run intervals leader race

pub leading_none : (run : List Act) (intervals : List ℕ) (pairs : List Pair) (set : BTreeSet Race) (leaders : List Pair) → IsEmpty set → leaders ≡ []
    → AreLeading run intervals pairs 0 set leaders
leading_none run intervals pairs set leaders empty none =
    let absent = λ (race : Race). ap (list_any (is_at (race_cmp race))) empty in
    record {
      named = λ race h. absurd (false≢true (sym (absent race) ∙ h));
      names = λ m other race lt. absurd (omega (arith, lt));
      sound = λ pair has. let (k, lt, _) = subst (λ l. Contains l pair) none has in absurd (omega (arith, lt));
      complete = λ k pair race lt. absurd (omega (arith, lt));
    }

module _ (run : List Act) (intervals : List ℕ) (pairs : List Pair) (i : ℕ) (here : Pair) (race : Race) (at : slice_get pairs i ≡ Some here)
    (name : IsNameOf run intervals here race) (old new : BTreeSet Race) (updates : Updates race_cmp old new race true) (leaders : List Pair)
    (before : AreLeading run intervals pairs i old leaders) where
  there : contains race_cmp new race ≡ true
  there = updates.1

  grown : (q : Race) → contains race_cmp old q ≡ true → contains race_cmp new q ≡ true
  grown q h =
      elim (cases_Bool (is_at (race_cmp race) q)) [
        | inl yes' ↦ updates.0 q ∙ ap (λ b. cond b true (contains race_cmp old q)) yes'
        | inr no' ↦ updates.0 q ∙ ap (λ b. cond b true (contains race_cmp old q)) no' ∙ h
      ]

  from : (q : Race) → contains race_cmp new q ≡ true → (contains race_cmp old q ≡ true) ⊎ (race ≡ q)
  from q h =
      elim (cases_Bool (is_at (race_cmp race) q)) [
        | inl yes' ↦ inr (race_eq-exact race q (race_eq-cmp race q ∙ yes'))
        | inr no' ↦ inl (sym (ap (λ b. cond b true (contains race_cmp old q)) no') ∙ sym (updates.0 q) ∙ h)
      ]

  -- the pair at i has the name, and no other
  one_name : (m : ℕ) (other : Pair) (q : Race) → m ≡ i → slice_get pairs m ≡ Some other → IsNameOf run intervals other q → race ≡ q
  one_name m other q same get n =
      let is : here ≡ other = same_Some here other (sym at ∙ ap (slice_get pairs) (sym same) ∙ get) in
      name_one run intervals here race q name (subst (λ p. IsNameOf run intervals p q) (sym is) n)

  named_more : (m : ℕ) (other : Pair) (q : Race) → m < i + 1 → slice_get pairs m ≡ Some other → IsNameOf run intervals other q
      → contains race_cmp new q ≡ true
  named_more m other q lt get n =
      elim (cases_eq m i) [
        | inl same ↦ subst (λ r. contains race_cmp new r ≡ true) (one_name m other q same get n) there
        | inr apart ↦ grown q (before.names m other q (omega (arith, lt)) get n)
      ]

  -- a pair with a new name
  module _ (fresh : contains race_cmp old race ≡ false) (after : List Pair) (pushed : after ≡ leaders ++ here ∷ []) where
    kept : (pair : Pair) → Contains leaders pair → Contains after pair
    kept pair has = subst (λ l. Contains l pair) (sym pushed) (Contains-append_left leaders (here ∷ []) pair has)

    last : Contains after here
    last = subst (λ l. Contains l here) (sym pushed) (Contains-push leaders here)

    leader : IsLeaderAt run intervals pairs i here
    leader = record {
      is = at;
      fresh = λ m other q lt get n n'.
          let same = name_one run intervals here q race n' name in
          false≢true (sym fresh ∙ before.names m other race lt get (subst (λ r. IsNameOf run intervals other r) same n));
    }

    pub leading_new : AreLeading run intervals pairs (i + 1) new after
    leading_new = record {
      named = λ q h. elim (from q h) [
        | inl h' ↦ let (j, found, lt, get, has, n) = before.named q h' in (j, found, omega (arith, lt), get, kept found has, n)
        | inr same ↦ (i, here, omega arith, at, last, subst (λ r. IsNameOf run intervals here r) same name)
      ];
      names = named_more;
      sound = λ pair has.
          elim (Contains-push_cases leaders here pair (subst (λ l. Contains l pair) pushed has)) [
            | inl has' ↦ before.sound pair has'
            | inr same ↦ (i, subst (λ p. IsLeaderAt run intervals pairs i p) same leader)
          ];
      complete = λ k pair q lt get n.
          elim (cases_eq k i) [
            | inl same ↦ (i, here, omega (arith, same), at, last, subst (λ r. IsNameOf run intervals here r) (one_name k pair q same get n) name)
            | inr apart ↦
                let (j, found, le, get', has, n') = before.complete k pair q (omega (arith, lt)) get n in
                (j, found, le, get', kept found has, n')
          ];
    }

  -- a pair with a name that was there
  pub leading_same : contains race_cmp old race ≡ true → AreLeading run intervals pairs (i + 1) new leaders
  leading_same known = record {
    named = λ q h.
        let old_h : contains race_cmp old q ≡ true =
        elim (from q h) [ inl h' ↦ h' | inr same ↦ subst (λ r. contains race_cmp old r ≡ true) same known ] in
        let (j, found, lt, get, has, n) = before.named q old_h in
        (j, found, omega (arith, lt), get, has, n);
    names = named_more;
    sound = before.sound;
    complete = λ k pair q lt get n.
        elim (cases_eq k i) [
          | inl same ↦
              let (j, found, lt', get', has, n') = before.named race known in
              (j, found, omega (arith, lt', same), get', has, subst (λ r. IsNameOf run intervals found r) (one_name k pair q same get n) n')
          | inr apart ↦ before.complete k pair q (omega (arith, lt)) get n
        ];
  }

-- what the answer of an insertion says of the set before
pub was_new : (b : Bool) → not b ≡ true → b ≡ false
was_new true h = absurd (false≢true h)
was_new false h = refl

pub was_known : (b : Bool) → not b ≡ false → b ≡ true
was_known true h = refl
was_known false h = absurd (false≢true (sym h))

-- once all pairs are passed
pub leading_whole : (run : List Act) (intervals : List ℕ) (pairs : List Pair) (i : ℕ) (set : BTreeSet Race) (leaders : List Pair) → length pairs ≤ i
    → AreLeading run intervals pairs i set leaders → AreLeaders run intervals pairs leaders
leading_whole run intervals pairs i set leaders past are = record {
  sound = are.sound;
  complete = λ k pair race get n. are.complete k pair race (omega (arith, past, slice_get_within pairs k pair get)) get n;
}
