-- The last write of an interval to a word, by positions: where a value is told of, it is that of the last write; and where none
-- is, there is no write.
use Rattle.std.proofs.Common.{◌≡◌, ◌⊎◌, ℕ, zero, suc, ◌+◌, ◌<◌, ◌≤◌, List, [], ◌∷◌, Bool, true, false, refl, sym, ap, subst, ◌∙◌, inl, inr, arith}
use Rattle.std.specs.Prelude.{◌==◌, ◌&&◌, Option, Some, None, fold, slice_get, if◌then◌else◌}
use Rattle.std.specs.List.{enumerate_from}
use Rattle.std.proofs.lemmas.Bool.{and_parts, and_from, eq-eqb, eqb-true, cases_lt}
use Rattle.std.proofs.lemmas.Option.{none-some, same_Some}
use Rattle.lrc_trace.specs.declared.act.Act.{Act}
use Rattle.lrc_trace.specs.declared.act.Deed.{Deed}
use Rattle.lrc_trace.specs.declared.act.Deed.TheVariants.{Quiet, Print, Read, Write, Acquire, Release, Arrive, Depart, Trap, End}
use Rattle.lrc_trace.specs.Run.{act_of, Does}
use Rattle.lrc_trace.specs.Interval.{interval_at}
use Rattle.lrc_reading_laws.specs.Written.{written_to, write_in, newer, last_write}

-- ---- the newest of the values that a list of acts gives

module _ (f : ℕ × Act → Option ℕ) where
  abbrev newest_of : Option ℕ → ℕ → List Act → Option ℕ
  newest_of before k acts = fold (λ before at. newer before (f at)) before (enumerate_from k acts)

  -- none of the acts, the first of which has this position, gives a value
  abbrev GiveNone : ℕ → List Act → Type 0
  GiveNone k acts = (i : ℕ) (a : Act) → slice_get acts i ≡ Some a → f (k + i, a) ≡ None

  -- the last of them that gives a value gives this one
  record GiveLast (k : ℕ) (acts : List Act) (value : ℕ) : Type 0 where
    place : ℕ
    act : Act
    stands : slice_get acts place ≡ Some act
    gives : f (k + place, act) ≡ Some value
    last : (i : ℕ) (a : Act) → place < i → slice_get acts i ≡ Some a → f (k + i, a) ≡ None

  abbrev Newest : Option ℕ → ℕ → List Act → Type 0
  Newest before k acts =
      ((newest_of before k acts ≡ before) × GiveNone k acts)
      ⊎ ((value : ℕ) × (newest_of before k acts ≡ Some value) × GiveLast k acts value)

  here : (k : ℕ) (a : Act) (o : Option ℕ) → f (k, a) ≡ o → f (k + 0, a) ≡ o
  here k a o e = let same : k + 0 ≡ k = omega arith in ap (λ m. f (m, a)) same ∙ e

  later : (k i : ℕ) (a : Act) (o : Option ℕ) → f (k + 1 + i, a) ≡ o → f (k + suc i, a) ≡ o
  later k i a o e = let same : k + suc i ≡ k + 1 + i = omega arith in ap (λ m. f (m, a)) same ∙ e

  none_first : (k : ℕ) (y : Act) (acts : List Act) → f (k, y) ≡ None → GiveNone (k + 1) acts → GiveNone k (y ∷ acts)
  none_first k y acts e none zero a at = subst (λ x. f (k + 0, x) ≡ None) (same_Some y a at) (here k y None e)
  none_first k y acts e none (suc i) a at = later k i a None (none i a at)

  none_after : (k : ℕ) (y : Act) (acts : List Act) → GiveNone (k + 1) acts → (i : ℕ) (a : Act) → 0 < i → slice_get (y ∷ acts) i ≡ Some a
      → f (k + i, a) ≡ None
  none_after k y acts none zero a lt at = absurd (omega (arith, lt))
  none_after k y acts none (suc i) a lt at = later k i a None (none i a at)

  last_after : (k : ℕ) (y : Act) (acts : List Act) (value : ℕ) (g : GiveLast (k + 1) acts value) (i : ℕ) (a : Act) → suc g.place < i
      → slice_get (y ∷ acts) i ≡ Some a → f (k + i, a) ≡ None
  last_after k y acts value g zero a lt at = absurd (omega (arith, lt))
  last_after k y acts value g (suc i) a lt at = later k i a None (g.last i a (omega (arith, lt)) at)

  newest_more : (before : Option ℕ) (k : ℕ) (y : Act) (acts : List Act) (o : Option ℕ) → f (k, y) ≡ o → Newest (newer before o) (k + 1) acts
      → Newest before k (y ∷ acts)
  newest_more before k y acts None e (inl (same, none)) =
      inl (ap (λ o. newest_of (newer before o) (k + 1) acts) e ∙ same, none_first k y acts e none)
  newest_more before k y acts (Some value) e (inl (same, none)) =
      inr (
        value,
        ap (λ o. newest_of (newer before o) (k + 1) acts) e ∙ same,
        record {
          place = 0;
          act = y;
          stands = refl;
          gives = here k y (Some value) e;
          last = none_after k y acts none;
        },
      )
  newest_more before k y acts o e (inr (value, is, g)) =
      inr (
        value,
        ap (λ o. newest_of (newer before o) (k + 1) acts) e ∙ is,
        record {
          place = suc g.place;
          act = g.act;
          stands = g.stands;
          gives = later k g.place g.act (Some value) g.gives;
          last = last_after k y acts value g;
        },
      )

  newest : (before : Option ℕ) (k : ℕ) (acts : List Act) → Newest before k acts
  newest before k [] = inl (refl, λ i a at. cc)
  newest before k (y ∷ acts) = newest_more before k y acts (f (k, y)) refl (newest (newer before (f (k, y))) (k + 1) acts)

  gives_last : (acts : List Act) (value : ℕ) → newest_of None 0 acts ≡ Some value → Newest None 0 acts → GiveLast 0 acts value
  gives_last acts value e (inl (same, none)) = absurd (none-some value (sym same ∙ e))
  gives_last acts value e (inr (v, is, g)) = subst (GiveLast 0 acts) (same_Some v value (sym is ∙ e)) g

  gives_none : (acts : List Act) → newest_of None 0 acts ≡ None → Newest None 0 acts → GiveNone 0 acts
  gives_none acts e (inl (same, none)) = none
  gives_none acts e (inr (v, is, g)) = absurd (none-some v (sym e ∙ is))

-- ---- the writes of an interval

some_if : {X : Type 0} (b : Bool) (o : Option X) (x : X) → (if b then o else None) ≡ Some x → (b ≡ true) × (o ≡ Some x)
some_if true o x e = (refl, e)
some_if false o x e = cc

deed_writes : (word value : ℕ) (d : Deed) → written_to word d ≡ Some value → d ≡ Write word value
deed_writes word value (Write w v) e =
    let parts : ((w == word) ≡ true) × (Some v ≡ Some value) = some_if (w == word) (Some v) value e in
    ap (λ x. Write x v) (eqb-true w word parts.0) ∙ ap (Write word) (same_Some v value parts.1)
deed_writes word value Quiet e = cc
deed_writes word value (Print v) e = cc
deed_writes word value (Read w v) e = cc
deed_writes word value (Acquire l) e = cc
deed_writes word value (Release l) e = cc
deed_writes word value Arrive e = cc
deed_writes word value Depart e = cc
deed_writes word value (Trap c) e = cc
deed_writes word value End e = cc

-- the node's write of the value to the word, in its interval with this index, stands at this position
pub record WritesIn (acts : List Act) (node index word i value : ℕ) : Type 0 where
  pub write : Does acts i node (Write word value)
  pub inside : interval_at acts node i ≡ index

-- it is the last one to the word in that interval
pub record IsLastIn (acts : List Act) (node index word i value : ℕ) : Type 0 where
  pub writes : WritesIn acts node index word i value
  pub last : (k v : ℕ) → WritesIn acts node index word k v → k ≤ i

module _ (acts : List Act) (node index word : ℕ) where
  writes_in : (i : ℕ) (a : Act) (value : ℕ) → slice_get acts i ≡ Some a → write_in acts node index word (i, a) ≡ Some value
      → WritesIn acts node index word i value
  writes_in i a value at e =
      let found : (((a.node == node) && (interval_at acts node i == index)) ≡ true) × (written_to word a.deed ≡ Some value) =
      some_if ((a.node == node) && (interval_at acts node i == index)) (written_to word a.deed) value e in
      let both : ((a.node == node) ≡ true) × ((interval_at acts node i == index) ≡ true) =
      and_parts (a.node == node) (interval_at acts node i == index) found.0 in
      record {
        write =
            subst (λ n. Does acts i n (Write word value)) (eqb-true a.node node both.0)
            (subst (Does acts i a.node) (deed_writes word value a.deed found.1) (record { stands = at }));
        inside = eqb-true (interval_at acts node i) index both.1;
      }

  in_writes : (i value : ℕ) → WritesIn acts node index word i value → write_in acts node index word (i, act_of node (Write word value)) ≡ Some value
  in_writes i value w =
      ap (λ b. if b then written_to word (Write word value) else None)
      (and_from (node == node) (interval_at acts node i == index) (eq-eqb node node refl) (eq-eqb (interval_at acts node i) index w.inside))
      ∙ ap (λ b. if b then Some value else None) (eq-eqb word word refl)

  no_write : (i value : ℕ) → WritesIn acts node index word i value
      → ((a : Act) → slice_get acts i ≡ Some a → write_in acts node index word (i, a) ≡ None) → ⊥
  no_write i value w none =
      let e : write_in acts node index word (i, act_of node (Write word value)) ≡ None = none (act_of node (Write word value)) w.write.stands in
      none-some value (sym e ∙ in_writes i value w)

  from_start : (i : ℕ) (a : Act) (o : Option ℕ) → write_in acts node index word (0 + i, a) ≡ o → write_in acts node index word (i, a) ≡ o
  from_start i a o e = let same : i ≡ 0 + i = omega arith in ap (λ m. write_in acts node index word (m, a)) same ∙ e

  -- a value that the interval wrote last is that of its last write
  pub last_write-some : (value : ℕ) → last_write acts node index word ≡ Some value → (i : ℕ) × IsLastIn acts node index word i value
  last_write-some value e =
      let g : GiveLast (write_in acts node index word) 0 acts value =
      gives_last (write_in acts node index word) acts value e (newest (write_in acts node index word) None 0 acts) in (
        g.place,
        record {
          writes = writes_in g.place g.act value g.stands (from_start g.place g.act (Some value) g.gives);
          last = λ k v w. elim (cases_lt g.place k) [
            | inl later ↦ absurd (no_write k v w (λ a at. from_start k a None (g.last k a later at)))
            | inr before ↦ before
          ];
        },
      )

  -- where it wrote none, no write stands in it
  pub last_write-none : last_write acts node index word ≡ None → (i value : ℕ) → WritesIn acts node index word i value → ⊥
  last_write-none e i value w =
      let none : GiveNone (write_in acts node index word) 0 acts =
      gives_none (write_in acts node index word) acts e (newest (write_in acts node index word) None 0 acts) in
      no_write i value w (λ a at. from_start i a None (none i a at))
