-- What a node can do with other words is the same but for what a read gives.
use Rattle.std.proofs.Common.{◌≡◌, ℕ, ◌<◌, List, [], ◌∷◌, length, map, inl, inr, refl, sym, subst, ◌∙◌, ap, arith, zero, suc, true, false}
use Rattle.std.specs.Option.{is_some}
use Rattle.std.specs.Prelude.{◌↔◌, Option, Some, None, Contains, option_map, slice_get, slice_index, slice_set}
use Rattle.std.proofs.lemmas.Bool.{cases_lt}
use Rattle.std.proofs.lemmas.List.{get_or-set_same, length-set, length-map}
use Rattle.std.proofs.lemmas.Option.{same_Some, slice_get_within, get_or_from_slice_get}
use Rattle.lrc_trace.specs.declared.act.Deed.{Deed}
use Rattle.lrc_trace.specs.declared.act.Deed.TheVariants.{Read}
use Rattle.lrc_exec.specs.declared.spot.Flat.{Flat}
use Rattle.lrc_exec.specs.Meaning.{Thread, Next, next_of}
use Rattle.lrc_exec.specs.Plain.{Plain, thread_in, plain_step}
use Rattle.lrc_exec.specs.Spots.{spot_thread}
use Rattle.lrc_exec.proofs.NextLaws.{next_of-fine}
use Rattle.lrc_exec.specs.Follows.{Goes, quietly, printing, reading, writing, acquiring, releasing, arriving, departing, trapping, ending}
use Rattle.lrc_consistency_laws.proofs.Runs.{CanDo}
use Rattle.lrc_orders.proofs.Effects.{after_of}
use Rattle.lrc_exec.specs.States.{plain_at, IsStateOf}
use Rattle.lrc_exec.proofs.Spots.{words_known}
use Rattle.lrc_orders_laws.proofs.Parts.{stepped, can_step}
use Rattle.lrc_lazy_known.specs.declared.known.Last.{Last}
use Rattle.lrc_lazy_known.specs.declared.known.Last.TheVariants.{Nothing, Value, Unordered}
use Rattle.lrc_lazy_known.specs.Word.{Gives, MayGive, last_of, values_of}
use Rattle.lrc_lazy_known.specs.Effect.{word_of}
use Rattle.lrc_lazy_known.specs.Tidy.{IsRising}
use Rattle.lrc_lazy_known.proofs.Made.{get_at}
use Rattle.lrc_lazy_known.proofs.Tidy.{rising_once}
use Rattle.lrc_lazy_search.specs.declared.state.LazyState.{LazyState}
use Rattle.lrc_lazy.specs.Standing.{with_memory, CanMake}
use Rattle.lrc_lazy_search.specs.Fit.{IsFit}
use Rattle.lrc_lazy.specs.Swapped.{IsNoAcquire}
use Rattle.lrc_lazy_search.specs.Searching.{poked, AreOnce, CanAct, IsInFront}
use Rattle.lrc_lazy.proofs.Coming.{read_stays}

-- the same deed, or reads of one word
pub data Kind (d e : Deed) : Type 0 where
  one : d ≡ e → Kind d e
  reads_of : {w u v : ℕ} → d ≡ Read w u → e ≡ Read w v → Kind d e

record Other (machine : Plain) (node : ℕ) (n : Next) (d : Deed) : Type 0 where
  deed : Deed
  goes_on : Option Thread
  goes : Goes n deed goes_on
  can : CanDo machine node deed
  kind : Kind d deed

other : (machine : Plain) (memory words : List ℕ) (node : ℕ) {n : Next} {d : Deed} {t : Option Thread} → Goes n d t → CanDo (with_memory machine memory) node d
    → Other (with_memory machine words) node n d
other machine memory words node quietly can = record { deed = _; goes_on = _; goes = quietly; can = tt; kind = one refl }
other machine memory words node printing can = record { deed = _; goes_on = _; goes = printing; can = tt; kind = one refl }
other machine memory words node (reading {t = f} {w = w} {v = v}) can = record {
  deed = Read w (slice_index words w);
  goes_on = Some (f (slice_index words w));
  goes = reading;
  can = refl;
  kind = reads_of refl refl;
}
other machine memory words node writing can = record { deed = _; goes_on = _; goes = writing; can = tt; kind = one refl }
other machine memory words node acquiring can = record { deed = _; goes_on = _; goes = acquiring; can = can; kind = one refl }
other machine memory words node releasing can = record { deed = _; goes_on = _; goes = releasing; can = tt; kind = one refl }
other machine memory words node arriving can = record { deed = _; goes_on = _; goes = arriving; can = tt; kind = one refl }
other machine memory words node departing can = record { deed = _; goes_on = _; goes = departing; can = can; kind = one refl }
other machine memory words node trapping can = record { deed = _; goes_on = _; goes = trapping; can = tt; kind = one refl }
other machine memory words node ending can = record { deed = _; goes_on = _; goes = ending; can = tt; kind = one refl }

-- what is made with some words is made with others, but for what a read gives
pub record MadeToo (machine : Plain) (words : List ℕ) (node : ℕ) (d : Deed) : Type 0 where
  pub deed : Deed
  pub after : Plain
  pub made : plain_step (with_memory machine words) node ≡ Some (deed, after)
  pub kind : Kind d deed

pub made_too : (machine : Plain) (memory words : List ℕ) (node : ℕ) (d : Deed) (after : Plain)
    → plain_step (with_memory machine memory) node ≡ Some (d, after) → MadeToo machine words node d
made_too machine memory words node d after e =
    let s = stepped (with_memory machine memory) node d after e in
    let o = other machine memory words node s.took.goes s.took.can in
    record {
      deed = o.deed;
      after = after_of (with_memory machine words) node o.deed o.goes_on;
      made = can_step (with_memory machine words) node s.thread o.deed s.there refl o.goes o.can;
      kind = o.kind;
    }

-- what is made at all is made with the read's value in its place
module _ (flat : Flat) (key : LazyState) (fit : IsFit flat key) (node : ℕ) where
  abbrev machine : Plain
  machine = plain_at flat key.state

  abbrev words : List ℕ
  words = key.state.memory.items

  poked_step : (d : Deed) (thread : Thread) (memory : List ℕ) {t : Option Thread} → thread_in machine node ≡ Some thread → Goes (next_of thread) d t
      → CanDo (with_memory machine memory) node d → plain_step (with_memory machine (poked d words)) node ≡ Some (d, after_of (with_memory machine (poked d words)) node d t)
  poked_step (Read w v) thread memory at goes can =
      let stays = read_stays (next_of-fine thread) goes in
      let long = fit.valid.memory in
      let count = fit.words node thread at in
      let within : w < length words = let lt = stays.0 in omega arith in
      can_step (with_memory machine (slice_set words w v)) node thread (Read w v) at refl goes (sym (get_or-set_same words w v 0 within))
  poked_step d thread memory at goes can = can_step (with_memory machine (poked d words)) node thread d at refl goes can

  pub poked_made : (d : Deed) → CanMake flat.words machine key.knowledge node d
      → (after : Plain) × (plain_step (with_memory machine (poked d words)) node ≡ Some (d, after))
  poked_made d can =
      let s = stepped (with_memory machine can.memory) node d can.after can.made in
      (after_of (with_memory machine (poked d words)) node d s.took.goes_on_as, poked_step d s.thread can.memory s.there s.took.goes s.took.can)

  pub read_within : (w u : ℕ) (memory : List ℕ) (after : Plain) → plain_step (with_memory machine memory) node ≡ Some (Read w u, after) → w < flat.words
  read_within w u memory after e =
      let s = stepped (with_memory machine memory) node (Read w u) after e in
      let stays = read_stays (next_of-fine s.thread) s.took.goes in
      let count = fit.words node s.thread s.there in
      let lt = stays.0 in
      omega arith

  -- a read of any value that may be given
  any_read : {n : Next} {w u : ℕ} {t : Option Thread} (v : ℕ) → Goes n (Read w u) t → (later : Option Thread) × Goes n (Read w v) later
  any_read v (reading {t = f}) = (Some (f v), reading)

  pub read_made : (w u v : ℕ) (after : Plain) → plain_step machine node ≡ Some (Read w u, after) → Gives (word_of key.knowledge w) node v
      → CanMake flat.words machine key.knowledge node (Read w v)
  read_made w u v after e gives =
      let s = stepped machine node (Read w u) after e in
      let found = any_read v s.took.goes in
      let lt = read_within w u words after e in
      let long = fit.valid.memory in
      let within : w < length words = omega arith in
      record {
        memory = slice_set words w v;
        long = length-set words w v ∙ fit.valid.memory;
        after = after_of (with_memory machine (slice_set words w v)) node (Read w v) found.0;
        made = can_step (with_memory machine (slice_set words w v)) node s.thread (Read w v) s.there refl found.1 (sym (get_or-set_same words w v 0 within));
        gives = λ x y same.
            let word_is : w ≡ x = cc in
            let value_is : v ≡ y = cc in
            subst (λ a. Gives (word_of key.knowledge a) node y) word_is (subst (λ b. Gives (word_of key.knowledge w) node b) value_is gives);
      }

  -- the step whose deed is this
  step_of : (d : Deed) → option_map (λ (s : Deed × Plain). s.0) (plain_step machine node) ≡ Some d → (after : Plain) × (plain_step machine node ≡ Some (d, after))
  step_of d e = go (plain_step machine node) refl
    where
      go : (o : Option (Deed × Plain)) → plain_step machine node ≡ o → (after : Plain) × (plain_step machine node ≡ Some (d, after))
      go None is = let never : ◌≡◌ {A = Option Deed} None (Some d) = sym (ap (option_map (λ (s : Deed × Plain). s.0)) is) ∙ e in cc
      go (Some s) is =
          let same : s.0 ≡ d = same_Some s.0 d (sym (ap (option_map (λ (s : Deed × Plain). s.0)) is) ∙ e) in
          (s.1, is ∙ ap (λ x. Some (x, s.1)) same)

  -- all that a node can do where it is about to read: each of the values
  module _ (w u : ℕ) (values : List ℕ) (is : option_map (λ (s : Deed × Plain). s.0) (plain_step machine node) ≡ Some (Read w u))
      (all : (v : ℕ) → Contains values v ↔ Gives (word_of key.knowledge w) node v) where
    get_map : (xs : List ℕ) (k : ℕ) (d : Deed) → slice_get (map (λ v. Read w v) xs) k ≡ Some d → (v : ℕ) × (slice_get xs k ≡ Some v) × (d ≡ Read w v)
    get_map [] k d e = cc
    get_map (x ∷ xs) zero d e = (x, refl, sym (same_Some (Read w x) d e))
    get_map (x ∷ xs) (suc k) d e = get_map xs k d e

    map_get : (xs : List ℕ) (k v : ℕ) → slice_get xs k ≡ Some v → slice_get (map (λ v. Read w v) xs) k ≡ Some (Read w v)
    map_get [] k v e = cc
    map_get (x ∷ xs) zero v e = ap Some (ap (λ y. Read w y) (same_Some x v e))
    map_get (x ∷ xs) (suc k) v e = map_get xs k v e

    pub reads_sound : (k : ℕ) (d : Deed) → slice_get (map (λ v. Read w v) values) k ≡ Some d → CanMake flat.words machine key.knowledge node d
    reads_sound k d e =
        let found = get_map values k d e in
        let s = step_of (Read w u) is in
        let member : Contains values found.0 =
        (k, slice_get_within values k found.0 found.1, get_or_from_slice_get values k found.0 found.0 found.1) in
        subst (λ x. CanMake flat.words machine key.knowledge node x) (sym found.2) (read_made w u found.0 s.0 s.1 ((all found.0).0 member))

    reads_kind : (d e : Deed) → Kind d e → e ≡ Read w u → (v : ℕ) × (d ≡ Read w v)
    reads_kind d e (one same) is = (u, same ∙ is)
    reads_kind d e (reads_of {w = x} {u = y} {v = z} left right) is =
        let word_is : x ≡ w = cc in
        (y, left ∙ ap (λ a. Read a y) word_is)

    pub reads_all : (d : Deed) → CanMake flat.words machine key.knowledge node d → (k : ℕ) × (slice_get (map (λ v. Read w v) values) k ≡ Some d)
    reads_all d can =
        let too = made_too machine can.memory words node d can.after can.made in
        let same : too.deed ≡ Read w u =
        same_Some too.deed (Read w u) (sym (ap (option_map (λ (s : Deed × Plain). s.0)) too.made) ∙ is) in
        let found = reads_kind d too.deed too.kind same in
        let member = (all found.0).1 (can.gives w found.0 found.1) in
        let at = get_at values member.0 member.1 in
        let value : at.0 ≡ found.0 = sym (get_or_from_slice_get values member.0 at.0 found.0 at.1) ∙ member.2 in
        (member.0, map_get values member.0 found.0 (at.1 ∙ ap Some value) ∙ ap Some (sym found.1))

  -- all that a node can do where it is about to do another deed: that one
  module _ (deed : Deed) (is : option_map (λ (s : Deed × Plain). s.0) (plain_step machine node) ≡ Some deed) (no_read : (w u : ℕ) → deed ≡ Read w u → ⊥) where
    pub one_sound : (k : ℕ) (d : Deed) → slice_get (deed ∷ []) k ≡ Some d → CanMake flat.words machine key.knowledge node d
    one_sound zero d e =
        let s = step_of deed is in
        subst (λ x. CanMake flat.words machine key.knowledge node x) (same_Some deed d e) (record {
          memory = words;
          long = fit.valid.memory;
          after = s.0;
          made = s.1;
          gives = λ w v read. absurd (no_read w v read);
        })
    one_sound (suc k) d e = cc

    one_kind : (d e : Deed) → Kind d e → e ≡ deed → deed ≡ d
    one_kind d e (one same) is = sym (same ∙ is)
    one_kind d e (reads_of {w = x} {u = y} {v = z} left right) is = absurd (no_read x z (sym is ∙ right))

    pub one_all : (d : Deed) → CanMake flat.words machine key.knowledge node d → (k : ℕ) × (slice_get (deed ∷ []) k ≡ Some d)
    one_all d can =
        let too = made_too machine can.memory words node d can.after can.made in
        let same : too.deed ≡ deed = same_Some too.deed deed (sym (ap (option_map (λ (s : Deed × Plain). s.0)) too.made) ∙ is) in
        (0, ap Some (one_kind d too.deed too.kind same))

-- ---- no deed comes twice

read_at : (w : ℕ) (xs : List ℕ) (k : ℕ) (d : Deed) → slice_get (map (λ v. Read w v) xs) k ≡ Some d → (k < length xs) × (d ≡ Read w (slice_index xs k))
read_at w [] k d e = cc
read_at w (x ∷ xs) zero d e = (omega arith, sym (same_Some (Read w x) d e))
read_at w (x ∷ xs) (suc k) d e = let r = read_at w xs k d e in let lt = r.0 in (omega (arith, lt), r.1)

read_value : (w u v : ℕ) (d : Deed) → d ≡ Read w u → d ≡ Read w v → u ≡ v
read_value w u v d left right = let same : Read w u ≡ Read w v = sym left ∙ right in cc

pub reads_once : (w : ℕ) (values : List ℕ) → IsRising values → AreOnce (map (λ v. Read w v) values)
reads_once w values up j k d at there =
    let front = read_at w values j d at in
    let back = read_at w values k d there in
    let same = read_value w (slice_index values j) (slice_index values k) d front.1 back.1 in
    elim (cases_lt j k) [
      | inl lt ↦ let less = rising_once values j k 0 up lt back.0 in absurd (omega (arith, same, less))
      | inr le ↦ elim (cases_lt k j) [
        | inl lt ↦ let less = rising_once values k j 0 up lt front.0 in absurd (omega (arith, same, less))
        | inr ge ↦ omega (arith, le, ge)
      ]
    ]

pub one_once : (deed : Deed) → AreOnce (deed ∷ [])
one_once deed zero zero d at there = refl
one_once deed zero (suc k) d at there = cc
one_once deed (suc j) k d at there = cc

-- ---- which nodes can do something other than acquire a lock

some_given : (last : Last) (values : List ℕ) → (v : ℕ) × MayGive last values v
some_given Nothing values = (0, refl)
some_given (Value v) values = (v, refl)
some_given Unordered values = (0, inl refl)

module _ (flat : Flat) (key : LazyState) (fit : IsFit flat key) (node : ℕ) where
  abbrev next : Option Deed
  next = option_map (λ (s : Deed × Plain). s.0) (plain_step (plain_at flat key.state) node)

  pub front_can : (deed : Deed) → next ≡ Some deed → IsNoAcquire deed → IsInFront flat key node
  front_can (Read w u) is free =
      let s = step_of flat key fit node (Read w u) is in
      let word = word_of key.knowledge w in
      let g = some_given (last_of word node) (values_of word node) in
      record { deed = Read w g.0; can = read_made flat key fit node w u g.0 s.0 s.1 g.1; free = λ l e. cc }
  front_can deed is free = record { deed = deed; can = one_sound flat key fit node deed is (λ w u e. cc) 0 deed refl; free = free }

  -- a node that is about to do something can do something
  pub some_can : (deed : Deed) → next ≡ Some deed → CanAct flat key
  some_can (Read w u) is = let f = front_can (Read w u) is (λ l e. cc) in record { node = node; deed = f.deed; can = f.can }
  some_can deed is = record { node = node; deed = deed; can = one_sound flat key fit node deed is (λ w u e. cc) 0 deed refl }

  -- and no other
  pub none_can : next ≡ None → (d : Deed) → CanMake flat.words (plain_at flat key.state) key.knowledge node d → ⊥
  none_can is d can =
      let too = made_too (plain_at flat key.state) can.memory key.state.memory.items node d can.after can.made in
      let never : ◌≡◌ {A = Option Deed} None (Some too.deed) = sym is ∙ ap (option_map (λ (s : Deed × Plain). s.0)) too.made in
      cc

  -- so it is told by whether there is a next deed
  pub is_some_can : (found : Option Deed) → found ≡ next → is_some found ≡ true → CanAct flat key
  is_some_can None is there = cc
  is_some_can (Some deed) is there = some_can deed (sym is)

  pub is_none_can : (found : Option Deed) → found ≡ next → is_some found ≡ false → (d : Deed)
      → CanMake flat.words (plain_at flat key.state) key.knowledge node d → ⊥
  is_none_can None is none d can = none_can (sym is) d can
  is_none_can (Some deed) is none d can = cc

pub poked_long : (d : Deed) (memory : List ℕ) → length (poked d memory) ≡ length memory
poked_long (Read w v) memory = length-set memory w v
poked_long d memory = refl

-- who can make a deed is one of the nodes
pub can_below : (flat : Flat) (key : LazyState) (node : ℕ) (d : Deed) → IsFit flat key → CanMake flat.words (plain_at flat key.state) key.knowledge node d
    → node < flat.nodes
can_below flat key node d fit can =
    let s = stepped (with_memory (plain_at flat key.state) can.memory) node d can.after can.made in
    let lt = s.within in
    let mapped = length-map key.state.spots.items (spot_thread flat) in
    let count = fit.valid.spots in
    omega (arith, lt, mapped, count)

pub front_below : (flat : Flat) (key : LazyState) (node : ℕ) → IsFit flat key → IsInFront flat key node → node < flat.nodes
front_below flat key node fit f = can_below flat key node f.deed fit f.can

-- a state in order is fit
pub fit_of : (flat : Flat) (key : LazyState) → IsStateOf flat key.state → IsFit flat key
fit_of flat key valid = record { valid = valid; words = λ node thread at. (words_known flat key.state node thread at).0 }

-- a deed that is the only one in a list of all
pub only_one : (flat : Flat) (key : LazyState) (node : ℕ) (deeds : List Deed) (deed : Deed) → length deeds ≡ 1 → slice_get deeds 0 ≡ Some deed
    → ((other : Deed) → CanMake flat.words (plain_at flat key.state) key.knowledge node other → (k : ℕ) × (slice_get deeds k ≡ Some other))
    → (other : Deed) → CanMake flat.words (plain_at flat key.state) key.knowledge node other → other ≡ deed
only_one flat key node deeds deed single first all other can =
    let found = all other can in
    let within = slice_get_within deeds found.0 other found.1 in
    let zeroth : found.0 ≡ 0 = omega (arith, within, single) in
    same_Some other deed (sym found.1 ∙ ap (slice_get deeds) zeroth ∙ first)
