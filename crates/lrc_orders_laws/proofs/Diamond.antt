-- The commuting lemma: an act that touches no word and asks for nothing that another node's act takes away can be made before or after
-- that act, and both ways lead to one state.
use Rattle.std.proofs.Common.{◌≡◌, ℕ, ◌+◌, ◌<◌, Bool, true, false, List, Option, Some, None, inl, inr, length, refl, sym, ap, ◌∙◌, subst, arith}
use Rattle.std.specs.Prelude.{is_none, nat_le, slice_index, slice_index_or, slice_set}
use Rattle.std.specs.List.{list_all}
use Rattle.std.proofs.lemmas.Bool.{cases_eq, leb-true, le-leb}
use Rattle.std.proofs.lemmas.List.{get_or-set_other, set_comm, get_or_default}
use Rattle.std.proofs.lemmas.List.Sums.{AllPass-from_list_all, list_all-from_AllPass}
use Rattle.lrc_trace.specs.declared.act.Deed.{Deed}
use Rattle.lrc_trace.specs.declared.act.Deed.TheVariants.{Quiet, Print, Read, Write, Acquire, Release, Arrive, Depart, Trap, End}
use Rattle.lrc_exec.specs.Meaning.{Thread}
use Rattle.lrc_exec.specs.Plain.{Plain, plain_step}
use Rattle.lrc_consistency_laws.proofs.Runs.{CanDo}
use Rattle.lrc_orders.proofs.Effects.{after_of, memory_after, holders_after, arrivals_after, holders_other, arrivals_other, arrivals_rise, length-arrivals}
use Rattle.lrc_orders_laws.specs.Free.{is_contended}
use Rattle.lrc_orders_laws.proofs.Parts.{Stepped, can_step}
use Rattle.lrc_orders_laws.proofs.Held.{Held, not_free, gives_its_own}

pub true_is_false : {A : Type 0} (b : Bool) → b ≡ true → b ≡ false → A
true_is_false b e f = let g : true ≡ false = sym e ∙ f in cc

pub memory_still : (a : Deed) (xs : List ℕ) → is_contended a ≡ false → memory_after a xs ≡ xs
memory_still (Write w v) xs e = true_is_false true refl e
memory_still _ xs e = refl

memory_comm : (a b : Deed) (xs : List ℕ) → is_contended a ≡ false → memory_after b (memory_after a xs) ≡ memory_after a (memory_after b xs)
memory_comm a b xs e = ap (memory_after b) (memory_still a xs e) ∙ sym (memory_still a (memory_after b xs) e)

holders_comm : (n m : ℕ) (a b : Deed) (xs : List (Option ℕ)) → is_contended a ≡ false → ((l : ℕ) → a ≡ Release l → b ≡ Acquire l → ⊥)
    → holders_after m b (holders_after n a xs) ≡ holders_after n a (holders_after m b xs)
holders_comm n m (Acquire l) b xs e never_so = true_is_false true refl e
holders_comm n m (Release l) (Acquire k) xs e never_so = set_comm xs l k None (Some m) (λ same. never_so l refl (ap (λ x. Acquire x) (sym same)))
holders_comm n m (Release l) (Release k) xs e never_so = elim (cases_eq l k) [
  | inl same ↦ subst (λ x. slice_set (slice_set xs l None) x None ≡ slice_set (slice_set xs x None) l None) same refl
  | inr apart ↦ set_comm xs l k None None apart
]
holders_comm n m (Release l) _ xs e never_so = refl
holders_comm n m _ b xs e never_so = refl

arrivals_comm : (n m : ℕ) → (n ≡ m → ⊥) → (a b : Deed) (xs : List ℕ)
    → arrivals_after m b (arrivals_after n a xs) ≡ arrivals_after n a (arrivals_after m b xs)
arrivals_comm n m apart Arrive Arrive xs =
    let v = slice_index xs n + 1 in
    let w = slice_index xs m + 1 in
    let left : slice_index (slice_set xs n v) m ≡ slice_index xs m = get_or-set_other xs n m v 0 (λ e. apart (sym e)) in
    let right : slice_index (slice_set xs m w) n ≡ slice_index xs n = get_or-set_other xs m n w 0 apart in
    ap (λ c. slice_set (slice_set xs n v) m (c + 1)) left ∙ set_comm xs n m v w apart ∙ ap (λ c. slice_set (slice_set xs m w) n (c + 1)) (sym right)
arrivals_comm n m apart Arrive _ xs = refl
arrivals_comm n m apart _ b xs = refl

-- where every node has arrived as often as this one, an act of another changes nothing of that
pub arrived_still : (n m : ℕ) → (n ≡ m → ⊥) → (b : Deed) (xs : List ℕ) → list_all (λ count. nat_le (slice_index xs n) count) xs ≡ true
    → list_all (λ count. nat_le (slice_index (arrivals_after m b xs) n) count) (arrivals_after m b xs) ≡ true
arrived_still n m apart b xs e =
    let ys = arrivals_after m b xs in
    let all = AllPass-from_list_all (λ count. nat_le (slice_index xs n) count) xs e in
    list_all-from_AllPass (λ count. nat_le (slice_index ys n) count) ys (λ k d lt.
    let within : k < length xs = omega (arith, length-arrivals m b xs, lt) in
    let le = leb-true (slice_index xs n) (slice_index_or xs k 0) (all k 0 within) in
    let rise = arrivals_rise m b k xs in
    let still = arrivals_other m b n xs apart in
    let at : slice_index_or ys k d ≡ slice_index_or ys k 0 = get_or_default ys k d 0 lt in
    le-leb (slice_index ys n) (slice_index_or ys k d) (omega (arith, le, rise, still, at)))

-- the machine of these parts
abbrev machine_of : List ℕ → List (Option ℕ) → List ℕ → List (Option Thread) → Plain
machine_of memory holders arrivals threads = record { memory = memory; holders = holders; arrivals = arrivals; threads = threads }

same_parts : (w x : List ℕ) (h i : List (Option ℕ)) (a b : List ℕ) (s t : List (Option Thread)) → w ≡ x → h ≡ i → a ≡ b → s ≡ t
    → machine_of w h a s ≡ machine_of x i b t
same_parts w x h i a b s t p q r u =
    ap (λ y. machine_of y h a s) p ∙ ap (λ y. machine_of x y a s) q ∙ ap (λ y. machine_of x i y s) r ∙ ap (λ y. machine_of x i b y) u

module _ (s : Plain) (held : Held s) (n m : ℕ) (apart : n ≡ m → ⊥) (a b : Deed) (s' s1 : Plain) (one : Stepped s n a s')
    (other : Stepped s m b s1) (steady : is_contended a ≡ false) where
  -- what one gives back the other does not take
  no_clash : (l : ℕ) → a ≡ Release l → b ≡ Acquire l → ⊥
  no_clash l given taken =
      let mine = gives_its_own s held n one.thread one.there one.took.goes l given in
      let free : CanDo s m (Acquire l) = subst (CanDo s m) taken other.took.can in
      not_free (slice_index_or s.holders l None) n mine free

  still : (d : Deed) → is_contended d ≡ false → CanDo s n d → (o : Option Thread) → CanDo (after_of s m b o) n d
  still (Read w v) e can o = true_is_false true refl e
  still (Acquire l) e can o = true_is_false true refl e
  still Depart e can o = arrived_still n m apart b s.arrivals can
  still (Write w v) e can o = tt
  still Quiet e can o = tt
  still (Print v) e can o = tt
  still (Release l) e can o = tt
  still Arrive e can o = tt
  still (Trap c) e can o = tt
  still End e can o = tt

  too : (d : Deed) → d ≡ b → CanDo s m d → (o : Option Thread) → CanDo (after_of s n a o) m d
  too (Read w v) is can o = can ∙ ap (λ xs. slice_index xs w) (sym (memory_still a s.memory steady))
  too (Acquire l) is can o =
      ap is_none (holders_other n a l s.holders (λ e. true_is_false true refl (subst (λ d. is_contended d ≡ false) e steady))
      (λ e. no_clash l e (sym is)))
      ∙ can
  too Depart is can o = arrived_still m n (λ e. apart (sym e)) a s.arrivals can
  too (Write w v) is can o = tt
  too Quiet is can o = tt
  too (Print v) is can o = tt
  too (Release l) is can o = tt
  too Arrive is can o = tt
  too (Trap c) is can o = tt
  too End is can o = tt

  pub record Diamond : Type 0 where
    pub far : Plain
    pub first_then : plain_step s' m ≡ Some (b, far)
    pub second_then : plain_step s1 n ≡ Some (a, far)

  pub diamond : Diamond
  diamond =
      let mine = one.took.goes_on_as in
      let its = other.took.goes_on_as in
      let far = after_of (after_of s m b its) n a mine in
      let near = after_of (after_of s n a mine) m b its in
      let one_way : plain_step s1 n ≡ Some (a, after_of s1 n a mine) =
      can_step s1 n one.thread a (other.others n apart ∙ one.there) refl one.took.goes
      (subst (λ x. CanDo x n a) (sym other.took.is) (still a steady one.took.can its)) in
      let other_way : plain_step s' m ≡ Some (b, after_of s' m b its) =
      can_step s' m other.thread b (one.others m (λ e. apart (sym e)) ∙ other.there) refl other.took.goes
      (subst (λ x. CanDo x m b) (sym one.took.is) (too b refl other.took.can mine)) in
      let same : near ≡ far =
      same_parts (memory_after b (memory_after a s.memory)) (memory_after a (memory_after b s.memory))
      (holders_after m b (holders_after n a s.holders)) (holders_after n a (holders_after m b s.holders))
      (arrivals_after m b (arrivals_after n a s.arrivals)) (arrivals_after n a (arrivals_after m b s.arrivals))
      (slice_set (slice_set s.threads n mine) m its) (slice_set (slice_set s.threads m its) n mine)
      (memory_comm a b s.memory steady) (holders_comm n m a b s.holders steady no_clash) (arrivals_comm n m apart a b s.arrivals)
      (set_comm s.threads n m mine its apart) in
      record {
        far = far;
        first_then = other_way ∙ ap (λ x. Some (b, after_of x m b its)) one.took.is ∙ ap (λ x. Some (b, x)) same;
        second_then = one_way ∙ ap (λ x. Some (a, after_of x n a mine)) other.took.is;
      }
