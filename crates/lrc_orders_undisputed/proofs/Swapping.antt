-- The commuting lemma: two acts of two nodes that do not conflict can be made in either order, and both ways lead to one state.
use Rattle.std.proofs.Common.{◌≡◌, ℕ, false, List, Option, Some, None, refl, sym, ap, ◌∙◌, subst}
use Rattle.std.specs.Prelude.{is_none, slice_index_or, slice_set}
use Rattle.std.proofs.lemmas.List.{set_comm}
use Rattle.lrc_trace.specs.declared.act.Deed.{Deed}
use Rattle.lrc_trace.specs.declared.act.Deed.TheVariants.{Quiet, Print, Read, Write, Acquire, Release, Arrive, Depart, Trap, End}
use Rattle.lrc_exec.specs.Meaning.{Thread, Next, reads, writes, acquires, next_of}
use Rattle.lrc_exec.specs.Plain.{Plain, plain_step}
use Rattle.lrc_exec.specs.Follows.{Goes, quietly, printing, reading, writing, acquiring, releasing, arriving, departing, trapping, ending}
use Rattle.lrc_consistency_laws.proofs.Runs.{CanDo}
use Rattle.lrc_orders.proofs.Effects.{after_of, memory_after, holders_after, arrivals_after, memory_other, holders_other}
use Rattle.lrc_orders_laws.specs.Free.{is_contended}
use Rattle.lrc_orders_laws.proofs.Parts.{Stepped, can_step}
use Rattle.lrc_orders_laws.proofs.Held.{Held, not_free, gives_its_own}
use Rattle.lrc_orders_laws.proofs.Diamond.{diamond}
use Rattle.lrc_orders_undisputed.specs.Undisputed.{Conflicts, read_and_written, written_and_read, written_twice, acquired_twice}

-- ---- what a deed is not that does not conflict

not_written : {next : Next} {b : Deed} {new : Option Thread} → Goes next b new → (w v : ℕ) → (Conflicts (Read w v) next → ⊥) → (y : ℕ)
    → b ≡ Write w y → ⊥
not_written (writing {t = t} {w = x} {v = z}) w v clear y e =
    let same : x ≡ w = cc in clear (subst (λ k. Conflicts (Read k v) (writes x z t)) same read_and_written)
not_written quietly w v clear y e = cc
not_written printing w v clear y e = cc
not_written reading w v clear y e = cc
not_written acquiring w v clear y e = cc
not_written releasing w v clear y e = cc
not_written arriving w v clear y e = cc
not_written departing w v clear y e = cc
not_written trapping w v clear y e = cc
not_written ending w v clear y e = cc

not_overwritten : {next : Next} {b : Deed} {new : Option Thread} → Goes next b new → (w v : ℕ) → (Conflicts (Write w v) next → ⊥) → (y : ℕ)
    → b ≡ Write w y → ⊥
not_overwritten (writing {t = t} {w = x} {v = z}) w v clear y e =
    let same : x ≡ w = cc in clear (subst (λ k. Conflicts (Write k v) (writes x z t)) same written_twice)
not_overwritten quietly w v clear y e = cc
not_overwritten printing w v clear y e = cc
not_overwritten reading w v clear y e = cc
not_overwritten acquiring w v clear y e = cc
not_overwritten releasing w v clear y e = cc
not_overwritten arriving w v clear y e = cc
not_overwritten departing w v clear y e = cc
not_overwritten trapping w v clear y e = cc
not_overwritten ending w v clear y e = cc

not_read : {next : Next} {b : Deed} {new : Option Thread} → Goes next b new → (w v : ℕ) → (Conflicts (Write w v) next → ⊥) → (y : ℕ)
    → b ≡ Read w y → ⊥
not_read (reading {t = t} {w = x}) w v clear y e =
    let same : x ≡ w = cc in clear (subst (λ k. Conflicts (Write k v) (reads x t)) same written_and_read)
not_read quietly w v clear y e = cc
not_read printing w v clear y e = cc
not_read writing w v clear y e = cc
not_read acquiring w v clear y e = cc
not_read releasing w v clear y e = cc
not_read arriving w v clear y e = cc
not_read departing w v clear y e = cc
not_read trapping w v clear y e = cc
not_read ending w v clear y e = cc

not_acquired : {next : Next} {b : Deed} {new : Option Thread} → Goes next b new → (l : ℕ) → (Conflicts (Acquire l) next → ⊥) → b ≡ Acquire l → ⊥
not_acquired (acquiring {t = t} {l = k}) l clear e =
    let same : k ≡ l = cc in clear (subst (λ x. Conflicts (Acquire x) (acquires k t)) same acquired_twice)
not_acquired quietly l clear e = cc
not_acquired printing l clear e = cc
not_acquired reading l clear e = cc
not_acquired writing l clear e = cc
not_acquired releasing l clear e = cc
not_acquired arriving l clear e = cc
not_acquired departing l clear e = cc
not_acquired trapping l clear e = cc
not_acquired ending l clear e = cc

-- ---- what a read, a write and an acquire leave possible

beside_read : (s : Plain) (n m w v : ℕ) (o : Option Thread) (d : Deed) → CanDo s m d → CanDo (after_of s n (Read w v) o) m d
beside_read s n m w v o (Read x y) can = can
beside_read s n m w v o _ can = can

beside_write : (s : Plain) (n m w v : ℕ) (o : Option Thread) (d : Deed) → ((y : ℕ) → d ≡ Read w y → ⊥) → CanDo s m d
    → CanDo (after_of s n (Write w v) o) m d
beside_write s n m w v o (Read x y) never can =
    can ∙ sym (memory_other (Write w v) x s.memory (λ z e. let same : w ≡ x = cc in never y (ap (λ k. Read k y) (sym same))))
beside_write s n m w v o _ never can = can

beside_acquire : (s : Plain) (n m l : ℕ) (o : Option Thread) (d : Deed) → (d ≡ Acquire l → ⊥) → CanDo s m d → CanDo (after_of s n (Acquire l) o) m d
beside_acquire s n m l o (Acquire k) never can =
    ap is_none (holders_other n (Acquire l) k s.holders (λ e. let same : l ≡ k = cc in never (ap (λ x. Acquire x) (sym same))) (λ e. cc)) ∙ can
beside_acquire s n m l o _ never can = can

-- ---- their effects

memory_comm : (w v : ℕ) (b : Deed) (xs : List ℕ) → ((y : ℕ) → b ≡ Write w y → ⊥)
    → memory_after b (slice_set xs w v) ≡ slice_set (memory_after b xs) w v
memory_comm w v (Write x y) xs never = set_comm xs w x v y (λ same. never y (ap (λ k. Write k y) (sym same)))
memory_comm w v _ xs never = refl

holders_comm : (n m l : ℕ) (b : Deed) (xs : List (Option ℕ)) → (b ≡ Acquire l → ⊥) → (b ≡ Release l → ⊥)
    → holders_after m b (slice_set xs l (Some n)) ≡ slice_set (holders_after m b xs) l (Some n)
holders_comm n m l (Acquire k) xs taken given = set_comm xs l k (Some n) (Some m) (λ same. taken (ap (λ x. Acquire x) (sym same)))
holders_comm n m l (Release k) xs taken given = set_comm xs l k (Some n) None (λ same. given (ap (λ x. Release x) (sym same)))
holders_comm n m l _ xs taken given = refl

-- the machine of these parts
abbrev machine_of : List ℕ → List (Option ℕ) → List ℕ → List (Option Thread) → Plain
machine_of memory holders arrivals threads = record { memory = memory; holders = holders; arrivals = arrivals; threads = threads }

same_parts : (w x : List ℕ) (h i : List (Option ℕ)) (a b : List ℕ) (s t : List (Option Thread)) → w ≡ x → h ≡ i → a ≡ b → s ≡ t
    → machine_of w h a s ≡ machine_of x i b t
same_parts w x h i a b s t p q r u =
    ap (λ y. machine_of y h a s) p ∙ ap (λ y. machine_of x y a s) q ∙ ap (λ y. machine_of x i y s) r ∙ ap (λ y. machine_of x i b y) u

-- both acts are possible behind the other, and lead to one state
pub record Swapped (n m : ℕ) (a b : Deed) (s' s1 : Plain) : Type 0 where
  pub far : Plain
  pub first_then : plain_step s' m ≡ Some (b, far)
  pub second_then : plain_step s1 n ≡ Some (a, far)

module _ (s : Plain) (n m : ℕ) (apart : n ≡ m → ⊥) (a b : Deed) (s' s1 : Plain) (one : Stepped s n a s') (other : Stepped s m b s1) where
  swapped_by : CanDo (after_of s m b other.took.goes_on_as) n a → CanDo (after_of s n a one.took.goes_on_as) m b
      → memory_after b (memory_after a s.memory) ≡ memory_after a (memory_after b s.memory)
      → holders_after m b (holders_after n a s.holders) ≡ holders_after n a (holders_after m b s.holders)
      → arrivals_after m b (arrivals_after n a s.arrivals) ≡ arrivals_after n a (arrivals_after m b s.arrivals) → Swapped n m a b s' s1
  swapped_by still too words locks counts =
      let mine = one.took.goes_on_as in
      let its = other.took.goes_on_as in
      let far = after_of (after_of s m b its) n a mine in
      let near = after_of (after_of s n a mine) m b its in
      let one_way : plain_step s1 n ≡ Some (a, after_of s1 n a mine) =
      can_step s1 n one.thread a (other.others n apart ∙ one.there) refl one.took.goes (subst (λ x. CanDo x n a) (sym other.took.is) still) in
      let other_way : plain_step s' m ≡ Some (b, after_of s' m b its) =
      can_step s' m other.thread b (one.others m (λ e. apart (sym e)) ∙ other.there) refl other.took.goes
      (subst (λ x. CanDo x m b) (sym one.took.is) too) in
      let same : near ≡ far =
      same_parts (memory_after b (memory_after a s.memory)) (memory_after a (memory_after b s.memory))
      (holders_after m b (holders_after n a s.holders)) (holders_after n a (holders_after m b s.holders))
      (arrivals_after m b (arrivals_after n a s.arrivals)) (arrivals_after n a (arrivals_after m b s.arrivals))
      (slice_set (slice_set s.threads n mine) m its) (slice_set (slice_set s.threads m its) n mine)
      words locks counts (set_comm s.threads n m mine its apart) in
      record {
        far = far;
        first_then = other_way ∙ ap (λ x. Some (b, after_of x m b its)) one.took.is ∙ ap (λ x. Some (b, x)) same;
        second_then = one_way ∙ ap (λ x. Some (a, after_of x n a mine)) other.took.is;
      }

-- an act of no word and no acquire, as it always was
swapped_steady : (s : Plain) → Held s → (n m : ℕ) (apart : n ≡ m → ⊥) (a b : Deed) (s' s1 : Plain) → Stepped s n a s' → Stepped s m b s1
    → is_contended a ≡ false → Swapped n m a b s' s1
swapped_steady s held n m apart a b s' s1 one other steady =
    let d = diamond s held n m apart a b s' s1 one other steady in
    record { far = d.far; first_then = d.first_then; second_then = d.second_then }

pub swapped : (s : Plain) → Held s → (n m : ℕ) (apart : n ≡ m → ⊥) (a b : Deed) (s' s1 : Plain) (one : Stepped s n a s') (other : Stepped s m b s1)
    → (Conflicts a (next_of other.thread) → ⊥) → Swapped n m a b s' s1
swapped s held n m apart (Read w v) b s' s1 one other clear =
    swapped_by s n m apart (Read w v) b s' s1 one other
    (one.took.can ∙ sym (memory_other b w s.memory (not_written other.took.goes w v clear)))
    (beside_read s n m w v one.took.goes_on_as b other.took.can) refl refl refl
swapped s held n m apart (Write w v) b s' s1 one other clear =
    swapped_by s n m apart (Write w v) b s' s1 one other tt
    (beside_write s n m w v one.took.goes_on_as b (not_read other.took.goes w v clear) other.took.can)
    (memory_comm w v b s.memory (not_overwritten other.took.goes w v clear)) refl refl
swapped s held n m apart (Acquire l) b s' s1 one other clear =
    let never : b ≡ Acquire l → ⊥ = not_acquired other.took.goes l clear in
    let given : b ≡ Release l → ⊥ =
    λ e. not_free (slice_index_or s.holders l None) m (gives_its_own s held m other.thread other.there other.took.goes l e) one.took.can in
    swapped_by s n m apart (Acquire l) b s' s1 one other
    (ap is_none (holders_other m b l s.holders never given) ∙ one.took.can)
    (beside_acquire s n m l one.took.goes_on_as b never other.took.can) refl (holders_comm n m l b s.holders never given) refl
swapped s held n m apart Quiet b s' s1 one other clear = swapped_steady s held n m apart Quiet b s' s1 one other refl
swapped s held n m apart (Print v) b s' s1 one other clear = swapped_steady s held n m apart (Print v) b s' s1 one other refl
swapped s held n m apart (Release l) b s' s1 one other clear = swapped_steady s held n m apart (Release l) b s' s1 one other refl
swapped s held n m apart Arrive b s' s1 one other clear = swapped_steady s held n m apart Arrive b s' s1 one other refl
swapped s held n m apart Depart b s' s1 one other clear = swapped_steady s held n m apart Depart b s' s1 one other refl
swapped s held n m apart (Trap c) b s' s1 one other clear = swapped_steady s held n m apart (Trap c) b s' s1 one other refl
swapped s held n m apart End b s' s1 one other clear = swapped_steady s held n m apart End b s' s1 one other refl
