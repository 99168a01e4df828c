-- What each node does in a run, and what is noted of it, where two neighbouring acts of different nodes change places.
use Rattle.std.proofs.Common.{◌≡◌, ℕ, zero, suc, List, [], ◌∷◌, ◌++◌, Bool, true, false, map, refl, sym, subst, ◌∙◌, ap}
use Rattle.std.specs.Prelude.{◌==◌, ◌&&◌, cond, Option, Some, filter}
use Rattle.std.proofs.lemmas.Bool.{and_parts, eqb-true, ne_eqb}
use Rattle.std.proofs.lemmas.List.{map-append}
use Rattle.std.proofs.lemmas.List.Elements.{filter-append}
use Rattle.lrc_program.specs.declared.Program.{Program}
use Rattle.lrc_trace.specs.declared.act.Act.{Act}
use Rattle.lrc_trace.specs.declared.act.Deed.{Deed}
use Rattle.lrc_trace.proofs.Positions.{Does-longer}
use Rattle.lrc_trace.proofs.Prefixes.{IsWellSynchronized-shorter, ReadsLazily-shorter}
use Rattle.lrc_exec.specs.Meaning.{Thread, Next}
use Rattle.lrc_exec.specs.Plain.{start_of}
use Rattle.lrc_exec.specs.Follows.{Goes, quietly, printing, reading, writing, acquiring, releasing, arriving, departing}
use Rattle.lrc_exec.specs.Follows.{trapping, ending, Makes, nothing_more, and_then, deeds_of, FollowsText}
use Rattle.lrc_consistency_laws.specs.Kinds.{SameKind, same, reads}
use Rattle.lrc_consistency_laws.proofs.UpToRace.{in_range}
use Rattle.lrc_orders.specs.Notes.{is_noted_deed, is_note_of, notes_from, notes_of}
use Rattle.lrc_lazy.specs.Lazy.{IsLazyRun}
use Rattle.lrc_lazy.proofs.Onward.{all_in_range}
use Rattle.lrc_lazy.specs.Swapped.{pair}
use Rattle.lrc_lazy.proofs.Moving.{moved, does_moved}

-- ---- what is picked of a run

both_ways : (x y : Bool) → (x ≡ true → y ≡ false) → (a b : Act) (l : List Act)
    → cond x (a ∷ cond y (b ∷ l) l) (cond y (b ∷ l) l) ≡ cond y (b ∷ cond x (a ∷ l) l) (cond x (a ∷ l) l)
both_ways true true e a b l = let never : true ≡ false = e refl in cc
both_ways true false e a b l = refl
both_ways false true e a b l = refl
both_ways false false e a b l = refl

picked : (f : Act → Bool) (xs : List Act) (a b : Act) (rest : List Act) → (f a ≡ true → f b ≡ false) → filter f (pair xs a b rest) ≡ filter f (pair xs b a rest)
picked f [] a b rest e = both_ways (f a) (f b) e a b (filter f rest)
picked f (x ∷ xs) a b rest e = ap (λ l. cond (f x) (x ∷ l) l) (picked f xs a b rest e)

not_its : (n : ℕ) (a b : Act) → (a.node ≡ b.node → ⊥) → (a.node == n) ≡ true → (b.node == n) ≡ false
not_its n a b apart e = let own = eqb-true a.node n e in ne_eqb b.node n (λ f. apart (own ∙ sym f))

module _ (front : List Act) (first second : Act) (rest : List Act) (apart : first.node ≡ second.node → ⊥) where
  pub deeds_moved : (n : ℕ) → deeds_of n (pair front first second rest) ≡ deeds_of n (pair front second first rest)
  deeds_moved n =
      ap (map (λ (x : Act). x.deed)) (picked (λ (x : Act). x.node == n) front first second rest (not_its n first second apart))

  noted : (n : ℕ) → filter (is_note_of n) (pair front first second rest) ≡ filter (is_note_of n) (pair front second first rest)
  noted n = picked (is_note_of n) front first second rest (λ e.
      ap (λ b. b && is_noted_deed second.deed)
      (not_its n first second apart (and_parts (first.node == n) (is_noted_deed first.deed) e).0))

  notes_moved_from : (count n : ℕ) → notes_from n count (pair front first second rest) ≡ notes_from n count (pair front second first rest)
  notes_moved_from zero n = refl
  notes_moved_from (suc count) n =
      ap (λ l. l ++ notes_from (suc n) count (pair front first second rest)) (noted n)
      ∙ ap (λ l. filter (is_note_of n) (pair front second first rest) ++ l) (notes_moved_from count (suc n))

  pub notes_moved : (nodes : ℕ) → notes_of nodes (pair front first second rest) ≡ notes_of nodes (pair front second first rest)
  notes_moved nodes = notes_moved_from nodes 0

  pub follows_moved : (program : Program) (nodes : ℕ) → FollowsText program nodes (pair front first second rest)
      → FollowsText program nodes (pair front second first rest)
  follows_moved program nodes follows = record {
    in_range = all_in_range nodes (pair front second first rest) (λ k n d does.
        let x = moved _ k in
        in_range follows x.0 n d (does_moved front second first rest x.1 does));
    each = λ n lt. subst (λ ds. Makes (Some (start_of program nodes n)) ds) (deeds_moved n) (follows.each n lt);
  }

-- ---- the front of a run

pub deeds_joined : (n : ℕ) (run more : List Act) → deeds_of n (run ++ more) ≡ deeds_of n run ++ deeds_of n more
deeds_joined n run more =
    ap (map (λ (x : Act). x.deed)) (filter-append (λ (x : Act). x.node == n) run more)
    ∙ map-append (λ (x : Act). x.deed) (filter (λ (x : Act). x.node == n) run) (filter (λ (x : Act). x.node == n) more)

makes_front : {o : Option Thread} (ds es : List Deed) → Makes o (ds ++ es) → Makes o ds
makes_front [] es m = nothing_more
makes_front (d ∷ ds) es (and_then g m) = and_then g (makes_front ds es m)

pub lazy_front : (program : Program) (nodes : ℕ) (run more : List Act) → IsLazyRun program nodes (run ++ more) → IsLazyRun program nodes run
lazy_front program nodes run more lazy = record {
  follows = record {
    in_range = all_in_range nodes run (λ k n d does. in_range lazy.follows k n d (Does-longer more does));
    each = λ n lt. makes_front (deeds_of n run) (deeds_of n more)
        (subst (λ ds. Makes (Some (start_of program nodes n)) ds) (deeds_joined n run more) (lazy.follows.each n lt));
  };
  synchronized = IsWellSynchronized-shorter run more nodes lazy.synchronized;
  lazily = ReadsLazily-shorter run more lazy.lazily;
}

-- ---- a thread makes one deed next, but for the value that it reads

pub goes_one : {n : Next} {d e : Deed} {s t : Option Thread} → Goes n d s → Goes n e t → d ≡ e → s ≡ t
goes_one quietly quietly is = refl
goes_one printing printing is = refl
goes_one (reading {t = f} {w = w} {v = v}) (reading {v = u}) is = let value : v ≡ u = cc in ap (λ x. Some (f x)) value
goes_one writing writing is = refl
goes_one acquiring acquiring is = refl
goes_one releasing releasing is = refl
goes_one arriving arriving is = refl
goes_one departing departing is = refl
goes_one trapping trapping is = refl
goes_one ending ending is = refl

one_kind : {n : Next} {d e : Deed} {s t : Option Thread} → Goes n d s → Goes n e t → SameKind d e
one_kind quietly quietly = same
one_kind printing printing = same
one_kind reading reading = reads
one_kind writing writing = same
one_kind acquiring acquiring = same
one_kind releasing releasing = same
one_kind arriving arriving = same
one_kind departing departing = same
one_kind trapping trapping = same
one_kind ending ending = same

pub kind_next : {o : Option Thread} (ds : List Deed) (d e : Deed) → Makes o (ds ++ d ∷ []) → Makes o (ds ++ e ∷ []) → SameKind d e
kind_next [] d e (and_then g m) (and_then h l) = one_kind g h
kind_next (x ∷ ds) d e (and_then g m) (and_then h l) = kind_next ds d e m (subst (λ o. Makes o (ds ++ e ∷ [])) (goes_one h g refl) l)
