-- A read tells nothing of a variable that nobody has written.
use Rattle.std.proofs.Common.{◌≡◌, ℕ, zero, suc, List, [], ◌∷◌, ◌++◌, refl, sym, ◌∙◌, ap, ap₂}
use Rattle.std.specs.Prelude.{◌==◌, if◌then◌else◌, ◌||◌, Bool, true, false, Option, None, Some, option_to_list, slice_get, slice_index}
use Rattle.std.proofs.lemmas.Bool.{or_parts}
use Rattle.lrc_races_trace.specs.declared.event.Pair.{Pair}
use Rattle.lrc_races_trace.specs.declared.event.Placed.{Placed}
use Rattle.lrc_races_detector.specs.declared.variables.Last.{Last}
use Rattle.lrc_races_detector.specs.Variables.{noted, thread_of, told_at, told_below, told_one, told_with, IsNotedAt}
use Rattle.lrc_races_detector.specs.Written.{any_written, is_written}

unwritten : (o : Option Placed) → is_written o ≡ false → o ≡ None
unwritten None e = refl
unwritten (Some write) e = let never : ⊥ = cc in absurd never

both_none : (b : Bool) (o : Option Pair) → o ≡ None → (if b then None else o) ≡ None
both_none true o e = refl
both_none false o e = e

untold_one : (last : Last) (known : List ℕ) (later : Placed) → is_written last.write ≡ false → told_one last known later false ≡ None
untold_one last known later e =
    both_none (thread_of last == later.event.thread) (told_with last.write (slice_index known (thread_of last)) later)
    (ap (λ (o : Option Placed). told_with o (slice_index known (thread_of last)) later) (unwritten last.write e))

untold_at : (lasts : List Last) (known : List ℕ) (later : Placed) (i : ℕ) → any_written lasts ≡ false
    → told_at (slice_get lasts i) known later false ≡ None
untold_at [] known later i e = refl
untold_at (last ∷ lasts) known later zero e = untold_one last known later (or_parts (is_written last.write) (any_written lasts) e).0
untold_at (last ∷ lasts) known later (suc i) e = untold_at lasts known later i (or_parts (is_written last.write) (any_written lasts) e).1

pub untold : (lasts : List Last) (known : List ℕ) (later : Placed) (i : ℕ) → any_written lasts ≡ false → told_below lasts known later false i ≡ []
untold lasts known later zero e = refl
untold lasts known later (suc i) e =
    ap₂ (λ (xs : List Pair) (o : Option Pair). xs ++ option_to_list o) (untold lasts known later i e) (untold_at lasts known later i e)

-- ---- an access more

or_swap : (a b c : Bool) → (a || (b || c)) ≡ ((a || b) || c)
or_swap true b c = refl
or_swap false b c = refl

or_past : (a b w : Bool) → ((a || w) || b) ≡ ((a || b) || w)
or_past true b w = refl
or_past false true true = refl
or_past false true false = refl
or_past false false true = refl
or_past false false false = refl

written_again : (last : Last) (placed : Placed) (w : Bool) → is_written (noted (Some last) placed w).write ≡ (is_written last.write || w)
written_again last placed true = or_true (is_written last.write)
  where
    or_true : (b : Bool) → true ≡ (b || true)
    or_true true = refl
    or_true false = refl
written_again last placed false = or_false (is_written last.write)
  where
    or_false : (b : Bool) → b ≡ (b || false)
    or_false true = refl
    or_false false = refl

written_first : (placed : Placed) (w : Bool) → is_written (noted None placed w).write ≡ w
written_first placed true = refl
written_first placed false = refl

any-append : (xs ys : List Last) → any_written (xs ++ ys) ≡ (any_written xs || any_written ys)
any-append [] ys = refl
any-append (x ∷ xs) ys = ap (λ b. is_written x.write || b) (any-append xs ys) ∙ or_swap (is_written x.write) (any_written xs) (any_written ys)

noted_more : (front back : List Last) (old : Option Last) (placed : Placed) (w : Bool)
    → any_written (front ++ noted old placed w ∷ back) ≡ (any_written (front ++ (option_to_list old ++ back)) || w)
noted_more front back (Some x) placed w =
    any-append front (noted (Some x) placed w ∷ back)
    ∙ ap (λ b. any_written front || (b || any_written back)) (written_again x placed w)
    ∙ or_behind (any_written front) (is_written x.write) (any_written back) w
    ∙ ap (λ b. b || w) (sym (any-append front (x ∷ back)))
  where
    or_behind : (f a b w : Bool) → (f || ((a || w) || b)) ≡ ((f || (a || b)) || w)
    or_behind true a b w = refl
    or_behind false a b w = or_past a b w
noted_more front back None placed w =
    any-append front (noted None placed w ∷ back)
    ∙ ap (λ b. any_written front || (b || any_written back)) (written_first placed w)
    ∙ or_between (any_written front) (any_written back) w
    ∙ ap (λ b. b || w) (sym (any-append front back))
  where
    or_turned : (a b : Bool) → (a || b) ≡ (b || a)
    or_turned true true = refl
    or_turned true false = refl
    or_turned false true = refl
    or_turned false false = refl

    or_between : (f b w : Bool) → (f || (w || b)) ≡ ((f || b) || w)
    or_between true b w = refl
    or_between false b w = or_turned w b

-- noted at its place, it is written where it was or this is a write
pub written_noted : (before after : List Last) (placed : Placed) (w : Bool) → IsNotedAt before after placed w
    → any_written after ≡ (any_written before || w)
written_noted before after placed w is =
    ap any_written is.is ∙ noted_more is.front is.back is.old placed w ∙ ap (λ xs. any_written xs || w) (sym is.was)

-- ---- where a write may be

pub seen_true : (a : Bool) → (a || true) ≡ true
seen_true true = refl
seen_true false = refl

pub seen_now : (was is w : Bool) → is ≡ (was || w) → was ≡ false → (is || w) ≡ w
seen_now was is w e none = ap (λ b. b || w) (e ∙ ap (λ b. b || w) none) ∙ or_twice w
  where
    or_twice : (b : Bool) → (b || b) ≡ b
    or_twice true = refl
    or_twice false = refl

pub seen_none : (a written : Bool) → (a || written) ≡ written → written ≡ false → a ≡ false
seen_none true true e none = none
seen_none true false e none = e
seen_none false written e none = refl
