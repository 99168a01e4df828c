-- What nodes know of the locks at the start.
use Rattle.std.proofs.Common.{ℕ, ◌≡◌, ◌+◌, ◌<◌, ◌≤◌, ◌∙◌, ◌==◌, Bool, true, false, if◌then◌else◌, List, []}
use Rattle.std.proofs.Common.{◌∷◌, ◌++◌, All, length, map, ap, sym, refl, zero-add, arith}
use Rattle.std.proofs.lemmas.List.FromFn.{get_or-map-range_with_len, length-map-range_with_len, map-range_with_len_more}
use Rattle.std.proofs.lemmas.List.Elements.{All-cons, All-nil, All-map}
use Rattle.std.proofs.lemmas.Nat.{mod_below}
use Rattle.std.specs.List.{range_with_len}
use Rattle.lrc_time.specs.Time.{zeros}
use Rattle.lrc_time.proofs.Times.{length-zeros}
use Rattle.lrc_lock.specs.declared.state.LockState.{LockState}
use Rattle.lrc_lock.specs.declared.state.LockState.TheVariants.{Away, Free}
use Rattle.lrc_lock.specs.Lock.{manager_of, IsLockState}
use Rattle.lrc_lock.specs.Managed.{IsManaged}
use Rattle.lrc_lock.specs.Held.{first_held, first_state, has_token, lock_at, IsHeld}

-- what a function gives of the numbers below so many
pub made_length : {X : Type 0} (f : ℕ → X) (n : ℕ) (xs : List X) → xs ≡ map f (range_with_len 0 n) → length xs ≡ n
made_length f n xs made = ap length made ∙ length-map-range_with_len f 0 n

pub made_more : {X : Type 0} (f : ℕ → X) (n : ℕ) (xs ys : List X) → xs ≡ map f (range_with_len 0 n) → ys ≡ xs ++ f n ∷ []
    → ys ≡ map f (range_with_len 0 (n + 1))
made_more f n xs ys made more =
    more ∙ ap (λ zs. zs ++ f n ∷ []) made ∙ sym (map-range_with_len_more f 0 n n (zero-add n))

pub All-always : {X : Type 0} (P : X → Type 0) → ((x : X) → P x) → (xs : List X) → All P xs
All-always P always [] = All-nil P
All-always P always (x ∷ xs) = All-cons P x xs (always x) (All-always P always xs)

pub All-made : {X : Type 0} (P : X → Type 0) (f : ℕ → X) (n : ℕ) (xs : List X) → ((k : ℕ) → P (f k))
    → xs ≡ map f (range_with_len 0 n) → All P xs
All-made P f n xs each made = rw made (All-map P f (range_with_len 0 n) (All-always (λ k. P (f k)) each (range_with_len 0 n)))

pub is_managed : (me nodes locks : ℕ) (recent : List ℕ) → me < nodes → nodes ≤ 16 → locks ≤ 64
    → recent ≡ map (manager_of nodes) (range_with_len 0 locks)
    → IsManaged (record { me = me; nodes = nodes; recent = recent })
is_managed me nodes locks recent here few room made = record {
  me = here;
  few = few;
  locks = omega (arith, made_length (manager_of nodes) locks recent made);
  askers = All-made (λ asker. asker < nodes) (manager_of nodes) locks recent (λ lock. mod_below lock nodes (omega arith)) made;
}

pub is_first_state : (me nodes lock : ℕ) (mine : Bool) → IsLockState me nodes (if mine then Free (zeros nodes) else Away)
is_first_state me nodes lock true = length-zeros nodes
is_first_state me nodes lock false = tt

pub is_held : (me nodes locks : ℕ) (states : List LockState) → me < nodes → nodes ≤ 16 → locks ≤ 64
    → states ≡ map (first_state me nodes) (range_with_len 0 locks)
    → IsHeld (record { me = me; nodes = nodes; locks = states })
is_held me nodes locks states here few room made = record {
  me = here;
  few = few;
  locks = omega (arith, made_length (first_state me nodes) locks states made);
  states =
      All-made (IsLockState me nodes) (first_state me nodes) locks states
      (λ lock. is_first_state me nodes lock (manager_of nodes lock == me)) made;
}

pub has_first_token : (nodes : ℕ) (mine : Bool) → has_token (if mine then Free (zeros nodes) else Away) ≡ mine
has_first_token nodes true = refl
has_first_token nodes false = refl

pub first_token : (me nodes locks lock : ℕ) → lock < locks
    → has_token (lock_at (first_held me nodes locks) lock) ≡ (manager_of nodes lock == me)
first_token me nodes locks lock within =
    ap has_token (get_or-map-range_with_len (first_state me nodes) 0 locks lock lock Away within (zero-add lock))
    ∙ has_first_token nodes (manager_of nodes lock == me)
