-- In which order nodes acquire a lock, and lists of which one begins the other.
use Rattle.std.specs.Prelude.{◌≡◌, ℕ, ◌==◌, ◌⊎◌, Bool, false, List, ◌++◌, map, filter}
use Rattle.lrc_trace.specs.declared.act.Act.{Act}
use Rattle.lrc_trace.specs.declared.act.Deed.{Deed}
use Rattle.lrc_trace.specs.declared.act.Deed.TheVariants.{Acquire}

-- whether a deed acquires the lock
abbrev pub is_acquire : ℕ → Deed → Bool
is_acquire l (Acquire m) = m == l
is_acquire l _ = false

-- the nodes that acquire the lock, in their order
abbrev pub acquirers : ℕ → List Act → List ℕ
acquirers l acts = map (λ a. a.node) (filter (λ a. is_acquire l a.deed) acts)

-- the first list begins the second
abbrev pub Begins : {A : Type 0} → List A → List A → Type 0
Begins {A} xs ys = (rest : List A) × (xs ++ rest ≡ ys)

-- one of two lists begins the other
abbrev pub OneBeginsOther : {A : Type 0} → List A → List A → Type 0
OneBeginsOther xs ys = Begins xs ys ⊎ Begins ys xs
