-- Happens before goes forward, and is transitive.
use Rattle.std.proofs.Common.{ℕ, ◌<◌, List, inl, inr, refl, sym, subst, arith}
use Rattle.lrc_races_trace.specs.declared.event.Event.{Event}
use Rattle.lrc_races_trace.specs.Order.{Precedes, program, lock, fork, join, fork_join, barrier, HappensBefore, base, further, Reaches}

pub Precedes-forward : {events : List Event} {i j : ℕ} → Precedes events i j → i < j
Precedes-forward (program lt a b e) = lt
Precedes-forward (lock lt a b e f) = lt
Precedes-forward (fork lt a b e) = lt
Precedes-forward (join lt a b e) = lt
Precedes-forward (fork_join lt a b e f) = lt
Precedes-forward (barrier lt a b e f g) = lt

pub forward : {events : List Event} {i j : ℕ} → HappensBefore events i j → i < j
forward (base p) = Precedes-forward p
forward (further h p) = let a = forward h in let b = Precedes-forward p in omega arith

pub transitive : {events : List Event} {i j k : ℕ} → HappensBefore events i j → HappensBefore events j k → HappensBefore events i k
transitive h (base p) = further h p
transitive h (further l p) = further (transitive h l) p

module _ (events : List Event) where
  -- what reaches a position that comes before n happens before n
  pub Reaches-extends : {i k n : ℕ} → Reaches events i k → HappensBefore events k n → HappensBefore events i n
  Reaches-extends {i} {k} {n} (inl e) h = let P : ℕ → Type 0 = λ m. HappensBefore events m n in subst P (sym e) h
  Reaches-extends (inr g) h = transitive g h

  -- what happens before n reaches what comes right before it
  pub Reaches-last : {i n : ℕ} → HappensBefore events i n → (k : ℕ) × Reaches events i k × Precedes events k n
  Reaches-last {i} (base p) = (i, inl refl, p)
  Reaches-last (further {j = k} h p) = (k, inr h, p)
