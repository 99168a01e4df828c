-- Threads that are joined in order.
use Rattle.std.proofs.Common.{◌≡◌, ◌∙◌, ℕ, zero, suc, ◌+◌, List, [], ◌∷◌, ◌++◌, Some}
use Rattle.std.proofs.Common.{refl, sym, ap, subst, arith, length, map}
use Rattle.std.specs.Prelude.{slice_get}
use Rattle.std.proofs.lemmas.List.{length-map, length_push, map-append}
use Rattle.lrc_program.specs.declared.Program.{Program}
use Rattle.lrc_protocol.specs.Node.{OptionsRecord, fresh_node}
use Rattle.lrc_threads.specs.declared.life.Past.{Past}
use Rattle.lrc_threads.specs.declared.nodes.PastOf.{PastOf}
use Rattle.lrc_threads.specs.Threads.{AreFirstPasts, AreOwed, ArePastsOwed, IsPast, node_of}

-- what holds of each of a list, and of one more, holds of each of the longer list
pub each_more : {X : Type 0} (P : ℕ → X → Type 0) (xs : List X) (x : X) → ((n : ℕ) (y : X) → slice_get xs n ≡ Some y → P n y) → P (length xs) x
    → (n : ℕ) (y : X) → slice_get (xs ++ x ∷ []) n ≡ Some y → P n y
each_more P [] x each last zero y at = let same : x ≡ y = cc in subst (P 0) same last
each_more P [] x each last (suc n) y at = cc
each_more P (z ∷ xs) x each last zero y at = each 0 y at
each_more P (z ∷ xs) x each last (suc n) y at = each_more (λ k. P (suc k)) xs x (λ k w there. each (suc k) w there) last n y at

-- the same of two lists side by side
both_more : {X Y : Type 0} (P : X → Y → Type 0) (xs : List X) (x : X) (ys : List Y) (y : Y) → length ys ≡ length xs
    → ((n : ℕ) (v : X) (w : Y) → slice_get xs n ≡ Some v → slice_get ys n ≡ Some w → P v w) → P x y
    → (n : ℕ) (v : X) (w : Y) → slice_get (xs ++ x ∷ []) n ≡ Some v → slice_get (ys ++ y ∷ []) n ≡ Some w → P v w
both_more P [] x [] y count each last zero v w at there =
    let same : x ≡ v = cc in
    let other : y ≡ w = cc in
    subst (λ v. P v w) same (subst (P x) other last)
both_more P [] x [] y count each last (suc n) v w at there = cc
both_more P [] x (z ∷ ys) y count each last n v w at there = cc
both_more P (z ∷ xs) x [] y count each last n v w at there = cc
both_more P (a ∷ xs) x (b ∷ ys) y count each last zero v w at there = each 0 v w at there
both_more P (a ∷ xs) x (b ∷ ys) y count each last (suc n) v w at there =
    let fewer : length ys ≡ length xs = omega (arith, count) in
    both_more P xs x ys y fewer (λ k c d left right. each (suc k) c d left right) last n v w at there

-- one thread more is joined
pub owed_more : {H : Type 0} (promise : H → PastOf) (joined all : List H) (thread : H) (pasts more : List Past) (past : Past)
    → all ≡ joined ++ thread ∷ [] → more ≡ pasts ++ past ∷ [] → ArePastsOwed (map promise joined) pasts → IsPast (node_of (promise thread)) past
    → ArePastsOwed (map promise all) more
owed_more promise joined all thread pasts more past is are so_far its =
    let owed : map promise all ≡ map promise joined ++ promise thread ∷ [] = ap (map promise) is ∙ map-append promise joined (thread ∷ []) in
    subst (λ ps. ArePastsOwed (map promise all) ps) (sym are)
    (subst (λ os. ArePastsOwed os (pasts ++ past ∷ [])) (sym owed) (record {
      count = length_push pasts past ∙ ap (λ n. n + 1) so_far.count ∙ sym (length_push (map promise joined) (promise thread));
      each = both_more (λ one p. IsPast (node_of one) p) (map promise joined) (promise thread) pasts past so_far.count so_far.each its;
    }))

-- what is at a place of a list that is as long as another has something beside it there
beside : {X Y : Type 0} (xs : List X) (ys : List Y) → length ys ≡ length xs → (n : ℕ) (y : Y) → slice_get ys n ≡ Some y
    → (x : X) × (slice_get xs n ≡ Some x)
beside [] [] count n y at = cc
beside [] (y ∷ ys) count n z at = cc
beside (x ∷ xs) [] count n y at = cc
beside (x ∷ xs) (y ∷ ys) count zero z at = (x, refl)
beside (x ∷ xs) (y ∷ ys) count (suc n) z at = beside xs ys (omega (arith, count)) n z at

module _ (program : Program) (nodes : ℕ) (options : OptionsRecord) where
  -- the pasts that are owed are those of the first nodes
  pub first_pasts : (owed : List PastOf) (pasts : List Past) → AreOwed program nodes options owed → ArePastsOwed owed pasts
      → AreFirstPasts program nodes options pasts
  first_pasts owed pasts are kept = λ n past at.
      let one = beside owed pasts kept.count n past at in
      subst (λ start. IsPast start past) (are n one.0 one.1) (kept.each n one.0 past one.1 at)

  -- one past more of the nodes
  pub past_more : (pasts all : List Past) (past : Past) (me : ℕ) → all ≡ pasts ++ past ∷ [] → length pasts ≡ me → AreFirstPasts program nodes options pasts
      → IsPast (fresh_node program nodes options me) past → AreFirstPasts program nodes options all
  past_more pasts all past me is count each its =
      subst (AreFirstPasts program nodes options) (sym is)
      (each_more (λ n p. IsPast (fresh_node program nodes options n) p) pasts past each
      (subst (λ n. IsPast (fresh_node program nodes options n) past) (sym count) its))

  -- threads that are started: one more
  pub started_more : {H : Type 0} (promise : H → PastOf) (threads all : List H) (thread : H) (me : ℕ) → all ≡ threads ++ thread ∷ [] → length threads ≡ me
      → AreOwed program nodes options (map promise threads) → node_of (promise thread) ≡ fresh_node program nodes options me
      → (length all ≡ me + 1) × AreOwed program nodes options (map promise all)
  started_more promise threads all thread me is count owed one =
      let here : me ≡ length (map promise threads) = sym (length-map threads promise ∙ count) in (
        ap length is ∙ length_push threads thread ∙ ap (λ n. n + 1) count,
        subst (AreOwed program nodes options) (sym (ap (map promise) is ∙ map-append promise threads (thread ∷ [])))
            (each_more (λ n other. node_of other ≡ fresh_node program nodes options n) (map promise threads) (promise thread) owed
            (subst (λ n. node_of (promise thread) ≡ fresh_node program nodes options n) here one)),
      )
