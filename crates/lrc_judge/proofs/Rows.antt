-- The rows of the table, and the order that they say.
use Rattle.std.proofs.Common.{◌≡◌, ℕ, zero, suc, ◌+◌, ◌<◌, List, [], ◌∷◌, ◌++◌, length, get_or, inl, inr, refl, sym, subst, ◌∙◌, ap, arith}
use Rattle.std.specs.Prelude.{nat_lt, true, Option, Some, None, slice_get}
use Rattle.std.proofs.lemmas.Bool.{cases_lt, and_parts, and_from, ltb-true, lt-ltb, false≢true}
use Rattle.std.proofs.lemmas.List.{length_push}
use Rattle.std.proofs.lemmas.Option.{slice_get_within, same_Some}
use Rattle.lrc_trace.specs.declared.act.Act.{Act}
use Rattle.lrc_trace.specs.declared.act.Deed.{Deed}
use Rattle.lrc_trace.specs.Run.{Does}
use Rattle.lrc_trace.specs.Order.{HappensBefore}
use Rattle.lrc_trace.proofs.Positions.{slice_get-front, slice_get-seam}
use Rattle.lrc_trace.proofs.HappensBefore.{forward, within}
use Rattle.lrc_trace.proofs.Intervals.{act_at}
use Rattle.lrc_judge.specs.declared.reach.Reached.{Reached}
use Rattle.lrc_judge.specs.declared.order.Order.{Order}
use Rattle.lrc_judge.specs.Past.{Gathers}
use Rattle.lrc_judge.proofs.Gathering.{Gathers-one}
use Rattle.lrc_judge.specs.Order.{is_reached, is_before, IsOrderOf}

-- the row is that of position k
pub record IsRow (run : List Act) (k : ℕ) (row : Reached) : Type 0 where
  pub node : (p : ℕ) (d : Deed) → Does run k p d → row.node ≡ p
  pub reach : Gathers run (λ m. m ≡ k) row.reach

-- the rows are those of the first n positions
pub record AreRows (run : List Act) (n : ℕ) (rows : List Reached) : Type 0 where
  pub long : length rows ≡ n
  pub each : (k : ℕ) (row : Reached) → slice_get rows k ≡ Some row → IsRow run k row

pub AreRows-none : (run : List Act) → AreRows run 0 []
AreRows-none run = record { long = refl; each = λ k row e. let never : ⊥ = cc in absurd never }

pub AreRows-push : (run : List Act) (n : ℕ) (rows : List Reached) (row : Reached) → AreRows run n rows → IsRow run n row → AreRows run (n + 1) (rows ++ row ∷ [])
AreRows-push run n rows row old new = record {
  long = length_push rows row ∙ ap (λ m. m + 1) old.long;
  each = λ k x e.
      let long = old.long in
      let more = length_push rows row in
      let within = slice_get_within (rows ++ row ∷ []) k x e in
      elim (cases_lt k (length rows)) [
        | inl earlier ↦ old.each k x (sym (slice_get-front rows (row ∷ []) k earlier) ∙ e)
        | inr le ↦
            let last : k ≡ length rows = omega arith in
            let here : slice_get (rows ++ row ∷ []) k ≡ Some row = rw last (slice_get-seam rows row []) in
            let same : row ≡ x = same_Some row x (sym here ∙ e) in
            let at : n ≡ k = omega arith in
            subst (λ m. IsRow run m x) at (subst (λ r. IsRow run n r) same new)
      ];
}

-- an element stands at each place of a list
read_at : {A : Type 0} (xs : List A) (i : ℕ) → i < length xs → (x : A) × (slice_get xs i ≡ Some x)
read_at (x ∷ xs) zero h = (x, refl)
read_at (x ∷ xs) (suc i) h = read_at xs i (omega arith)
read_at [] i h = absurd (omega arith)

module _ (run : List Act) (order : Order) (all : AreRows run (length run) order.rows.items) where
  forth : (i j : ℕ) (a b : Option Reached) → slice_get order.rows.items i ≡ a → slice_get order.rows.items j ≡ b → i < j
      → is_reached i a b ≡ true → HappensBefore run i j
  forth i j (Some a) (Some b) ea eb lt reached =
      let long = all.long in
      let first = slice_get_within order.rows.items i a ea in
      let (act, here) = act_at run i (omega arith) in
      let node = (all.each i a ea).node act.node act.deed here in
      let below : i < get_or b.reach.latest act.node 0 = ltb-true i _ (rw (← node) reached) in
      elim (Gathers-one run j b.reach (all.each j b eb).reach i act.node act.deed here below) [
        | inl same ↦ absurd (omega arith)
        | inr h ↦ h
      ]
  forth i j (Some a) None ea eb lt reached = absurd (false≢true reached)
  forth i j None b ea eb lt reached = absurd (false≢true reached)

  back : (i j : ℕ) → HappensBefore run i j → is_before order i j ≡ true
  back i j h =
      let lt = forward h in
      let in_run = within h in
      let long = all.long in
      let (a, ea) = read_at order.rows.items i (omega arith) in
      let (b, eb) = read_at order.rows.items j (omega arith) in
      let (act, here) = act_at run i (omega arith) in
      let node = (all.each i a ea).node act.node act.deed here in
      let below = (all.each j b eb).reach.complete i j act.node act.deed here refl (inr h) in
      and_from (nat_lt i j) _ (lt-ltb i j lt) (rw (ea, eb, node) (lt-ltb i _ below))

  pub order_of : IsOrderOf run order
  order_of i j = (λ h. let both = and_parts (nat_lt i j) _ h in forth i j _ _ refl refl (ltb-true i j both.0) both.1, back i j)
