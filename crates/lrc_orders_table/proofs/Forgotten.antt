-- Threads that keep no dead value.
use Rattle.std.proofs.Common.{◌≡◌, ℕ, List, [], ◌∷◌, Bool, true, false, length, get_or, map, refl, sym, ◌∙◌, ap, subst, arith}
use Rattle.std.specs.Prelude.{All, Some, slice_get, slice_index, slice_index_or}
use Rattle.std.proofs.lemmas.List.{get_or-map, length-map}
use Rattle.std.proofs.lemmas.Option.{get_or_from_slice_get, slice_get-get_or, slice_get_within}
use Rattle.lrc_exec.specs.declared.spot.Spot.{Spot}
use Rattle.lrc_orders_live.specs.Live.{forgot, without_dead}
use Rattle.lrc_orders_table.specs.Rows.{AreThreadsAt}

-- what is forgotten once is forgotten
dead_once : (live : List Bool) (values : List ℕ) → without_dead live (without_dead live values) ≡ without_dead live values
dead_once [] values = refl
dead_once (true ∷ live) (v ∷ values) = ap (λ l. v ∷ l) (dead_once live values)
dead_once (false ∷ live) (v ∷ values) = ap (λ l. 0 ∷ l) (dead_once live values)
dead_once (true ∷ live) [] = refl
dead_once (false ∷ live) [] = refl

pub forgot_once : (table : List (List Bool)) (spot : Spot) → forgot table (forgot table spot) ≡ forgot table spot
forgot_once table spot = ap (λ l. record spot { privates = l }) (dead_once (slice_index_or table spot.place []) spot.privates)

-- so it is of several
pub all_forgot : (table : List (List Bool)) (old new : List Spot) → new ≡ map (forgot table) old → All (λ (spot : Spot). forgot table spot ≡ spot) new
all_forgot table old new is k d lt =
    let spot = get_or old k d in
    let here : get_or new k d ≡ forgot table spot =
    ap (λ l. get_or l k d) is ∙ get_or-map (forgot table) old k d d (omega (arith, lt, ap (λ l. length l) is, length-map old (forgot table))) in
    subst (λ (s : Spot). forgot table s ≡ s) (sym here) (forgot_once table spot)

-- what holds of all threads holds of those of a row
pub threads_of_row : (P : Spot → Type 0) (keys : List Spot) (nodes : ℕ) (numbers : List ℕ) (spots : List Spot) → AreThreadsAt keys nodes numbers spots
    → All P keys → All P spots
threads_of_row P keys nodes numbers spots at all k d lt =
    let spot = get_or spots k d in
    let number = slice_index numbers k in
    let there : slice_get keys number ≡ Some spot = at.each k (omega (arith, lt, at.count)) ∙ slice_get-get_or spots k d lt in
    subst P (get_or_from_slice_get keys number spot d there) (all number d (slice_get_within keys number spot there))
