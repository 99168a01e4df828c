-- The stamps of a log rise.
use Rattle.std.proofs.Common.{◌≡◌, ℕ, zero, suc, ◌<◌, ◌≤◌, List, [], ◌∷◌, ◌++◌, sym, ap, subst, ◌∙◌, arith}
use Rattle.std.specs.Prelude.{Some, slice_get}
use Rattle.std.proofs.Math.Nat.{le-max_left, le-max_right}
use Rattle.std.proofs.lemmas.Grind.{fold-append}
use Rattle.lrc_protocol.specs.Run.{EntryRecord, Logged, last_stamp, next_stamp}
use Rattle.lrc_weave.specs.Logs.{GoesOnBy}
use Rattle.lrc_weave.proofs.Played.{IsLogged, is_logged}

pub last_is : (log : List EntryRecord) (entry : EntryRecord) → last_stamp (log ++ entry ∷ []) ≡ entry.stamp
last_is log entry = fold-append (λ before (e : EntryRecord). e.stamp) 0 log (entry ∷ [])

-- an entry is above all before it, and above the message that it takes
pub above_last : (before : List EntryRecord) (came : ℕ) → last_stamp before < next_stamp before came
above_last before came = omega (arith, le-max_left (last_stamp before) came)

pub above_came : (before : List EntryRecord) (came : ℕ) → came < next_stamp before came
above_came before came = omega (arith, le-max_right (last_stamp before) came)

above : (log : List EntryRecord) (l : Logged) → GoesOnBy l log → (k : ℕ) (entry : EntryRecord) → slice_get log k ≡ Some entry → last_stamp l.log < entry.stamp
above [] l on k entry at = cc
above (e ∷ log) l on zero entry at =
    let same : e ≡ entry = cc in
    let is : IsLogged l on.0 e on.1 = is_logged l e.input on.0 e on.1 on.3 in
    subst (λ x. last_stamp l.log < x) (sym is.stamp ∙ ap (λ (x : EntryRecord). x.stamp) same) (above_last l.log on.0)
above (e ∷ log) l on (suc k) entry at =
    let is : IsLogged l on.0 e on.1 = is_logged l e.input on.0 e on.1 on.3 in
    let here : last_stamp l.log < e.stamp = subst (λ x. last_stamp l.log < x) (sym is.stamp) (above_last l.log on.0) in
    let rest : last_stamp on.1.log < entry.stamp = above log on.1 on.4 k entry at in
    let last : last_stamp on.1.log ≡ e.stamp = ap last_stamp is.log ∙ last_is l.log e in
    omega (arith, here, rest, last)

pub rises : (log : List EntryRecord) (l : Logged) → GoesOnBy l log → (j k : ℕ) (x y : EntryRecord) → slice_get log j ≡ Some x → slice_get log k ≡ Some y
    → j ≤ k → x.stamp ≤ y.stamp
rises [] l on j k x y at_j at_k le = cc
rises (e ∷ log) l on zero zero x y at_j at_k le =
    let same : x ≡ y = cc in subst (λ (z : EntryRecord). x.stamp ≤ z.stamp) same (omega arith)
rises (e ∷ log) l on zero (suc k) x y at_j at_k le =
    let same : e ≡ x = cc in
    let is : IsLogged l on.0 e on.1 = is_logged l e.input on.0 e on.1 on.3 in
    let rest : last_stamp on.1.log < y.stamp = above log on.1 on.4 k y at_k in
    let last : last_stamp on.1.log ≡ x.stamp = ap last_stamp is.log ∙ last_is l.log e ∙ ap (λ (z : EntryRecord). z.stamp) same in
    omega (arith, rest, last)
rises (e ∷ log) l on (suc j) zero x y at_j at_k le = absurd (omega (arith, le))
rises (e ∷ log) l on (suc j) (suc k) x y at_j at_k le = rises log on.1 on.4 j k x y at_j at_k (omega (arith, le))
