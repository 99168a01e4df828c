-- Whether nothing is left to do.
use Rattle.std.proofs.Common.{◌≡◌, ◌∙◌, ℕ, zero, suc, ◌+◌, ◌≤◌, List, [], ◌∷◌, Bool, true, false, ◌||◌, Some, refl, sym, ap, arith, length, take}
use Rattle.std.specs.Prelude.{not, slice_get}
use Rattle.std.specs.List.{list_any}
use Rattle.lrc_protocol.specs.Turn.{is_ready}
use Rattle.lrc_protocol.specs.Run.{Logged, World as Run}
use Rattle.lrc_consistency_laws.proofs.Ahead.{take_ahead}
use Rattle.lrc_world.specs.Report.{IsOver}
use Rattle.lrc_world.specs.World.{Starts, Shows, seen_flying, seen_sent}
use Rattle.lrc_world.specs.declared.world.World.{World}
use Rattle.lrc_world.proofs.Driven.{none_long}
use Rattle.lrc_world.proofs.Lists.{none-end, same_length}

or_true : (a b : Bool) → b ≡ true → (a || b) ≡ true
or_true true b e = refl
or_true false b e = e

-- one of them is
pub one_is : {X : Type 0} (p : X → Bool) (xs : List X) (n : ℕ) (x : X) → slice_get xs n ≡ Some x → p x ≡ true → list_any p xs ≡ true
one_is p [] n x there holds = cc
one_is p (y ∷ xs) zero x there holds = let same : y ≡ x = cc in ap (λ b. b || list_any p xs) (ap p same ∙ holds)
one_is p (y ∷ xs) (suc n) x there holds = or_true (p y) (list_any p xs) (one_is p xs n x there holds)

-- none of those before one is, and that one is not
pub none_more : {X : Type 0} (p : X → Bool) (xs : List X) (n : ℕ) (x : X) → slice_get xs n ≡ Some x → list_any p (take n xs) ≡ false → p x ≡ false
    → list_any p (take (n + 1) xs) ≡ false
none_more p xs n x there none fails =
    let next : n + 1 ≡ suc n = omega arith in
    ap (λ k. list_any p (take k xs)) next ∙ ap (list_any p) (take_ahead xs n x there) ∙ none-end p (take n xs) x none fails

not_true : (b : Bool) → not b ≡ true → b ≡ false
not_true true e = cc
not_true false e = refl

-- nothing is left to do where no message is in flight, and none of the nodes is ready
pub over_where : (starts : Starts) (world : World) (run : Run) (any : Bool) → Shows starts world run → length world.flight.items ≤ 0
    → any ≡ list_any (λ (l : Logged). is_ready l.node) run.nodes → (not any ≡ true → IsOver run) × (IsOver run → not any ≡ true)
over_where starts world run any shows landed is = (
  λ e. record {
    idle = sym is ∙ not_true any e;
    taken = none_long run.flight (omega (arith, same_length seen_flying seen_sent world.flight.items run.flight shows.flight, landed));
  },
  λ over. ap not (is ∙ over.idle),
)
