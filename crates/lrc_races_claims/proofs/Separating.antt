-- What is known before an access separates it from earlier ones.
use Rattle.std.proofs.Common.{◌≡◌, ℕ, ◌<◌, List, Bool, sym, subst}
use Rattle.std.specs.Prelude.{◌↔◌, IsTrue, slice_index}
use Rattle.lrc_races_trace.specs.declared.event.Event.{Event}
use Rattle.lrc_races_trace.specs.Trace.{At}
use Rattle.lrc_races_text.specs.declared.asked.Sought.{Sought}
use Rattle.lrc_races_locations.specs.Rivals.{IsBehind, Separates}

pub below_separates : (sought : Sought) (events : List Event) (i j thread : ℕ) (a : Event) (known : List ℕ) (below : Bool) → IsBehind sought events j known
    → At events i a → i < j → a.thread ≡ thread → (IsTrue below ↔ (i < slice_index known thread)) → IsTrue below ↔ Separates sought events i j
below_separates sought events i j thread a known below behind at lt of test =
    let exact = behind.exact i a at lt in
    let test' = subst (λ t. IsTrue below ↔ (i < slice_index known t)) (sym of) test in
    (λ set. exact.0 (test'.0 set), λ separates. test'.1 (exact.1 separates))
