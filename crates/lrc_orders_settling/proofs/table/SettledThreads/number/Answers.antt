-- A thread that came before is found at its number, and a new one goes last.
use Rattle.std.proofs.Common.{◌≡◌, [], ◌∷◌, ◌++◌, ◌∙◌, false, sym, subst, ap}
use Rattle.std.specs.Prelude.{Some, cond}
use Rattle.std.specs.List.{list_any}
use Rattle.lrc_exec.specs.contracts.spot.SpotPartialEq.TheImpl.{eq-value}
use Rattle.lrc_orders.proofs.Same.{spot_same}
use Rattle.lrc_orders_settling.specs.Table.{IsNumbered, met, new}
use Rattle.lrc_orders_settling.proofs.Spots.{found_passes, not_there, spots_differ}
use Rattle.lrc_orders_settling.proofs.table.SettledThreads.number.Goals as goal

pub returns-in-Some-clause-numbered : goal.returns-in-Some-clause-numbered
returns-in-Some-clause-numbered c =
    let keys = c.args.self.now.spots.keys in
    let thread = c.args.thread.now in
    let found = c.in-Some._met.now in
    let passes = found_passes (λ key. eq-value.it thread key) keys found (sym c.in-Some.ensures.key) in
    let same : thread ≡ found = spot_same thread found passes in
    met (c.in-Some.ensures.stored ∙ ap Some (sym same))

pub returns-in-Some-clause-distinct : goal.returns-in-Some-clause-distinct
returns-in-Some-clause-distinct c = spots_differ c.args.self.now.spots.keys c.len-next.ensures.unique

pub returns-clause-numbered : goal.returns-clause-numbered
returns-clause-numbered c =
    let keys = c.args.self.now.spots.keys in
    let thread = c.args.thread.now in
    let none : list_any (λ key. eq-value.it thread key) keys ≡ false = sym c.in_default.ensures.found in
    let after : c.insert.new.self.keys ≡ keys ++ thread ∷ [] =
    c.in_ok-insert.ensures.keys ∙ ap (λ b. cond b keys (keys ++ thread ∷ [])) none in
    subst (λ threads. IsNumbered keys thread threads c.len-next.result) (sym after)
    (subst (λ number. IsNumbered keys thread (keys ++ thread ∷ []) number) (sym c.len-next.ensures.len) (new (not_there thread keys none)))

pub returns-clause-distinct : goal.returns-clause-distinct
returns-clause-distinct c = spots_differ c.insert.new.self.keys c.in_ok-insert.ensures.unique
