use Rattle.std.proofs.Common.{ℕ, List, ap, sym, ◌∙◌, length}
use Rattle.std.proofs.lemmas.Result.{IfOk-from_err}
use Rattle.lrc_time.specs.Time.{zeros}
use Rattle.lrc_time.proofs.Times.{length-zeros}
use Rattle.lrc_store.specs.Arena.{ArenaRecord}
use Rattle.lrc_store.specs.Store.{StoreRecord}
use Rattle.lrc_store.proofs.LinkedStores.{IsLinkedUp-none}
use Rattle.lrc_store.proofs.store.Store.new.Goals as goal

pub returns-in_err-new : goal.returns-in_err-new
returns-in_err-new c = IfOk-from_err _ _ c.from_residual.ensures.0

pub invariant_of-result : goal.invariant_of-result
invariant_of-result c =
    let made = c.in_ok-new.ensures in
    IsLinkedUp-none c.in_ok-new.field-0.by_node c.in_ok-new.field-0.by_page c.new-2.result.notices
    (record { pages = c.args.pages; last = c.new.result; entries = c.new-2.result.entries })
    (ap (λ (a : ArenaRecord). a.entries) c.new-2.ensures) (ap (λ (a : ArenaRecord). a.notices) c.new-2.ensures)
    made.node_keys (made.node_lists ∙ c.from.ensures ∙ sym (ap length c.new.ensures ∙ length-zeros c.args.nodes))
    made.node_starts made.page_keys (made.page_lists ∙ c.from-2.ensures)

pub returns : goal.returns
returns c =
    let store : List ℕ → ArenaRecord → StoreRecord =
    λ last arena. record { pages = c.args.pages; last = last; entries = arena.entries } in
    ap (λ last. store last c.new-2.result) c.new.ensures ∙ ap (store (zeros c.args.nodes)) c.new-2.ensures
