use Rattle.std.proofs.Common.{◌≡◌, ◌∙◌, [], ℕ, List, Bool, ap, sym, map, get_or, below_more, length, arith}
use Rattle.std.specs.Prelude.{false}
use Rattle.std.proofs.lemmas.List.{get_or-map, length-map}
use Rattle.lrc_lint_warned.proofs.Under.{first_here, first_nowhere}
use Rattle.lrc_lint_warned.proofs.held.first_held.Goals as goal

pub returns-then-table_at : goal.returns-then-table_at
returns-then-table_at c =
    let tables = map (λ t. t.items) c.args.tables.now in
    let lock = c.loop-lock.lock in
    let long : length tables ≡ length c.args.tables.now = length-map c.args.tables.now (λ t. t.items) in
    first_here (λ under. get_or under c.args.i false) tables lock [] (omega (arith, long, c.loop-lock-test.true)) c.loop-lock.invariant
    (ap (λ (l : List Bool). get_or l c.args.i false)
    (get_or-map (λ t. t.items) c.args.tables.now lock c.index-tables-lock.result [] c.loop-lock-test.true
    ∙ ap (λ t. t.items) (sym c.index-tables-lock.is) ∙ sym c.deref.ensures.value)
    ∙ sym c.table_at.ensures ∙ c.if-table_at.true)

pub loop-lock-preserved : goal.loop-lock-preserved
loop-lock-preserved c =
    let tables = map (λ t. t.items) c.args.tables.now in
    below_more (λ (k : ℕ). get_or (get_or tables k []) c.args.i false ≡ false) c.loop-lock.lock c.loop-lock.invariant
    (ap (λ (l : List Bool). get_or l c.args.i false)
    (get_or-map (λ t. t.items) c.args.tables.now c.loop-lock.lock c.index-tables-lock.result [] c.loop-lock-test.true
    ∙ ap (λ t. t.items) (sym c.index-tables-lock.is) ∙ sym c.deref.ensures.value)
    ∙ sym c.table_at.ensures ∙ c.if-table_at.false)

pub returns : goal.returns
returns c =
    let tables = map (λ t. t.items) c.args.tables.now in
    let long : length tables ≡ length c.args.tables.now = length-map c.args.tables.now (λ t. t.items) in
    first_nowhere (λ under. get_or under c.args.i false) tables c.loop-lock.lock [] (omega (arith, long, c.loop-lock-test.false)) c.loop-lock.invariant
