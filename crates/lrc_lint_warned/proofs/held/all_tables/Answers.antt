use Rattle.std.proofs.Common.{◌∙◌, ◌++◌, ◌∷◌, [], ℕ, List, Bool, ap, sym, map, arith, ◌≡◌, ◌+◌}
use Rattle.std.specs.List.{range_with_len}
use Rattle.std.proofs.lemmas.List.{map_push}
use Rattle.std.proofs.lemmas.List.FromFn.{map-range_with_len_more}
use Rattle.lrc_program.specs.Statements.{block_of}
use Rattle.lrc_lint_warned.specs.declared.held.Side.TheVariants.{Acquired}
use Rattle.lrc_lint_warned.specs.Held.{is_under, paths}
use Rattle.lrc_lint_warned.proofs.held.all_tables.Goals as goal

pub loop-lock-preserved : goal.loop-lock-preserved
loop-lock-preserved c =
    let table : ℕ → List Bool = λ lock. map (is_under Acquired lock) (paths [] (block_of c.args.block.now)) in
    let last : 0 + c.loop-lock.lock ≡ c.loop-lock.lock = omega arith in
    ap (map (λ t. t.items)) c.in_ok-push.ensures.items
    ∙ map_push (λ t. t.items) c.loop-lock.tables.items c.in_ok-under.under
    ∙ ap (λ (l : List (List Bool)). l ++ c.in_ok-under.under.items ∷ []) c.loop-lock.invariant
    ∙ ap (λ (l : List Bool). map table (range_with_len 0 c.loop-lock.lock) ++ l ∷ []) c.in_ok-under.ensures
    ∙ sym (map-range_with_len_more table 0 c.loop-lock.lock c.loop-lock.lock last)
