use Rattle.std.proofs.Common.{◌∙◌, [], ℕ, ap, map, length, arith}
use Rattle.std.proofs.lemmas.List.{length-map}
use Rattle.std.proofs.lemmas.List.FromFn.{length-map-range_with_len}
use Rattle.lrc_program.specs.Statements.{block_of}
use Rattle.lrc_lint_warned.specs.Found.{statement_seen}
use Rattle.lrc_lint_warned.specs.Held.{is_under, paths}
use Rattle.lrc_lint_warned.specs.declared.held.Side.TheVariants.{Acquired}
use Rattle.lrc_lint_warned.proofs.Under.{barriers_by, ok_same}
use Rattle.lrc_lint_warned.proofs.held.held_at_barrier.Goals as goal

pub put_barriers-requires : goal.put_barriers-requires
put_barriers-requires c =
    omega (
      arith,
      ap length c.deref.ensures.value,
      length-map c.in_ok-tables.tables.items (λ t. t.items),
      ap length c.in_ok-tables.ensures,
      length-map-range_with_len (λ (lock : ℕ). map (is_under Acquired lock) (paths [] (block_of c.args.block.now))) 0 c.args.locks,
      c.ranges.locks.fits,
    )

pub returns : goal.returns
returns c =
    ok_same c.put_barriers.result c.args.out.now.items _ _ _
    (barriers_by c.args.locks _ (paths [] (block_of c.args.block.now)) (ap (map (λ t. t.items)) c.deref.ensures.value ∙ c.in_ok-tables.ensures)
    (map statement_seen c.args.statements.now))
    c.put_barriers.ensures
