use Rattle.std.proofs.Common.{◌∙◌, ◌≡◌, ◌||◌, ◌++◌, ℕ, ap, refl, arith, length, map, get_or, ◌+◌, Option, sym, append-nil}
use Rattle.std.specs.Prelude.{false}
use Rattle.lrc_lint_warned.specs.Constant.{is_value}
use Rattle.lrc_lint_warned.specs.Found.{statement_seen}
use Rattle.lrc_lint_warned.specs.Words.{never_written_at, unknown_at, word_read}
use Rattle.lrc_lint_warned.proofs.Known.{each_all, each_grown, known_more, known_none, unknown_is}
use Rattle.lrc_lint_warned.proofs.words.push_unknown_reads.Goals as goal

pub loop-s-init : goal.loop-s-init
loop-s-init c = (
  refl,
  λ k h. known_none (map statement_seen c.args.statements.now) k _ (c.requires.written k h),
  sym (append-nil c.args.out.now.items),
)

pub loop-s-preserved : goal.loop-s-preserved
loop-s-preserved c =
    let s = c.s-item.result in
    let all = map statement_seen c.args.statements.now in
    let i = c.loop-s.s-index in
    let same : length c.loop-s.known ≡ length c.args.known.now = c.loop-s.invariant.0 in (
      omega (arith, c.mark.auto.known, same),
      λ k h. known_more c.args.statements.now i k s (get_or c.loop-s.known k false) _ c.loop-s-test.true c.s-item.is (c.loop-s.invariant.1 k h)
          (c.mark.ensures k (omega (arith, h, same))
          ∙ ap (λ (o : Option ℕ). get_or c.loop-s.known k false || is_value o k) c.word_read-word.ensures),
      each_grown (never_written_at (length c.args.known.now) all) statement_seen c.args.statements.now i s c.args.out.now.items c.loop-s.out.items _
          c.loop-s-test.true c.s-item.is c.loop-s.invariant.2
          (c.in_ok-push_unknown.ensures
          ∙ ap (λ (o : Option ℕ). c.loop-s.out.items ++ unknown_at c.loop-s.known (s.at + 3) o) c.word_read-word.ensures
          ∙ ap (λ l. c.loop-s.out.items ++ l)
          (unknown_is c.loop-s.known (length c.args.known.now) all i same c.loop-s.invariant.1 (s.at + 3) (word_read (statement_seen s).statement))),
    )

pub returns : goal.returns
returns c =
    each_all (never_written_at (length c.args.known.now) (map statement_seen c.args.statements.now)) statement_seen c.args.statements.now
    c.loop-s.s-index _ _ c.loop-s-test.false c.loop-s.invariant.2
