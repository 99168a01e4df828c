use Rattle.std.proofs.Common.{◌≡◌, ℕ, List, true, false, length, sym, ◌∙◌, ap, ⊎_elim}
use Rattle.std.specs.Prelude.{◌==◌}
use Rattle.std.specs.List.{list_all, range_with_len}
use Rattle.std.specs.Cmp.Lexicographic.{same_text}
use Rattle.std.proofs.lemmas.Bool.{cases_Bool, false≢true}
use Rattle.std.proofs.lemmas.Cmp.{nat_list_eq_equiv}
use lib.Pointwise.{pointwise}
use Rattle.lrc_time.specs.Time.{entry, joined}
use Rattle.lrc_store.specs.Interval.{IntervalRecord}
use Rattle.lrc_protocol.specs.Times.{are_between}
use Rattle.lrc_node.specs.News.{AreUnbroken}
use Rattle.lrc_node.proofs.Runs.{all_between, all_between-only, none_between}
use Rattle.lrc_node.proofs.intervals.news.lead.Goals as goal

-- the test of the times is that of the intervals
tested : (known time : List ℕ) (xs : List IntervalRecord) (reached all : List ℕ) → AreUnbroken known xs reached → length time ≡ length known
    → all ≡ joined known time
    → pointwise ◌==◌ reached all ≡ list_all (λ q. are_between xs q (entry known q) (entry time q)) (range_with_len 0 (length known))
tested known time xs reached all are counted e =
    ⊎_elim
    (λ (t : pointwise ◌==◌ reached all ≡ true). t ∙ sym (all_between known time xs reached are counted (same_text reached all (sym t) ∙ e)))
    (λ (f : pointwise ◌==◌ reached all ≡ false).
    ⊎_elim
    (λ (t : list_all (λ q. are_between xs q (entry known q) (entry time q)) (range_with_len 0 (length known)) ≡ true).
    let same : reached ≡ all = all_between-only known time xs reached are counted t ∙ sym e in
    absurd (false≢true (sym f ∙ ap (pointwise ◌==◌ reached) (sym same) ∙ nat_list_eq_equiv.refl reached)))
    (λ (g : list_all (λ q. are_between xs q (entry known q) (entry time q)) (range_with_len 0 (length known)) ≡ false). f ∙ sym g)
    (cases_Bool (list_all (λ q. are_between xs q (entry known q) (entry time q)) (range_with_len 0 (length known)))))
    (cases_Bool (pointwise ◌==◌ reached all))

pub returns-in_default : goal.returns-in_default
returns-in_default c = sym (none_between c.args.known.now c.args.time.now c.args.intervals.now c.in_default.ensures.broken)

pub returns : goal.returns
returns c =
    c.eq.ensures
    ∙ tested c.args.known.now c.args.time.now c.args.intervals.now c.in-Some.reached c.join.new.self c.in-Some.ensures.reached c.requires.counted
    (c.join.ensures ∙ ap (λ t. joined t c.args.time.now) c.copy-all.ensures)
