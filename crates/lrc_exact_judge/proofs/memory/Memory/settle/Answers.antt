use Rattle.std.proofs.Common.{◌≡◌, true, false, length, sym, subst, ap, ◌∙◌, arith}
use Rattle.std.proofs.lemmas.Bool.{cond-true, cond-false}
use Rattle.lrc_time.specs.Time.{entry}
use Rattle.lrc_exact.specs.Rule.{Shape, collected, collects, departed, known_by_all, with_learned}
use Rattle.lrc_exact_copies.specs.Made.{AreAmong, row_of}
use Rattle.lrc_exact_judge.specs.declared.layout.Layout.{Layout}
use Rattle.lrc_exact_judge.specs.Keepers.{AreKeptValues}
use Rattle.lrc_exact_judge.specs.Memory.{all_of, with_all}
use Rattle.lrc_exact_judge.specs.Shape.{shape_of}
use Rattle.lrc_exact_judge.proofs.Loops.{kept-values, kept-within, known-among, known-long}
use Rattle.lrc_exact_judge.proofs.memory.Memory.settle.Goals as goal

pub collect-requires-clause-ready : goal.collect-requires-clause-ready
collect-requires-clause-ready c =
    let ready = c.requires.ready in
    let late = ready.late in
    record {
      accessed = ready.accessed;
      learned = c.args.now;
      most = ready.most;
      having = _;
      kept = c.in_ok-learn.ensures.kept ready.accessed ready.learned ready.most ready.having ready.early (omega arith) ready.kept;
      few = ready.few;
    }

pub collect-requires-clause-long : goal.collect-requires-clause-long
collect-requires-clause-long c =
    let ready = c.requires.ready in
    let n = c.args.self.now.layout.nodes in
    ap length (c.known_by_all-all.ensures ready.accessed ready.learned ready.most ready.having ready.kept)
    ∙ known-long n ready.having.have n n (omega arith) (λ q lt. (ready.kept.nodes q lt).wide)
    ∙ sym (ap (λ (y : Layout). y.nodes) c.in_ok-learn.ensures.alike.layout)

pub collect-requires-clause-there : goal.collect-requires-clause-there
collect-requires-clause-there c = λ q.
    let ready = c.requires.ready in
    let n = c.args.self.now.layout.nodes in
    let among = known-among n ready.having.have c.args.self.now.made.items n (λ p lt. (ready.kept.nodes p lt).among) in
    let there = among.there q in
    let times = ap (λ t. entry t q) (c.known_by_all-all.ensures ready.accessed ready.learned ready.most ready.having ready.kept) in
    let rows = ap (λ v. length (row_of v.items q)) c.in_ok-learn.ensures.made in
    omega arith

pub returns-in_ok-collect-clause-kept : goal.returns-in_ok-collect-clause-kept
returns-in_ok-collect-clause-kept c = λ a l most having early late old.
    let self = c.args.self.now in
    let mid = c.learn.new.self in
    let n = self.layout.nodes in
    let shape = shape_of self.layout in
    let arrived = all_of n having.have in
    let knows = known_by_all n n arrived in
    let learned = c.in_ok-learn.ensures.kept a l most having early late old in
    let layouts : shape_of mid.layout ≡ shape = ap shape_of c.in_ok-learn.ensures.alike.layout in
    let among : AreAmong mid.made.items knows =
    subst (λ v. AreAmong v knows) (sym (ap (λ v. v.items) c.in_ok-learn.ensures.made))
    (known-among n having.have self.made.items n (λ q lt. (old.nodes q lt).among)) in
    let times = sym (c.known_by_all-all.ensures a l most having old) in
    let values : AreKeptValues mid.layout.nodes knows arrived (λ q. with_learned n knows (having.have q)) =
    subst (λ (s : Shape). AreKeptValues s.nodes knows arrived (λ q. with_learned n knows (having.have q))) (sym layouts) (kept-values n having.have knows) in
    let some : collects shape arrived ≡ true = sym (c.collects-collects.ensures a l most having old) ∙ c.if-collects.true in
    kept-within (with_all having (λ node have. collected (shape_of mid.layout) knows arrived (with_learned n knows have)))
    (λ q. departed shape (having.have q) arrived)
    (λ q lt.
    ap (λ s. collected s knows arrived (with_learned n knows (having.have q))) layouts
    ∙ sym (cond-true (collects shape arrived) (collected shape knows arrived (with_learned n knows (having.have q))) (with_learned n knows (having.have q)) some))
    (c.in_ok-collect.ensures.kept a c.args.now most (with_all having (λ node have. with_learned n knows have)) knows arrived learned times among values)

pub returns-else-collects-clause-kept : goal.returns-else-collects-clause-kept
returns-else-collects-clause-kept c = λ a l most having early late old.
    let self = c.args.self.now in
    let n = self.layout.nodes in
    let shape = shape_of self.layout in
    let arrived = all_of n having.have in
    let knows = known_by_all n n arrived in
    let none : collects shape arrived ≡ false = sym (c.collects-collects.ensures a l most having old) ∙ c.if-collects.false in
    kept-within (with_all having (λ node have. with_learned n knows have)) (λ q. departed shape (having.have q) arrived)
    (λ q lt.
    sym (cond-false (collects shape arrived) (collected shape knows arrived (with_learned n knows (having.have q))) (with_learned n knows (having.have q)) none))
    (c.in_ok-learn.ensures.kept a l most having early late old)
