use Rattle.std.proofs.Common.{◌≡◌, refl, sym, subst, ap, ◌∙◌, arith}
use Rattle.std.specs.Ordering.{nat_cmp}
use Rattle.std.specs.BTreeMap.{get}
use Rattle.lrc_exact.specs.Rule.{page_of}
use Rattle.lrc_exact_judge.specs.Collecting.{with_values}
use Rattle.lrc_exact_judge.specs.Keepers.{AreValues, value_at}
use Rattle.lrc_exact_judge.specs.Memory.{IsKept, with_have}
use Rattle.lrc_exact_judge.specs.declared.layout.Layout.{Layout}
use Rattle.lrc_exact_judge.specs.Shape.{shape_of}
use Rattle.lrc_exact_judge.proofs.Loops.{below-begins, below-ends, below-more, below-next_is, kept-have, with_below}
use Rattle.lrc_exact_judge.proofs.Taking.{values-below}
use Rattle.lrc_exact_judge.proofs.memory.Memory.take_all.Goals as goal

pub loop-node-init : goal.loop-node-init
loop-node-init c = record {
  alike = record { layout = refl; departs = refl; settled = refl };
  dropped = refl;
  made = refl;
  kept = λ a k most having values are old. below-begins having (λ node have. with_values (shape_of c.args.self.now.layout) values have) old;
}

pub take_pages-requires-clause-ready : goal.take_pages-requires-clause-ready
take_pages-requires-clause-ready c =
    let ready = c.requires.ready in
    record {
      accessed = ready.accessed;
      learned = ready.learned;
      most = ready.most;
      having = _;
      kept =
          c.loop-node.invariant.kept ready.accessed ready.learned ready.most ready.having
          (λ w. value_at (get nat_cmp c.args.keepers.now (page_of (shape_of c.args.self.now.layout) w)) ready.having.have w) (λ w. refl) ready.kept;
      few = ready.few;
    }

pub loop-node-preserved : goal.loop-node-preserved
loop-node-preserved c = record {
  alike = record {
    layout = c.in_ok-take_pages.ensures.alike.layout ∙ c.loop-node.invariant.alike.layout;
    departs = c.in_ok-take_pages.ensures.alike.departs ∙ c.loop-node.invariant.alike.departs;
    settled = c.in_ok-take_pages.ensures.alike.settled ∙ c.loop-node.invariant.alike.settled;
  };
  dropped = c.in_ok-take_pages.ensures.same ∙ c.loop-node.invariant.dropped;
  made = c.in_ok-take_pages.ensures.made ∙ c.loop-node.invariant.made;
  kept = λ a k most having values are old.
      let mid = c.loop-node.self in
      let shape = shape_of c.args.self.now.layout in
      let i = c.loop-node.node in
      let next = with_below having (λ node have. with_values shape values have) i in
      let same : shape_of mid.layout ≡ shape = ap shape_of c.loop-node.invariant.alike.layout in
      let so_far = c.loop-node.invariant.kept a k most having values are old in
      let made = c.in_ok-take_pages.ensures.kept a k most next values
      (subst (λ s. AreValues s c.args.keepers.now next.have values) (sym same) (values-below shape c.args.keepers.now having values i are)) so_far in
      let step : IsKept a k most c.take_pages.new.self (with_have next i (with_values (shape_of mid.layout) values (next.have i))) =
      subst (λ p. IsKept a k most c.take_pages.new.self (with_have next p (with_values (shape_of mid.layout) values (next.have p)))) c.from.ensures made in
      below-more having (λ node have. with_values shape values have) i
      (kept-have next i (with_values (shape_of mid.layout) values (next.have i)) (with_values shape values (having.have i))
      (ap (λ s. with_values s values (next.have i)) same
      ∙ ap (with_values shape values) (below-next_is having (λ node have. with_values shape values have) i)) step);
}

pub returns-clause-kept : goal.returns-clause-kept
returns-clause-kept c = λ a k most having values are old.
    let shape = shape_of c.args.self.now.layout in
    let long = old.all_copies in
    let low = c.loop-node-test.false in
    let layouts = ap (λ (y : Layout). y.nodes) c.loop-node.invariant.alike.layout in
    below-ends having (λ node have. with_values shape values have) c.loop-node.node (omega arith)
    (c.loop-node.invariant.kept a k most having values are old)
