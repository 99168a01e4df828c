use Rattle.std.proofs.Common.{◌≡◌, ◌<◌, ◌+◌, ℕ, true, [], ◌∷◌, take, take_all, get_or, refl, sym, subst, ap, ◌∙◌, arith}
use Rattle.std.specs.Ordering.{nat_cmp}
use Rattle.std.specs.BTreeMap.{get}
use Rattle.std.proofs.lemmas.List.{take_more}
use Rattle.lrc_exact.specs.Rule.{State, page_of}
use Rattle.lrc_exact_copies.specs.declared.copy.NodeCopy.{NodeCopy}
use Rattle.lrc_exact_copies.specs.Copies.{CopyOf}
use Rattle.lrc_exact_copies.specs.Made.{has}
use Rattle.lrc_exact_judge.specs.Collecting.{with_taken, with_values}
use Rattle.lrc_exact_judge.specs.Keepers.{AreValues, value_at}
use Rattle.lrc_exact_judge.specs.Memory.{IsKept, with_have}
use Rattle.lrc_exact_judge.specs.Shape.{shape_of}
use Rattle.lrc_exact_judge.specs.declared.layout.Layout.{Layout}
use Rattle.lrc_exact_judge.proofs.Kept.{element-at, kept-still}
use Rattle.lrc_exact_judge.proofs.Loops.{have-here, kept-have, kept-itself, kept-twice}
use Rattle.lrc_exact_judge.proofs.Taking.{taken-all, taken-more, taken-none, value-taken, values-have}
use Rattle.lrc_exact_judge.proofs.memory.Memory.take_pages.Goals as goal

pub loop-page-init : goal.loop-page-init
loop-page-init c = record {
  alike = record { layout = refl; departs = refl; settled = refl };
  dropped = refl;
  made = refl;
  kept = λ a k most having values are old.
      kept-have having c.args.place (having.have c.args.place) (with_taken (shape_of c.args.self.now.layout) values [] (having.have c.args.place))
      (taken-none (shape_of c.args.self.now.layout) values (having.have c.args.place)) (kept-itself having c.args.place old);
}

pub take_page-requires-clause-ready : goal.take_page-requires-clause-ready
take_page-requires-clause-ready c =
    let ready = c.requires.ready in
    record {
      accessed = ready.accessed;
      learned = ready.learned;
      most = ready.most;
      having = _;
      kept =
          c.loop-page.invariant.kept ready.accessed ready.learned ready.most ready.having
          (λ w. value_at (get nat_cmp c.args.keepers.now (page_of (shape_of c.args.self.now.layout) w)) ready.having.have w) (λ w. refl) ready.kept;
      few = ready.few;
    }

pub loop-page-preserved : goal.loop-page-preserved
loop-page-preserved c = record {
  alike = record {
    layout = c.in_ok-take_page.ensures.alike.layout ∙ c.loop-page.invariant.alike.layout;
    departs = c.in_ok-take_page.ensures.alike.departs ∙ c.loop-page.invariant.alike.departs;
    settled = c.in_ok-take_page.ensures.alike.settled ∙ c.loop-page.invariant.alike.settled;
  };
  dropped = c.in_ok-take_page.ensures.same ∙ c.loop-page.invariant.dropped;
  made = c.in_ok-take_page.ensures.made ∙ c.loop-page.invariant.made;
  kept = λ a k most having values are old.
      let mid = c.loop-page.self in
      let shape = shape_of c.args.self.now.layout in
      let place = c.args.place in
      let state = having.have place in
      let pages = c.as_slice-page-items.result.now in
      let i = c.loop-page.page-index in
      let page = get_or pages i 0 in
      let taken = with_taken shape values (take i pages) state in
      let next = with_have having place taken in
      let same : shape_of mid.layout ≡ shape = ap shape_of c.loop-page.invariant.alike.layout in
      let so_far = c.loop-page.invariant.kept a k most having values are old in
      let step = c.in_ok-take_page.ensures.kept a k most next values
      (subst (λ s. AreValues s c.args.keepers.now next.have values) (sym same)
      (values-have shape c.args.keepers.now having place taken values (λ w. value-taken shape values state (take i pages) w) are)) so_far in
      let here : next.have place ≡ taken = have-here having place taken in
      kept-have having place (with_taken shape values (page ∷ []) taken) (with_taken shape values (take (i + 1) pages) state)
      (taken-more shape values state (take i pages) page ∙ ap (λ xs. with_taken shape values xs state) (sym (take_more pages i 0 c.loop-page-test.true)))
      (kept-twice having place taken (with_taken shape values (page ∷ []) taken)
      (kept-have next place (with_taken (shape_of mid.layout) values (page ∷ []) (next.have place)) (with_taken shape values (page ∷ []) taken)
      (ap (λ s. with_taken s values (page ∷ []) (next.have place)) same ∙ ap (with_taken shape values (page ∷ [])) here) step));
}

pub returns-clause-kept : goal.returns-clause-kept
returns-clause-kept c = λ a k most having values are old.
    let self = c.args.self.now in
    let mid = c.loop-page.self in
    let shape = shape_of self.layout in
    let place = c.args.place in
    let within = c.requires.place in
    let state = having.have place in
    let pages = c.as_slice-page-items.result.now in
    let node = old.nodes place within in
    let long = old.all_copies in
    let item = c.index.result.now in
    let same : item ≡ node.copy = element-at self.copies.items place item node.copy (omega arith) c.index.ensures node.stands in
    let layouts = c.loop-page.invariant.alike.layout in
    let named : (p : ℕ) → state.stale p ≡ true → has pages p ≡ true = λ p stale.
    ap (λ xs. has xs p) c.as_slice-page-items.ensures.value
    ∙ c.in_ok-pages.ensures shape place a k state (subst (λ (x : NodeCopy). CopyOf shape place a k x state) (sym same) node.is) p stale in
    let whole : take c.loop-page.page-index pages ≡ pages = take_all c.loop-page.page-index pages (omega arith) in
    let fixed = with_values shape values state in
    let next = with_have having place fixed in
    let so_far : IsKept a k most mid next =
    kept-have having place (with_taken shape values (take c.loop-page.page-index pages) state) fixed
    (ap (λ xs. with_taken shape values xs state) whole ∙ taken-all shape values state pages named)
    (c.loop-page.invariant.kept a k most having values are old) in
    let here : next.have place ≡ fixed = have-here having place fixed in
    let in_mid : place < mid.layout.nodes = subst (λ (y : Layout). place < y.nodes) (sym layouts) within in
    kept-twice having place fixed fixed
    (kept-still so_far a k place c.index_mut.result.now c.clear_named.new.self fixed (omega arith) (omega arith) in_mid c.index_mut.ensures.value
    (ap (λ (s : State). s.knows) (sym here)) (ap (λ (s : State). s.dropped) (sym here))
    (λ h. c.clear_named.ensures (shape_of mid.layout) place a k fixed
    (subst (λ s. CopyOf (shape_of mid.layout) place a k c.index_mut.result.now s) here h) (λ p. refl)))

pub index_mut-requires : goal.index_mut-requires
index_mut-requires c =
    let ready = c.requires.ready in
    let kept = c.loop-page.invariant.kept ready.accessed ready.learned ready.most ready.having
    (λ w. value_at (get nat_cmp c.args.keepers.now (page_of (shape_of c.args.self.now.layout) w)) ready.having.have w) (λ w. refl) ready.kept in
    let long = kept.all_copies in
    let same = ap (λ (y : Layout). y.nodes) c.loop-page.invariant.alike.layout in
    let within = c.requires.place in
    omega arith
