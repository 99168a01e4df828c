use Rattle.std.proofs.Common.{◌≡◌, ◌≤◌, ◌<◌, length, get_or, refl, sym, subst, ap, ◌∙◌, arith}
use Rattle.lrc_time.specs.Time.{entry}
use Rattle.lrc_exact.specs.Rule.{known_by_all, with_learned}
use Rattle.lrc_exact_copies.specs.Made.{AreAmong, row_of}
use Rattle.lrc_exact_judge.specs.declared.layout.Layout.{Layout}
use Rattle.lrc_exact_judge.specs.Memory.{all_of}
use Rattle.lrc_exact_judge.specs.Shape.{shape_of}
use Rattle.lrc_exact_judge.proofs.Kept.{kept-later}
use Rattle.lrc_exact_judge.proofs.Learning.{learned-at, own-at}
use Rattle.lrc_exact_judge.proofs.Loops.{below-begins, below-ends, below-more, below-next_is, kept-have, known-among, known-long, long-at, with_below}
use Rattle.lrc_exact_judge.proofs.memory.Memory.learn.Goals as goal

pub loop-node-init : goal.loop-node-init
loop-node-init c = record {
  alike = record { layout = refl; departs = refl; settled = refl };
  made = refl;
  kept = λ a k most having early late old.
      below-begins having
      (λ node have. with_learned c.args.self.now.layout.nodes
      (known_by_all c.args.self.now.layout.nodes c.args.self.now.layout.nodes (all_of c.args.self.now.layout.nodes having.have)) have)
      (kept-later old a c.args.now most (omega arith) late (omega arith));
}

pub index_mut-copy-requires : goal.index_mut-copy-requires
index_mut-copy-requires c =
    let ready = c.requires.ready in
    let late = ready.late in
    let kept = c.loop-node.invariant.kept ready.accessed ready.learned ready.most ready.having ready.early (omega arith) ready.kept in
    let long = kept.all_copies in
    let same = ap (λ (y : Layout). y.nodes) c.loop-node.invariant.alike.layout in
    let test = c.loop-node-test.true in
    let place = c.from.ensures in
    let size = c.loop-node.self.copies.ok.0 in
    omega arith

pub learn_all-requires-clause-long : goal.learn_all-requires-clause-long
learn_all-requires-clause-long c =
    let ready = c.requires.ready in
    let n = c.args.self.now.layout.nodes in
    let mid = c.loop-node.self in
    let late = ready.late in
    let kept = c.loop-node.invariant.kept ready.accessed ready.learned ready.most ready.having ready.early (omega arith) ready.kept in
    let same = ap (λ (y : Layout). y.nodes) c.loop-node.invariant.alike.layout in
    let test = c.loop-node-test.true in
    let within : c.loop-node.node < mid.layout.nodes = omega arith in
    long-at kept c.loop-node.node within c.index_mut-copy.result.now
    (c.index_mut-copy.ensures.value ∙ ap (λ p. get_or mid.copies.items p c.index_mut-copy.result.now) c.from.ensures)
    ∙ same
    ∙ sym (ap length (c.requires.known ready.accessed ready.learned ready.most ready.having ready.kept)
    ∙ known-long n ready.having.have n n (omega arith) (λ q lt. (ready.kept.nodes q lt).wide))

pub learn_all-requires-clause-rows : goal.learn_all-requires-clause-rows
learn_all-requires-clause-rows c =
    let ready = c.requires.ready in
    let n = c.args.self.now.layout.nodes in
    let late = ready.late in
    let kept = c.loop-node.invariant.kept ready.accessed ready.learned ready.most ready.having ready.early (omega arith) ready.kept in
    ap length c.as_slice.ensures.value ∙ kept.all_made ∙ ap (λ (y : Layout). y.nodes) c.loop-node.invariant.alike.layout
    ∙ sym (ap length (c.requires.known ready.accessed ready.learned ready.most ready.having ready.kept)
    ∙ known-long n ready.having.have n n (omega arith) (λ q lt. (ready.kept.nodes q lt).wide))

pub learn_all-requires-clause-there : goal.learn_all-requires-clause-there
learn_all-requires-clause-there c = λ q.
    let ready = c.requires.ready in
    let n = c.args.self.now.layout.nodes in
    let among = known-among n ready.having.have c.args.self.now.made.items n (λ p lt. (ready.kept.nodes p lt).among) in
    let there = among.there q in
    let times = ap (λ t. entry t q) (c.requires.known ready.accessed ready.learned ready.most ready.having ready.kept) in
    let rows = ap (λ xs. length (row_of xs q)) (c.as_slice.ensures.value ∙ ap (λ v. v.items) c.loop-node.invariant.made) in
    omega arith

pub loop-node-preserved : goal.loop-node-preserved
loop-node-preserved c = record {
  alike = record {
    layout = c.loop-node.invariant.alike.layout;
    departs = c.loop-node.invariant.alike.departs;
    settled = c.loop-node.invariant.alike.settled;
  };
  made = c.loop-node.invariant.made;
  kept = λ a k most having early late old.
      let self = c.args.self.now in
      let n = self.layout.nodes in
      let mid = c.loop-node.self in
      let i = c.loop-node.node in
      let now = c.args.now in
      let all = c.args.all.now in
      let knows = known_by_all n n (all_of n having.have) in
      let so_far = c.loop-node.invariant.kept a k most having early late old in
      let next = with_below having (λ node have. with_learned n knows have) i in
      let nodes_same : mid.layout.nodes ≡ n = ap (λ (y : Layout). y.nodes) c.loop-node.invariant.alike.layout in
      let among : AreAmong mid.made.items knows =
      subst (λ v. AreAmong v knows) (sym (ap (λ v. v.items) c.loop-node.invariant.made))
      (known-among n having.have self.made.items n (λ q lt. (old.nodes q lt).among)) in
      let times : knows.time ≡ all = sym (c.requires.known a k most having old) in
      let wide : length all ≡ mid.layout.nodes =
      ap length (sym times) ∙ known-long n having.have n n (omega arith) (λ q lt. (old.nodes q lt).wide) ∙ sym nodes_same in
      let test = c.loop-node-test.true in
      let within : i < mid.layout.nodes = omega arith in
      let had = c.index_mut-copy.result.now in
      let had_is = c.index_mut-copy.ensures.value ∙ ap (λ p. get_or mid.copies.items p had) c.from.ensures in
      let own : entry all i ≤ entry had.time i = own-at so_far i had knows all within had_is among times in
      below-more having (λ node have. with_learned n knows have) i
      (kept-have next i (with_learned mid.layout.nodes knows (next.have i)) (with_learned n knows (having.have i))
      (ap (λ m. with_learned m knows (next.have i)) nodes_same ∙ ap (with_learned n knows) (below-next_is having (λ node have. with_learned n knows have) i))
      (learned-at so_far now i c.from.result had c.learn_all.new.copy knows all early (omega arith) within c.from.ensures c.index_mut-copy.ensures.value
      among times wide
      (λ h. c.in_ok-learn_all.ensures.copy (shape_of mid.layout) i a (next.have i) knows early refl times
      (subst (λ xs. AreAmong xs knows) (sym c.as_slice.ensures.value) among) own h)));
}

pub returns-clause-kept : goal.returns-clause-kept
returns-clause-kept c = λ a k most having early late old.
    let n = c.args.self.now.layout.nodes in
    let low = c.loop-node-test.false in
    let same = ap (λ (y : Layout). y.nodes) c.loop-node.invariant.alike.layout in
    below-ends having (λ node have. with_learned n (known_by_all n n (all_of n having.have)) have) c.loop-node.node (omega arith)
    (c.loop-node.invariant.kept a k most having early late old)
