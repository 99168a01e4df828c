use Rattle.std.proofs.Common.{◌≡◌, ◌<◌, ℕ, length, sym, subst, ap, ◌∙◌}
use Rattle.lrc_exact.specs.Rule.{collected, keeper_of, kept_value, page_of}
use Rattle.lrc_exact_judge.specs.Collecting.{with_values}
use Rattle.lrc_exact_judge.specs.Keepers.{AreKeepers}
use Rattle.lrc_exact_judge.specs.Memory.{with_all}
use Rattle.lrc_exact_judge.specs.declared.layout.Layout.{Layout}
use Rattle.lrc_exact_judge.specs.Shape.{shape_of}
use Rattle.lrc_exact_judge.proofs.Loops.{kept-dropped, kept-within}
use Rattle.lrc_exact_judge.proofs.Taking.{collected-is, keepers-have}
use Rattle.lrc_exact_judge.proofs.memory.Memory.collect.Goals as goal

pub returns-clause-kept : goal.returns-clause-kept
returns-clause-kept c = λ a l most having knows arrived old times among values.
    let self = c.args.self.now in
    let mid = c.take_all.new.self in
    let shape = shape_of self.layout in
    let keepers = c.in_ok-keepers.keepers in
    let all = c.args.all in
    let dropped = self.dropped in
    let value = λ (w : ℕ). kept_value shape.nodes knows (arrived (keeper_of shape.nodes dropped knows (page_of shape w))) w in
    let are : AreKeepers self.layout.nodes self.made.items dropped all keepers =
    subst (λ n. AreKeepers n self.made.items dropped all keepers) c.requires.long
    (subst (λ xs. AreKeepers (length all) xs dropped all keepers) c.as_slice.ensures.value c.in_ok-keepers.ensures) in
    let taken = c.in_ok-take_all.ensures.kept a l most having value (keepers-have shape keepers self.made.items dropped all knows arrived having.have are times among values)
    old in
    let layouts = c.in_ok-take_all.ensures.alike.layout in
    let wide : length all ≡ mid.layout.nodes = c.requires.long ∙ sym (ap (λ (y : Layout). y.nodes) layouts) in
    kept-within (with_all having (λ node have. record (with_values shape value have) { dropped = all }))
    (λ q. collected shape knows arrived (having.have q))
    (λ q lt.
    ap (λ d. record (with_values shape value (having.have q)) { dropped = d }) (sym times)
    ∙ collected-is shape knows arrived dropped (having.have q)
    (old.nodes q (subst (λ (y : Layout). q < y.nodes) layouts lt)).dropped_is)
    (kept-dropped (with_all having (λ node have. with_values shape value have)) all wide taken)
