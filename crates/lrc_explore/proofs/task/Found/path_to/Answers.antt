use Rattle.std.proofs.Common.{◌≡◌, ◌<◌, ◌∙◌, ◌∷◌, [], refl, sym, ap, subst, arith}
use Rattle.std.specs.Prelude.{reverse}
use Rattle.std.proofs.lemmas.List.{reverse-append}
use Rattle.std.proofs.lemmas.Option.{get_or_from_slice_get}
use Rattle.lrc_explore.specs.declared.task.Origin.{Origin}
use Rattle.lrc_explore.specs.Told.{Comes, here, on}
use Rattle.lrc_explore.proofs.task.Found.path_to.Goals as goal

pub loop-at-init : goal.loop-at-init
loop-at-init c = (
  subst (λ l. Comes c.args.self.now.origins.items c.args.place l c.args.place) (sym (ap reverse c.new-path.ensures.items)) (here c.args.place c.args.place refl),
  omega arith,
)

pub index-origin-requires : goal.index-origin-requires
index-origin-requires c =
    omega (arith, c.loop-at.invariant.1, c.requires.within, c.requires.found.even, c.args.self.now.origins.ok.0)

pub loop-at-smaller : goal.loop-at-smaller
loop-at-smaller c =
    let f = c.requires.found in
    let at = c.loop-at.at in
    let key = f.reached.full at (omega (arith, c.loop-at.invariant.1, c.requires.within)) in
    let from = f.from at key.0 (omega (arith, c.loop-at-test.true)) key.1 in
    let o = c.index-origin.result.now in
    let is : o ≡ from.origin = c.index-origin.ensures ∙ get_or_from_slice_get c.args.self.now.origins.items at from.origin o from.there in
    subst (λ (x : Origin). x.parent < at) (sym is) from.earlier

pub loop-at-preserved : goal.loop-at-preserved
loop-at-preserved c =
    let f = c.requires.found in
    let at = c.loop-at.at in
    let origins = c.args.self.now.origins.items in
    let key = f.reached.full at (omega (arith, c.loop-at.invariant.1, c.requires.within)) in
    let from = f.from at key.0 (omega (arith, c.loop-at-test.true)) key.1 in
    let o = c.index-origin.result.now in
    let is : o ≡ from.origin = c.index-origin.ensures ∙ get_or_from_slice_get origins at from.origin o from.there in
    let less : o.parent < at = subst (λ (x : Origin). x.parent < at) (sym is) from.earlier in (
      subst (λ l. Comes origins o.parent l c.args.place)
          (sym (ap reverse c.in_ok-push.ensures.items ∙ reverse-append c.loop-at.path.items (at ∷ [])))
          (on o.parent at c.args.place (reverse c.loop-at.path.items) from.origin (omega (arith, c.loop-at-test.true)) from.there
          (ap (λ (x : Origin). x.parent) (sym is)) c.loop-at.invariant.0),
      omega (arith, less, c.loop-at.invariant.1),
    )

pub returns : goal.returns
returns c =
    let origins = c.args.self.now.origins.items in
    let start : c.loop-at.at ≡ 0 = omega (arith, c.loop-at-test.false) in
    subst (λ l. Comes origins 0 l c.args.place) (sym c.reverse.ensures.items)
    (subst (λ n. Comes origins n (reverse c.loop-at.path.items) c.args.place) start c.loop-at.invariant.0)
