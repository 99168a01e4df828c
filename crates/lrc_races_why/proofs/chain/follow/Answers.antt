-- What is told from the next position is told from here, one position longer.
use Rattle.std.proofs.Common.{◌≡◌, ℕ, [], ◌∷◌, sym, subst, arith, refl, append_assoc}
use Rattle.std.specs.Prelude.{Option}
use Rattle.lrc_races_trace.specs.Order.{Precedes}
use Rattle.lrc_races_trace.proofs.HappensBefore.{Precedes-forward}
use Rattle.lrc_chains.specs.declared.starts.Start.{Start}
use Rattle.lrc_chains.specs.Starts.{IsBest, IsToldPath}
use Rattle.lrc_chains.proofs.Paths.{path-bound, path-some, chain-path, told-path}
use Rattle.lrc_chains.proofs.Best.{Told-here, Told-last, none-here}
use Rattle.lrc_races_why.proofs.Following.{goes_forward, before-chain}
use Rattle.lrc_races_why.proofs.chain.follow.Goals as goal

pub loop-at-smaller : goal.loop-at-smaller
loop-at-smaller c =
    let events = c.args.events.now in
    let best = subst (λ (b : Option Start). IsBest (Precedes events) c.args.to (λ m. Precedes events c.loop-at.at m) b) c.in-Some.is
    (c.requires.next.best c.loop-at.at c.loop-at.invariant.first c.loop-at-test.true) in
    let (p, (path, told, long)) = best.sound c.in-Some.start refl in
    let after = Precedes-forward p in
    let bound = path-bound (goes_forward events) told.is_path in
    let some = path-some told.is_path in
    omega arith

pub loop-at-preserved : goal.loop-at-preserved
loop-at-preserved c =
    let events = c.args.events.now in
    let best = subst (λ (b : Option Start). IsBest (Precedes events) c.args.to (λ m. Precedes events c.loop-at.at m) b) c.in-Some.is
    (c.requires.next.best c.loop-at.at c.loop-at.invariant.first c.loop-at-test.true) in
    let (p, (path, told, long)) = best.sound c.in-Some.start refl in
    let after = Precedes-forward p in
    let bound = path-bound (goes_forward events) told.is_path in
    let some = path-some told.is_path in
    record {
      first = omega arith;
      last = omega arith;
      told = λ rest t. rw (c.in_ok-push.ensures.items, append_assoc c.loop-at.chain.items (c.loop-at.at ∷ []) rest)
          (c.loop-at.invariant.told (c.loop-at.at ∷ rest) (Told-here (Precedes events) (goes_forward events) c.args.to c.loop-at.at c.loop-at-test.true
          c.in-Some.start rest best t));
      some = λ from q. (path, told.is_path);
    }

pub returns-in-None : goal.returns-in-None
returns-in-None c h =
    let events = c.args.events.now in
    let best = subst (λ (b : Option Start). IsBest (Precedes events) c.args.to (λ m. Precedes events c.loop-at.at m) b) c.in-None.is
    (c.requires.next.best c.loop-at.at c.loop-at.invariant.first c.loop-at-test.true) in
    let (chain, is_chain) = before-chain h in
    let (rest, path) = c.loop-at.invariant.some chain (chain-path is_chain) in
    none-here (Precedes events) (goes_forward events) c.args.to c.loop-at.at c.loop-at-test.true rest best path

pub returns : goal.returns
returns c =
    let events = c.args.events.now in
    let at : c.loop-at.at ≡ c.args.to = omega (arith, c.loop-at.invariant.last, c.loop-at-test.false) in
    let last = subst (λ (k : ℕ). IsToldPath (Precedes events) c.args.to k (c.args.to ∷ [])) (sym at) (Told-last (Precedes events) (goes_forward events) c.args.to) in
    rw c.in_ok-push-2.ensures.items (told-path (goes_forward events) c.requires.earlier (c.loop-at.invariant.told (c.args.to ∷ []) last))
