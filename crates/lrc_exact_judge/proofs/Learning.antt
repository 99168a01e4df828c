-- What a node learns at an acquire, and at a barrier.
use Rattle.std.proofs.Common.{◌≡◌, ℕ, ◌<◌, ◌≤◌, List, length, set, get_or, refl, sym, subst, ap, ◌∙◌, arith}
use Rattle.std.specs.Prelude.{Option, Some, None, Vec}
use Rattle.std.specs.declared.alloc.Global.{Global}
use Rattle.std.proofs.lemmas.List.{get_or_default}
use Rattle.lrc_time.specs.Time.{entry}
use Rattle.lrc_exact.specs.Rule.{State, Knowledge, acquired, closed, with_learned}
use Rattle.lrc_exact_copies.specs.declared.copy.NodeCopy.{NodeCopy}
use Rattle.lrc_exact_copies.specs.declared.made.Made.{Made}
use Rattle.lrc_exact_copies.specs.Copies.{CopyOf}
use Rattle.lrc_exact_copies.specs.Made.{AreAmong}
use Rattle.lrc_exact_copies.proofs.Copying.{weaker}
use Rattle.lrc_exact_judge.specs.Memory.{AreKept, Having, IsReleased, never, once, with_have}
use Rattle.lrc_exact_judge.specs.Shape.{shape_of}
use Rattle.lrc_exact_judge.specs.declared.layout.Layout.{Layout}
use Rattle.lrc_exact_judge.proofs.Kept.{kept-learned}
use Rattle.lrc_exact_judge.proofs.Loops.{have-here, kept-have, kept-twice, time-at}

-- what was known at a release
pub record WasReleased (nodes : ℕ) (made : List (Vec Made Global)) (time : List ℕ) (o : Option State) : Type 0 where
  pub state : State
  pub is : o ≡ Some state
  pub times : state.knows.time ≡ time
  pub wide : length time ≡ nodes
  pub among : AreAmong made state.knows

pub released-some : {nodes : ℕ} {made : List (Vec Made Global)} {time : List ℕ} {o : Option State} → IsReleased nodes made (Some time) o
    → WasReleased nodes made time o
released-some (once {time} {state} times wide among) = record { state = state; is = refl; times = times; wide = wide; among = among }

pub released-none : {nodes : ℕ} {made : List (Vec Made Global)} {o : Option State} → IsReleased nodes made None o → o ≡ None
released-none never = refl

module _ {layout : Layout} {a l most : ℕ} {copies : List NodeCopy} {made : List (Vec Made Global)} {released : List (Option (List ℕ))} {dropped : List ℕ}
    {having : Having} (old : AreKept layout a l most copies made released dropped having) where
  -- what is found of a lock
  pub found-released : (lock place : ℕ) (o : Option (List ℕ)) → lock < 256 → place ≡ lock → o ≡ get_or released place o
      → IsReleased layout.nodes made o (having.released lock)
  found-released lock place o lt is there =
      let long = old.all_locks in
      subst (λ p. IsReleased layout.nodes made p (having.released lock))
      (sym (there ∙ ap (λ k. get_or released k o) is ∙ get_or_default released lock o None (omega arith))) (old.locks lock lt)

  -- the node learns what is known in such words
  pub learned-at : (now node place : ℕ) (had copy : NodeCopy) (news : Knowledge) (time : List ℕ) → a < now → l ≤ now → node < layout.nodes → place ≡ node
      → had ≡ get_or copies place had → AreAmong made news → news.time ≡ time → length time ≡ layout.nodes
      → (CopyOf (shape_of layout) node a now had (having.have node)
      → CopyOf (shape_of layout) node a now copy (with_learned (length time) news (having.have node)))
      → AreKept layout a now most (set copies place copy) made released dropped (with_have having node (with_learned layout.nodes news (having.have node)))
  learned-at now node place had copy news time early late within is had_is among times wide step =
      subst (λ p. AreKept layout a now most (set copies p copy) made released dropped
      (with_have having node (with_learned layout.nodes news (having.have node)))) (sym is)
      (kept-learned old now node had copy news late within (had_is ∙ ap (λ p. get_or copies p had) is) among (ap length times ∙ wide)
      (λ h.
      subst (λ n. CopyOf (shape_of layout) node a now copy (with_learned n news (having.have node))) wide
      (step (weaker h a now (omega arith) late))))

  -- no more of the node's own is known
  pub own-at : (node : ℕ) (had : NodeCopy) (news : Knowledge) (time : List ℕ) → node < layout.nodes → had ≡ get_or copies node had → AreAmong made news
      → news.time ≡ time → entry time node ≤ entry had.time node
  own-at node had news time within had_is among times =
      let there = among.there node in
      let own = (old.nodes node within).own in
      let e = ap (λ t. entry t node) (time-at old node within had had_is) in
      let f = ap (λ t. entry t node) times in
      omega arith

-- the node has closed an interval, and learns what was known at the release
pub acquired-some : {layout : Layout} {a l most : ℕ} {copies : List NodeCopy} {made : List (Vec Made Global)} {released : List (Option (List ℕ))}
    {dropped : List ℕ} (having : Having) (node lock : ℕ) (state : State) → having.released lock ≡ Some state
    → AreKept layout a l most copies made released dropped
    (with_have (with_have having node (closed node (having.have node))) node
    (with_learned layout.nodes state.knows ((with_have having node (closed node (having.have node))).have node)))
    → AreKept layout a l most copies made released dropped
    (with_have having node (acquired layout.nodes node (having.have node) (having.released lock)))
acquired-some {layout} having node lock state is kept =
    let mine = closed node (having.have node) in
    kept-have having node (with_learned layout.nodes state.knows mine) (acquired layout.nodes node (having.have node) (having.released lock))
    (ap (acquired layout.nodes node (having.have node)) (sym is))
    (kept-twice having node mine (with_learned layout.nodes state.knows mine)
    (kept-have (with_have having node mine) node (with_learned layout.nodes state.knows ((with_have having node mine).have node))
    (with_learned layout.nodes state.knows mine) (ap (with_learned layout.nodes state.knows) (have-here having node mine)) kept))
