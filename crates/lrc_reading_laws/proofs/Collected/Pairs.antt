-- Two nodes and a collection: what they have collected and whom they think the keepers, and how each kind of turn keeps that.
use Rattle.std.proofs.Common.{◌≡◌, ℕ, List, Bool, true, false, refl, sym, ap, ◌∙◌}
use Rattle.std.proofs.lemmas.Bool.{false≢true}
use Rattle.lrc_store.specs.Store.{intervals_of}
use Rattle.lrc_protocol.specs.Node.{Node}
use Rattle.lrc_reading_laws.proofs.Collected.Turns.{in_collection, keepers_after, Steady, Begun, Ended}

abbrev pub inside : Node → Bool
inside node = in_collection node.mail.wait

-- Two nodes, and whether the manager still waits for somebody's word that its copies are clean:
pub record Fits (waits : Bool) (a b : Node) : Type 0 where
  -- both in the collection, or both in none, they have collected the same, and agree on the keepers;
  pub alike : inside a ≡ inside b → (a.memory.collected ≡ b.memory.collected) × (a.memory.keepers ≡ b.memory.keepers)
  -- else, as long as it waits, the other is still to collect,
  pub before : waits ≡ true → inside a ≡ true → inside b ≡ false
      → (b.memory.collected ≡ a.memory.collected) × (a.memory.keepers ≡ keepers_after (intervals_of a.memory.store) b.memory.keepers)
  -- and then the other has done so.
  pub behind : waits ≡ false → inside a ≡ true → inside b ≡ false
      → (b.memory.collected ≡ a.locks.time) × (b.memory.keepers ≡ a.memory.keepers)

pub true_false : {Y : Type 0} (b : Bool) → b ≡ true → b ≡ false → Y
true_false b t f = absurd (false≢true (sym f ∙ t))

-- a node with itself
pub itself : (waits : Bool) (a : Node) → Fits waits a a
itself waits a = record {
  alike = λ e. (refl, refl);
  before = λ w i o. true_false (inside a) i o;
  behind = λ w i o. true_false (inside a) i o;
}

-- who is both in it, or both in none, fits whatever the manager waits for
pub level : (u v : Bool) (a b : Node) → inside a ≡ inside b → Fits u a b → Fits v a b
level u v a b e h = record {
  alike = h.alike;
  before = λ w i o. true_false (inside a) i (e ∙ o);
  behind = λ w i o. true_false (inside a) i (e ∙ o);
}

-- ---- a steady turn

pub steady_first : (u : Bool) (a c b : Node) → Steady a c → Fits u a b → Fits u c b
steady_first u a c b s h = record {
  alike = λ e.
      let was : _ = h.alike (sym s.inside ∙ e) in
      (s.collected ∙ was.0, s.keepers ∙ was.1);
  before = λ w i o.
      let in_a : inside a ≡ true = sym s.inside ∙ i in
      let was : _ = h.before w in_a o in
      (was.0 ∙ sym s.collected, s.keepers ∙ was.1 ∙ ap (λ l. keepers_after l b.memory.keepers) (sym (s.intervals in_a)));
  behind = λ w i o.
      let in_a : inside a ≡ true = sym s.inside ∙ i in
      let was : _ = h.behind w in_a o in
      (was.0 ∙ sym (s.time in_a), was.1 ∙ sym s.keepers);
}

pub steady_second : (u : Bool) (a b c : Node) → Steady b c → Fits u a b → Fits u a c
steady_second u a b c s h = record {
  alike = λ e.
      let was : _ = h.alike (e ∙ s.inside) in
      (was.0 ∙ sym s.collected, was.1 ∙ sym s.keepers);
  before = λ w i o.
      let was : _ = h.before w i (sym s.inside ∙ o) in
      (s.collected ∙ was.0, was.1 ∙ ap (keepers_after (intervals_of a.memory.store)) (sym s.keepers));
  behind = λ w i o.
      let was : _ = h.behind w i (sym s.inside ∙ o) in
      (s.collected ∙ was.0, s.keepers ∙ was.1);
}

-- ---- a collection begins at a node

-- who is in the collection stores the same intervals then
abbrev pub SameStored : Node → Node → Type 0
SameStored a b = (keepers : List ℕ) → keepers_after (intervals_of a.memory.store) keepers ≡ keepers_after (intervals_of b.memory.store) keepers

begun_alike : (a c b : Node) → Begun a c → inside a ≡ false → Fits true b a → inside b ≡ true → SameStored c b
    → (c.memory.collected ≡ b.memory.collected) × (c.memory.keepers ≡ b.memory.keepers)
begun_alike a c b g out h i same =
    let was : _ = h.before refl i out in
    (g.collected ∙ was.0, g.keepers ∙ same a.memory.keepers ∙ sym was.1)

pub begun_first : (a c b : Node) → Begun a c → Fits true a b → Fits true b a → (inside b ≡ true → SameStored c b) → Fits true c b
begun_first a c b g h k same =
    let out : inside a ≡ false = ap in_collection g.was in
    record {
      alike = λ e. begun_alike a c b g out k (sym e ∙ g.inside) (same (sym e ∙ g.inside));
      before = λ w i o.
          let was : _ = h.alike (out ∙ sym o) in
          (sym was.0 ∙ sym g.collected, g.keepers ∙ ap (keepers_after (intervals_of c.memory.store)) was.1);
      behind = λ w. true_false true refl w;
    }

pub begun_second : (a c b : Node) → Begun a c → Fits true a b → Fits true b a → (inside b ≡ true → SameStored c b) → Fits true b c
begun_second a c b g h k same =
    let out : inside a ≡ false = ap in_collection g.was in
    record {
      alike = λ e.
          let was : _ = begun_alike a c b g out k (e ∙ g.inside) (same (e ∙ g.inside)) in
          (sym was.0, sym was.1);
      before = λ w i o. true_false (inside c) g.inside o;
      behind = λ w. true_false true refl w;
    }

-- ---- it is over at a node

ended_alike : (a c b : Node) → Ended a c → c.memory.collected ≡ a.locks.time → Fits false a b → inside b ≡ false
    → (c.memory.collected ≡ b.memory.collected) × (c.memory.keepers ≡ b.memory.keepers)
ended_alike a c b g time h o =
    let was : _ = h.behind refl (ap in_collection g.was) o in
    (time ∙ sym was.0, g.keepers ∙ sym was.1)

pub ended_first : (a c b : Node) → Ended a c → c.memory.collected ≡ a.locks.time → Fits false a b → Fits false c b
ended_first a c b g time h = record {
  alike = λ e. ended_alike a c b g time h (sym e ∙ g.inside);
  before = λ w i o. true_false (inside c) i g.inside;
  behind = λ w i o. true_false (inside c) i g.inside;
}

pub ended_second : (a c b : Node) → Ended a c → c.memory.collected ≡ a.locks.time → Fits false a b
    → (inside b ≡ true → a.locks.time ≡ b.locks.time) → Fits false b c
ended_second a c b g time h same = record {
  alike = λ e.
      let was : _ = ended_alike a c b g time h (e ∙ g.inside) in
      (sym was.0, sym was.1);
  before = λ w. true_false false w refl;
  behind = λ w i o.
      let was : _ = h.alike (ap in_collection g.was ∙ sym i) in
      (time ∙ same i, g.keepers ∙ was.1);
}
