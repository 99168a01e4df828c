-- Two nodes and a page that the first takes the second to keep: there is a base copy at the second wherever the first's copy is
-- absent and was not named in the collection that it is in; and how each kind of turn keeps that.
use Rattle.std.proofs.Common.{◌≡◌, ℕ, ◌<◌, List, Bool, true, false, is_some, refl, sym, ap, ◌∙◌, inl, inr}
use Rattle.std.specs.Prelude.{slice_index}
use Rattle.std.proofs.lemmas.Bool.{cases_Bool, eq-eqb}
use Rattle.lrc_store.specs.Store.{intervals_of}
use Rattle.lrc_protocol.specs.Times.{is_named}
use Rattle.lrc_protocol.specs.Pages.{absent, is_readable, copy_at, keeper_at}
use Rattle.lrc_protocol.specs.Barriers.{base_at}
use Rattle.lrc_protocol.specs.Node.{Node}
use Rattle.lrc_reading_laws.proofs.Collected.Turns.{in_collection, Steady, Begun, Ended}
use Rattle.lrc_reading_laws.proofs.Collected.Keepers.{keeper-unnamed}
use Rattle.lrc_reading_laws.proofs.Collected.Pairs.{inside, true_false}

-- a stored interval of the node names the page
abbrev pub names_it : Node → ℕ → Bool
names_it node page = is_named (intervals_of node.memory.store) page

abbrev pub HasBase : Node → ℕ → Type 0
HasBase node page = is_some (base_at node.memory page) ≡ true

-- With so many pages, whether the manager still waits for somebody's word that its copies are clean, and the second's number:
pub record Serves (pages : ℕ) (waits : Bool) (a b : Node) (m : ℕ) : Type 0 where
  -- where the first's copy is absent, and it is in no collection or the page was not named, the second has a base copy;
  pub held : (page : ℕ) → page < pages → copy_at a.memory page ≡ absent → (inside a ≡ true → names_it a page ≡ false) → keeper_at a.memory page ≡ m
      → HasBase b page
  -- and where the page was named, once the second has left the collection.
  pub renewed : waits ≡ false → inside a ≡ true → inside b ≡ false → (page : ℕ) → page < pages → names_it a page ≡ true → keeper_at a.memory page ≡ m
      → HasBase b page

same_keeper : (a b : Node) (page m : ℕ) → b.memory.keepers ≡ a.memory.keepers → keeper_at b.memory page ≡ m → keeper_at a.memory page ≡ m
same_keeper a b page m e k = sym (ap (λ (l : List ℕ). slice_index l page) e) ∙ k

module _ (pages : ℕ) where
  pub level_served : (u v : Bool) (a b : Node) (m : ℕ) → inside a ≡ inside b → Serves pages u a b m → Serves pages v a b m
  level_served u v a b m e h = record {
    held = h.held;
    renewed = λ w i o. true_false (inside a) i (e ∙ o);
  }

  -- ---- a steady turn

  pub steady_asks : (u : Bool) (a c b : Node) (m : ℕ) → Steady a c → Serves pages u a b m → Serves pages u c b m
  steady_asks u a c b m s h = record {
    held = λ page lt e unnamed mine.
        h.held page lt (s.copies page e)
        (λ i. ap (λ l. is_named l page) (sym (s.intervals i)) ∙ unnamed (s.inside ∙ i)) (same_keeper a c page m s.keepers mine);
    renewed = λ w i o page lt named mine.
        let in_a : inside a ≡ true = sym s.inside ∙ i in
        h.renewed w in_a o page lt (ap (λ l. is_named l page) (sym (s.intervals in_a)) ∙ named) (same_keeper a c page m s.keepers mine);
  }

  pub steady_keeps : (u : Bool) (a b c : Node) (m : ℕ) → Steady b c → Serves pages u a b m → Serves pages u a c m
  steady_keeps u a b c m s h = record {
    held = λ page lt e unnamed mine. s.bases page (h.held page lt e unnamed mine);
    renewed = λ w i o page lt named mine. s.bases page (h.renewed w i (sym s.inside ∙ o) page lt named mine);
  }

  -- ---- a collection begins at a node

  pub begun_asks : (a c b : Node) (m : ℕ) → Begun a c → Serves pages true a b m → Serves pages true c b m
  begun_asks a c b m g h = record {
    held = λ page lt e unnamed mine.
        h.held page lt (g.copies page e) (λ i. true_false (inside a) i (ap in_collection g.was))
        (sym (ap (λ (l : List ℕ). slice_index l page) g.keepers
        ∙ keeper-unnamed (intervals_of c.memory.store) a.memory.keepers page (unnamed g.inside)) ∙ mine);
    renewed = λ w. true_false true refl w;
  }

  pub begun_keeps : (a b c : Node) (m : ℕ) → Begun b c → Serves pages true a b m → Serves pages true a c m
  begun_keeps a b c m g h = record {
    held = λ page lt e unnamed mine. g.bases page (h.held page lt e unnamed mine);
    renewed = λ w. true_false true refl w;
  }

  -- ---- it is over at a node

  -- the second has a base copy of what was named, while it is in the collection
  abbrev pub Renews : Node → Node → ℕ → Type 0
  Renews a b m = (page : ℕ) → page < pages → names_it a page ≡ true → keeper_at a.memory page ≡ m → HasBase b page

  pub ended_asks : (a c b : Node) (m : ℕ) → Ended a c → Serves pages false a b m → (inside b ≡ true → Renews a b m)
      → ((page : ℕ) → is_readable (copy_at a.memory page) ≡ false → names_it a page ≡ false → copy_at a.memory page ≡ absent)
      → Serves pages false c b m
  ended_asks a c b m g h renews gone = record {
    held = λ page lt e unnamed mine.
        let keeper : keeper_at a.memory page ≡ m = same_keeper a c page m g.keepers mine in
        elim (cases_Bool (names_it a page)) [
          | inl named ↦ elim (cases_Bool (inside b)) [
            | inl i ↦ renews i page lt named keeper
            | inr o ↦ h.renewed refl (ap in_collection g.was) o page lt named keeper
          ]
          | inr none ↦ h.held page lt (gone page (g.copies page e) none) (λ i. none) keeper
        ];
    renewed = λ w i o. true_false (inside c) i g.inside;
  }

  pub ended_keeps : (a b c : Node) (m : ℕ) → Ended b c → b.setting.me ≡ m → a.memory.keepers ≡ b.memory.keepers → Serves pages false a b m
      → (inside a ≡ true → Renews a b m) → Serves pages false a c m
  ended_keeps a b c m g me same h renews =
      let stays : (page : ℕ) → keeper_at a.memory page ≡ m → HasBase b page → HasBase c page =
      λ page mine has.
      g.bases page
      (eq-eqb (keeper_at b.memory page) b.setting.me (sym (ap (λ (l : List ℕ). slice_index l page) same) ∙ mine ∙ sym me)) has in
      record {
        held = λ page lt e unnamed mine. stays page mine (h.held page lt e unnamed mine);
        renewed = λ w i o page lt named mine. stays page mine (renews i page lt named mine);
      }
