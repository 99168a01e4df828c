-- In every run the numbers that a node has taken from another rise, each once, and are among those that were sent to it.
use Rattle.std.proofs.Common.{◌≡◌, ℕ, zero, suc, ◌+◌, ◌<◌, ◌≤◌, List, [], ◌∷◌, Bool, true, false, length, refl, sym, ap, subst}
use Rattle.std.proofs.Common.{◌∙◌, inl, inr, arith}
use Rattle.std.specs.Prelude.{Some, ◌==◌, nat_lt, cond, replicate, filter, slice_get, slice_set, slice_index, slice_index_or}
use Rattle.std.specs.List.{list_any}
use Rattle.std.proofs.lemmas.Bool.{cases_eq, eq-eqb, eqb-false, ltb-true, ltb-false, and_from, or_parts}
use Rattle.std.proofs.lemmas.List.{length-set}
use Rattle.std.proofs.lemmas.Option.{same_Some, slice_get_within}
use Rattle.lrc_program.specs.declared.Program.{Program}
use Rattle.lrc_store.specs.Order.{placed}
use Rattle.lrc_protocol.specs.declared.event.Event.{Event}
use Rattle.lrc_protocol.specs.Node.{Node, OptionsRecord}
use Rattle.lrc_protocol.specs.Run.{Input, run, taken, EntryRecord, Logged, World, Flying, fresh_world, run_of}
use Rattle.lrc_protocol.proofs.Numbers.{GoOn}
use Rattle.lrc_protocol.proofs.Worlds.{run-whole, IsEntry, get_set_same, get_set_other, fresh_at}
use Rattle.lrc_protocol.proofs.Turned.{Turned, Turns, turns}
use Rattle.lrc_protocol.proofs.Induction.{Comes, named, delivered, repeated, KeptByTurns, by_turns}
use Rattle.lrc_order_laws.specs.Numbers.{numbers_between, Rises, Below}
use Rattle.lrc_order_laws.proofs.Numbers.{envelopes_in, are_between, map_cond, cond_drops}
use Rattle.lrc_order_laws.proofs.InFlight.{AllSend, all-kept, all-fresh}
use Rattle.lrc_order_laws.proofs.TakenNumbers.{Takes, TakesIf, by_itself, repeats, anew, takes}

pub rises-below : (least bound : ℕ) (xs : List ℕ) → Rises least bound xs → Below bound xs
rises-below least bound [] r = tt
rises-below least bound (x ∷ xs) r = (r.1, rises-below (x + 1) bound xs r.2)

rises-more : (least b c : ℕ) (xs : List ℕ) → b ≤ c → Rises least b xs → Rises least c xs
rises-more least b c [] le r = tt
rises-more least b c (x ∷ xs) le r = let lt : x < b = r.1 in (r.0, omega (arith, lt, le), rises-more (x + 1) b c xs le r.2)

-- a number of the same bounds that is not among them, put in its place
rises-placed : (x least bound : ℕ) (xs : List ℕ) → (least ≤ x) × (x < bound) → list_any (λ y. y == x) xs ≡ false → Rises least bound xs
    → Rises least bound (placed nat_lt x xs)
rises-placed x least bound [] is new r = (is.0, is.1, tt)
rises-placed x least bound (y ∷ xs) is new r =
    let apart : (y == x) ≡ false × list_any (λ y. y == x) xs ≡ false = or_parts (y == x) (list_any (λ y. y == x) xs) new in
    by_test (nat_lt x y) refl (λ le. rises-placed x (y + 1) bound xs (le, is.1) apart.1 r.2) (eqb-false y x apart.0)
  where
    by_test : (b : Bool) → nat_lt x y ≡ b → (y + 1 ≤ x → Rises (y + 1) bound (placed nat_lt x xs)) → (y ≡ x → ⊥)
        → Rises least bound (cond b (x ∷ y ∷ xs) (y ∷ placed nat_lt x xs))
    by_test true lt rest ne = let before : x < y = ltb-true x y lt in (is.0, is.1, (omega (arith, before), r.1, r.2))
    by_test false not_lt rest ne = let after : y ≤ x = ltb-false x y not_lt in (r.0, r.1, rest (omega (arith, after, ne)))

rises-set : (t : List (List ℕ)) (k a x least bound : ℕ) → (k ≡ a → (least ≤ x) × (x < bound))
    → list_any (λ y. y == x) (slice_index_or t k []) ≡ false → Rises least bound (slice_index_or t a [])
    → Rises least bound (slice_index_or (slice_set t k (placed nat_lt x (slice_index_or t k []))) a [])
rises-set [] k a x least bound is new r = r
rises-set (y ∷ t) zero zero x least bound is new r = rises-placed x least bound y (is refl) new r
rises-set (y ∷ t) zero (suc a) x least bound is new r = r
rises-set (y ∷ t) (suc k) zero x least bound is new r = r
rises-set (y ∷ t) (suc k) (suc a) x least bound is new r = rises-set t k a x least bound (λ e. is (ap suc e)) new r

-- a number that rises is within the bounds
first_within : (c : Bool) (least bound x : ℕ) (rest : List ℕ) → c ≡ true → Rises least bound (cond c (x ∷ rest) rest)
    → (least ≤ x) × (x < bound)
first_within true least bound x rest e r = (r.0, r.1)
first_within false least bound x rest e r = cc

in_flight : (flight : List Flying) (place : ℕ) (f : Flying) (least bound : ℕ) → slice_get flight place ≡ Some f
    → Rises least bound (numbers_between f.envelope.from f.envelope.to (envelopes_in flight))
    → (least ≤ f.envelope.number) × (f.envelope.number < bound)
in_flight [] place f least bound at r = cc
in_flight (g ∷ flight) zero f least bound at r =
    let same : g ≡ f = same_Some g f at in
    let c : Bool = are_between f.envelope.from f.envelope.to f.envelope in
    first_within c least bound f.envelope.number (numbers_between f.envelope.from f.envelope.to (envelopes_in flight))
    (and_from (f.envelope.from == f.envelope.from) (f.envelope.to == f.envelope.to) (eq-eqb f.envelope.from f.envelope.from refl)
    (eq-eqb f.envelope.to f.envelope.to refl))
    (subst (Rises least bound) (map_cond c f.envelope (filter (are_between f.envelope.from f.envelope.to) (envelopes_in flight)))
    (subst (λ (g : Flying). Rises least bound (numbers_between f.envelope.from f.envelope.to (envelopes_in (g ∷ flight)))) same r))
in_flight (g ∷ flight) (suc place) f least bound at r =
    let c : Bool = are_between f.envelope.from f.envelope.to g.envelope in
    in_flight flight place f least bound at
    (cond_drops c least bound g.envelope.number (numbers_between f.envelope.from f.envelope.to (envelopes_in flight))
    (subst (Rises least bound) (map_cond c g.envelope (filter (are_between f.envelope.from f.envelope.to) (envelopes_in flight))) r))

-- what comes has a number that was sent
abbrev Came : World → ℕ → Input → Type 0
Came world n run = Unit {0}
Came world n (taken envelope) =
    (least bound : ℕ) → Rises least bound (numbers_between envelope.from n (envelopes_in world.flight))
    → (least ≤ envelope.number) × (envelope.number < bound)

came : (world : World) (n : ℕ) (input : Input) (flight : List Flying) → Comes world n input flight → Came world n input
came world n _ _ named = tt
came world _ _ _ (delivered place {flying = f} at) = λ least bound r. in_flight world.flight place f least bound at r
came world _ _ _ (repeated place {flying = f} at) = λ least bound r. in_flight world.flight place f least bound at r

-- the numbers taken after a turn rise within the bounds of those before and of the new one
taken-rises : (world : World) (n : ℕ) (node : Node) (input : Input) (t : List (List ℕ)) (a least bound : ℕ)
    → Takes node input t → Came world n input → Rises least bound (numbers_between a n (envelopes_in world.flight))
    → Rises least bound (slice_index_or node.mail.taken a []) → Rises least bound (slice_index_or t a [])
taken-rises world n node _ _ a least bound by_itself c r h = h
taken-rises world n node _ _ a least bound (repeats envelope again) c r h = h
taken-rises world n node _ _ a least bound (anew envelope new) c r h =
    rises-set node.mail.taken envelope.from a envelope.number least bound
    (λ e. c least bound (subst (λ a. Rises least bound (numbers_between a n (envelopes_in world.flight))) (sym e) r)) new h

-- ---- every run

-- a node before another's turn, or its own
pub record Before (nodes : ℕ) (world : World) (m : ℕ) (lm : Logged) : Type 0 where
  pub old : Logged
  pub at : slice_get world.nodes m ≡ Some old
  pub grows : (to : ℕ) → to < nodes → slice_index old.node.mail.sent to ≤ slice_index lm.node.mail.sent to
  pub takes_more : (a least bound : ℕ) → Rises least bound (numbers_between a m (envelopes_in world.flight))
      → Rises least bound (slice_index_or old.node.mail.taken a [])
      → Rises least bound (slice_index_or lm.node.mail.taken a [])

module _ (program : Program) (nodes : ℕ) (options : OptionsRecord) where
  pub record AllTaken (world : World) : Type 0 where
    pub count : length world.nodes ≡ nodes
    pub sends : AllSend program nodes options world
    pub rises : (a b : ℕ) (la lb : Logged) → slice_get world.nodes a ≡ Some la → slice_get world.nodes b ≡ Some lb
        → Rises options.first (options.first + slice_index la.node.mail.sent b) (slice_index_or lb.node.mail.taken a [])

  own_before : (world : World) (flight : List Flying) (n : ℕ) (l after : Logged) (input : Input) (entry : EntryRecord)
      → slice_get world.nodes n ≡ Some l → Comes world n input flight → IsEntry l input entry after → AllTaken world → Before nodes world n after
  own_before world flight n l after input entry at comes i h =
      let t : Turned l.node entry.turn after.node = subst (Turns l.node) i.turn_is (turns l.node input) in
      let k : Takes l.node input after.node.mail.taken = subst (TakesIf l.node input) i.turn_is (takes l.node input) in
      let size : length l.node.mail.sent ≡ nodes = (h.sends.each n l at).size in
      record {
        old = l;
        at = at;
        grows = λ to lt.
            let g : GoOn l.node.options.first l.node.mail.sent entry.turn.out after.node.mail.sent to = t.numbers.each to (subst (λ k. to < k) (sym size) lt) in
            let counted : slice_index after.node.mail.sent to ≡ slice_index l.node.mail.sent to + g.more = g.counted in
            omega (arith, counted);
        takes_more = λ a least bound r b. taken-rises world n l.node input after.node.mail.taken a least bound k (came world n input flight comes) r b;
      }

  pub before : (world : World) (flight : List Flying) (n : ℕ) (l after : Logged) (input : Input) (entry : EntryRecord)
      → slice_get world.nodes n ≡ Some l → Comes world n input flight → IsEntry l input entry after → AllTaken world
      → (m : ℕ) (lm : Logged) → slice_get (slice_set world.nodes n after) m ≡ Some lm → Before nodes world m lm
  before world flight n l after input entry at comes i h m lm is = elim (cases_eq n m) [
    | inl e ↦
        let same : after ≡ lm = same_Some after lm (sym (get_set_same world.nodes n l after at) ∙ ap (slice_get (slice_set world.nodes n after)) e ∙ is) in
        subst (λ k. Before nodes world k lm) e (subst (Before nodes world n) same (own_before world flight n l after input entry at comes i h))
    | inr ne ↦ record {
      old = lm;
      at = sym (get_set_other world.nodes n m after ne) ∙ is;
      grows = λ to lt. omega arith;
      takes_more = λ a least bound r b. b;
    }
  ]

  pub taken-kept : KeptByTurns AllTaken
  taken-kept world flight n l after input entry at comes i h = record {
    count = length-set world.nodes n after ∙ h.count;
    sends = all-kept program nodes options world flight n l after input entry at comes i h.sends;
    rises = λ a b la lb at_a at_b.
        let oa : Before nodes world a la = before world flight n l after input entry at comes i h a la at_a in
        let ob : Before nodes world b lb = before world flight n l after input entry at comes i h b lb at_b in
        let lt : b < nodes = subst (λ k. b < k) h.count (slice_get_within world.nodes b ob.old ob.at) in
        let grown : slice_index oa.old.node.mail.sent b ≤ slice_index la.node.mail.sent b = oa.grows b lt in
        rises-more options.first (options.first + slice_index oa.old.node.mail.sent b) (options.first + slice_index la.node.mail.sent b)
        (slice_index_or lb.node.mail.taken a [])
        (omega (arith, grown))
        (ob.takes_more a options.first (options.first + slice_index oa.old.node.mail.sent b)
        ((h.sends.each a oa.old oa.at).numbers b lt) (h.rises a b oa.old ob.old oa.at ob.at));
  }

  none_taken : (k a least bound : ℕ) → Rises least bound (slice_index_or (replicate k []) a [])
  none_taken zero a least bound = tt
  none_taken (suc k) zero least bound = tt
  none_taken (suc k) (suc a) least bound = none_taken k a least bound

  pub taken-fresh : AllTaken (fresh_world program nodes options)
  taken-fresh = record {
    count = (run-whole program nodes options [] (fresh_world program nodes options) refl).count;
    sends = all-fresh program nodes options;
    rises = λ a b la lb at_a at_b.
        subst (λ (x : Logged). Rises options.first (options.first + slice_index la.node.mail.sent b) (slice_index_or x.node.mail.taken a []))
        (sym (fresh_at program nodes options 0 nodes b lb at_b))
        (none_taken nodes a options.first (options.first + slice_index la.node.mail.sent b));
  }

  pub all_taken : (events : List Event) (world : World) → run_of program nodes options events ≡ Some world → AllTaken world
  all_taken events world e = by_turns AllTaken taken-kept program nodes options events world taken-fresh e
