-- In every run what a node has collected is covered by the time of every node; and who fetches has collected all that others have.
use Rattle.std.proofs.Common.{◌≡◌, ℕ, List, Bool, true, false, is_some, refl, sym, ap, subst, ◌∙◌, arith}
use Rattle.std.specs.Prelude.{Option, Some, None, slice_get}
use Rattle.lrc_program.specs.declared.Program.{Program}
use Rattle.lrc_time.specs.Time.{Covers}
use Rattle.lrc_time.proofs.Times.{covers-refl, covers-trans}
use Rattle.lrc_protocol.specs.Pages.{Need}
use Rattle.lrc_protocol.specs.Barriers.{Collection}
use Rattle.lrc_protocol.specs.Node.{Wait, nothing, grant, departure, access, upkeep, discard, OptionsRecord}
use Rattle.lrc_protocol.specs.Run.{Logged, World}
use Rattle.lrc_order_laws.specs.Counts.{is_inside}
use Rattle.lrc_order_laws.specs.Barriers.{is_collecting}
use Rattle.lrc_order_laws.proofs.Reached.{IsReached}
use Rattle.lrc_node_laws.proofs.Always.{exact_at}
use Rattle.lrc_reading_laws.proofs.Collected.Turns.{in_collection}
use Rattle.lrc_reading_laws.proofs.Collected.Pairs.{inside, Fits}
use Rattle.lrc_reading_laws.proofs.Collected.Flips.{cleans_in}
use Rattle.lrc_reading_laws.proofs.Collected.Agree.{Agree, all_agree, node_reached}

pub collecting_inside : (w : Wait) (k : ℕ) → is_collecting w ≡ k → k ≡ 0 → in_collection w ≡ true → (collection : Collection) × (w ≡ discard collection)
collecting_inside (discard collection) k e z i = (collection, refl)
collecting_inside (upkeep collection needs) k e z i = absurd (omega (arith, e, z))
collecting_inside nothing k e z i = cc
collecting_inside (grant lock) k e z i = cc
collecting_inside departure k e z i = cc
collecting_inside (access need) k e z i = cc

module _ (program : Program) (nodes : ℕ) (options : OptionsRecord) (world : World) (r : IsReached program nodes options world) where
  abbrev pub agree : Agree program nodes options world
  agree = all_agree program nodes options r.events world r.runs

  abbrev pub cleans : Option (List Bool)
  cleans = cleans_in program nodes options world agree.exclusive

  below_own : (n : ℕ) (l : Logged) → slice_get world.nodes n ≡ Some l → Covers l.node.locks.time l.node.memory.collected
  below_own n l at = (exact_at l.node (node_reached program nodes options world r n l at)).below

  module _ (n m : ℕ) (l k : Logged) (at : slice_get world.nodes n ≡ Some l) (at_m : slice_get world.nodes m ≡ Some k) where
    abbrev both : Fits (is_some cleans) l.node k.node
    both = agree.fit n m l k at at_m

    abbrev back : Fits (is_some cleans) k.node l.node
    back = agree.fit m n k l at_m at

    with_time : l.node.memory.collected ≡ k.node.memory.collected → Covers k.node.locks.time l.node.memory.collected
    with_time e = subst (Covers k.node.locks.time) (sym e) (below_own m k at_m)

    by_places : (a b u : Bool) → inside l.node ≡ a → inside k.node ≡ b → is_some cleans ≡ u → Covers k.node.locks.time l.node.memory.collected
    by_places true true u i j w = with_time (both.alike (i ∙ sym j)).0
    by_places false false u i j w = with_time (both.alike (i ∙ sym j)).0
    by_places true false true i j w = with_time (sym (both.before w i j).0)
    by_places true false false i j w =
        let then : k.node.memory.collected ≡ l.node.locks.time = (both.behind w i j).0 in
        covers-trans k.node.locks.time l.node.locks.time l.node.memory.collected
        (subst (Covers k.node.locks.time) then (below_own m k at_m)) (below_own n l at)
    by_places false true true i j w = with_time (back.before w j i).0
    by_places false true false i j w = subst (Covers k.node.locks.time) (sym (back.behind w j i).0) (covers-refl k.node.locks.time)

    -- what one node has collected every other's time covers
    pub collected_covered : Covers k.node.locks.time l.node.memory.collected
    collected_covered = by_places (inside l.node) (inside k.node) (is_some cleans) refl refl refl

  -- while some node is inside no barrier, no collection is under way
  pub none_under_way : (n : ℕ) (l : Logged) → slice_get world.nodes n ≡ Some l → is_inside l.node.mail.wait ≡ 0 → cleans ≡ None
  none_under_way n l at out = by_cleans cleans refl
    where
      by_cleans : (o : Option (List Bool)) → cleans ≡ o → cleans ≡ None
      by_cleans None e = e
      by_cleans (Some c) e =
          let in_barrier : is_inside l.node.mail.wait ≡ 1 = (agree.exclusive.busy c e n l at).0 in
          absurd (omega (arith, in_barrier, out))

  -- while some node fetches what the pages need that it keeps, one is
  pub one_under_way : (n : ℕ) (l : Logged) → slice_get world.nodes n ≡ Some l → is_collecting l.node.mail.wait ≡ 1 → is_some cleans ≡ true
  one_under_way n l at fetches = by_cleans cleans refl
    where
      by_cleans : (o : Option (List Bool)) → cleans ≡ o → is_some o ≡ true
      by_cleans (Some c) e = refl
      by_cleans None e =
          let none : is_collecting l.node.mail.wait ≡ 0 = (agree.exclusive.free e n l at).1 in
          absurd (omega (arith, none, fetches))

  -- with no collection under way who is in one waits for the word to discard
  pub waits_for_word : (n : ℕ) (l : Logged) → slice_get world.nodes n ≡ Some l → cleans ≡ None → inside l.node ≡ true
      → (collection : Collection) × (l.node.mail.wait ≡ discard collection)
  waits_for_word n l at none i =
      collecting_inside l.node.mail.wait (is_collecting l.node.mail.wait) refl (agree.exclusive.free none n l at).1 i

  -- who waits at a miss, or fetches in a collection, has collected all that any other node has
  module _ (n m : ℕ) (l k : Logged) (at : slice_get world.nodes n ≡ Some l) (at_m : slice_get world.nodes m ≡ Some k) where
    same_collected : l.node.memory.collected ≡ k.node.memory.collected → Covers l.node.memory.collected k.node.memory.collected
    same_collected e = subst (Covers l.node.memory.collected) e (covers-refl l.node.memory.collected)

    missing_by : cleans ≡ None → inside l.node ≡ false → (b : Bool) → inside k.node ≡ b → Covers l.node.memory.collected k.node.memory.collected
    missing_by none out false j = same_collected ((agree.fit n m l k at at_m).alike (out ∙ sym j)).0
    missing_by none out true j =
        subst (λ time. Covers time k.node.memory.collected) (sym ((agree.fit m n k l at_m at).behind (ap is_some none) j out).0) (below_own m k at_m)

    fetching_by : is_some cleans ≡ true → inside l.node ≡ true → (b : Bool) → inside k.node ≡ b → Covers l.node.memory.collected k.node.memory.collected
    fetching_by some i true j = same_collected ((agree.fit n m l k at at_m).alike (i ∙ sym j)).0
    fetching_by some i false j = same_collected (sym ((agree.fit n m l k at at_m).before some i j).0)

    pub missing_covers : (need : Need) → l.node.mail.wait ≡ access need → Covers l.node.memory.collected k.node.memory.collected
    missing_covers need w = missing_by (none_under_way n l at (ap is_inside w)) (ap in_collection w) (inside k.node) refl

    pub fetching_covers : (collection : Collection) (needs : List Need) → l.node.mail.wait ≡ upkeep collection needs
        → Covers l.node.memory.collected k.node.memory.collected
    fetching_covers collection needs w = fetching_by (one_under_way n l at (ap is_collecting w)) (ap in_collection w) (inside k.node) refl
