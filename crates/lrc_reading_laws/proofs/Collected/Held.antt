-- In every run the keeper that a node asks for a base copy has one.
use Rattle.std.proofs.Common.{◌≡◌, ℕ, ◌<◌, List, [], Bool, true, false, is_some, length, refl, sym, ap, subst, ◌∙◌, arith}
use Rattle.std.specs.Prelude.{Option, Some, None, All, Contains, slice_get, slice_index}
use Rattle.std.proofs.lemmas.Bool.{false≢true}
use Rattle.std.proofs.lemmas.List.{get_or-replicate}
use Rattle.std.proofs.lemmas.List.Elements.{All-head}
use Rattle.lrc_program.specs.declared.Program.{Program}
use Rattle.lrc_exec.specs.Meaning.{Setting}
use Rattle.lrc_exec.specs.Plain.{setting_of}
use Rattle.lrc_page.specs.Page.{zero_page, words_of}
use Rattle.lrc_page.specs.Place.{pages_of}
use Rattle.lrc_store.specs.Store.{intervals_of}
use Rattle.lrc_protocol.specs.declared.event.Event.{Event}
use Rattle.lrc_protocol.specs.Pages.{Copy, valid, written, invalid, absent, is_readable, due, copy_at, keeper_at}
use Rattle.lrc_protocol.specs.Barriers.{Collection, base_at}
use Rattle.lrc_protocol.specs.Node.{discard, needs_of, Node, OptionsRecord}
use Rattle.lrc_protocol.specs.Run.{Input, EntryRecord, Logged, World, Flying, fresh_world, with_turn, run_of}
use Rattle.lrc_protocol.specs.Follows.{turns_of}
use Rattle.lrc_protocol.proofs.Worlds.{IsEntry, fresh_at}
use Rattle.lrc_protocol.proofs.Induction.{Comes}
use Rattle.lrc_order_laws.proofs.Shape.{NodeShape, shape_at}
use Rattle.lrc_order_laws.proofs.Reached.{IsReached, KeptByReached, by_reached}
use Rattle.lrc_node_laws.specs.Needs.{FitsBase, FitsNeed, FitsKept}
use Rattle.lrc_node_laws.specs.Ranges.{HasRanges}
use Rattle.lrc_node_laws.specs.Remembered.{IsBetween}
use Rattle.lrc_node_laws.specs.Reached.{IsReached as IsNodeReached}
use Rattle.lrc_node_laws.proofs.Always.{ranged_at, needed_at, between_at}
use Rattle.lrc_reading_laws.proofs.Laws.{AwaitsBase}
use Rattle.lrc_reading_laws.proofs.Collected.Turns.{in_collection, no_valid, Ended}
use Rattle.lrc_reading_laws.proofs.Collected.Keepers.{Namer, namer_of, is_named_by, in_kept}
use Rattle.lrc_reading_laws.proofs.Collected.Local.{HasKept, has_kept, missing_named}
use Rattle.lrc_reading_laws.proofs.Collected.Flips.{cleans_in, Flips, goes_on, starts, stops, flips}
use Rattle.lrc_reading_laws.proofs.Collected.Pairs.{inside}
use Rattle.lrc_reading_laws.proofs.Collected.Agree.{Agree, Did, stays, begins, ends, turned, Whose, own, other, whose, next_fit, next_exclusive}
use Rattle.lrc_reading_laws.proofs.Collected.Agree.{waits, same_waits, same_time, stored_there, node_reached, word_inside, all_agree}
use Rattle.lrc_reading_laws.proofs.Collected.Covers.{collecting_inside}
use Rattle.lrc_reading_laws.proofs.Collected.Bases.{awaited_keeper, me_at}
use Rattle.lrc_reading_laws.proofs.Collected.Serves.{names_it, HasBase, Serves, level_served, steady_asks, steady_keeps}
use Rattle.lrc_reading_laws.proofs.Collected.Serves.{begun_asks, begun_keeps, Renews, ended_asks, ended_keeps}

none_of : (o : Option (List Bool)) → is_some o ≡ false → o ≡ None
none_of None e = refl
none_of (Some cleans) e = cc

module _ (program : Program) (nodes : ℕ) (options : OptionsRecord) where
  abbrev pages : ℕ
  pages = pages_of program.words options.size

  pub record Served (world : World) : Type 0 where
    pub agree : Agree program nodes options world
    pub serve : (n m : ℕ) (l k : Logged) → slice_get world.nodes n ≡ Some l → slice_get world.nodes m ≡ Some k
        → Serves pages (is_some (cleans_in program nodes options world agree.exclusive)) l.node k.node m

  -- ---- one world

  module _ (world : World) (r : IsReached program nodes options world) (h : Agree program nodes options world) where
    in_range : (m : ℕ) (k : Logged) → slice_get world.nodes m ≡ Some k
        → HasRanges k.node.setting.nodes pages k.node.memory
    in_range m k at =
        let shape : NodeShape (setting_of program nodes m) options (record { node = k.node; turns = turns_of k.log }) =
        shape_at program nodes options r.events world m k r.runs at in
        let same : pages_of k.node.setting.words k.node.options.size ≡ pages =
        ap (λ (s : Setting). pages_of s.words k.node.options.size) shape.setting
        ∙ ap (λ (o : OptionsRecord). pages_of program.words o.size) shape.options in
        subst (λ pages. HasRanges k.node.setting.nodes pages k.node.memory) same (ranged_at k.node (node_reached program nodes options world r m k at)).memory

    -- who waits for the word to discard has a base copy of what was named and is its own to keep
    kept_base : (m : ℕ) (k : Logged) → slice_get world.nodes m ≡ Some k → is_some (cleans_in program nodes options world h.exclusive) ≡ false
        → inside k.node ≡ true → (page : ℕ) → page < pages → names_it k.node page ≡ true → keeper_at k.node.memory page ≡ m → HasBase k.node page
    kept_base m k at u i page lt named mine =
        let none : _ = none_of (cleans_in program nodes options world h.exclusive) u in
        let d : (collection : Collection) × (k.node.mail.wait ≡ discard collection) =
        collecting_inside k.node.mail.wait _ refl (h.exclusive.free none m k at).1 i in
        let reach : IsNodeReached k.node = node_reached program nodes options world r m k at in
        let fits : FitsKept k.node.setting.me k.node.memory (discard d.0) =
        subst (FitsKept k.node.setting.me k.node.memory) d.1 (needed_at k.node reach).kept in
        let has : HasKept k.node.memory.bases (discard d.0) = subst (HasKept k.node.memory.bases) d.1 (has_kept k.node reach) in
        has page
        (subst (λ l. Contains l page) (sym fits.0)
        (in_kept k.node.setting.me k.node.memory page (omega (arith, lt, (in_range m k at).keepers)) named
        (mine ∙ sym (me_at program nodes options world r m k at))))

    renew : (n m : ℕ) (l k : Logged) (at : slice_get world.nodes n ≡ Some l) (at_m : slice_get world.nodes m ≡ Some k)
        → is_some (cleans_in program nodes options world h.exclusive) ≡ false → inside l.node ≡ true → inside k.node ≡ true
        → Renews pages l.node k.node m
    renew n m l k at at_m u i j = λ page lt named mine.
        let fit : _ = (h.fit n m l k at at_m).alike (i ∙ sym j) in
        let namer : (node : ℕ) × Namer (intervals_of l.node.memory.store) page node = namer_of (intervals_of l.node.memory.store) page named in
        let stored : Contains (intervals_of k.node.memory.store) namer.1.interval =
        stored_there program nodes options world r n m l k at at_m fit.0
        (same_time program nodes options world r h.exclusive n m l k at at_m i j) namer.1.interval namer.1.among in
        kept_base m k at_m u j page lt (is_named_by (intervals_of k.node.memory.store) page namer.1.interval stored namer.1.named)
        (ap (λ (l : List ℕ). slice_index l page) (sym fit.1) ∙ mine)

  -- a copy that may not be read, of a page that no stored interval names, is absent
  gone : (node : Node) → IsNodeReached node → (page : ℕ) → is_readable (copy_at node.memory page) ≡ false → names_it node page ≡ false
      → copy_at node.memory page ≡ absent
  gone node reach page unread unnamed = by_copy (copy_at node.memory page) refl unread
    where
      by_copy : (copy : Copy) → copy_at node.memory page ≡ copy → is_readable copy ≡ false → copy_at node.memory page ≡ absent
      by_copy (valid values) is e = absurd (false≢true (sym e))
      by_copy (written values twin) is e = absurd (false≢true (sym e))
      by_copy (invalid values since) is e =
          let some : IsBetween node.locks.time node.memory page (invalid values since) =
          subst (IsBetween node.locks.time node.memory page) is (between_at node reach page) in
          absurd (false≢true (sym unnamed ∙ missing_named page since (intervals_of node.memory.store) some.2))
      by_copy absent is e = is

  -- ---- one turn

  module _ (world : World) (flight : List Flying) (n : ℕ) (l after : Logged) (input : Input) (entry_made : EntryRecord)
      (at : slice_get world.nodes n ≡ Some l) (come : Comes world n input flight) (i : IsEntry l input entry_made after)
      (r : IsReached program nodes options world) (r' : IsReached program nodes options (with_turn world flight n entry_made after))
      (h : Served world) where
    abbrev next : World
    next = with_turn world flight n entry_made after

    abbrev old : Bool
    old = is_some (cleans_in program nodes options world h.agree.exclusive)

    abbrev new : Bool
    new = is_some (cleans_in program nodes options next (next_exclusive program nodes options world flight n l after input entry_made at come i r r' h.agree))

    me : l.node.setting.me ≡ n
    me = me_at program nodes options world r n l at

    relevel_by : Flips program nodes options world flight n l after input entry_made at come i r r' h.agree.exclusive
        (next_exclusive program nodes options world flight n l after input entry_made at come i r r' h.agree)
        → (p q : ℕ) (x y : Logged) → slice_get world.nodes p ≡ Some x → slice_get world.nodes q ≡ Some y → Serves pages new x.node y.node q
    relevel_by (goes_on e) p q x y at_p at_q = subst (λ u. Serves pages u x.node y.node q) (sym e) (h.serve p q x y at_p at_q)
    relevel_by (starts none all) p q x y at_p at_q =
        level_served pages old new x.node y.node q (ap in_collection (all p x at_p) ∙ sym (ap in_collection (all q y at_q))) (h.serve p q x y at_p at_q)
    relevel_by (stops none all) p q x y at_p at_q =
        level_served pages old new x.node y.node q
        (word_inside x.node.mail.wait (all p x at_p) ∙ sym (word_inside y.node.mail.wait (all q y at_q))) (h.serve p q x y at_p at_q)

    relevel : (p q : ℕ) (x y : Logged) → slice_get world.nodes p ≡ Some x → slice_get world.nodes q ≡ Some y → Serves pages new x.node y.node q
    relevel =
        relevel_by (flips program nodes options world flight n l after input entry_made at come i r r' h.agree.exclusive
        (next_exclusive program nodes options world flight n l after input entry_made at come i r r' h.agree))

    abbrev its : Node → Type 0
    its node =
        Did program nodes options world flight n l after input entry_made at come i r r' h.agree.exclusive
        (next_exclusive program nodes options world flight n l after input entry_made at come i r r' h.agree) node

    done : its after.node
    done = turned program nodes options world flight n l after input entry_made at come i r r' h.agree

    same_new : after.node.barrier ≡ l.node.barrier → new ≡ old
    same_new = same_waits program nodes options world flight n l after input entry_made at come i r r' h.agree

    -- what the node keeps, and what another asks of it, before its turn
    before : (b : Bool) → old ≡ b → (p q : ℕ) (x y : Logged) → slice_get world.nodes p ≡ Some x → slice_get world.nodes q ≡ Some y
        → Serves pages b x.node y.node q
    before b u p q x y at_p at_q = subst (λ b. Serves pages b x.node y.node q) u (h.serve p q x y at_p at_q)

    own_gone : (page : ℕ) → is_readable (copy_at l.node.memory page) ≡ false → names_it l.node page ≡ false → copy_at l.node.memory page ≡ absent
    own_gone = gone l.node (node_reached program nodes options world r n l at)

    asks_by : its after.node → (q : ℕ) (y : Logged) → slice_get world.nodes q ≡ Some y → Serves pages new after.node y.node q
    asks_by (stays s) q y at_q = steady_asks pages new l.node after.node y.node q s (relevel n q l y at at_q)
    asks_by (begins g u) q y at_q =
        subst (λ b. Serves pages b after.node y.node q) (sym (same_new g.barrier ∙ u))
        (begun_asks pages l.node after.node y.node q g (before true u n q l y at at_q))
    asks_by (ends g u) q y at_q =
        subst (λ b. Serves pages b after.node y.node q) (sym (same_new g.barrier ∙ u))
        (ended_asks pages l.node after.node y.node q g (before false u n q l y at at_q)
        (λ j. renew world r h.agree n q l y at at_q u (ap in_collection g.was) j) own_gone)

    -- who is not the one whose turn it is has the same keepers, when the collection is over there
    same_keepers : (g : Ended l.node after.node) → old ≡ false → (p : ℕ) (x : Logged) → slice_get world.nodes p ≡ Some x → (b : Bool) → inside x.node ≡ b
        → x.node.memory.keepers ≡ l.node.memory.keepers
    same_keepers g u p x at_p true j = ((h.agree.fit p n x l at_p at).alike (j ∙ sym (ap in_collection g.was))).1
    same_keepers g u p x at_p false j = ((h.agree.fit n p l x at at_p).behind u (ap in_collection g.was) j).1

    keeps_by : its after.node → (p : ℕ) (x : Logged) → slice_get world.nodes p ≡ Some x → Serves pages new x.node after.node n
    keeps_by (stays s) p x at_p = steady_keeps pages new x.node l.node after.node n s (relevel p n x l at_p at)
    keeps_by (begins g u) p x at_p =
        subst (λ b. Serves pages b x.node after.node n) (sym (same_new g.barrier ∙ u))
        (begun_keeps pages x.node l.node after.node n g (before true u p n x l at_p at))
    keeps_by (ends g u) p x at_p =
        subst (λ b. Serves pages b x.node after.node n) (sym (same_new g.barrier ∙ u))
        (ended_keeps pages x.node l.node after.node n g me (same_keepers g u p x at_p (inside x.node) refl) (before false u p n x l at_p at)
        (λ j. renew world r h.agree p n x l at_p at u j (ap in_collection g.was)))

    both_by : its after.node → Serves pages new after.node after.node n
    both_by (stays s) =
        steady_keeps pages new after.node l.node after.node n s (steady_asks pages new l.node after.node l.node n s (relevel n n l l at at))
    both_by (begins g u) =
        subst (λ b. Serves pages b after.node after.node n) (sym (same_new g.barrier ∙ u))
        (begun_keeps pages after.node l.node after.node n g (begun_asks pages l.node after.node l.node n g (before true u n n l l at at)))
    both_by (ends g u) =
        subst (λ b. Serves pages b after.node after.node n) (sym (same_new g.barrier ∙ u))
        (ended_keeps pages after.node l.node after.node n g me g.keepers
        (ended_asks pages l.node after.node l.node n g (before false u n n l l at at)
        (λ j. renew world r h.agree n n l l at at u (ap in_collection g.was) j) own_gone)
        (λ j. absurd (false≢true (sym g.inside ∙ j))))

    abbrev whose_is : ℕ → Logged → Type 0
    whose_is p x = Whose program nodes options world flight n l after input entry_made at come i r r' h.agree p x

    serve_by : (p q : ℕ) (x y : Logged) → whose_is p x → whose_is q y → Serves pages new x.node y.node q
    serve_by p q x y (own e is) (own f same) =
        subst (λ (x : Logged). Serves pages new x.node y.node q) is
        (subst (λ (y : Logged). Serves pages new after.node y.node q) same (subst (λ q. Serves pages new after.node after.node q) f (both_by done)))
    serve_by p q x y (own e is) (other was) = subst (λ (x : Logged). Serves pages new x.node y.node q) is (asks_by done q y was)
    serve_by p q x y (other was) (own f same) =
        subst (λ (y : Logged). Serves pages new x.node y.node q) same (subst (λ q. Serves pages new x.node after.node q) f (keeps_by done p x was))
    serve_by p q x y (other was) (other had) = relevel p q x y was had

    next_served : Served next
    next_served = record {
      agree = record {
        exclusive = next_exclusive program nodes options world flight n l after input entry_made at come i r r' h.agree;
        fit = next_fit program nodes options world flight n l after input entry_made at come i r r' h.agree;
      };
      serve = λ p q x y at_p at_q.
          serve_by p q x y (whose program nodes options world flight n l after input entry_made at come i r r' h.agree p x at_p)
          (whose program nodes options world flight n l after input entry_made at come i r r' h.agree q y at_q);
    }

  served-kept : KeptByReached program nodes options Served
  served-kept world flight n l after input entry at came i r r' h = next_served world flight n l after input entry at came i r r' h

  fresh_serve : (waits : Bool) (n m : ℕ) (l k : Logged) → slice_get (fresh_world program nodes options).nodes n ≡ Some l
      → Serves pages waits l.node k.node m
  fresh_serve waits n m l k at =
      subst (λ (l : Logged). Serves pages waits l.node k.node m) (sym (fresh_at program nodes options 0 nodes n l at))
      (record {
        held = λ page lt e unnamed mine.
            no_valid (zero_page options.size) (sym (get_or-replicate pages page (valid (zero_page options.size)) absent lt) ∙ e);
        renewed = λ w j. absurd (false≢true j);
      })

  pub all_served : (events : List Event) (world : World) → run_of program nodes options events ≡ Some world → Served world
  all_served events world e =
      by_reached program nodes options Served served-kept events world
      (record {
        agree = all_agree program nodes options [] (fresh_world program nodes options) refl;
        serve = λ n m l k at at_m. fresh_serve _ n m l k at;
      }) e

  -- ---- who is asked

  due_absent : (nodes words keeper : ℕ) (copy : Copy) → FitsBase nodes words copy (due keeper) → copy ≡ absent
  due_absent nodes words keeper absent f = refl
  due_absent nodes words keeper (valid values) f = absurd f
  due_absent nodes words keeper (written values twin) f = absurd f
  due_absent nodes words keeper (invalid values since) f = absurd f

  module _ (world : World) (r : IsReached program nodes options world) (n m page : ℕ) (l k : Logged) (at : slice_get world.nodes n ≡ Some l)
      (a : AwaitsBase l.node page m) where
    fits : FitsNeed l.node.setting.nodes (pages_of l.node.setting.words l.node.options.size) (words_of l.node.options.size) l.node.memory a.need
    fits =
        All-head (FitsNeed l.node.setting.nodes (pages_of l.node.setting.words l.node.options.size) (words_of l.node.options.size) l.node.memory) a.need []
        (subst (λ w. All (FitsNeed l.node.setting.nodes (pages_of l.node.setting.words l.node.options.size) (words_of l.node.options.size) l.node.memory)
        (needs_of w)) a.waits (needed_at l.node (node_reached program nodes options world r n l at)).each)

    -- the asker's copy is absent
    pub awaited_absent : copy_at l.node.memory page ≡ absent
    awaited_absent =
        ap (copy_at l.node.memory) (sym a.page_is)
        ∙ due_absent l.node.setting.nodes (words_of l.node.options.size) m (copy_at l.node.memory a.need.page)
        (subst (FitsBase l.node.setting.nodes (words_of l.node.options.size) (copy_at l.node.memory a.need.page)) a.base_is fits.base)

    awaited_page : page < length l.node.memory.copies
    awaited_page =
        let ranges : HasRanges l.node.setting.nodes (pages_of l.node.setting.words l.node.options.size) l.node.memory =
        (ranged_at l.node (node_reached program nodes options world r n l at)).memory in
        omega (arith, fits.in_range, a.page_is, ranges.copies)

    -- the node that is asked has a base copy of the page
    pub asked_has_base : slice_get world.nodes m ≡ Some k → is_some (base_at k.node.memory page) ≡ true
    asked_has_base at_m =
        let served : Served world = all_served r.events world r.runs in
        (served.serve n m l k at at_m).held page (omega (arith, awaited_page, (in_range world r served.agree n l at).copies)) awaited_absent
        (λ j. absurd (false≢true (sym (ap in_collection a.waits) ∙ j))) (awaited_keeper program nodes options world r n l page m at a)
