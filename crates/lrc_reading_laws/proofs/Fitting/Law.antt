-- Each readable copy fits what its node's time covers, with the node's own open interval, in every history.
use Rattle.std.proofs.Common.{◌≡◌, ℕ, zero, suc, ◌+◌, ◌≤◌, List, [], ◌∷◌, ◌++◌, true, IsTrue, length, refl, sym, ap, subst, inl, inr, ⊎_elim, arith}
use Rattle.std.specs.Prelude.{Some, None, Contains, slice_get, slice_index_or, replicate}
use Rattle.std.proofs.lemmas.List.Elements.{All-nil}
use Rattle.lrc_program.specs.declared.Program.{Program}
use Rattle.lrc_time.specs.Time.{entry}
use Rattle.lrc_time.proofs.Times.{entry-set_same}
use Rattle.lrc_page.specs.Page.{words_of, zero_page}
use Rattle.lrc_page.specs.Place.{pages_of}
use Rattle.lrc_store.specs.Store.{StoredRecord}
use Rattle.lrc_store.proofs.Orders.{Contains-later, cases_Contains, none_Contains}
use Rattle.lrc_copies.specs.Page.{PageFits, IsUntouchedBy}
use Rattle.lrc_copies.specs.Stamps.{stamp_index, stamps_covered, covered}
use Rattle.lrc_copies.proofs.Members.{Contains-from_filter}
use Rattle.lrc_copies.proofs.Paging.{zero_page_of_size_fits, page_fits_more, page_open}
use Rattle.lrc_copies.proofs.Stamping.{covered-le, below-covered}
use Rattle.lrc_protocol.specs.Pages.{Copy, valid, written, invalid, absent, is_readable, values_of, changes_of, copy_at}
use Rattle.lrc_protocol.specs.Node.{Node, OptionsRecord, fresh_node}
use Rattle.lrc_protocol.specs.Run.{Logged, World, fresh_world, with_turn}
use Rattle.lrc_protocol.proofs.Ruled.{by_rule}
use Rattle.lrc_protocol.proofs.Worlds.{fresh_at}
use Rattle.lrc_order_laws.proofs.Reached.{IsReached}
use Rattle.lrc_order_laws.proofs.Shape.{shape_at}
use Rattle.lrc_node_laws.proofs.Always.{slice_index_or-replicate, whole_at}
use Rattle.lrc_reading_laws.specs.Written.{made_stamps}
use Rattle.lrc_reading_laws.proofs.Written.History.{page_history, open_record}
use Rattle.lrc_reading_laws.proofs.Fitting.Copies.{history_on, FitsTime, CopyFits, Fit}
use Rattle.lrc_reading_laws.proofs.Fitting.First.{NeedFits, whole-long, not_written}
use Rattle.lrc_reading_laws.proofs.Fitting.Sent.{all-sent}
use Rattle.lrc_reading_laws.proofs.Fitting.Worlds.{AreFit, TurnFits, wrote_in, turn-fits}
use Rattle.lrc_reading_laws.proofs.Closed.History.{History, KeptByHistory, by_history, reached_by, closed_by}
use Rattle.lrc_reading_laws.proofs.Laws.{StampsLaw, WritesLaw, TurnsLaw, RequestsLaw, BasesLaw, CopiesLaw}
use Rattle.lrc_reading_laws.proofs.Stamped.Worlds.{Placed, placed, turn_at, each_node}

no_base_at : (n page : ℕ) (values : List ℕ) → slice_index_or (replicate n None) page None ≡ Some values → ⊥
no_base_at zero page values e = cc
no_base_at (suc n) zero values e = cc
no_base_at (suc n) (suc page) values e = no_base_at n page values e

module _ (program : Program) (nodes : ℕ) (options : OptionsRecord) (stamps : StampsLaw program nodes options) (writes : WritesLaw program nodes options)
    (turns : TurnsLaw program nodes options) (requests : RequestsLaw program nodes options) (bases : BasesLaw program nodes options) where
  -- at the start every page is zero
  fresh-node : (me : ℕ) → let node : Node = fresh_node program nodes options me in
      Fit (wrote_in options []) [] node.locks.time node.mail.wait node.memory
  fresh-node me =
      let node : Node = fresh_node program nodes options me in
      let zeros : (page : ℕ) → FitsTime (wrote_in options []) [] node.locks.time page (zero_page options.size) =
      λ page. zero_page_of_size_fits (history_on (wrote_in options []) page) options.size in
      record {
        copies = λ page. ⊎_elim
            (λ (v : copy_at node.memory page ≡ valid (zero_page options.size)).
            subst (CopyFits (wrote_in options []) [] node.locks.time page) (sym v) (zeros page))
            (λ (a : copy_at node.memory page ≡ absent). subst (CopyFits (wrote_in options []) [] node.locks.time page) (sym a) tt)
            (slice_index_or-replicate (pages_of program.words options.size) (valid (zero_page options.size)) page);
        bases = λ page values e. absurd (no_base_at (pages_of program.words options.size) page values e);
        needs = All-nil (NeedFits (wrote_in options []) [] node.memory.collected);
      }

  fits-fresh : AreFit options [] (fresh_world program nodes options)
  fits-fresh = record {
    sound = λ page offset within. record {
      lighter = λ a b c d below. absurd (none_Contains a c);
      change = λ a value c e. absurd (none_Contains a c);
      silent = λ a value c w e. absurd (none_Contains a c);
    };
    nodes = λ q l is.
        subst (λ (x : Logged). Fit (wrote_in options []) [] x.node.locks.time x.node.mail.wait x.node.memory)
        (sym (fresh_at program nodes options 0 nodes q l is)) (fresh-node (0 + q));
    sent = λ e m l c p is. absurd (none_Contains e c);
  }

  fits-history : KeptByHistory program nodes options (λ world made. AreFit options made world)
  fits-history world made flight n l after input entry_made at come i r r' hist h =
      let now : World = with_turn world flight n entry_made after in
      let t : TurnFits options made (closed_by l.node after.node) world now l after input =
      turn-fits program nodes options stamps writes turns world made flight n l after input entry_made at come i r r' hist h in
      record {
        sound = t.sound;
        nodes =
            each_node
            (λ q lq. Fit (wrote_in options now.acts) (made ++ closed_by l.node after.node) lq.node.locks.time lq.node.mail.wait lq.node.memory)
            world n l after at
            t.own_node t.still_node;
        sent =
            all-sent options made (closed_by l.node after.node) world flight n l after input entry_made at come h t (requests world r) (bases world made hist)
            (by_rule l.node input entry_made.turn after.node i.turn_is)
            (turn_at program nodes options world flight n l after input entry_made at come i r);
      }

  pub all_fit : (world : World) (made : List StoredRecord) → History program nodes options world made → AreFit options made world
  all_fit world made hist = by_history program nodes options (λ world made. AreFit options made world) fits-fresh fits-history world made hist

  -- ---- readable copies

  module _ (world : World) (made : List StoredRecord) (hist : History program nodes options world made) (n : ℕ) (l : Logged)
      (at : slice_get world.nodes n ≡ Some l) (page : ℕ) where
    r : IsReached program nodes options world
    r = reached_by program nodes options world made hist

    p : Placed nodes n l.node
    p = placed program nodes options world r n l at

    same_options : l.node.options ≡ options
    same_options = (shape_at program nodes options r.events world n l r.runs at).options

    -- no interval that the node's time covers is above its open one
    above-all : (a : StoredRecord) → Contains (covered made_stamps l.node.locks.time made) a
        → IsTrue ((page_history options.size world.acts page).below (open_record l.node) a) → ⊥
    above-all a c under =
        let me : ℕ = l.node.setting.me in
        let in_made : _ = Contains-from_filter (stamps_covered made_stamps l.node.locks.time) made a c in
        let most : stamp_index made_stamps (open_record l.node) ≤ entry a.stamp me =
        covered-le made_stamps a.stamp (open_record l.node) (below-covered made_stamps (open_record l.node) a under) in
        let up : entry a.stamp me ≤ entry l.node.locks.time me = (stamps world made hist).time n l at a in_made.0 in_made.1 me in
        let index : stamp_index made_stamps (open_record l.node) ≡ entry l.node.locks.time me + 1 =
        entry-set_same l.node.locks.time me (entry l.node.locks.time me + 1) (omega (arith, p.me, p.within, p.long)) in
        omega (arith, most, up, index)

    readable-fits : (copy : Copy) → copy_at l.node.memory page ≡ copy → is_readable copy ≡ true
        → CopyFits (wrote_in options world.acts) made l.node.locks.time page copy
        → PageFits (page_history options.size world.acts page) (values_of copy) (open_record l.node ∷ covered made_stamps l.node.locks.time made)
    readable-fits (valid values) e readable f =
        let all : List StoredRecord = covered made_stamps l.node.locks.time made in
        let long : length values ≡ words_of options.size =
        subst (λ (o : OptionsRecord). length values ≡ words_of o.size) same_options
        (whole-long l.node.setting.nodes (words_of l.node.options.size) l.node.memory.copies page (valid values) e (whole_at l.node p.reached).copies) in
        let untouched : IsUntouchedBy (page_history options.size world.acts page) (length values) (open_record l.node) =
        subst (λ k. IsUntouchedBy (page_history options.size world.acts page) k (open_record l.node)) (sym long)
        ((writes world made hist).untouched n l page at (λ other twin w. not_written (copy_at l.node.memory page) other twin (ap changes_of e) w)) in
        page_fits_more (page_history options.size world.acts page) values all (open_record l.node ∷ all)
        (record {
          kept = λ a c. Contains-later (open_record l.node) all a c;
          more = λ a c. ⊎_elim
              (λ (here : open_record l.node ≡ a).
              inr (subst (IsUntouchedBy (page_history options.size world.acts page) (length values)) here untouched))
              (λ (later : Contains all a). inl later)
              (cases_Contains (open_record l.node) all a c);
        }) f
    readable-fits (written values twin) e readable f =
        page_open (page_history options.size world.acts page) twin values (open_record l.node) (covered made_stamps l.node.locks.time made)
        ((writes world made hist).written_here n l page values twin at e) above-all f
    readable-fits (invalid values since) e readable f = cc
    readable-fits absent e readable f = cc

  pub copies_law : CopiesLaw program nodes options
  copies_law world made hist = record {
    readable = λ n l page at readable.
        readable-fits world made hist n l at page (copy_at l.node.memory page) refl readable (((all_fit world made hist).nodes n l at).copies page);
  }
