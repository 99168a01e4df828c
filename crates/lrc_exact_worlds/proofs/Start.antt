-- At the start the nodes stand beside the first states, and so they do in every history.
use Rattle.std.proofs.Common.{◌≡◌, ℕ, zero, suc, ◌+◌, ◌<◌, ◌⊎◌, List, [], false, inl, inr, refl, sym, ap, subst, arith}
use Rattle.std.specs.Prelude.{Some, None, is_some, slice_index, slice_index_or, replicate}
use Rattle.std.proofs.lemmas.List.{length-replicate}
use Rattle.std.proofs.lemmas.List.Elements.{All-nil}
use Rattle.std.proofs.lemmas.Option.{slice_get_within}
use Rattle.lrc_program.specs.declared.Program.{Program}
use Rattle.lrc_trace.proofs.Positions.{Does-within}
use Rattle.lrc_time.specs.Time.{zeros}
use Rattle.lrc_page.specs.Page.{words_of, zero_page}
use Rattle.lrc_page.specs.Place.{pages_of}
use Rattle.lrc_store.specs.Store.{StoredRecord}
use Rattle.lrc_copies.proofs.Members.{none_Contains}
use Rattle.lrc_protocol.specs.Pages.{Copy, valid, absent, changes_of, copy_at}
use Rattle.lrc_protocol.specs.Node.{Node, OptionsRecord, fresh_node}
use Rattle.lrc_protocol.specs.Run.{Logged, World, fresh_world}
use Rattle.lrc_protocol.specs.Follows.{pending}
use Rattle.lrc_protocol.proofs.Worlds.{fresh_at}
use Rattle.lrc_node_laws.proofs.Always.{slice_index_or-replicate}
use Rattle.lrc_reading_laws.proofs.Closed.History.{History, by_history}
use Rattle.lrc_exact.specs.Rule.{Shape, exact_rule, state_at_start}
use Rattle.lrc_exact.proofs.LocalRules.{keeps-none}
use Rattle.lrc_exact_made.specs.Copies.{shape_of, HasWord, HasExact}
use Rattle.lrc_exact_pages.specs.Pages.{HasPage}
use Rattle.lrc_exact_turns.proofs.Stands.{NeedIsLeft, StandsAt, left_at}
use Rattle.lrc_exact_worlds.proofs.Exact.{AreExactOf}
use Rattle.lrc_exact_worlds.proofs.Worlds.{stays_exact}

module _ (program : Program) (nodes : ℕ) (options : OptionsRecord) where
  abbrev shape : Shape
  shape = shape_of nodes options.size options.collect

  zeros-index : (k offset : ℕ) → slice_index (replicate k 0) offset ≡ 0
  zeros-index zero offset = refl
  zeros-index (suc k) zero = refl
  zeros-index (suc k) (suc offset) = zeros-index k offset

  zero_word : (offset : ℕ) → slice_index (zero_page options.size) offset ≡ 0
  unfolding zero_page
  zero_word offset = zeros-index (words_of options.size) offset

  fresh_word : (time : List ℕ) (page offset : ℕ) (copy : Copy) → (copy ≡ valid (zero_page options.size)) ⊎ (copy ≡ absent)
      → HasWord [] time page offset copy (record { value = 0; mark = None }) None
  fresh_word time page offset copy (inl is) =
      subst (λ copy. HasWord [] time page offset copy (record { value = 0; mark = None }) None) (sym is)
      (ap (λ v. record { value = v; mark = None }) (sym (zero_word offset)), refl)
  fresh_word time page offset copy (inr is) =
      subst (λ copy. HasWord [] time page offset copy (record { value = 0; mark = None }) None) (sym is) refl

  fresh_written : (copy : Copy) → (copy ≡ valid (zero_page options.size)) ⊎ (copy ≡ absent) → false ≡ is_some (changes_of copy)
  fresh_written copy (inl is) = sym (ap (λ copy. is_some (changes_of copy)) is)
  fresh_written copy (inr is) = sym (ap (λ copy. is_some (changes_of copy)) is)

  fresh-exact-node : (me : ℕ) → let node : Node = fresh_node program nodes options me in
      HasExact options.size [] node.locks.time node.memory (state_at_start nodes)
  fresh-exact-node me =
      let node : Node = fresh_node program nodes options me in
      record {
        time_is = refl;
        copies = λ page offset lt.
            fresh_word node.locks.time page offset (copy_at node.memory page)
            (slice_index_or-replicate (pages_of program.words options.size) (valid (zero_page options.size)) page);
        written = λ page.
            fresh_written (copy_at node.memory page)
            (slice_index_or-replicate (pages_of program.words options.size) (valid (zero_page options.size)) page);
        knows = record { each = λ y c known. absurd (none_Contains y c) };
      }

  no_base_at : (k page : ℕ) (values : List ℕ) → slice_index_or (replicate k None) page None ≡ Some values → ⊥
  no_base_at zero page values e = cc
  no_base_at (suc k) zero values e = cc
  no_base_at (suc k) (suc page) values e = no_base_at k page values e

  -- no page is stale, and no copy was dropped
  fresh_page : (k page : ℕ) → page < k
      → HasPage options.size [] (λ offset. 0) (zeros nodes) (zeros nodes) page (slice_index_or (replicate k (valid (zero_page options.size))) page absent)
      (state_at_start nodes)
  fresh_page zero page lt = absurd (omega arith)
  fresh_page (suc k) zero lt = refl
  fresh_page (suc k) (suc page) lt = at_copy (fresh_valid k page (omega arith))
    where
      fresh_valid : (k page : ℕ) → page < k → slice_index_or (replicate k (valid (zero_page options.size))) page absent ≡ valid (zero_page options.size)
      fresh_valid zero page lt = absurd (omega arith)
      fresh_valid (suc k) zero lt = refl
      fresh_valid (suc k) (suc page) lt = fresh_valid k page (omega arith)

      at_copy : slice_index_or (replicate k (valid (zero_page options.size))) page absent ≡ valid (zero_page options.size)
          → HasPage options.size [] (λ offset. 0) (zeros nodes) (zeros nodes) (suc page)
          (slice_index_or (replicate k (valid (zero_page options.size))) page absent) (state_at_start nodes)
      at_copy e =
          subst (λ copy. HasPage options.size [] (λ offset. 0) (zeros nodes) (zeros nodes) (suc page) copy (state_at_start nodes)) (sym e) refl

  fresh-stands : (me : ℕ) → let node : Node = fresh_node program nodes options me in
      StandsAt options.size nodes options.collect [] [] [] 0 me node.locks.time node.mail.wait node.memory (state_at_start nodes)
  fresh-stands me =
      let node : Node = fresh_node program nodes options me in
      let many : ℕ = pages_of program.words options.size in
      record {
        pages = record {
          exact = fresh-exact-node me;
          dropped_is = refl;
          pages = λ page lt.
              fresh_page many page (subst (λ k. page < k) (length-replicate many (valid (zero_page options.size))) lt);
        };
        bases = λ page values e. absurd (no_base_at many page values e);
        needs = All-nil (NeedIsLeft options.size (left_at shape [] [] 0));
        own = tt;
      }

  fresh-stands_of : (k me : ℕ) → let node : Node = fresh_node program nodes options k in
      StandsAt options.size nodes options.collect [] [] [] 0 me node.locks.time node.mail.wait node.memory (state_at_start nodes)
  fresh-stands_of k me = let f = fresh-stands k in record { pages = f.pages; bases = f.bases; needs = f.needs; own = f.own }

  fresh-exact : AreExactOf nodes options [] (fresh_world program nodes options).nodes (pending (fresh_world program nodes options)) []
  fresh-exact = record {
    states = [];
    keeps = keeps-none (exact_rule shape) nodes;
    reads = λ j node word value does. let lt = Does-within does in absurd (omega arith);
    holds = λ j s is. let lt = slice_get_within [] j s is in absurd (omega arith);
    dropped = λ n l is. refl;
    stands = λ n l is.
        subst
        (λ (x : Logged). StandsAt options.size nodes options.collect [] [] [] 0 n x.node.locks.time x.node.mail.wait x.node.memory (state_at_start nodes))
        (sym (fresh_at program nodes options 0 nodes n l is)) (fresh-stands_of (0 + n) n);
    sent = λ e m l there says at. absurd (none_Contains e there);
  }

  pub all_exact : (world : World) (made : List StoredRecord) → History program nodes options world made
      → AreExactOf nodes options made world.nodes (pending world) world.acts
  all_exact world made hist =
      by_history program nodes options (λ world made. AreExactOf nodes options made world.nodes (pending world) world.acts) fresh-exact (stays_exact program nodes options) world made hist
