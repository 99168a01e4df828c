-- The nodes of a run with their logs and traces.
use Rattle.std.proofs.Common.{◌≡◌, ◌∙◌, ℕ, zero, suc, ◌+◌, arith, List, [], ◌∷◌, Some, refl, sym, ap, subst, map, ⊎_elim, ◌≢◌}
use Rattle.std.proofs.lemmas.Bool.{cases_eq}
use Rattle.std.proofs.lemmas.Option.{same_Some}
use Rattle.std.specs.Prelude.{slice_get, slice_set, option_map}
use Rattle.std.specs.List.{enumerate_from, range_with_len}
use Rattle.lrc_protocol.specs.Follows.{inputs_of}
use Rattle.lrc_protocol.specs.Node.{Node}
use Rattle.lrc_protocol.specs.Run.{Input, EntryRecord, Logged}
use Rattle.lrc_protocol.specs.Traced.{Traced, traced, trace_of, with_act}
use Rattle.lrc_protocol.proofs.Traces.{traced_entry}
use Rattle.lrc_protocol.proofs.Worlds.{IsEntry, get_set_same, get_set_other}
use Rattle.lrc_node.specs.Logged.{TracedLog, sound}
use Rattle.lrc_world.specs.declared.keep.Keep.{Keep}
use Rattle.lrc_world.specs.declared.keep.Keep.TheVariants.{All, Newest, Turns}
use Rattle.lrc_world.specs.World.{Starts, kept_node, after_turn, cut, kept_log, trimmed}
use Rattle.lrc_world.proofs.Cutting.{kept-push}

-- a node with no turns
abbrev pub unlogged : Node → Logged
unlogged node = record { node = node; log = [] }

module _ (starts : Starts) where
  kept_logged : (i : ℕ) (nodes : List Logged) → map (λ (t : TracedLog). t.logged) (map (kept_node starts) (enumerate_from i nodes))
      ≡ map sound (map (cut starts.keep) nodes)
  kept_logged i [] = refl
  kept_logged i (l ∷ nodes) = ap (λ more. sound (cut starts.keep l) ∷ more) (kept_logged (i + 1) nodes)

  -- without their traces
  pub all_logged : (items : List TracedLog) (nodes : List Logged) → items ≡ map (kept_node starts) (enumerate_from 0 nodes)
      → map (λ (t : TracedLog). t.logged) items ≡ map sound (map (cut starts.keep) nodes)
  all_logged items nodes e = ap (map (λ (t : TracedLog). t.logged)) e ∙ kept_logged 0 nodes

  get_from : (i : ℕ) (nodes : List Logged) (n : ℕ)
      → slice_get (map (kept_node starts) (enumerate_from i nodes)) n ≡ option_map (λ l. kept_node starts (i + n, l)) (slice_get nodes n)
  get_from i [] n = refl
  get_from i (l ∷ nodes) zero = let same : i ≡ i + 0 = omega arith in ap (λ k. Some (kept_node starts (k, l))) same
  get_from i (l ∷ nodes) (suc n) =
      let same : i + 1 + n ≡ i + suc n = omega arith in
      get_from (i + 1) nodes n ∙ ap (λ k. option_map (λ l. kept_node starts (k, l)) (slice_get nodes n)) same

  -- the node at a place
  pub kept_get : (nodes : List Logged) (n : ℕ) (l : Logged) → slice_get nodes n ≡ Some l
      → slice_get (map (kept_node starts) (enumerate_from 0 nodes)) n ≡ Some (kept_node starts (n, l))
  kept_get nodes n l there =
      let same : 0 + n ≡ n = omega arith in
      get_from 0 nodes n
      ∙ ap (λ k. option_map (λ l. kept_node starts (k, l)) (slice_get nodes n)) same
      ∙ ap (option_map (λ l. kept_node starts (n, l))) there

  set_from : (i : ℕ) (nodes : List Logged) (n : ℕ) (l : Logged)
      → slice_set (map (kept_node starts) (enumerate_from i nodes)) n (kept_node starts (i + n, l)) ≡ map (kept_node starts) (enumerate_from i (slice_set nodes n l))
  set_from i [] n l = refl
  set_from i (x ∷ nodes) zero l =
      let same : i + 0 ≡ i = omega arith in
      ap (λ k. kept_node starts (k, l) ∷ map (kept_node starts) (enumerate_from (i + 1) nodes)) same
  set_from i (x ∷ nodes) (suc n) l =
      let same : i + suc n ≡ i + 1 + n = omega arith in
      ap (λ k. kept_node starts (i, x) ∷ slice_set (map (kept_node starts) (enumerate_from (i + 1) nodes)) n (kept_node starts (k, l))) same
      ∙ ap (λ more. kept_node starts (i, x) ∷ more) (set_from (i + 1) nodes n l)

  -- one node's turn
  module _ (nodes : List Logged) (n : ℕ) (l after : Logged) (input : Input) (entry : EntryRecord) (there : slice_get nodes n ≡ Some l)
      (i : IsEntry l input entry after)
      (replayed : (n : ℕ) (l : Logged) → slice_get nodes n ≡ Some l → (traced (starts.start n) (inputs_of l.log)).node ≡ l.node) where
    turned_so : traced (starts.start n) (inputs_of after.log)
        ≡ record { node = after.node; trace = with_act after.node entry.turn.act (trace_of (starts.start n) l.log) }
    turned_so = traced_entry (starts.start n) l after input entry i (replayed n l there)

    pub kept_after : (before : TracedLog) → slice_get (map (kept_node starts) (enumerate_from 0 nodes)) n ≡ Some before
        → trimmed starts.keep (after_turn entry after before) ≡ kept_node starts (n, after)
    kept_after before stood =
        let same : before ≡ kept_node starts (n, l) = same_Some before (kept_node starts (n, l)) (sym stood ∙ kept_get nodes n l there) in
        ap (λ b. trimmed starts.keep (after_turn entry after b)) same
        ∙ ap
        (λ (log : List EntryRecord).
        let k : TracedLog = record {
          logged = record { node = Some after.node; log = log };
          trace = with_act after.node entry.turn.act (trace_of (starts.start n) l.log);
        } in k)
        (kept-push starts.keep l.log entry ∙ ap (kept_log starts.keep) (sym i.log_is))
        ∙ ap (λ (t : Traced). let k : TracedLog = record { logged = sound (cut starts.keep after); trace = t.trace } in k) (sym turned_so)

    pub kept_set : slice_set (map (kept_node starts) (enumerate_from 0 nodes)) n (kept_node starts (n, after))
        ≡ map (kept_node starts) (enumerate_from 0 (slice_set nodes n after))
    kept_set =
        let same : n ≡ 0 + n = omega arith in
        ap (λ k. slice_set (map (kept_node starts) (enumerate_from 0 nodes)) n (kept_node starts (k, after))) same ∙ set_from 0 nodes n after

    pub replayed_after : (m : ℕ) (k : Logged) → slice_get (slice_set nodes n after) m ≡ Some k → (traced (starts.start m) (inputs_of k.log)).node ≡ k.node
    replayed_after m k at =
        ⊎_elim
        (λ (here : n ≡ m).
        let same : after ≡ k =
        same_Some after k (sym (get_set_same nodes n l after there) ∙ ap (slice_get (slice_set nodes n after)) here ∙ at) in
        ap (λ (x : Logged). (traced (starts.start m) (inputs_of x.log)).node) (sym same)
        ∙ ap (λ j. (traced (starts.start j) (inputs_of after.log)).node) (sym here)
        ∙ ap (λ (t : Traced). t.node) turned_so
        ∙ ap (λ (x : Logged). x.node) same)
        (λ (apart : n ≢ m). replayed m k (sym (get_set_other nodes n m after apart) ∙ at))
        (cases_eq n m)

  -- ---- at the start

  -- a node with no turns is kept whole
  abbrev pub fresh_kept : ℕ → TracedLog
  fresh_kept me = record { logged = sound (unlogged (starts.start me)); trace = trace_of (starts.start me) [] }

  fresh_log : (keep : Keep) → [] ≡ kept_log keep []
  fresh_log All = refl
  fresh_log Turns = refl
  fresh_log Newest = refl

  fresh_whole : (me : ℕ) → fresh_kept me ≡ kept_node starts (me, unlogged (starts.start me))
  fresh_whole me =
      ap
      (λ (log : List EntryRecord).
      let k : TracedLog = record {
        logged = record { node = Some (starts.start me); log = log };
        trace = trace_of (starts.start me) [];
      } in k)
      (fresh_log starts.keep)

  fresh_from : (i k : ℕ) → map fresh_kept (range_with_len i k)
      ≡ map (kept_node starts) (enumerate_from i (map unlogged (map starts.start (range_with_len i k))))
  fresh_from i zero = refl
  fresh_from i (suc k) =
      ap (λ one. one ∷ map fresh_kept (range_with_len (i + 1) k)) (fresh_whole i)
      ∙ ap (λ more. kept_node starts (i, unlogged (starts.start i)) ∷ more) (fresh_from (i + 1) k)

  pub all_fresh : (nodes : ℕ) → map fresh_kept (range_with_len 0 nodes)
      ≡ map (kept_node starts) (enumerate_from 0 (map unlogged (map starts.start (range_with_len 0 nodes))))
  all_fresh nodes = fresh_from 0 nodes

  fresh_at : (i k n : ℕ) (l : Logged) → slice_get (map unlogged (map starts.start (range_with_len i k))) n ≡ Some l
      → unlogged (starts.start (i + n)) ≡ l
  fresh_at i zero n l e = cc
  fresh_at i (suc k) zero l e =
      let same : i + 0 ≡ i = omega arith in ap (λ j. unlogged (starts.start j)) same ∙ same_Some (unlogged (starts.start i)) l e
  fresh_at i (suc k) (suc n) l e =
      let same : i + suc n ≡ i + 1 + n = omega arith in ap (λ j. unlogged (starts.start j)) same ∙ fresh_at (i + 1) k n l e

  pub fresh_replayed : (nodes n : ℕ) (l : Logged) → slice_get (map unlogged (map starts.start (range_with_len 0 nodes))) n ≡ Some l
      → (traced (starts.start n) (inputs_of l.log)).node ≡ l.node
  fresh_replayed nodes n l e =
      let same : n ≡ 0 + n = omega arith in
      subst (λ (x : Logged). (traced (starts.start n) (inputs_of x.log)).node ≡ x.node) (ap (λ j. unlogged (starts.start j)) same ∙ fresh_at 0 nodes n l e) refl
