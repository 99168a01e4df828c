-- How the nodes of a run ended: their texts and their last acts agree.
use Rattle.std.proofs.Common.{◌≡◌, ◌∙◌, ℕ, ◌+◌, ◌<◌, List, [], ◌++◌, Bool, true, false, inl, inr, length, map}
use Rattle.std.proofs.Common.{refl, sym, ap, subst, arith, append-nil, get_or, zero-add}
use Rattle.std.specs.Prelude.{Option, Some, None, option_map, slice_get, slice_set}
use Rattle.std.specs.List.{range_with_len}
use Rattle.std.specs.Option.{option_to_list}
use Rattle.std.proofs.lemmas.Bool.{cases_eq}
use Rattle.std.proofs.lemmas.List.{same_lists, length-map, get_or-map}
use Rattle.std.proofs.lemmas.List.FromFn.{length-range_with_len, get_or-range_with_len}
use Rattle.std.proofs.lemmas.Option.{same_Some, slice_get-get_or}
use Rattle.lrc_program.specs.declared.Program.{Program}
use Rattle.lrc_trace.specs.declared.act.Act.{Act}
use Rattle.lrc_trace.specs.declared.act.Deed.{Deed}
use Rattle.lrc_trace.specs.Run.{act_of}
use Rattle.lrc_exec.specs.Meaning.{Setting, Next, quiet, prints, reads, writes, acquires, releases, arrives, departs, traps, ends, next_of}
use Rattle.lrc_protocol.specs.declared.event.Event.{Event}
use Rattle.lrc_protocol.specs.Node.{Course, going, trapped, ended, deed_of, course_of, OptionsRecord, fresh_node}
use Rattle.lrc_protocol.specs.Run.{Input, EntryRecord, Logged, World as Run, Flying, fresh_world, with_turn, run_of}
use Rattle.lrc_protocol.proofs.Induction.{by_turns}
use Rattle.lrc_protocol.proofs.Turned.{Turned, Turns, turns}
use Rattle.lrc_protocol.proofs.Worlds.{IsEntry, fresh_at, get_set_same, get_set_other, run-whole}
use Rattle.lrc_order_laws.proofs.Shift.{Moved, Shifted, ShiftedIf, course_in, deed_back, deed_in, deed_made, shifts}
use Rattle.lrc_trace.specs.declared.end.End.{End}
use Rattle.lrc_control.specs.Text.{end_of as end_of_text}
use Rattle.lrc_node.specs.Logged.{end_after}
use Rattle.lrc_world.specs.Ends.{end_by_acts, ends_of}
use Rattle.lrc_world.specs.Report.{end_of_logged}
use Rattle.lrc_world.proofs.EndsLemmas.{end_of-own, end_of-other}

-- a text that made a deed ended as the deed says
end_next : (value : ℕ) (next : Next) → end_of_text (course_of value next) ≡ end_after (deed_of value next)
end_next value (quiet t) = refl
end_next value (prints v t) = refl
end_next value (reads w t) = refl
end_next value (writes w v t) = refl
end_next value (acquires l t) = refl
end_next value (releases l t) = refl
end_next value (arrives t) = refl
end_next value (departs t) = refl
end_next value (traps c) = refl
end_next value ends = refl

-- how a text ended after a turn: as its deed says, or as before
abbrev end_or : Option Deed → End → End
end_or None before = before
end_or (Some deed) before = end_after deed

end_in : (value : ℕ) (c : Course) → end_of_text (course_in value c) ≡ end_or (deed_in value c) (end_of_text c)
end_in value (going t) = end_next value (next_of t)
end_in value (trapped cause) = refl
end_in value ended = refl

end_moved : (acts : Bool) (before after : Course) (deed : Option Deed) → Moved acts before deed after
    → end_of_text after ≡ end_or deed (end_of_text before)
end_moved true before after deed m =
    ap end_of_text m.course_is ∙ end_in m.value before ∙ ap (λ d. end_or d (end_of_text before)) (sym m.deed_is)
end_moved false before after deed m = ap end_of_text m.course_is ∙ ap (λ d. end_or d (end_of_text before)) (sym m.deed_is)

-- the same, by the acts
acts_moved : (n : ℕ) (acts : List Act) (deed : Option Deed)
    → end_by_acts n (acts ++ option_to_list (option_map (act_of n) deed)) ≡ end_or deed (end_by_acts n acts)
acts_moved n acts None = ap (end_by_acts n) (append-nil acts)
acts_moved n acts (Some d) = end_of-own acts (act_of n d)

acts_apart : (n m : ℕ) (acts : List Act) (deed : Option Deed) → (n ≡ m → ⊥)
    → end_by_acts m (acts ++ option_to_list (option_map (act_of n) deed)) ≡ end_by_acts m acts
acts_apart n m acts None apart = ap (end_by_acts m) (append-nil acts)
acts_apart n m acts (Some d) apart = end_of-other acts (act_of n d) m (λ e. apart (sym e))

-- a node of a run knows its number, and its text ended as its last act says
record Ends (acts : List Act) (n : ℕ) (l : Logged) : Type 0 where
  me : l.node.setting.me ≡ n
  agree : end_of_text l.node.course ≡ end_by_acts n acts

abbrev AllEnd : Run → Type 0
AllEnd world = (n : ℕ) (l : Logged) → slice_get world.nodes n ≡ Some l → Ends world.acts n l

module _ (world : Run) (flight : List Flying) (n : ℕ) (l after : Logged) (input : Input) (entry : EntryRecord)
    (at : slice_get world.nodes n ≡ Some l) (i : IsEntry l input entry after) (all : AllEnd world) where
  turned : Turned l.node entry.turn after.node
  turned = subst (Turns l.node) i.turn_is (turns l.node input)

  shifted : Shifted l.node entry.turn after.node
  shifted = subst (ShiftedIf l.node) i.turn_is (shifts l.node input)

  act_is : entry.turn.act ≡ option_map (act_of n) turned.deed
  act_is = turned.act ∙ ap (λ me. option_map (act_of me) turned.deed) (all n l at).me

  deed_is : deed_made entry.turn ≡ turned.deed
  deed_is = ap (option_map (λ (act : Act). act.deed)) act_is ∙ deed_back n turned.deed

  own : Ends (world.acts ++ option_to_list entry.turn.act) n after
  own = record {
    me = ap (λ (s : Setting). s.me) turned.setting ∙ (all n l at).me;
    agree = end_moved shifted.acts l.node.course after.node.course (deed_made entry.turn) shifted.moved
        ∙ ap (λ d. end_or d (end_of_text l.node.course)) deed_is
        ∙ ap (end_or turned.deed) (all n l at).agree
        ∙ sym (acts_moved n world.acts turned.deed)
        ∙ ap (λ act. end_by_acts n (world.acts ++ option_to_list act)) (sym act_is);
  }

  other : (m : ℕ) (k : Logged) → (n ≡ m → ⊥) → slice_get world.nodes m ≡ Some k → Ends (world.acts ++ option_to_list entry.turn.act) m k
  other m k apart there = record {
    me = (all m k there).me;
    agree = (all m k there).agree ∙ sym (acts_apart n m world.acts turned.deed apart)
        ∙ ap (λ act. end_by_acts m (world.acts ++ option_to_list act)) (sym act_is);
  }

  ends_more : AllEnd (with_turn world flight n entry after)
  ends_more m k there = elim (cases_eq n m) [
    | inl e ↦
        let same : after ≡ k =
        same_Some after k (sym (get_set_same world.nodes n l after at) ∙ ap (slice_get (slice_set world.nodes n after)) e ∙ there) in
        subst (λ j. Ends (world.acts ++ option_to_list entry.turn.act) j k) e
        (subst (Ends (world.acts ++ option_to_list entry.turn.act) n) same own)
    | inr apart ↦ other m k apart (sym (get_set_other world.nodes n m after apart) ∙ there)
  ]

module _ (program : Program) (nodes : ℕ) (options : OptionsRecord) where
  fresh_ends : AllEnd (fresh_world program nodes options)
  fresh_ends n l e =
      let same : 0 + n ≡ n = omega arith in
      subst (Ends [] n)
      (sym (fresh_at program nodes options 0 nodes n l e ∙ ap (λ m. record { node = fresh_node program nodes options m; log = [] }) same))
      (record { me = refl; agree = refl })

  ends_at : (events : List Event) (run : Run) → run_of program nodes options events ≡ Some run → AllEnd run
  ends_at events run runs =
      by_turns AllEnd (λ world flight n l after input entry at comes i all. ends_more world flight n l after input entry at i all)
      program nodes options events run fresh_ends runs

  -- the ends that a report names are those of its acts
  pub ends_of_acts : (events : List Event) (acts : List Act) (told : List End) (run : Run) → run_of program nodes options events ≡ Some run
      → acts ≡ run.acts → told ≡ map end_of_logged run.nodes → told ≡ ends_of nodes acts
  ends_of_acts events acts told run runs same told_is =
      let count : length run.nodes ≡ nodes = (run-whole program nodes options events run runs).count in
      let left : length (map end_of_logged run.nodes) ≡ nodes = length-map run.nodes end_of_logged ∙ count in
      let right : length (ends_of nodes run.acts) ≡ nodes =
      length-map (range_with_len 0 nodes) (λ node. end_by_acts node run.acts) ∙ length-range_with_len 0 nodes in
      told_is
      ∙ same_lists (map end_of_logged run.nodes) (ends_of nodes run.acts) (left ∙ sym right) (λ k d lt.
      let below : k < nodes = omega (arith, lt, left) in
      let l0 : Logged = record { node = fresh_node program nodes options k; log = [] } in
      let there = slice_get-get_or run.nodes k l0 (omega (arith, below, count)) in
      get_or-map end_of_logged run.nodes k l0 d (omega (arith, below, count))
      ∙ (ends_at events run runs k (get_or run.nodes k l0) there).agree
      ∙ sym (get_or-map (λ node. end_by_acts node run.acts) (range_with_len 0 nodes) k 0 d (omega (arith, length-range_with_len 0 nodes, below))
      ∙ ap (λ node. end_by_acts node run.acts) (get_or-range_with_len 0 nodes k 0 below ∙ zero-add k)))
      ∙ ap (ends_of nodes) (sym same)
