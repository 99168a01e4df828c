-- In every run each node's time is that of its last act, but for what it waits for.
use Rattle.std.proofs.Common.{◌≡◌, ℕ, List, [], ◌++◌, length, map, refl, sym, ap, subst, ◌∙◌, inl, inr, arith}
use Rattle.std.specs.Prelude.{Option, Some, None, slice_get, slice_set, option_map}
use Rattle.std.specs.Option.{option_to_list}
use Rattle.std.proofs.lemmas.Bool.{cases_eq}
use Rattle.std.proofs.lemmas.Option.{same_Some}
use Rattle.lrc_program.specs.declared.Program.{Program}
use Rattle.lrc_trace.specs.declared.act.Act.{Act}
use Rattle.lrc_trace.specs.declared.act.Deed.{Deed}
use Rattle.lrc_trace.specs.Run.{act_of}
use Rattle.lrc_clock.specs.Times.{time_before}
use Rattle.lrc_exec.specs.Meaning.{Setting}
use Rattle.lrc_exec.specs.Plain.{setting_of, start_of}
use Rattle.lrc_protocol.specs.declared.event.Event.{Event}
use Rattle.lrc_protocol.specs.Node.{Node, OptionsRecord, fresh_node}
use Rattle.lrc_protocol.specs.Turn.{TurnRecord}
use Rattle.lrc_protocol.specs.Run.{EntryRecord, Logged, World, Flying, fresh_world, with_turn, run_of}
use Rattle.lrc_protocol.proofs.Worlds.{get_set_same, get_set_other, fresh_at}
use Rattle.lrc_protocol.proofs.Turned.{Turned, Turns, turns}
use Rattle.lrc_protocol.proofs.Times.{IsTimed, timed-kept}
use Rattle.lrc_protocol.proofs.Induction.{KeptByTurns, by_turns}
use Rattle.lrc_order_laws.specs.Waiting.{FixesNext}
use Rattle.lrc_protocol.specs.Node.{next_in}
use Rattle.lrc_order_laws.specs.Present.{IsPresent}
use Rattle.lrc_order_laws.proofs.Shift.{part_of, Shifted, ShiftedIf, shifts, deed_made}
use Rattle.lrc_order_laws.proofs.Waiting.{fits-kept, departs_arrived}
use Rattle.lrc_order_laws.proofs.Present.{more_acts, more_times, last_after, last_own, last_other, present-kept}

-- the time at a node's last act so far
abbrev last_in : ℕ → List Act → List (List ℕ) → ℕ → List ℕ
last_in nodes acts times n = time_before nodes acts times n (length acts)

-- of a node of this setting
pub record AtPresent (s : Setting) (acts : List Act) (times : List (List ℕ)) (node : Node) : Type 0 where
  pub setting : node.setting ≡ s
  pub fits : FixesNext node.mail.wait (next_in node.course)
  pub present : IsPresent s.me node.mail.wait (last_in s.nodes acts times s.me) node.locks.time

module _ (program : Program) (nodes : ℕ) (options : OptionsRecord) where
  pub record AllPresent (world : World) : Type 0 where
    pub timed : IsTimed world
    pub each : (n : ℕ) (l : Logged) → slice_get world.nodes n ≡ Some l → AtPresent (setting_of program nodes n) world.acts world.times l.node

  -- the node itself, after its turn
  here : (world : World) (n : ℕ) (node after : Node) (turn : TurnRecord) (deed : Option Deed) → IsTimed world → Turned node turn after
      → Shifted node turn after → turn.act ≡ option_map (act_of n) deed → deed_made turn ≡ deed
      → AtPresent (setting_of program nodes n) world.acts world.times node
      → AtPresent (setting_of program nodes n) (world.acts ++ more_acts n deed) (world.times ++ more_times n after.locks.time deed) after
  here world n node after turn deed timed t sh act_is deed_is h =
      let s : Setting = setting_of program nodes n in
      let present : IsPresent node.setting.me node.mail.wait (last_in nodes world.acts world.times n) node.locks.time =
      subst (λ (x : Setting). IsPresent x.me node.mail.wait (last_in nodes world.acts world.times n) node.locks.time) (sym h.setting) h.present in
      let kept : IsPresent node.setting.me after.mail.wait
      (last_after (deed_made turn) (last_in nodes world.acts world.times n) after.locks.time) after.locks.time =
      present-kept (part_of node) h.fits (last_in nodes world.acts world.times n) present
      sh.acts after.mail.wait after.locks after.barrier.episode (deed_made turn) after.course sh.shift sh.moved in
      record {
        setting = t.setting ∙ h.setting;
        fits = fits-kept (part_of node) sh.acts after.mail.wait after.locks after.barrier.episode (deed_made turn) after.course sh.shift sh.moved h.fits;
        present =
            subst (λ last. IsPresent n after.mail.wait last after.locks.time)
            (ap (λ deed. last_after deed (last_in nodes world.acts world.times n) after.locks.time) deed_is
            ∙ sym (last_own nodes world.acts world.times timed n after.locks.time deed))
            (subst (λ (x : Setting). IsPresent x.me after.mail.wait
            (last_after (deed_made turn) (last_in nodes world.acts world.times n) after.locks.time) after.locks.time) h.setting kept);
      }

  -- another node
  there : (world : World) (n m : ℕ) (time : List ℕ) (deed : Option Deed) (node : Node) → IsTimed world → (n ≡ m → ⊥)
      → AtPresent (setting_of program nodes m) world.acts world.times node
      → AtPresent (setting_of program nodes m) (world.acts ++ more_acts n deed) (world.times ++ more_times n time deed) node
  there world n m time deed node timed ne h = record {
    setting = h.setting;
    fits = h.fits;
    present =
        subst (λ last. IsPresent m node.mail.wait last node.locks.time)
        (sym (last_other nodes world.acts world.times timed n time m ne deed)) h.present;
  }

  pub deed_back : (me : ℕ) (deed : Option Deed) → option_map (λ (act : Act). act.deed) (option_map (act_of me) deed) ≡ deed
  deed_back me None = refl
  deed_back me (Some d) = refl

  -- the acts and times after a turn, by its act
  by_act : (world : World) (flight : List Flying) (n : ℕ) (entry : EntryRecord) (after : Logged) (deed : Option Deed)
      → entry.turn.act ≡ option_map (act_of n) deed → (m : ℕ) (node : Node)
      → AtPresent (setting_of program nodes m) (world.acts ++ more_acts n deed) (world.times ++ more_times n after.node.locks.time deed) node
      → AtPresent (setting_of program nodes m) (with_turn world flight n entry after).acts (with_turn world flight n entry after).times node
  by_act world flight n entry after deed e m node h =
      subst (λ act. AtPresent (setting_of program nodes m) (world.acts ++ option_to_list act)
      (world.times ++ map (λ (a : Act). after.node.locks.time) (option_to_list act)) node)
      (sym e) h

  pub all-kept : KeptByTurns AllPresent
  all-kept world flight n l after input entry at comes i h =
      let t : Turned l.node entry.turn after.node = subst (Turns l.node) i.turn_is (turns l.node input) in
      let sh : Shifted l.node entry.turn after.node = subst (ShiftedIf l.node) i.turn_is (shifts l.node input) in
      let own : AtPresent (setting_of program nodes n) world.acts world.times l.node = h.each n l at in
      let act_is : entry.turn.act ≡ option_map (act_of n) t.deed = t.act ∙ ap (λ (s : Setting). option_map (act_of s.me) t.deed) own.setting in
      let deed_is : deed_made entry.turn ≡ t.deed = ap (option_map (λ (act : Act). act.deed)) act_is ∙ deed_back n t.deed in
      record {
        timed = timed-kept world flight n l after input entry at comes i h.timed;
        each = λ m lm is. elim (cases_eq n m) [
          | inl e ↦
              let same : after ≡ lm = same_Some after lm
              (sym (get_set_same world.nodes n l after at) ∙ ap (slice_get (slice_set world.nodes n after)) e ∙ is) in
              subst (λ k. AtPresent (setting_of program nodes k) (with_turn world flight n entry after).acts
              (with_turn world flight n entry after).times lm.node) e
              (subst (λ (x : Logged). AtPresent (setting_of program nodes n) (with_turn world flight n entry after).acts
              (with_turn world flight n entry after).times x.node) same
              (by_act world flight n entry after t.deed act_is n after.node (here world n l.node after.node entry.turn t.deed h.timed t sh act_is deed_is own)))
          | inr ne ↦
              by_act world flight n entry after t.deed act_is m lm.node
              (there world n m after.node.locks.time t.deed lm.node h.timed ne (h.each m lm (sym (get_set_other world.nodes n m after ne) ∙ is)))
        ];
      }

  fresh-present : (n : ℕ) → AtPresent (setting_of program nodes n) [] [] (fresh_node program nodes options n)
  fresh-present n = record { setting = refl; fits = departs_arrived (start_of program nodes n); present = refl }

  pub all-fresh : AllPresent (fresh_world program nodes options)
  all-fresh = record {
    timed = refl;
    each = λ n l is.
        subst (λ (x : Logged). AtPresent (setting_of program nodes n) [] [] x.node)
        (sym (fresh_at program nodes options 0 nodes n l is ∙ ap (λ m. record { node = fresh_node program nodes options m; log = [] }) (omega arith)))
        (fresh-present n);
  }

  pub all_present : (events : List Event) (world : World) → run_of program nodes options events ≡ Some world → AllPresent world
  all_present events world e = by_turns AllPresent all-kept program nodes options events world all-fresh e
