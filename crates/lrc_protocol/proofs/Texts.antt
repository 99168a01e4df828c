-- Acts that follow the text.
use Rattle.std.proofs.Common.{◌≡◌, ℕ, ◌<◌, List, [], ◌∷◌, ◌++◌, sym, subst, append-nil, append_assoc}
use Rattle.std.specs.Prelude.{Option, Some, slice_get}
use Rattle.std.proofs.lemmas.Option.{slice_get-get_or}
use Rattle.lrc_program.specs.declared.Program.{Program}
use Rattle.lrc_trace.specs.declared.act.Deed.{Deed}
use Rattle.lrc_exec.specs.Meaning.{Thread}
use Rattle.lrc_exec.specs.Plain.{setting_of, start_of}
use Rattle.lrc_exec.specs.Follows.{Makes, nothing_more, and_then, deeds_of, FollowsText}
use Rattle.lrc_protocol.specs.declared.event.Event.{Event}
use Rattle.lrc_protocol.specs.Node.{OptionsRecord, fresh_node}
use Rattle.lrc_protocol.specs.Follows.{thread_of}
use Rattle.lrc_protocol.specs.Run.{Logged, World, run_of}
use Rattle.lrc_protocol.specs.Follows.{MakesTo, no_more, one_more, inputs_of, turns_of}
use Rattle.lrc_protocol.proofs.Locally.{Proper, local-proper}
use Rattle.lrc_protocol.proofs.Worlds.{Follows, Whole, run-whole}

-- deeds that lead to a thread, and those that it makes from there
makes_on : (start : Option Thread) (ds : List Deed) (last : Option Thread) → MakesTo start ds last → (more : List Deed) → Makes last more
    → Makes start (ds ++ more)
makes_on start [] last no_more more m = m
makes_on start ds last (one_more {deeds = deeds} {deed = deed} so_far g) more m =
    subst (Makes start) (sym (append_assoc deeds (deed ∷ []) more)) (makes_on start deeds _ so_far (deed ∷ more) (and_then g m))

makes_all : (start : Option Thread) (ds : List Deed) (last : Option Thread) → MakesTo start ds last → Makes start ds
makes_all start ds last m = subst (Makes start) (append-nil ds) (makes_on start ds last m [] nothing_more)

module _ (program : Program) (nodes : ℕ) (options : OptionsRecord) (events : List Event) (world : World)
    (e : run_of program nodes options events ≡ Some world) where
  whole : Whole program nodes options world
  whole = run-whole program nodes options events world e

  pub follows_at : (n : ℕ) (l : Logged) → slice_get world.nodes n ≡ Some l → Follows program nodes options world.acts n l
  follows_at n l at = whole.each n l at

  pub proper_at : (n : ℕ) (l : Logged) → slice_get world.nodes n ≡ Some l
      → Proper (setting_of program nodes n) options (Some (start_of program nodes n)) (record { node = l.node; turns = turns_of l.log })
  proper_at n l at = local-proper program nodes options n (inputs_of l.log) _ (follows_at n l at).replayed

  pub threads : (n : ℕ) (l : Logged) → slice_get world.nodes n ≡ Some l
      → MakesTo (Some (start_of program nodes n)) (deeds_of n world.acts) (thread_of l.node.course)
  threads n l at =
      subst (λ ds. MakesTo (Some (start_of program nodes n)) ds (thread_of l.node.course)) (sym (follows_at n l at).deeds) (proper_at n l at).makes

  node_there : (n : ℕ) → n < nodes → (l : Logged) × (slice_get world.nodes n ≡ Some l)
  node_there n lt = (
    _,
    slice_get-get_or world.nodes n (record { node = fresh_node program nodes options n; log = [] }) (subst (λ k. n < k) (sym whole.count) lt),
  )

  pub text : FollowsText program nodes world.acts
  text = record {
    in_range = whole.in_range;
    each = λ n lt. let l : (l : Logged) × (slice_get world.nodes n ≡ Some l) = node_there n lt in makes_all _ _ _ (threads n l.0 l.1);
  }
