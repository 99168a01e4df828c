-- The turn that a node did not finish, as the code finds it.
use Rattle.std.proofs.Common.{◌≡◌, ◌∙◌, ℕ, List, None, Some, refl, ap, map}
use Rattle.std.specs.Prelude.{Option, option_map, slice_get}
use Rattle.std.proofs.lemmas.Option.{slice_get-map}
use Rattle.lrc_post.specs.Mailbox.{MailboxRecord}
use Rattle.lrc_protocol.specs.Run.{EntryRecord}
use Rattle.lrc_run.specs.Unfinished.{input_behind, input_of, next_taken, unfinished}

none_behind : (log : Option (List EntryRecord)) → input_behind log None ≡ None
none_behind None = refl
none_behind (Some log) = refl

module _ {A : Type 0} (seen : A → List EntryRecord) (logs : List A) (wires : List MailboxRecord) (node : ℕ) where
  -- the node has no mailbox
  pub no_mailbox : slice_get wires node ≡ None → unfinished (map seen logs) wires node ≡ None
  no_mailbox none = ap (input_behind (slice_get (map seen logs) node)) none ∙ none_behind (slice_get (map seen logs) node)

  -- the node has no log
  pub no_log : slice_get logs node ≡ None → unfinished (map seen logs) wires node ≡ None
  no_log none = ap (λ log. input_behind log (slice_get wires node)) (slice_get-map seen logs node ∙ ap (option_map seen) none)

  -- it has both
  pub one_behind : (mailbox : MailboxRecord) (log : A) → slice_get wires node ≡ Some mailbox → slice_get logs node ≡ Some log
      → unfinished (map seen logs) wires node ≡ Some (input_of (next_taken (seen log) mailbox.history))
  one_behind mailbox log there at =
      ap (input_behind (slice_get (map seen logs) node)) there
      ∙ ap (λ log. input_behind log (Some mailbox)) (slice_get-map seen logs node ∙ ap (option_map seen) at)
