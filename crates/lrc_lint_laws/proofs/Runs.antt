-- Runs of the machine follow the text and read lazily, so what is warned of is so in them.
use Rattle.std.proofs.Common.{◌≡◌, ◌<◌, ℕ, List, subst}
use Rattle.std.specs.Prelude.{Some, take}
use Rattle.std.proofs.lemmas.List.Elements.{All-get_or}
use Rattle.std.proofs.lemmas.Option.{get_or_from_slice_get, slice_get_within}
use Rattle.lrc_program.specs.declared.Program.{Program}
use Rattle.lrc_lang.specs.Token.{Token}
use Rattle.lrc_trace.specs.declared.act.Act.{Act}
use Rattle.lrc_trace.specs.declared.act.Cause.{Cause}
use Rattle.lrc_trace.specs.declared.act.Deed.{Deed}
use Rattle.lrc_trace.specs.Reading.{ReadsLazily}
use Rattle.lrc_trace.specs.Run.{Does, act_of}
use Rattle.lrc_exec.specs.Follows.{FollowsText}
use Rattle.lrc_lines.specs.Walks.{Walk}
use Rattle.lrc_protocol.specs.declared.event.Event.{Event}
use Rattle.lrc_protocol.specs.Node.{OptionsRecord}
use Rattle.lrc_protocol.specs.Run.{World, run_of}
use Rattle.lrc_protocol.proofs.Texts.{text}
use Rattle.lrc_reading_laws.proofs.Whole.{reads}
use Rattle.lrc_lint_laws.specs.Comes.{TrapsAt}
use Rattle.lrc_lint_laws.specs.Loops.{GoesRound}
use Rattle.lrc_lint_laws.specs.Traps.{TrapsBehind}
use Rattle.lrc_lint_laws.specs.Trapping.{TrapsInRuns, TrapsInRunsBehind}

-- who makes an act that follows the text is one of the nodes
node_of : (program : Program) (nodes : ℕ) (acts : List Act) → FollowsText program nodes acts → (i node : ℕ) (d : Deed) → Does acts i node d → node < nodes
node_of program nodes acts follows i node d does =
    let there : Act = act_of node d in
    subst (λ (a : Act). a.node < nodes) (get_or_from_slice_get acts i there there does.stands)
    (All-get_or (λ (a : Act). a.node < nodes) acts i there (slice_get_within acts i there does.stands) follows.in_range)

module _ (program : Program) (nodes : ℕ) (options : OptionsRecord) (events : List Event) (world : World)
    (runs : run_of program nodes options events ≡ Some world) where
  pub follows : FollowsText program nodes world.acts
  follows = text program nodes options events world runs

  pub lazily : ReadsLazily world.acts
  lazily = reads program nodes options world (record { events = events; runs = runs })

  pub maker_in_range : (i node : ℕ) (d : Deed) → Does world.acts i node d → node < nodes
  maker_in_range i node d does = node_of program nodes world.acts follows i node d does

  pub goer_in_range : (tokens : List Token) (node at i j : ℕ) → GoesRound program tokens nodes world.acts node at i j → node < nodes
  goer_in_range tokens node at i j round = maker_in_range i node round.begins.0 round.begins.1

-- what traps in all acts that follow the text traps in every run
pub traps_in_runs : (program : Program) (tokens : List Token) (at : ℕ) (cause : Walk → Cause)
    → ((nodes : ℕ) → TrapsAt program tokens nodes at cause) → TrapsInRuns program tokens at cause
traps_in_runs program tokens at cause trapping nodes options events world runs = record {
  next = λ i node is_at. (trapping nodes).next (take i world.acts) node is_at;
  deed = λ i node d does is_at. (trapping nodes).deed world.acts i node d (follows program nodes options events world runs) does
      (maker_in_range program nodes options events world runs i node d does) is_at;
}

pub traps_in_runs_behind : (program : Program) (tokens : List Token) (at : ℕ) (cause : Walk → Cause)
    → TrapsBehind program tokens at cause → TrapsInRunsBehind program tokens at cause
traps_in_runs_behind program tokens at cause behind = record {
  number = behind.number;
  from = behind.from;
  statement = behind.statement;
  stands = behind.stands;
  near = behind.near;
  traps = traps_in_runs program tokens behind.from cause behind.traps;
}
