-- What a setting has of the numbers that it was made of.
use Rattle.std.proofs.Common.{◌≡◌, ℕ, ap, subst}
use Rattle.lrc_exec.specs.Nodes.{AreNodes}
use Rattle.lrc_setting.specs.Ranges.{AreSteps}
use Rattle.lrc_setting.specs.declared.setting.Setting.{Setting}
use Rattle.lrc_protocol.specs.Node.{OptionsRecord}
use Rattle.lrc_node.specs.Options.{options_of}

-- the numbers of a setting are in range
module _ (setting : Setting) (nodes : ℕ) (options : OptionsRecord) (counted : setting.nodes.count ≡ nodes) (told : options_of setting ≡ options) where
  pub nodes_in_range : AreNodes nodes
  nodes_in_range = subst AreNodes counted (setting.nodes.some, setting.nodes.few)

  pub steps_in_range : AreSteps options.steps
  steps_in_range = subst AreSteps (ap (λ (o : OptionsRecord). o.steps) told) (setting.steps.some, setting.steps.few)

  -- a thing of the setting is one of the numbers
  pub of_numbers : (P : ℕ → OptionsRecord → Type 0) → P setting.nodes.count (options_of setting) → P nodes options
  of_numbers P holds = subst (P nodes) told (subst (λ n. P n (options_of setting)) counted holds)
