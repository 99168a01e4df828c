-- States after the free deeds of all nodes.
use Rattle.std.specs.Prelude.{ℕ, zero, suc, List, [], ◌++◌, Option}
use Rattle.lrc_trace.specs.declared.act.Act.{Act}
use Rattle.lrc_trace.specs.declared.act.Deed.{Deed}
use Rattle.lrc_exec.specs.Meaning.{Thread}
use Rattle.lrc_exec.specs.Plain.{Plain}
use Rattle.lrc_orders_settling.specs.Gone.{acts_by, gone}

-- the acts of so many nodes, node by node
abbrev pub acts_of_all : (ℕ → List Deed) → (nodes : ℕ) → List Act
acts_of_all deeds zero = []
acts_of_all deeds (suc node) = acts_of_all deeds node ++ acts_by node (deeds node)

-- the state in which so many nodes have made these deeds, one after another, and come to these threads, but for how
-- often each has arrived
abbrev pub gone_all : Plain → (ℕ → List Deed) → (ℕ → Option Thread) → (nodes : ℕ) → Plain
gone_all machine deeds there zero = machine
gone_all machine deeds there (suc node) = gone (gone_all machine deeds there node) node (deeds node) (there node)
