-- What is found of one of the nodes once acts were followed.
use Rattle.std.proofs.Common.{◌≡◌, ◌∙◌, ◌<◌, ℕ, List, map, get_or, ap, ap₂, sym, length, arith}
use Rattle.std.specs.Prelude.{slice_index_or}
use Rattle.std.proofs.lemmas.List.{get_or-map, length-map}
use Rattle.std.proofs.lemmas.List.FromFn.{length-map-range_with_len, get_or-map-range_with_len}
use Rattle.lrc_program.specs.declared.Program.{Program}
use Rattle.lrc_trace.specs.declared.act.Act.{Act}
use Rattle.lrc_lines.specs.Walks.{Walk, walk_behind, walks_behind}
use Rattle.lrc_explain_waits.specs.declared.stand.Fate.{Fate}
use Rattle.lrc_explain_waits.specs.declared.stand.Coming.{Coming}
use Rattle.lrc_explain_waits.specs.declared.stand.Stand.{Stand}

pub found_in : {X : Type 0} (f : Walk → X) (program : Program) (nodes : ℕ) (lines : List ℕ) (acts : List Act) (walks : List Walk) (node : ℕ) (d : X)
    → walks ≡ walks_behind program nodes lines acts → node < nodes → slice_index_or (map f walks) node d ≡ f (walk_behind program nodes lines acts node)
found_in f program nodes lines acts walks node d is inside =
    let behind = walks_behind program nodes lines acts in
    let here = walk_behind program nodes lines acts node in
    let long : length behind ≡ nodes = length-map-range_with_len (walk_behind program nodes lines acts) 0 nodes in
    ap (λ l. get_or (map f l) node d) is ∙ get_or-map f behind node here d (omega (arith, inside, long))
    ∙ ap f (get_or-map-range_with_len (walk_behind program nodes lines acts) 0 nodes node node here inside (omega arith))

pub stand_same : {fate fate' : Fate} {arrives arrives' line line' : ℕ} {coming coming' : Coming} → fate ≡ fate' → arrives ≡ arrives' → line ≡ line' → coming ≡ coming'
    → ◌≡◌ {A = Stand} (record { fate = fate; arrives = arrives; line = line; coming = coming })
    (record { fate = fate'; arrives = arrives'; line = line'; coming = coming' })
stand_same a b c d = cc
