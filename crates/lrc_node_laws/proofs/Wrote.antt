-- A node that is reached: its copies are what its open interval made of them.
use Rattle.std.proofs.Common.{◌≡◌, ℕ, ◌<◌, List, [], ◌∷◌, ◌++◌, refl, sym, ap, subst, ◌∙◌, ⊎_elim}
use Rattle.std.specs.Prelude.{Option, Some, None, fold, filter_map}
use Rattle.std.specs.List.{cons_option}
use Rattle.std.proofs.lemmas.List.Sums.{fold-append}
use Rattle.std.proofs.lemmas.List.Elements.{filter_map-append}
use Rattle.lrc_program.specs.declared.Program.{Program}
use Rattle.lrc_trace.specs.declared.act.Deed.{Deed}
use Rattle.lrc_page.specs.Page.{zero_page}
use Rattle.lrc_page.specs.Place.{pages_of}
use Rattle.lrc_page.specs.declared.size.Size.{Size}
use Rattle.lrc_protocol.specs.Pages.{Copy, valid, absent, Memory, copy_at}
use Rattle.lrc_protocol.specs.Node.{OptionsRecord, fresh_node}
use Rattle.lrc_protocol.specs.Turn.{TurnRecord, Outcome, done, not_ready, unexpected, worn}
use Rattle.lrc_protocol.specs.Follows.{deeds_in}
use Rattle.lrc_protocol.specs.Run.{Input, outcome_of}
use Rattle.lrc_protocol.specs.Follows.{local_step}
use Rattle.lrc_protocol.specs.Follows.{local_after}
use Rattle.lrc_protocol.specs.Follows.{Local}
use Rattle.lrc_protocol.proofs.Ruled.{by_rule}
use Rattle.lrc_order_laws.proofs.Shift.{deed_made}
use Rattle.lrc_node_laws.specs.Reached.{LeadsTo}
use Rattle.lrc_node_laws.specs.Opened.{after_deed, open_writes, open_in, IsMadeBy, AreMadeBy}
use Rattle.lrc_node_laws.proofs.Leads.{at_start, one_more}
use Rattle.lrc_node_laws.proofs.Acted.{Made, after_one, turn-made}
use Rattle.lrc_node_laws.proofs.Always.{slice_index_or-replicate, known_at}

-- the writes after one turn more
open-more : (turns : List TurnRecord) (turn : TurnRecord) → open_writes (deeds_in (turns ++ turn ∷ [])) ≡ after_one (open_writes (deeds_in turns))
    (deed_made turn)
open-more turns turn =
    ap (fold after_deed []) (filter_map-append deed_made turns (turn ∷ []))
    ∙ fold-append after_deed [] (deeds_in turns) (filter_map deed_made (turn ∷ []))
    ∙ one_deed (open_writes (deeds_in turns)) (deed_made turn)
  where
    one_deed : (ws : List (ℕ × ℕ)) (d : Option Deed) → fold after_deed ws (cons_option d []) ≡ after_one ws d
    one_deed ws None = refl
    one_deed ws (Some deed) = refl

fresh-made : (size : Size) (memory : Memory) (page : ℕ) (copy : Copy) → IsMadeBy size page [] copy → copy_at memory page ≡ copy
    → IsMadeBy size page [] (copy_at memory page)
fresh-made size memory page copy h e = subst (IsMadeBy size page []) (sym e) h

module _ (program : Program) (nodes : ℕ) (options : OptionsRecord) (me : ℕ) (among : me < nodes) where
  abbrev first : Local
  first = record { node = fresh_node program nodes options me; turns = [] }

  -- what is made of a node that some inputs lead to
  Wrote : Local → Type 0
  Wrote l = LeadsTo program nodes options me l × Made (open_writes (deeds_in l.turns)) l.node

  WroteIf : Option Local → Type 0
  WroteIf None = Unit {0}
  WroteIf (Some l) = Wrote l

  by_outcome : (l : Local) (input : Input) (o : Outcome) → outcome_of l.node input ≡ o → Wrote l → WroteIf (local_after l.turns o)
  unfolding Wrote WroteIf
  by_outcome l input (done turn after) e w = (
    one_more program nodes options me l input turn after w.0 e,
    subst (λ ws. AreMadeBy after.options.size after.memory (open_in after.mail.wait ws)) (sym (open-more l.turns turn))
        (turn-made (open_writes (deeds_in l.turns)) l.node input turn after
        (known_at l.node (record { program = program; nodes = nodes; options = options; me = me; turns = l.turns; leads = w.0 })) w.1
        (by_rule l.node input turn after e)),
  )
  by_outcome l input not_ready e w = tt
  by_outcome l input unexpected e w = tt
  by_outcome l input worn e w = tt

  by_step : (o : Option Local) (input : Input) → WroteIf o → WroteIf (local_step o input)
  unfolding Wrote WroteIf
  by_step None input w = tt
  by_step (Some l) input w = by_outcome l input (outcome_of l.node input) refl w

  by_inputs : (inputs : List Input) (o : Option Local) → WroteIf o → WroteIf (fold local_step o inputs)
  by_inputs [] o w = w
  by_inputs (input ∷ inputs) o w = by_inputs inputs (local_step o input) (by_step o input w)

  pub wrote : (l : Local) → LeadsTo program nodes options me l → Made (open_writes (deeds_in l.turns)) l.node
  unfolding Wrote WroteIf
  wrote l leads =
      (subst WroteIf leads.made
      (by_inputs leads.inputs (Some first) (
        at_start program nodes options me among,
        λ page. ⊎_elim
            (λ v. fresh-made options.size first.node.memory page (valid (zero_page options.size)) refl v)
            (λ a. fresh-made options.size first.node.memory page absent refl a)
            (slice_index_or-replicate (pages_of program.words options.size) (valid (zero_page options.size)) page),
      ))).1
