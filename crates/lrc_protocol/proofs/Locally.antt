-- The turns of one node: their deeds follow the text, and their messages are numbered one after another.
use Rattle.std.proofs.Common.{◌≡◌, ℕ, ◌+◌, ◌<◌, List, [], ◌∷◌, ◌++◌, length, map, refl, sym, ap, subst, ◌∙◌, append-nil}
use Rattle.std.specs.Prelude.{Option, Some, None, ◌==◌, option_map, filter, filter_map, fold, slice_index}
use Rattle.std.specs.List.{range_with_len}
use Rattle.std.proofs.lemmas.List.{map-append, length-replicate, get_or-replicate}
use Rattle.std.proofs.lemmas.List.Elements.{filter-append, filter_map-append}
use Rattle.std.proofs.lemmas.Grind.{flat_map-append}
use Rattle.lrc_program.specs.declared.Program.{Program}
use Rattle.lrc_trace.specs.declared.act.Act.{Act}
use Rattle.lrc_trace.specs.declared.act.Deed.{Deed}
use Rattle.lrc_trace.specs.Run.{act_of}
use Rattle.lrc_exec.specs.Meaning.{Setting, Thread}
use Rattle.lrc_exec.specs.Plain.{setting_of, start_of}
use Rattle.lrc_envelope.specs.Envelope.{EnvelopeRecord}
use Rattle.lrc_protocol.specs.Node.{Course, Node, OptionsRecord, fresh_node}
use Rattle.lrc_protocol.specs.Follows.{thread_of}
use Rattle.lrc_protocol.specs.Turn.{TurnRecord, Outcome, done, not_ready, unexpected, worn}
use Rattle.lrc_protocol.specs.Run.{Input, outcome_of}
use Rattle.lrc_protocol.specs.Follows.{local}
use Rattle.lrc_protocol.specs.Follows.{local_step}
use Rattle.lrc_protocol.specs.Follows.{local_after}
use Rattle.lrc_protocol.specs.Follows.{Local}
use Rattle.lrc_protocol.specs.Follows.{MakesTo, no_more, one_more, deeds_in, numbers_to, sent_in}
use Rattle.lrc_protocol.proofs.Keeps.{Moves, stays, goes}
use Rattle.lrc_protocol.proofs.Numbers.{GoOn, ranges-append}
use Rattle.lrc_protocol.proofs.Turned.{Turned, Turns, turns}

-- each act of these turns is the node's own
abbrev pub AreOwn : ℕ → List TurnRecord → Type 0
AreOwn me [] = Unit {0}
AreOwn me (turn ∷ more) = (turn.act ≡ option_map (act_of me) (option_map (λ act. act.deed) turn.act)) × AreOwn me more

-- what holds of a node's turns, with so many nodes
pub record Proper (setting : Setting) (options : OptionsRecord) (start : Option Thread) (l : Local) : Type 0 where
  pub setting_kept : l.node.setting ≡ setting
  pub options_kept : l.node.options ≡ options
  pub own : AreOwn setting.me l.turns
  pub makes : MakesTo start (deeds_in l.turns) (thread_of l.node.course)
  pub size : length l.node.mail.sent ≡ setting.nodes
  pub numbers : (to : ℕ) → to < setting.nodes → numbers_to to (sent_in l.turns) ≡ range_with_len options.first (slice_index l.node.mail.sent to)

own-append : (me : ℕ) (turns : List TurnRecord) (turn : TurnRecord) → AreOwn me turns
    → turn.act ≡ option_map (act_of me) (option_map (λ act. act.deed) turn.act) → AreOwn me (turns ++ turn ∷ [])
own-append me [] turn own e = (e, tt)
own-append me (t ∷ turns) turn own e = (own.0, own-append me turns turn own.1 e)

-- the deed of an act that is made of it
deed_back : (me : ℕ) (deed : Option Deed) → option_map (λ (act : Act). act.deed) (option_map (act_of me) deed) ≡ deed
deed_back me None = refl
deed_back me (Some d) = refl

-- a turn more, by how the text moves
moved : (start : Option Thread) (ds : List Deed) (before after : Course) (deed : Option Deed) → Moves before deed after
    → MakesTo start ds (thread_of before) → MakesTo start (ds ++ filter_map (λ d. d) (deed ∷ [])) (thread_of after)
moved start ds before after None stays m = subst (λ xs. MakesTo start xs (thread_of before)) (sym (append-nil ds)) m
moved start ds before after (Some d) (goes g) m = one_more m g

numbers-append : (to : ℕ) (xs ys : List EnvelopeRecord) → numbers_to to (xs ++ ys) ≡ numbers_to to xs ++ numbers_to to ys
numbers-append to xs ys =
    ap (map (λ (e : EnvelopeRecord). e.number)) (filter-append (λ e. e.to == to) xs ys)
    ∙ map-append (λ (e : EnvelopeRecord). e.number) (filter (λ e. e.to == to) xs) (filter (λ e. e.to == to) ys)

-- one turn more keeps all
turned_more : (setting : Setting) (options : OptionsRecord) (start : Option Thread) (l : Local) (turn : TurnRecord) (after : Node)
    → Proper setting options start l → Turned l.node turn after
    → Proper setting options start (record { node = after; turns = l.turns ++ turn ∷ [] })
turned_more setting options start l turn after p t =
    let deed_is : option_map (λ (act : Act). act.deed) turn.act ≡ t.deed = ap (option_map (λ (act : Act). act.deed)) t.act
    ∙ deed_back l.node.setting.me t.deed in
    let me_is : l.node.setting.me ≡ setting.me = ap (λ (s : Setting). s.me) p.setting_kept in
    record {
      setting_kept = t.setting ∙ p.setting_kept;
      options_kept = t.options ∙ p.options_kept;
      own = own-append setting.me l.turns turn p.own
          (t.act ∙ ap (λ me. option_map (act_of me) t.deed) me_is ∙ ap (option_map (act_of setting.me)) (sym deed_is));
      makes = subst (λ ds. MakesTo start ds (thread_of after.course))
          (ap (λ d. deeds_in l.turns ++ filter_map (λ x. x) (d ∷ [])) (sym deed_is)
          ∙ sym (filter_map-append (λ (turn : TurnRecord). option_map (λ act. act.deed) turn.act) l.turns (turn ∷ [])))
          (moved start (deeds_in l.turns) l.node.course after.course t.deed t.course p.makes);
      size = t.numbers.size ∙ p.size;
      numbers = λ to lt.
          let g : GoOn l.node.options.first l.node.mail.sent turn.out after.mail.sent to = t.numbers.each to (subst (λ n. to < n) (sym p.size) lt) in
          ap (numbers_to to) (flat_map-append (λ (turn : TurnRecord). turn.out) l.turns (turn ∷ []) ∙ ap (λ xs. sent_in l.turns ++ xs) (append-nil turn.out))
          ∙ numbers-append to (sent_in l.turns) turn.out
          ∙ ap (λ xs. xs ++ numbers_to to turn.out) (p.numbers to lt)
          ∙ ap (λ xs. range_with_len options.first (slice_index l.node.mail.sent to) ++ xs)
          (g.numbers ∙ ap (λ (o : OptionsRecord). range_with_len (o.first + slice_index l.node.mail.sent to) g.more) p.options_kept)
          ∙ ranges-append options.first (slice_index l.node.mail.sent to) g.more (slice_index after.mail.sent to) g.counted;
    }

abbrev ProperIf : Setting → OptionsRecord → Option Thread → Option Local → Type 0
ProperIf setting options start None = Unit {0}
ProperIf setting options start (Some l) = Proper setting options start l

module _ (setting : Setting) (options : OptionsRecord) (start : Option Thread) where
  after_outcome : (l : Local) (o : Outcome) → Proper setting options start l → Turns l.node o → ProperIf setting options start (local_after l.turns o)
  after_outcome l (done turn after) p t = turned_more setting options start l turn after p t
  after_outcome l not_ready p t = tt
  after_outcome l unexpected p t = tt
  after_outcome l worn p t = tt

  step-proper : (o : Option Local) (input : Input) → ProperIf setting options start o → ProperIf setting options start (local_step o input)
  step-proper None input p = tt
  step-proper (Some l) input p = after_outcome l (outcome_of l.node input) p (turns l.node input)

  pub fold-proper : (inputs : List Input) (o : Option Local) → ProperIf setting options start o → ProperIf setting options start (fold local_step o inputs)
  fold-proper [] o p = p
  fold-proper (input ∷ inputs) o p = fold-proper inputs (local_step o input) (step-proper o input p)

-- at the start
fresh-proper : (program : Program) (nodes : ℕ) (options : OptionsRecord) (me : ℕ)
    → Proper (setting_of program nodes me) options (Some (start_of program nodes me)) (record { node = fresh_node program nodes options me; turns = [] })
fresh-proper program nodes options me = record {
  setting_kept = refl;
  options_kept = refl;
  own = tt;
  makes = no_more;
  size = length-replicate nodes 0;
  numbers = λ to lt. ap (range_with_len options.first) (sym (get_or-replicate nodes to 0 0 lt));
}

proper_some : (setting : Setting) (options : OptionsRecord) (start : Option Thread) (o : Option Local) (l : Local) → o ≡ Some l
    → ProperIf setting options start o → Proper setting options start l
proper_some setting options start o l e p = subst (ProperIf setting options start) e p

-- the turns of a node of a program after any inputs
pub local-proper : (program : Program) (nodes : ℕ) (options : OptionsRecord) (me : ℕ) (inputs : List Input) (l : Local)
    → local program nodes options me inputs ≡ Some l
    → Proper (setting_of program nodes me) options (Some (start_of program nodes me)) l
local-proper program nodes options me inputs l e =
    proper_some _ _ _ (local program nodes options me inputs) l e
    (fold-proper (setting_of program nodes me) options (Some (start_of program nodes me)) inputs (Some (record {
      node =
          fresh_node program nodes options me;
      turns = [];
    })) (fresh-proper program nodes options me))
