-- The exact machine makes the runs that read exactly.
use Rattle.std.proofs.Common.{◌≡◌, ℕ, zero, suc, ◌+◌, ◌<◌, ◌≤◌, List, [], ◌∷◌, ◌++◌, length, take, drop, inl, inr, refl, sym, subst, ◌∙◌, ap, arith}
use Rattle.std.proofs.Common.{add-one, append_assoc, append-nil, zero-add}
use Rattle.std.specs.Prelude.{Option, Some, None, slice_get, slice_index, slice_index_or, map, option_map, option_and_then}
use Rattle.std.specs.List.{range_with_len}
use Rattle.std.proofs.lemmas.Bool.{cases_eq}
use Rattle.std.proofs.lemmas.List.{length_push, length-take, length-map, length-replicate, get_or-map, take-append-drop}
use Rattle.std.proofs.lemmas.List.FromFn.{length-range_with_len, get_or-range_with_len}
use Rattle.std.proofs.lemmas.Option.{same_Some, option_and_then_some, get_or_from_slice_get}
use Rattle.lrc_program.specs.declared.Program.{Program}
use Rattle.lrc_trace.specs.declared.act.Act.{Act}
use Rattle.lrc_trace.specs.declared.act.Deed.{Deed}
use Rattle.lrc_trace.specs.declared.act.Deed.TheVariants.{Quiet, Print, Read, Write, Acquire, Release, Arrive, Depart, Trap, End}
use Rattle.lrc_trace.specs.Run.{Does, act_of}
use Rattle.lrc_trace.specs.Synchronization.{IsWellSynchronized}
use Rattle.lrc_trace.proofs.Positions.{slice_get-seam, Does-one_node, Does-one_deed, Does-within}
use Rattle.lrc_trace.proofs.Intervals.{act_at}
use Rattle.lrc_exec.specs.Meaning.{Thread, Next, next_of}
use Rattle.lrc_exec.specs.Plain.{Plain, deed_done, thread_in, plain_step, plain_start}
use Rattle.lrc_exec.proofs.NextLaws.{IsFine, next_of-fine}
use Rattle.lrc_exec.proofs.PlainParts.{thread_within}
use Rattle.lrc_exec.specs.Follows.{Goes, quietly, printing, reading, writing, acquiring, releasing, arriving, departing}
use Rattle.lrc_exec.specs.Follows.{trapping, ending, Makes, nothing_more, and_then, deeds_of, nodes_of_acts}
use Rattle.lrc_consistency_laws.specs.Matching.{Matches}
use Rattle.lrc_consistency_laws.proofs.Ahead.{does_ahead, drop_ahead, take_ahead}
use Rattle.lrc_consistency_laws.proofs.Runs.{SoundAt, done, makes_first, deeds_of-own, deeds_of-other, thread_after, other_after, thread_at_start}
use Rattle.lrc_consistency_laws.proofs.Runs.{start_matches}
use Rattle.lrc_consistency_laws.proofs.UpToRace.{in_range}
use Rattle.lrc_exact.specs.LocalRule.{state_before, state_after}
use Rattle.lrc_exact.specs.Rule.{Shape, State, exact_rule, exact_value, KeepsExact, ReadsExactly}
use Rattle.lrc_exact.proofs.LocalRules.{keeps-none, keeps-more, keeps-prefix, prefix-alike, before-same, one_list}
use Rattle.lrc_exact_laws.specs.Laws.{IsExactRun}
use Rattle.lrc_exact_machine.specs.Machine.{Exact, exact_start, memory_of, seen_by, with_act, exact_step, exact_from, exact}
use Rattle.lrc_exact_machine.proofs.Seeing.{Stands, Taken, taken, SoundSeen, can_see, seen_sound}

mapped_some : {A B P : Type 0} (f : A → B) (o : Option A) (y : B) → option_map f o ≡ Some y → ((x : A) → o ≡ Some x → f x ≡ y → P) → P
mapped_some f None y e go = let impossible : ⊥ = cc in absurd impossible
mapped_some f (Some x) y e go = go x refl (same_Some (f x) y e)

-- the machine has made the first j acts of the run, has their states, and stands for them
record Standing (shape : Shape) (run : List Act) (j : ℕ) (e : Exact) : Type 0 where
  acts : e.acts ≡ take j run
  made : length e.acts ≡ j
  keeps : KeepsExact shape e.acts e.states
  stands : Stands run j e.machine
  size : length e.machine.arrivals ≡ shape.nodes

standing_first : (program : Program) (shape : Shape) (run : List Act) → Standing shape run 0 (exact_start program shape.nodes)
standing_first program shape run = record {
  acts = refl;
  made = refl;
  keeps = keeps-none (exact_rule shape) shape.nodes;
  stands = record { lasts = (plain_start program shape.nodes).memory; long = refl; matches = start_matches program shape.nodes run };
  size = length-replicate {A = ℕ} shape.nodes 0;
}

-- one act more
standing_next : (shape : Shape) (run : List Act) (j : ℕ) (e : Exact) (node : ℕ) (d : Deed) (after : Plain) → Standing shape run j e → Does run j node d
    → node < shape.nodes → Stands run (j + 1) after → length after.arrivals ≡ length e.machine.arrivals
    → Standing shape run (j + 1) (with_act shape e node d after)
standing_next shape run j e node d after s does lt stands size = record {
  acts = ap (λ xs. xs ++ act_of node d ∷ []) s.acts ∙ sym (take_ahead run j (act_of node d) does.stands) ∙ ap (λ k. take k run) (sym (add-one j));
  made = let long = length_push e.acts (act_of node d) in let made = s.made in omega arith;
  keeps = keeps-more (exact_rule shape) shape.nodes e.acts e.states (act_of node d)
      (state_after (exact_rule shape) e.acts e.states (length e.acts) node d) s.keeps lt refl;
  stands = stands;
  size = size ∙ s.size;
}

-- what a node sees of a word is what the exact memory has for it
seen_is : (shape : Shape) (e : Exact) (node word : ℕ) → word < length e.machine.memory
    → slice_index (memory_of shape e node) word ≡ exact_value shape e.acts e.states node (length e.acts) word
seen_is shape e node word lt =
    let f : ℕ → ℕ = λ w. exact_value shape e.acts e.states node (length e.acts) w in
    let long = length-range_with_len 0 (length e.machine.memory) in
    get_or-map f (range_with_len 0 (length e.machine.memory)) word 0 0 (omega arith)
    ∙ ap f (get_or-range_with_len 0 (length e.machine.memory) word 0 lt ∙ zero-add word)

seen_long : (shape : Shape) (e : Exact) (node : ℕ) → length (memory_of shape e node) ≡ length e.machine.memory
seen_long shape e node =
    length-map (range_with_len 0 (length e.machine.memory)) (λ w. exact_value shape e.acts e.states node (length e.acts) w)
    ∙ length-range_with_len 0 (length e.machine.memory)

-- the exact memory so far is that of the whole run
value_here : (shape : Shape) (run : List Act) (states : List State) (j : ℕ) (e : Exact) (node word : ℕ) → KeepsExact shape run states → j ≤ length run
    → Standing shape run j e → exact_value shape e.acts e.states node (length e.acts) word ≡ exact_value shape run states node j word
value_here shape run states j e node word keeps within s =
    let a = take j run in
    let b = take j states in
    let long : length a ≡ j = length-take j run ∙ omega arith in
    let stated : length b ≡ length a = let same = keeps.stated in length-take j states ∙ omega arith in
    let run_is : a ++ drop j run ≡ run = take-append-drop j run in
    let states_are : b ++ drop j states ≡ states = take-append-drop j states in
    let whole : KeepsExact shape (a ++ drop j run) (b ++ drop j states) =
    subst (λ xs. KeepsExact shape xs (b ++ drop j states)) (sym run_is) (subst (λ ss. KeepsExact shape run ss) (sym states_are) keeps) in
    let first : KeepsExact shape a b = keeps-prefix a (drop j run) b (drop j states) stated (exact_rule shape) shape.nodes whole in
    let mine : KeepsExact shape a e.states = subst (λ xs. KeepsExact shape xs e.states) s.acts s.keeps in
    let same_states : e.states ≡ b = one_list (exact_rule shape) shape.nodes a e.states b mine first in
    let same : state_before (exact_rule shape) (a ++ drop j run) (b ++ drop j states) node j ≡ state_before (exact_rule shape) a b node j =
    before-same (exact_rule shape) (a ++ drop j run) a (b ++ drop j states) b j (prefix-alike a (drop j run) b (drop j states) stated j (omega arith)) node in
    ap (λ k. exact_value shape e.acts e.states node k word) s.made
    ∙ ap (λ xs. exact_value shape xs e.states node j word) s.acts
    ∙ ap (λ ss. exact_value shape a ss node j word) same_states
    ∙ ap (λ (x : State). (x.words word).value) (sym same)
    ∙ ap (λ xs. exact_value shape xs (b ++ drop j states) node j word) run_is
    ∙ ap (λ ss. exact_value shape run ss node j word) states_are

-- a word that a thread may read is one of those that the machine has
word_there : (shape : Shape) (run : List Act) (j : ℕ) (e : Exact) (node : ℕ) (t : Thread) → Standing shape run j e → thread_in e.machine node ≡ Some t
    → (word : ℕ) → word < t.setting.words → word < length e.machine.memory
word_there shape run j e node t s at word lt =
    let fits = (s.stands.matches.threads node t at).words in
    let long = s.stands.long in
    omega arith

-- ---- each run that reads exactly is made

module _ (program : Program) (shape : Shape) (run : List Act) (whole : IsExactRun program shape run) where
  ws : IsWellSynchronized shape.nodes run
  ws = whole.synchronized

  -- what a deed of the run says to the machine
  module _ (j : ℕ) (e : Exact) (node : ℕ) (t : Thread) (at : thread_in e.machine node ≡ Some t) (s : Standing shape run j e) where
    sees : {n : Next} {d : Deed} {t' : Option Thread} → Goes n d t' → IsFine t n → Does run j node d
        → SoundSeen run shape.nodes j node e.machine t at s.stands (memory_of shape e node) (seen_long shape e node) d
    sees quietly fine does = tt
    sees printing fine does = tt
    sees (reading {w = w} {v = v}) fine does =
        let inside = Does-within does in
        whole.exact.reads j node w v does
        ∙ sym (value_here shape run whole.exact.states j e node w whole.exact.keeps (omega arith) s)
        ∙ sym (seen_is shape e node w (word_there shape run j e node t s at w fine.0))
    sees writing fine does = tt
    sees (acquiring {l = l}) fine does = ws.acquires j node l does
    sees (releasing {l = l}) fine does = ws.releases j node l does
    sees arriving fine does = tt
    sees departing fine does = ws.departs j node does
    sees trapping fine does = tt
    sees ending fine does = tt

  record Reached (e : Exact) (order : List ℕ) : Type 0 where
    final : Exact
    is : exact_from shape e order ≡ Some final
    acts : final.acts ≡ run

  reached : (ahead : List Act) (j : ℕ) (e : Exact) → drop j run ≡ ahead → Standing shape run j e
      → ((n : ℕ) → n < shape.nodes → Makes (thread_in e.machine n) (deeds_of n ahead)) → Reached e (nodes_of_acts ahead)
  reached [] j e stands s makes = record {
    final = e;
    is = refl;
    acts = s.acts ∙ sym (append-nil (take j run)) ∙ ap (λ xs. take j run ++ xs) (sym stands) ∙ take-append-drop j run;
  }
  reached (a ∷ more) j e stands s makes =
      let does = does_ahead run j a more stands in
      let lt : a.node < shape.nodes = in_range whole.follows j a.node a.deed does in
      let first = makes_first (subst (λ ds. Makes (thread_in e.machine a.node) ds) (deeds_of-own a more) (makes a.node lt)) in
      let t = first.thread in
      let fine = next_of-fine t in
      let memory = memory_of shape e a.node in
      let sized = seen_long shape e a.node in
      let sound = sees j e a.node t first.is s first.goes fine does in
      let can = can_see run shape.nodes j a.node e.machine t first.is s.stands memory sized s.size first.goes fine sound in
      let result = done (seen_by shape e a.node) a.node first.goes can in
      let after = result.0 in
      let step = taken run shape.nodes j a.node e.machine t first.is s.stands memory sized (next_of t) fine a.deed after result.1.is in
      let next = standing_next shape run j e a.node a.deed after s does lt (step.next does) step.size in
      let within = thread_within e.machine a.node t first.is in
      let stepped : exact_step shape e a.node ≡ Some (with_act shape e a.node a.deed after) =
      ap (λ o. option_map (λ x. with_act shape e a.node x.0 x.1) (option_and_then (λ thread. deed_done (seen_by shape e a.node) a.node (next_of thread)) o))
      first.is ∙ ap (option_map (λ x. with_act shape e a.node x.0 x.1)) result.1.is in
      let rest = reached more (j + 1) (with_act shape e a.node a.deed after) (ap (λ i. drop i run) (add-one j) ∙ drop_ahead run j a more stands) next (λ n less.
      elim (cases_eq n a.node) [
        | inl same ↦
            let own : Makes (thread_in after a.node) (deeds_of a.node more) =
            subst (λ o. Makes o (deeds_of a.node more))
            (sym (thread_after (seen_by shape e a.node) after a.node first.after result.1.threads within)) first.more in
            subst (λ k. Makes (thread_in after k) (deeds_of k more)) (sym same) own
        | inr other ↦
            subst (λ o. Makes o (deeds_of n more))
            (sym (other_after (seen_by shape e a.node) after a.node n first.after result.1.threads other))
            (subst (λ ds. Makes (thread_in e.machine n) ds) (deeds_of-other a more n (λ x. other (sym x))) (makes n less))
      ]) in
      record {
        final = rest.final;
        is = ap (λ o. option_and_then (λ x. exact_from shape x (nodes_of_acts more)) o) stepped ∙ rest.is;
        acts = rest.acts;
      }

  pub is_made : exact program shape (nodes_of_acts run) ≡ Some run
  is_made =
      let all = reached run 0 (exact_start program shape.nodes) refl (standing_first program shape run) (λ n lt.
      subst (λ o. Makes o (deeds_of n run)) (sym (thread_at_start program shape.nodes n lt)) (whole.follows.each n lt)) in
      ap (option_map (λ (x : Exact). x.acts)) all.is ∙ ap (λ xs. Some xs) all.acts

-- ---- what is made is a run that reads exactly

-- the first step, and the rest
record FirstStep (shape : Shape) (e : Exact) (node : ℕ) (order : List ℕ) (final : Exact) : Type 0 where
  thread : Thread
  at : thread_in e.machine node ≡ Some thread
  deed : Deed
  after : Plain
  is_done : deed_done (seen_by shape e node) node (next_of thread) ≡ Some (deed, after)
  rest : exact_from shape (with_act shape e node deed after) order ≡ Some final

first_step : (shape : Shape) (e : Exact) (node : ℕ) (order : List ℕ) (final : Exact) → exact_from shape e (node ∷ order) ≡ Some final
    → FirstStep shape e node order final
first_step shape e node order final is =
    option_and_then_some (λ x. exact_from shape x order) (exact_step shape e node) final is (λ next stepped rest.
    mapped_some (λ x. with_act shape e node x.0 x.1) (plain_step (seen_by shape e node) node) next stepped (λ pair done same.
    option_and_then_some (λ thread. deed_done (seen_by shape e node) node (next_of thread)) (thread_in e.machine node) pair done (λ thread at made. record {
      thread = thread;
      at = at;
      deed = pair.0;
      after = pair.1;
      is_done = made;
      rest = ap (λ x. exact_from shape x order) same ∙ rest;
    })))

-- acts are only added
record Grows (e final : Exact) (order : List ℕ) : Type 0 where
  more : List Act
  acts : final.acts ≡ e.acts ++ more
  nodes : nodes_of_acts more ≡ order

grows : (shape : Shape) (order : List ℕ) (e final : Exact) → exact_from shape e order ≡ Some final → Grows e final order
grows shape [] e final is = record {
  more = [];
  acts = ap (λ (x : Exact). x.acts) (sym (same_Some e final is)) ∙ sym (append-nil e.acts);
  nodes = refl;
}
grows shape (node ∷ order) e final is =
    let s = first_step shape e node order final is in
    let rest = grows shape order (with_act shape e node s.deed s.after) final s.rest in
    record {
      more = act_of node s.deed ∷ rest.more;
      acts = rest.acts ∙ append_assoc e.acts (act_of node s.deed ∷ []) rest.more;
      nodes = ap (λ xs. node ∷ xs) rest.nodes;
    }

-- what a deed says of the run, but that a read gives what the exact memory has
abbrev SoundExactly : Shape → List Act → List State → ℕ → ℕ → Deed → Type 0
SoundExactly shape run states k n (Read w v) = v ≡ exact_value shape run states n k w
SoundExactly shape run states k n (Acquire l) = SoundAt run shape.nodes k n (Acquire l)
SoundExactly shape run states k n (Release l) = SoundAt run shape.nodes k n (Release l)
SoundExactly shape run states k n Depart = SoundAt run shape.nodes k n Depart
SoundExactly shape run states k n _ = Unit {0}

-- what the steps from here say of the whole run
record SoundFrom (shape : Shape) (run : List Act) (j : ℕ) (e final : Exact) (order : List ℕ) : Type 0 where
  ahead : List Act
  acts : run ≡ e.acts ++ ahead
  nodes : nodes_of_acts ahead ≡ order
  keeps : KeepsExact shape run final.states
  sound : (k n : ℕ) (d : Deed) → j ≤ k → Does run k n d → SoundExactly shape run final.states k n d
  makes : (n : ℕ) → n < shape.nodes → Makes (thread_in e.machine n) (deeds_of n ahead)

module _ (shape : Shape) (run : List Act) where
  -- what a step says of the run
  module _ (final : List State) (keeps : KeepsExact shape run final) (j : ℕ) (e : Exact) (node : ℕ) (t : Thread) (at : thread_in e.machine node ≡ Some t)
      (s : Standing shape run j e) where
    sound_step : {n : Next} {d : Deed} {t' : Option Thread} → Goes n d t' → IsFine t n → Does run j node d
        → SoundSeen run shape.nodes j node e.machine t at s.stands (memory_of shape e node) (seen_long shape e node) d
        → SoundExactly shape run final j node d
    sound_step quietly fine does x = tt
    sound_step printing fine does x = tt
    sound_step (reading {w = w} {v = v}) fine does x =
        let inside = Does-within does in
        x ∙ seen_is shape e node w (word_there shape run j e node t s at w fine.0)
        ∙ value_here shape run final j e node w keeps (omega arith) s
    sound_step writing fine does x = tt
    sound_step acquiring fine does x = x
    sound_step releasing fine does x = x
    sound_step arriving fine does x = tt
    sound_step departing fine does x = x
    sound_step trapping fine does x = tt
    sound_step ending fine does x = tt

  sound_from : (order : List ℕ) (j : ℕ) (e final : Exact) → exact_from shape e order ≡ Some final → final.acts ≡ run → Standing shape run j e
      → SoundFrom shape run j e final order
  sound_from [] j e final is all s =
      let same = same_Some e final is in
      let acts : e.acts ≡ run = ap (λ (x : Exact). x.acts) same ∙ all in
      record {
        ahead = [];
        acts = sym acts ∙ sym (append-nil e.acts);
        nodes = refl;
        keeps = subst (λ xs. KeepsExact shape xs final.states) acts (subst (λ (x : Exact). KeepsExact shape e.acts x.states) same s.keeps);
        sound = λ k n d least does.
            let inside = Does-within does in
            let made = s.made in
            let long = ap length acts in
            absurd (omega arith);
        makes = λ n lt. nothing_more;
      }
  sound_from (node ∷ order) j e final is all s =
      let f = first_step shape e node order final is in
      let g = grows shape order (with_act shape e node f.deed f.after) final f.rest in
      let a = act_of node f.deed in
      let acts : run ≡ e.acts ++ a ∷ g.more = sym all ∙ g.acts ∙ append_assoc e.acts (a ∷ []) g.more in
      let does : Does run j node f.deed = record {
        stands = ap (λ xs. slice_get xs j) acts ∙ ap (λ k. slice_get (e.acts ++ a ∷ g.more) k) (sym s.made) ∙ slice_get-seam e.acts a g.more;
      } in
      let memory = memory_of shape e node in
      let sized = seen_long shape e node in
      let fine = next_of-fine f.thread in
      let step = taken run shape.nodes j node e.machine f.thread f.at s.stands memory sized (next_of f.thread) fine f.deed f.after f.is_done in
      let within = thread_within e.machine node f.thread f.at in
      let sizes = s.stands.matches.sizes in
      let size = s.size in
      let lt : node < shape.nodes = omega arith in
      let next = standing_next shape run j e node f.deed f.after s does lt (step.next does) step.size in
      let rest = sound_from order (j + 1) (with_act shape e node f.deed f.after) final f.rest all next in
      let seen = seen_sound run shape.nodes j node e.machine f.thread f.at s.stands memory sized s.size step.goes fine step.can in
      let now : SoundExactly shape run final.states j node f.deed =
      sound_step final.states rest.keeps j e node f.thread f.at s step.goes fine does seen in
      let own : Makes (thread_in e.machine node) (f.deed ∷ deeds_of node rest.ahead) =
      subst (λ o. Makes o (f.deed ∷ deeds_of node rest.ahead)) (sym f.at)
      (and_then step.goes (subst (λ o. Makes o (deeds_of node rest.ahead)) (thread_after e.machine f.after node step.thread step.threads within)
      (rest.makes node lt))) in
      record {
        ahead = a ∷ rest.ahead;
        acts = rest.acts ∙ append_assoc e.acts (a ∷ []) rest.ahead;
        nodes = ap (λ xs. node ∷ xs) rest.nodes;
        keeps = rest.keeps;
        sound = λ k n d least there.
            elim (cases_eq k j) [
              | inl same ↦
                  let there' = subst (λ i. Does run i n d) same there in
                  subst (λ i. SoundExactly shape run final.states i n d) (sym same)
                  (subst (λ x. SoundExactly shape run final.states j x d) (Does-one_node does there')
                  (subst (λ x. SoundExactly shape run final.states j node x) (Does-one_deed does there') now))
              | inr later ↦ rest.sound k n d (omega arith) there
            ];
        makes = λ n less.
            elim (cases_eq n node) [
              | inl same ↦
                  subst (λ k. Makes (thread_in e.machine k) (deeds_of k (a ∷ rest.ahead))) (sym same)
                  (subst (λ ds. Makes (thread_in e.machine node) ds) (sym (deeds_of-own a rest.ahead)) own)
              | inr other ↦
                  subst (λ ds. Makes (thread_in e.machine n) ds) (sym (deeds_of-other a rest.ahead n (λ x. other (sym x))))
                  (subst (λ o. Makes o (deeds_of n rest.ahead)) (other_after e.machine f.after node n step.thread step.threads other) (rest.makes n less))
            ];
      }

pub makes_exact_run : (program : Program) (shape : Shape) (order : List ℕ) (run : List Act) → exact program shape order ≡ Some run
    → IsExactRun program shape run × (nodes_of_acts run ≡ order)
makes_exact_run program shape order run is =
    mapped_some (λ (x : Exact). x.acts) (exact_from shape (exact_start program shape.nodes) order) run is (λ final made all.
    let s = sound_from shape run order 0 (exact_start program shape.nodes) final made all (standing_first program shape run) in
    let acts : s.ahead ≡ run = sym s.acts in
    let keeps = s.keeps in (
      record {
        follows = record {
          in_range = λ k d lt.
              let (act, does) = act_at run k lt in
              let at : slice_index_or run k d ≡ act = get_or_from_slice_get run k act d does.stands in
              subst (λ (x : Act). x.node < shape.nodes) (sym at) (keeps.in_range k act.node act.deed does);
          each = λ n lt.
              subst (λ o. Makes o (deeds_of n run)) (thread_at_start program shape.nodes n lt)
              (subst (λ xs. Makes (thread_in (plain_start program shape.nodes) n) (deeds_of n xs)) acts (s.makes n lt));
        };
        synchronized = record {
          acquires = λ k n l does. s.sound k n (Acquire l) (omega arith) does;
          releases = λ k n l does. s.sound k n (Release l) (omega arith) does;
          departs = λ k n does. s.sound k n Depart (omega arith) does;
        };
        exact = record {
          states = final.states;
          keeps = keeps;
          reads = λ k n w v does. s.sound k n (Read w v) (omega arith) does;
        };
      },
      ap nodes_of_acts (sym acts) ∙ s.nodes,
    ))
