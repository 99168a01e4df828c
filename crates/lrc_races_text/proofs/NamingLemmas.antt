-- Names and their numbers, as more are mentioned.
use Rattle.std.proofs.Common.{◌≡◌, ◌≢◌, ◌↔◌, ℕ, zero, suc, ◌≤◌, List, [], ◌∷◌, ◌++◌, length, take, inl, inr, sym, subst, refl, ◌∙◌, ap, arith, append_assoc, length-append}
use Rattle.std.specs.Prelude.{Option, Some, None, AllPairs, Contains, flat_map, slice_get}
use Rattle.std.proofs.lemmas.Bool.{cases_lt}
use Rattle.std.proofs.lemmas.Option.{slice_get_within, get_or_from_slice_get}
use Rattle.std.proofs.lemmas.List.Elements.{Contains-append_left, Contains-push, Contains-push_cases}
use Rattle.std.proofs.lemmas.List.{append-nil, take-append-le, take_all}
use Rattle.lrc_races_detector.proofs.Pairs.{pairs-append}
use Rattle.lrc_races_trace.specs.declared.event.Event.{Event}
use Rattle.lrc_races_trace.specs.declared.event.Operation.{Operation}
use Rattle.lrc_races_lines.specs.declared.line.Kind.{Kind}
use Rattle.lrc_races_lines.specs.Line.{Saying}
use Rattle.lrc_races_lines.specs.Table.{IsNumbered, met, new}
use Rattle.lrc_races_text.specs.Says.{Said}
use Rattle.lrc_races_text.specs.Naming.{AreFirstNamed, Numbers, Naming, IsNaming, IsOperation, IsLocated, IsEvent, AreEvents, no_events, event_more}
use Rattle.lrc_races_text.specs.Naming.{read, write, acquire, release, post, wait, fork, join, arrive, depart, idle}
use Rattle.lrc_races_text.specs.Naming.{threads_in, variables_in, locks_in, barriers_in, locations_in, located}
use Rattle.lrc_races_text.specs.Tables.{Mentions, no_mention, mention_more, MentionsTarget, MentionsAll}

-- ---- places in a list that grows

pub slice_get-front : {X : Type 0} (xs ys : List X) (k : ℕ) (x : X) → slice_get xs k ≡ Some x → slice_get (xs ++ ys) k ≡ Some x
slice_get-front [] ys k x e = let never : ⊥ = cc in absurd never
slice_get-front (y ∷ xs) ys zero x e = e
slice_get-front (y ∷ xs) ys (suc k) x e = slice_get-front xs ys k x e

pub slice_get-next : {X : Type 0} (xs : List X) (x : X) (ys : List X) → slice_get (xs ++ x ∷ ys) (length xs) ≡ Some x
slice_get-next [] x ys = refl
slice_get-next (y ∷ xs) x ys = slice_get-next xs x ys

pub flat_map-push : {X Y : Type 0} (f : X → List Y) (xs : List X) (x : X) → flat_map f (xs ++ x ∷ []) ≡ flat_map f xs ++ f x
flat_map-push f [] x = append-nil (f x)
flat_map-push f (y ∷ xs) x = ap (λ ys. f y ++ ys) (flat_map-push f xs x) ∙ sym (append_assoc (f y) (flat_map f xs) (f x))

-- ---- numbers stay

-- what has a number keeps it
pub record Keeps (before after : List (List ℕ)) : Type 0 where
  pub at : (k : ℕ) (name : List ℕ) → slice_get before k ≡ Some name → slice_get after k ≡ Some name

pub keeps_one : {before after : List (List ℕ)} {name : List ℕ} {number : ℕ} → IsNumbered before name after number → Keeps before after
keeps_one (met is) = record { at = λ k other e. e }
keeps_one {before = before} {name = name} (new none) = record { at = λ k other e. slice_get-front before (name ∷ []) k other e }

pub keeps_all : {mentions before after : List (List ℕ)} → Mentions mentions before after → Keeps before after
keeps_all no_mention = record { at = λ k name e. e }
keeps_all (mention_more one rest) =
    let a = keeps_one one in
    let b = keeps_all rest in
    record { at = λ k name e. b.at k name (a.at k name e) }

-- and the name has it
pub numbers : {before after : List (List ℕ)} {name : List ℕ} {number : ℕ} → IsNumbered before name after number → Numbers after name number
numbers (met is) = record { at = is }
numbers {before = before} {name = name} (new none) = record { at = slice_get-next before name [] }

pub moved : {before after : List (List ℕ)} {name : List ℕ} {number : ℕ} → Keeps before after → Numbers before name number → Numbers after name number
moved {name = name} {number = number} k n = record { at = k.at number name n.at }

pub record KeepsAll (before after : Naming) : Type 0 where
  pub threads : Keeps before.threads after.threads
  pub variables : Keeps before.variables after.variables
  pub locks : Keeps before.locks after.locks
  pub barriers : Keeps before.barriers after.barriers
  pub locations : Keeps before.locations after.locations

pub keeps_names : {saying : Saying} {before after : Naming} → MentionsAll saying before after → KeepsAll before after
keeps_names m = record {
  threads = keeps_all m.threads;
  variables = keeps_all m.variables;
  locks = keeps_all m.locks;
  barriers = keeps_all m.barriers;
  locations = keeps_all m.locations;
}

-- ---- names in the order of their first mention

-- of the names with one mention more
orders : (mentions names : List (List ℕ)) (name : List ℕ) (after : List (List ℕ)) → AreFirstNamed mentions names
    → ((k : ℕ) → k ≤ length names → take k after ≡ take k names) → length names ≤ length after
    → ((x : List ℕ) → Contains after x ↔ Contains (mentions ++ name ∷ []) x)
    → (n : ℕ) → (k : ℕ) × (k ≤ length after) × ((x : List ℕ) → Contains (take k after) x ↔ Contains (take n (mentions ++ name ∷ [])) x)
orders mentions names name after f fronts longer exact n =
    elim (cases_lt (length mentions) n) [
      | inl past ↦
          let long = length-append mentions (name ∷ []) in
          let all = take_all n (mentions ++ name ∷ []) (omega arith) in
          let whole = take_all (length after) after (omega arith) in
          (length after, omega arith, λ x. rw (whole, all) (exact x))
      | inr within ↦
          let (k, le, same) = f.in_order n in
          let one = fronts k le in
          let two = take-append-le n mentions (name ∷ []) within in
          (k, omega arith, λ x. rw (one, two) (same x))
    ]

alone : (name : List ℕ) → AllPairs (λ x y. x ≢ y) (name ∷ [])
alone name i j d lt within = absurd (omega arith)

one_of : (name x : List ℕ) → Contains (name ∷ []) x → name ≡ x
one_of name x h = elim (Contains-push_cases [] name x h) [ inl (k, lt, is) ↦ absurd (omega arith) | inr is ↦ is ]

apart : (names : List (List ℕ)) (name : List ℕ) → AllPairs (λ x y. x ≢ y) names → ¬ Contains names name → AllPairs (λ x y. x ≢ y) (names ++ name ∷ [])
apart names name f none = pairs-append (λ x y. x ≢ y) names (name ∷ []) f (alone name) (λ p q in_p in_q e.
    none (subst (λ x. Contains names x) (e ∙ sym (one_of name q in_q)) in_p))

contained : (names : List (List ℕ)) (name : List ℕ) (number : ℕ) → slice_get names number ≡ Some name → Contains names name
contained names name number is = (number, slice_get_within names number name is, get_or_from_slice_get names number name name is)

pub named_one : {mentions before after : List (List ℕ)} {name : List ℕ} {number : ℕ} → AreFirstNamed mentions before
    → IsNumbered before name after number → AreFirstNamed (mentions ++ name ∷ []) after
named_one {mentions = mentions} {before = before} {name = name} {number = number} f (met is) =
    let there = contained before name number is in
    let exact : (x : List ℕ) → Contains before x ↔ Contains (mentions ++ name ∷ []) x = λ x. (
      λ h. Contains-append_left mentions (name ∷ []) x ((f.exact x).0 h),
      λ h. elim (Contains-push_cases mentions name x h) [ inl old ↦ (f.exact x).1 old | inr same ↦ subst (λ y. Contains before y) same there ],
    ) in
    record { distinct = f.distinct; exact = exact; in_order = orders mentions before name before f (λ k le. refl) (omega arith) exact }
named_one {mentions = mentions} {before = before} {name = name} f (new none) =
    let exact : (x : List ℕ) → Contains (before ++ name ∷ []) x ↔ Contains (mentions ++ name ∷ []) x = λ x. (
      λ h. elim (Contains-push_cases before name x h) [
        | inl old ↦ Contains-append_left mentions (name ∷ []) x ((f.exact x).0 old)
        | inr same ↦ subst (λ y. Contains (mentions ++ name ∷ []) y) same (Contains-push mentions name)
      ],
      λ h. elim (Contains-push_cases mentions name x h) [
        | inl old ↦ Contains-append_left before (name ∷ []) x ((f.exact x).1 old)
        | inr same ↦ subst (λ y. Contains (before ++ name ∷ []) y) same (Contains-push before name)
      ],
    ) in
    record {
      distinct = apart before name f.distinct none;
      exact = exact;
      in_order = orders mentions before name (before ++ name ∷ []) f (λ k le. take-append-le k before (name ∷ []) le)
          (omega (arith, length-append before (name ∷ []))) exact;
    }

pub named_more : {mentions more before after : List (List ℕ)} → AreFirstNamed mentions before → Mentions more before after
    → AreFirstNamed (mentions ++ more) after
named_more {mentions = mentions} {before = before} f no_mention = subst (λ ms. AreFirstNamed ms before) (sym (append-nil mentions)) f
named_more {mentions = mentions} {after = after} f (mention_more {name = name} {mentions = rest} one others) =
    subst (λ ms. AreFirstNamed ms after) (append_assoc mentions (name ∷ []) rest) (named_more (named_one f one) others)

pub nothing_named : AreFirstNamed [] []
nothing_named = record {
  distinct = λ i j d lt within. absurd (omega arith);
  exact = λ x. (λ h. h, λ h. h);
  in_order = λ n. (0, omega arith, λ x. (λ (k, lt, is). absurd (omega arith), λ (k, lt, is). absurd (omega (arith, lt, take_nothing n))));
}
  where
    take_nothing : (n : ℕ) → length (take n (let none : List (List ℕ) = [] in none)) ≡ 0
    take_nothing zero = refl
    take_nothing (suc n) = refl

-- one event more
pub naming_more : {said : List Said} {before after : Naming} (s : Said) → IsNaming said before → MentionsAll s.saying before after
    → IsNaming (said ++ s ∷ []) after
naming_more {said = said} {after = after} s n m = record {
  threads = subst (λ ms. AreFirstNamed ms after.threads) (sym (flat_map-push threads_in said s)) (named_more n.threads m.threads);
  variables = subst (λ ms. AreFirstNamed ms after.variables) (sym (flat_map-push variables_in said s)) (named_more n.variables m.variables);
  locks = subst (λ ms. AreFirstNamed ms after.locks) (sym (flat_map-push locks_in said s)) (named_more n.locks m.locks);
  barriers = subst (λ ms. AreFirstNamed ms after.barriers) (sym (flat_map-push barriers_in said s)) (named_more n.barriers m.barriers);
  locations = subst (λ ms. AreFirstNamed ms after.locations) (sym (flat_map-push locations_in said s)) (named_more n.locations m.locations);
}

-- ---- events by numbers stay

pub keeps_operation : {before after : Naming} {target : List ℕ} {kind : Kind} {operation : Operation} → KeepsAll before after
    → IsOperation before target kind operation → IsOperation after target kind operation
keeps_operation k (read n) = read (moved k.variables n)
keeps_operation k (write n) = write (moved k.variables n)
keeps_operation k (acquire n) = acquire (moved k.locks n)
keeps_operation k (release n) = release (moved k.locks n)
keeps_operation k (post n) = post (moved k.locks n)
keeps_operation k (wait n) = wait (moved k.locks n)
keeps_operation k (fork n) = fork (moved k.threads n)
keeps_operation k (join n) = join (moved k.threads n)
keeps_operation k (arrive n) = arrive (moved k.barriers n)
keeps_operation k (depart n) = depart (moved k.barriers n)
keeps_operation k idle = idle

keeps_place : {before after : List (List ℕ)} (location : List ℕ) (place : Option ℕ) → Keeps before after → IsLocated before location place
    → IsLocated after location place
keeps_place location None k is = is
keeps_place location (Some number) k (some, n) = (some, moved k n)

pub keeps_event : {before after : Naming} {said : Said} {event : Event} → KeepsAll before after → IsEvent before said event → IsEvent after said event
keeps_event {said = said} {event = event} k e = record {
  thread = moved k.threads e.thread;
  operation = keeps_operation k e.operation;
  line = e.line;
  location = keeps_place said.saying.location event.location k.locations e.location;
}

pub keeps_events : {before after : Naming} {said : List Said} {events : List Event} → KeepsAll before after → AreEvents before said events
    → AreEvents after said events
keeps_events k no_events = no_events
keeps_events k (event_more e rest) = event_more (keeps_event k e) (keeps_events k rest)

pub events_push : {naming : Naming} {said : List Said} {events : List Event} {s : Said} {event : Event} → AreEvents naming said events
    → IsEvent naming s event → AreEvents naming (said ++ s ∷ []) (events ++ event ∷ [])
events_push no_events e = event_more e no_events
events_push (event_more first rest) e = event_more first (events_push rest e)

-- ---- what is mentioned, by the kind of an operation

pub mentions_as : {kind same : Kind} {target : List ℕ} {before after : Naming} → kind ≡ same → MentionsTarget same target before after
    → MentionsTarget kind target before after
mentions_as {target = target} {before = before} {after = after} e m = subst (λ k. MentionsTarget k target before after) (sym e) m

pub operation_as : {kind same : Kind} {naming : Naming} {target : List ℕ} {operation : Operation} → kind ≡ same → IsOperation naming target same operation
    → IsOperation naming target kind operation
operation_as {naming = naming} {target = target} {operation = operation} e o = subst (λ k. IsOperation naming target k operation) (sym e) o

-- a location that is empty is none
pub unlocated : (location : List ℕ) → length location ≡ 0 → located location ≡ []
unlocated [] e = refl
unlocated (byte ∷ rest) e = let never : ⊥ = omega arith in absurd never

pub placed : (location : List ℕ) → ¬ (length location ≡ 0) → (located location ≡ location ∷ []) × (location ≢ [])
placed [] some = absurd (some refl)
placed (byte ∷ rest) some = (refl, λ e. let never : ⊥ = cc in absurd never)

pub mention_none : (location : List ℕ) (names : List (List ℕ)) → length location ≡ 0 → Mentions (located location) names names
mention_none location names e = subst (λ ms. Mentions ms names names) (sym (unlocated location e)) no_mention

pub mention_one : (location : List ℕ) {before after : List (List ℕ)} {number : ℕ} → ¬ (length location ≡ 0) → IsNumbered before location after number
    → Mentions (located location) before after
mention_one location {before} {after} some n = subst (λ ms. Mentions ms before after) (sym (placed location some).0) (mention_more n no_mention)

pub after_none : {mentions before between after : List (List ℕ)} → Mentions [] before between → Mentions mentions between after → Mentions mentions before after
after_none no_mention m = m

pub same_names : (names : List (List ℕ)) → Keeps names names
same_names names = record { at = λ k name e. e }
