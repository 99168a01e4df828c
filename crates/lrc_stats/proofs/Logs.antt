-- Sums and lists over the logs of all nodes, with one log more.
use Rattle.std.proofs.Common.{◌≡◌, ◌∙◌, ◌+◌, ◌<◌, ◌++◌, ℕ, List, [], ◌∷◌, ap, arith, length, take, get_or, append-nil}
use Rattle.std.specs.Prelude.{Vec, map, sum_by}
use Rattle.std.specs.List.{flat_map}
use Rattle.std.specs.declared.alloc.Global.{Global}
use Rattle.std.proofs.lemmas.List.{map_more}
use Rattle.std.proofs.lemmas.List.Sums.{sum_by-append}
use Rattle.std.proofs.lemmas.List.Concat.{flat_map-append}
use Rattle.lrc_protocol.specs.Run.{EntryRecord}

abbrev pub Log : Type 0
Log = Vec EntryRecord Global

abbrev pub items : List Log → List (List EntryRecord)
items logs = map (λ log. log.items) logs

pub sum_more : (f : List EntryRecord → ℕ) (logs : List Log) (i : ℕ) (d : Log) → i < length logs
    → sum_by f (items (take (i + 1) logs)) ≡ sum_by f (items (take i logs)) + f (get_or logs i d).items
sum_more f logs i d lt =
    let here = (get_or logs i d).items in
    let one : sum_by f (here ∷ []) ≡ f here = omega arith in
    ap (sum_by f) (map_more (λ (log : Log). log.items) logs i d lt)
    ∙ sum_by-append f (items (take i logs)) (here ∷ [])
    ∙ ap (λ n. sum_by f (items (take i logs)) + n) one

pub flat_more : {Y : Type 0} (f : List EntryRecord → List Y) (logs : List Log) (i : ℕ) (d : Log) → i < length logs
    → flat_map f (items (take (i + 1) logs)) ≡ flat_map f (items (take i logs)) ++ f (get_or logs i d).items
flat_more f logs i d lt =
    let here = (get_or logs i d).items in
    ap (flat_map f) (map_more (λ (log : Log). log.items) logs i d lt)
    ∙ flat_map-append f (items (take i logs)) (here ∷ [])
    ∙ ap (λ l. flat_map f (items (take i logs)) ++ l) (append-nil (f here))
