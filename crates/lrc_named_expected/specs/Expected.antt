-- What may stand in a place, in words.
use Rattle.std.specs.Prelude.{ℕ, ◌&&◌, ◌||◌, not, Bool, List, [], ◌∷◌, ◌++◌, codes, if◌then◌else◌}
use Rattle.std.specs.List.{flat_map}
use Rattle.lrc_lint_lines.specs.Expected.{joined}
use Rattle.lrc_named_may.specs.declared.kind.Kind.{Kind}
use Rattle.lrc_named_may.specs.Kind.{all_kinds}
use Rattle.lrc_named_expected.specs.Kind.{comparison_kinds, declaration_kinds, has, has_all, operand_kinds, operator_kinds, phrase, statement_kinds}

-- the name of a group, where all its members may stand
abbrev pub group_phrase : List Kind → List ℕ → List Kind → List (List ℕ)
group_phrase some name members = if has_all some members then name ∷ [] else []

-- whether a group says that this kind may stand
abbrev pub says : List Kind → List Kind → Kind → Bool
says some members one = has_all some members && has members one

abbrev pub is_said : List Kind → Kind → Bool
is_said some one =
    says some declaration_kinds one || (says some statement_kinds one || (says some operand_kinds one || (says some operator_kinds one || says some comparison_kinds one)))

-- a kind that may stand and that no group says
abbrev pub single_phrase : List Kind → Kind → List (List ℕ)
single_phrase some one = if has some one && not (is_said some one) then phrase one ∷ [] else []

-- the groups, and then what they do not say
abbrev pub phrases_of : List Kind → List (List ℕ)
phrases_of some =
    group_phrase some (codes "a declaration") declaration_kinds
    ++ (group_phrase some (codes "a statement") statement_kinds
    ++ (group_phrase some (codes "an operand") operand_kinds
    ++ (group_phrase some (codes "an operator") operator_kinds
    ++ (group_phrase some (codes "a comparison") comparison_kinds
    ++ flat_map (single_phrase some) all_kinds))))

-- the line that says that these kinds may stand
abbrev pub expected_text : List Kind → List ℕ
expected_text some = codes "  here may stand: " ++ joined (phrases_of some) ++ codes "\n"
