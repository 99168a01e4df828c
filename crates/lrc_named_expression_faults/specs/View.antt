-- The code's scope as the definitions see it.
use Rattle.std.specs.Prelude.{map}
use Rattle.lrc_named_tree.specs.View.{named_of}
use Rattle.lrc_named_names.specs.View.{declared_of, meaning_seen}
use Rattle.lrc_named_constants.specs.View.{known_of}
use Rattle.lrc_named_constants.specs.Well.{bytes_of}
use Rattle.lrc_named_expression_faults.specs.declared.scope.Sense as code_sense
use Rattle.lrc_named_expression_faults.specs.declared.scope.Sense.TheVariants.{Parameter, Declared, Private, Unknown}
use Rattle.lrc_named_expression_faults.specs.declared.scope.Scope as code_scope
use Rattle.lrc_named_expression_faults.specs.Scope.{Scope, Sense, parameter, declared, private_name, unknown}

abbrev pub sense_seen : code_sense.Sense → Sense
sense_seen Parameter = parameter
sense_seen (Declared meaning) = declared (meaning_seen meaning.now)
sense_seen Private = private_name
sense_seen Unknown = unknown

abbrev pub scope_of : code_scope.Scope → Scope
scope_of s = record { declared = declared_of s.names.now; known = map known_of s.known.now; assigned = bytes_of (map named_of s.assigned.now.names.now); constant = s.is_constant }
