-- Store buffering: each of two nodes writes a word of its own, then reads the other's, and prints what it got.
use Rattle.std.specs.Prelude.{List, [], ◌∷◌}
use Rattle.lrc_program.specs.declared.Operator.TheVariants.{Subtract}
use Rattle.lrc_program.specs.Tree.{ProgramTree, number, private, me, binary, read, write, print, empty, next}
use Rattle.lrc_trace.specs.declared.act.Act.{Act}
use Rattle.lrc_trace.specs.declared.act.Deed.TheVariants.{Print, End}
use Rattle.lrc_trace.specs.Run.{act_of}

-- words 2; locks 0; [me] = 1; x = [1 - me]; print x;
abbrev pub store_buffering : ProgramTree
store_buffering = record {
  words = 2;
  locks = 0;
  statements = next (write me (number 1)) (next (read 0 (binary (number 1) Subtract me)) (next (print (private 0)) empty));
}

-- both nodes print 0 and end
abbrev pub both_print_zero : List Act
both_print_zero = act_of 0 (Print 0) ∷ act_of 0 End ∷ act_of 1 (Print 0) ∷ act_of 1 End ∷ []
