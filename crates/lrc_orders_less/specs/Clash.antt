-- What a thread does next, as a deed that conflicts with the same.
use Rattle.std.specs.Prelude.{Bool, true, false}
use Rattle.lrc_trace.specs.declared.act.Deed.{Deed}
use Rattle.lrc_trace.specs.declared.act.Deed.TheVariants.{Quiet, Read, Write, Acquire}
use Rattle.lrc_orders_table.specs.declared.next.Next.{Next}
use Rattle.lrc_orders_table.specs.declared.next.Next.TheVariants.{Reads, Writes, Acquires}

-- what is read does not matter
abbrev pub clash_by : Next → Deed
clash_by (Reads word) = Read word 0
clash_by (Writes word value) = Write word value
clash_by (Acquires lock) = Acquire lock
clash_by _ = Quiet

abbrev pub is_contended_next : Next → Bool
is_contended_next (Reads word) = true
is_contended_next (Writes word value) = true
is_contended_next (Acquires lock) = true
is_contended_next _ = false
