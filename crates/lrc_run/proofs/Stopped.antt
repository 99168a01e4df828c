-- What is left of a node whose thread stopped.
use Rattle.std.proofs.Common.{Bool, List, Option, None, Some}
use Rattle.lrc_trace.specs.Trace.{TraceRecord}
use Rattle.lrc_protocol.specs.Node.{Node}
use Rattle.lrc_protocol.specs.Run.{EntryRecord}
use Rattle.lrc_threads.specs.declared.life.Past.{Past}
use Rattle.lrc_threads.specs.declared.stop.Stop.{Stop}
use Rattle.lrc_threads.specs.declared.stop.Stop.TheVariants.{Closed, Worn, NoMemory}
use Rattle.lrc_threads.specs.Threads.{IsPast}
use Rattle.lrc_threads.specs.Worker.{Leaves}
use Rattle.lrc_run.specs.Halts.{StoppedWith}

left_with : (start : Node) (log : List EntryRecord) (trace : TraceRecord) (ready : Bool) (stop : Option Stop) → Leaves start log trace ready stop
    → StoppedWith start log stop
left_with start log trace ready None left = left.short
left_with start log trace ready (Some Worn) left = left.1
left_with start log trace ready (Some NoMemory) left = tt
left_with start log trace ready (Some Closed) left = left

-- its log says why
pub stopped_with : (start : Node) (past : Past) → IsPast start past → StoppedWith start past.log.items past.stop
stopped_with start past is = left_with start past.log.items past.trace past.is_ready past.stop is
