-- Why a log was not walked to its end, by why a call failed.
use Rattle.stn_edge.specs.declared.stop.Stop.{Stop}
use Rattle.stn_edge.specs.declared.stop.Stop.TheVariants as stop
use Rattle.proof_tree.specs.declared.taker.TakeStop.{TakeStop}
use Rattle.proof_tree.specs.declared.taker.TakeStop.TheVariants as take
use Rattle.log_nodes.specs.declared.entering.WalkStop.{WalkStop}
use Rattle.log_nodes.specs.declared.entering.WalkStop.TheVariants.{ReadFault, WriteFault, Memory}

-- where a part of the log was not read
abbrev pub read_stop : Stop → WalkStop
read_stop stop.Failed = ReadFault
read_stop stop.Memory = Memory

-- where an item was not put
abbrev pub put_stop : TakeStop → WalkStop
put_stop take.Failed = WriteFault
put_stop take.Memory = Memory
