-- Why work on a log stopped.
use Rattle.stn_edge.specs.declared.stop.Stop.{Stop}
use Rattle.stn_edge.specs.declared.stop.Stop.TheVariants as stop
use Rattle.log_stops.specs.declared.check_stop.CheckStop.{CheckStop}
use Rattle.log_stops.specs.declared.check_stop.CheckStop.TheVariants as check
use Rattle.log_stops.specs.declared.join_stop.JoinStop.{JoinStop}
use Rattle.log_stops.specs.declared.join_stop.JoinStop.TheVariants.{ReadFault, Memory}

-- why a log was not checked, where a part of it was not read
abbrev pub check_stop : Stop → CheckStop
check_stop stop.Failed = check.Fault
check_stop stop.Memory = check.Memory

-- why a log was not made of others, where a part of one was not read
abbrev pub read_stop : Stop → JoinStop
read_stop stop.Failed = ReadFault
read_stop stop.Memory = Memory

-- why a log was not made of others, where one was not checked
abbrev pub unchecked_stop : CheckStop → JoinStop
unchecked_stop check.Fault = ReadFault
unchecked_stop check.Memory = Memory
