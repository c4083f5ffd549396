-- Why a call on the files stops.
use Rattle.std.specs.Prelude.{◌≡◌, ◌≢◌, Result, Err}
use Rattle.stn_edge.specs.Count.{Rose}
use Rattle.stn_edge.specs.declared.shelf.Shelf.{Ghosts}
use Rattle.log_stops.specs.declared.join_stop.JoinStop.{JoinStop}
use Rattle.log_stops.specs.declared.join_stop.JoinStop.TheVariants.{ReadFault, WriteFault}

-- a call stops for a fault of reading, or of writing, only where the count of such faults rose
pub record Stops {F X : Type 0} (S : Ghosts F) (result : Result X JoinStop) (old new : F) : Type 0 where
  pub read_fault : result ≡ Err ReadFault → Rose (S.read_faults old) (S.read_faults new)
  pub write_fault : result ≡ Err WriteFault → Rose (S.write_faults old) (S.write_faults new)

-- a call stops for a fault of reading only where the count of such faults rose, and for none of writing
pub record StopsReading {F X : Type 0} (S : Ghosts F) (result : Result X JoinStop) (old new : F) : Type 0 where
  pub read_fault : result ≡ Err ReadFault → Rose (S.read_faults old) (S.read_faults new)
  pub no_fault : result ≢ Err WriteFault

-- a call stops for a fault of writing only where the count of such faults rose, and for none of reading
pub record StopsWriting {F X : Type 0} (S : Ghosts F) (result : Result X JoinStop) (old new : F) : Type 0 where
  pub write_fault : result ≡ Err WriteFault → Rose (S.write_faults old) (S.write_faults new)
  pub no_fault : result ≢ Err ReadFault
