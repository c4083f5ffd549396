-- Which faults a call of a command has had.
use Rattle.std.specs.Prelude.{◌≡◌, Result, Err}
use Rattle.stn_edge.specs.Count.{Rose}
use Rattle.stn_edge.specs.declared.shelf.Shelf.{Ghosts}
use Rattle.command_replies.specs.declared.stopped.Stopped.{Stopped}
use Rattle.command_replies.specs.declared.stopped.Stopped.TheVariants.{ReadFault, WriteFault}

-- a call that ends for a fault of reading has had one
abbrev pub HadReadFault : {F X : Type 0} → Ghosts F → F → F → Result X Stopped → Type 0
HadReadFault S old new result = result ≡ Err ReadFault → Rose (S.read_faults old) (S.read_faults new)

-- a call that ends for a fault of writing has had one
abbrev pub HadWriteFault : {F X : Type 0} → Ghosts F → F → F → Result X Stopped → Type 0
HadWriteFault S old new result = result ≡ Err WriteFault → Rose (S.write_faults old) (S.write_faults new)
