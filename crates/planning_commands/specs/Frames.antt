-- What planning leaves of its store, where a log may be named.
use Rattle.std.specs.Prelude.{◌≡◌, ◌≢◌, ◌≤◌, ◌<◌, ◌^◌, ℕ, List, length, Option, None, Result, Err, IsTrue, IfSome}
use Rattle.stn_edge.specs.Files.{FileMap, OthersStay}
use Rattle.stn_edge.specs.declared.shelf.Shelf.{Ghosts}
use Rattle.stn_model.specs.declared.plant.Plant.{Plant}
use Rattle.stn_model.specs.declared.start.Start.{Start}
use Rattle.stn_model.specs.Sound.{Sound}
use Rattle.command_replies.specs.declared.stopped.Stopped.{Stopped}
use Rattle.command_replies.specs.declared.stopped.Stopped.TheVariants.{ReadFault, WriteFault}
use Rattle.command_replies.specs.Frames.{HadWriteFault}
use Rattle.command_replies.specs.Sources.{IfRefused}
use Rattle.planning_commands.specs.NamedLog.{LogLeft}

-- a call that only writes: what may be read and written is as before; no read has failed, writes may have
pub record OnlyWrites {F : Type 0} (S : Ghosts F) (old new : F) : Type 0 where
  pub readable : S.may_read new ≡ S.may_read old
  pub writable : S.may_write new ≡ S.may_write old
  pub no_read : S.read_faults new ≡ S.read_faults old
  pub writes : S.write_faults old ≤ S.write_faults new

-- writes may fail only where a log is named, and a call that ends for a fault of writing has had one
pub record WritesLog {F X : Type 0} (S : Ghosts F) (log : Option (List ℕ)) (old new : F) (result : Result X Stopped) : Type 0 where
  pub fault : HadWriteFault S old new result
  pub named : result ≡ Err WriteFault → log ≢ None
  pub none : log ≡ None → S.write_faults new ≡ S.write_faults old

-- every file but the log that is named is as it was
abbrev pub OthersLeft : Option (List ℕ) → Option FileMap → Option FileMap → Type 0
OthersLeft log old new = LogLeft log (λ name. OthersStay name old new) old new

-- planning of what was read: it refuses nothing, no read fails, a write only where a log is named, and no other file changes
pub record OnlyPlans {F X : Type 0} (S : Ghosts F) (log : Option (List ℕ)) (old new : F) (result : Result X Stopped) : Type 0 where
  pub none : IfRefused result (λ _. ⊥)
  pub no_fault : result ≢ Err ReadFault
  pub writing : WritesLog S log old new result
  pub others : OthersLeft log (S.files old) (S.files new)
  pub kept : OnlyWrites S old new

-- what planning that begins with a plan asks: a sound plant, a plan that is not too long, and that the log that is named may be written
pub record MayPlan {F : Type 0} (S : Ghosts F) (plant : Plant) (plan : List Start) (log : Option (List ℕ)) (files : F) : Type 0 where
  pub sound : Sound plant
  pub short : length plan < 2 ^ 32
  pub allowed : IfSome log (λ name. IsTrue (S.may_write files name))
