-- What a text says, or its fault.
use Rattle.std.specs.Prelude.{Option, Some, None, Result, Ok, Err}

-- what is said where there is no fault, and else the fault
abbrev pub fault_or : {X F : Type 0} → Option F → X → Result X F
fault_or None said = Ok said
fault_or (Some fault) said = Err fault
