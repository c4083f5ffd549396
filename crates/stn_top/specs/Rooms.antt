-- Which commands the calls of a crate answer.
use Rattle.std.specs.Prelude.{⊤}
use Rattle.command_words.specs.declared.command.Command.{Command}
use Rattle.command_words.specs.declared.command.Command.TheVariants.{Solve, Log, SolvePart, Replan, LogReplan, Improve, Least, LeastLogs, CheckLeast, Conflict, ConflictLogs, CheckConflict, Simulate, Roll, Tell, CheckReplan, Estimate, Parts, Join, Resume, Merge}

-- a command plans a plant, or a part of it
abbrev pub IsPlanning : Command → Type 0
IsPlanning (Solve plant budget) = ⊤
IsPlanning (Log plant budget log) = ⊤
IsPlanning (SolvePart plant part budget log) = ⊤
IsPlanning _ = ⊥

-- a command plans, and begins with a plan
abbrev pub IsReplanning : Command → Type 0
IsReplanning (Replan plant plan period budget) = ⊤
IsReplanning (LogReplan plant plan period budget log) = ⊤
IsReplanning (Improve plant plan budget log) = ⊤
IsReplanning _ = ⊥

-- a command finds the least horizon, or checks the logs of the shorter ones
abbrev pub IsOfHorizons : Command → Type 0
IsOfHorizons (Least plant budget) = ⊤
IsOfHorizons (LeastLogs plant budget stem) = ⊤
IsOfHorizons (CheckLeast plant horizon stem) = ⊤
IsOfHorizons _ = ⊥

-- a command finds deliveries that can't be met together, or checks the log that shows some
abbrev pub IsOfConflicts : Command → Type 0
IsOfConflicts (Conflict plant budget) = ⊤
IsOfConflicts (ConflictLogs plant budget stem) = ⊤
IsOfConflicts (CheckConflict plant stem) = ⊤
IsOfConflicts _ = ⊥

-- a command simulates a plan, or prints what it leaves of its plant
abbrev pub IsOfPlans : Command → Type 0
IsOfPlans (Simulate usage plant plan) = ⊤
IsOfPlans (Roll plant plan period rest) = ⊤
IsOfPlans _ = ⊥

-- a command says what a log shows
abbrev pub IsOfLogs : Command → Type 0
IsOfLogs (Tell usage plant log) = ⊤
IsOfLogs (CheckReplan plant plan period log) = ⊤
IsOfLogs (Estimate plant log state steps) = ⊤
IsOfLogs _ = ⊥

-- a command prints the parts of a plant, or joins the logs of all of them
abbrev pub IsOfParts : Command → Type 0
IsOfParts (Parts plant levels) = ⊤
IsOfParts (Join plant levels stem log) = ⊤
IsOfParts _ = ⊥

-- a command goes on from a log, or merges logs
abbrev pub IsResuming : Command → Type 0
IsResuming (Resume plant log budget out share) = ⊤
IsResuming (Merge plant stem count out) = ⊤
IsResuming _ = ⊥
