-- What the tables of a file are read against: its version, its horizon, and the names that it declares.
use Rattle.std.specs.Prelude.{ℕ, Bool}
use Rattle.plant_text.specs.declared.fault.TableName.TheVariants as table
use Rattle.plant_text.specs.declared.scope.Context.{Context}
use Rattle.plant_text.specs.declared.scope.Owner.{Owner}
use Rattle.plant_text.specs.Fields.{Places}
use Rattle.plant_text.specs.Names.{places_in}

pub record Scope : Type 0 where
  -- the file is of version 2 or 3
  pub second : Bool
  -- the file is of version 3
  pub third : Bool
  pub periods : ℕ
  pub states : Places
  pub utilities : Places
  pub units : Places
  pub tasks : Places

-- what the context of a reader stands for
abbrev pub scope_of : Context → Scope
scope_of context = record {
  second = context.second;
  third = context.third;
  periods = context.periods;
  states = places_in context.states;
  utilities = places_in context.utilities;
  units = places_in context.units;
  tasks = places_in context.tasks;
}

-- the owner of a table at the top, which stands within no other
abbrev pub no_owner : Owner
no_owner = record { table = table.Top; item = 0; duration = 0 }
