use Rattle.std.proofs.Common.{length, refl, ap, arith}
use Rattle.std.proofs.lemmas.List.{length-map}
use Rattle.std.proofs.lemmas.Result.{err_from_is_err_and}
use Rattle.toml.specs.View.{table_view}
use Rattle.stn_model.specs.declared.plant.Plant.{Plant}
use Rattle.plant_text.specs.declared.fault.KeyName.TheVariants as key
use Rattle.plant_text.specs.Fields.{items_at, optional}
use Rattle.plant_text.specs.Scope.{scope_of}
use Rattle.plant_text.specs.Tables.{unit_of}
use Rattle.plant_text.specs.Document.{plant_with}
use Rattle.plant_text.proofs.Faults.{passes, stops_after, stops_at}
use Rattle.plant_text.proofs.document.plant_against.Goals as goal

pub returns-in_err-named : goal.returns-in_err-named
returns-in_err-named c =
    let p = err_from_is_err_and c.from_residual.result c.from_residual.ensures.1 in
    rw (p.1, p.2) (stops_at c.in_err-named.field-0.0 _ _ c.in_err-named.ensures.err)

pub check_units-requires : goal.check_units-requires
check_units-requires c =
    let units = ap (λ (plant : Plant). length plant.units) c.in_ok-named.ensures.is in
    omega (arith, c.in_ok-named.ensures.few, length-map (items_at (table_view c.args.document.now) (optional key.StnUnit)) (unit_of (scope_of c.args.context.now)))

pub returns-in_err-check_units : goal.returns-in_err-check_units
returns-in_err-check_units c =
    let p = err_from_is_err_and c.from_residual-in_err-check_units.result c.from_residual-in_err-check_units.ensures.1 in
    let e = c.in_err-check_units.field-0.0 in
    rw (p.1, p.2) (stops_after e _ _ c.in_ok-named.ensures.passes (stops_at e _ _ c.in_err-check_units.ensures.err))

pub returns-in_err-referring : goal.returns-in_err-referring
returns-in_err-referring c =
    let p = err_from_is_err_and c.from_residual-in_err-referring.result c.from_residual-in_err-referring.ensures.1 in
    let e = c.in_err-referring.field-0.0 in
    rw (p.1, p.2) (stops_after e _ _ c.in_ok-named.ensures.passes (stops_after e _ _ c.in_ok-check_units.ensures.ok (stops_at e _ _ c.in_err-referring.ensures.err)))

pub check_sizes-requires-clause-horizon : goal.check_sizes-requires-clause-horizon
check_sizes-requires-clause-horizon c = rw (c.in_ok-referring.ensures.is, c.in_ok-named.ensures.is, c.bare_plant-plant.ensures.periods) c.requires.horizon

pub returns-in_err-check_sizes : goal.returns-in_err-check_sizes
unfolding plant_with
returns-in_err-check_sizes c =
    let p = err_from_is_err_and c.from_residual-in_err-check_sizes.result c.from_residual-in_err-check_sizes.ensures.1 in
    let e = c.in_err-check_sizes.field-0.0 in
    let sizes = rw (c.in_ok-referring.ensures.is, c.in_ok-named.ensures.is, c.bare_plant-plant.ensures.large, c.bare_plant-plant.ensures.periods, c.bare_plant-plant.ensures.calendar, c.requires.calendar) at c.in_err-check_sizes.ensures.err in
    rw (p.1, p.2) (stops_after e _ _ c.in_ok-named.ensures.passes (stops_after e _ _ c.in_ok-check_units.ensures.ok (stops_after e _ _ c.in_ok-referring.ensures.passes sizes)))

pub returns : goal.returns
unfolding plant_with
returns c =
    let sizes = rw (c.in_ok-referring.ensures.is, c.in_ok-named.ensures.is, c.bare_plant-plant.ensures.large, c.bare_plant-plant.ensures.periods, c.bare_plant-plant.ensures.calendar, c.requires.calendar) at c.in_ok-check_sizes.ensures.ok in (
      passes _ _ c.in_ok-named.ensures.passes (passes _ _ c.in_ok-check_units.ensures.ok (passes _ _ c.in_ok-referring.ensures.passes sizes)),
      rw (c.in_ok-referring.ensures.is, c.in_ok-named.ensures.is, c.bare_plant-plant.ensures.large, c.bare_plant-plant.ensures.periods, c.bare_plant-plant.ensures.calendar, c.requires.calendar) refl,
    )
