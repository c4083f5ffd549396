use Rattle.std.proofs.Common.{◌≡◌, sym, ap, ◌∙◌}
use Rattle.toml.specs.View.{table_view}
use Rattle.plant_text.specs.declared.fault.KeyName.TheVariants as key
use Rattle.plant_text.specs.Fields.{at_key, count_of, needed}
use Rattle.plant_text.specs.Scope.{Scope}
use Rattle.plant_text.specs.Document.{scope_in, document_tests, plant_in}
use Rattle.plant_text.proofs.Faults.{gives_after}
use Rattle.plant_text.proofs.SoundPlant.{horizon_small}
use Rattle.plant_text.proofs.document.read_document.Goals as goal

pub plant_against-requires-clause-horizon : goal.plant_against-requires-clause-horizon
unfolding scope_in
plant_against-requires-clause-horizon c =
    let same : c.in_ok-context.context.periods ≡ at_key count_of 0 (table_view c.args.document.now) (needed key.Periods) = ap (λ (scope : Scope). scope.periods) c.in_ok-context.ensures in
    rw same (horizon_small (table_view c.args.document.now) c.is_second-second.result c.is_third-third.result c.in_ok-periods.ensures.0)

pub plant_against-requires-clause-calendar : goal.plant_against-requires-clause-calendar
unfolding scope_in
plant_against-requires-clause-calendar c =
    let same : c.in_ok-context.context.third ≡ c.is_third-third.result = ap (λ (scope : Scope). scope.third) c.in_ok-context.ensures ∙ sym c.is_third-third.ensures in
    rw same c.in_ok-calendar.ensures.1

pub returns : goal.returns
unfolding document_tests plant_in
returns c =
    rw (← c.is_second-second.ensures, ← c.is_third-third.ensures, ← c.in_ok-context.ensures)
    (gives_after c.plant_against.result _ _ _ c.in_ok-check_keys.ensures.ok (gives_after c.plant_against.result _ _ _ c.in_ok-periods.ensures.0 (gives_after c.plant_against.result _ _ _ c.in_ok-calendar.ensures.0 c.plant_against.ensures)))
