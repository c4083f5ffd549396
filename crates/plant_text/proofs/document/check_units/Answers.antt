use Rattle.std.proofs.Common.{◌≡◌, [], length, map, Option, option_map, unwrap_or, sym, ap, ◌∙◌, arith}
use Rattle.std.proofs.lemmas.List.{length-map}
use Rattle.toml.specs.Data.{Data}
use Rattle.toml.specs.View.{view, table_view}
use Rattle.plant_text.specs.declared.fault.KeyName.TheVariants as key
use Rattle.plant_text.specs.Fields.{items_of, items_at, optional}
use Rattle.plant_text.proofs.Faults.{nothing}
use Rattle.plant_text.proofs.Members.{no_items_in}
use Rattle.plant_text.proofs.document.check_units.Goals as goal

pub returns-in-None-clause-ok : goal.returns-in-None-clause-ok
returns-in-None-clause-ok c = rw (← c.in-None.ensures) nothing

pub returns-in-None-items_of-clause-ok : goal.returns-in-None-items_of-clause-ok
returns-in-None-items_of-clause-ok c =
    let looked = ap (λ (o : Option Data). unwrap_or (option_map items_of o) []) c.in-Some.ensures in
    let is : items_at (table_view c.args.document.now) (optional key.StnUnit) ≡ [] = sym looked ∙ no_items_in (view c.in-Some.value.now) (sym c.in-None-items_of.ensures.some) in
    rw is nothing

pub check_lasts-requires : goal.check_lasts-requires
check_lasts-requires c =
    let looked = ap (λ (o : Option Data). unwrap_or (option_map items_of o) []) c.in-Some.ensures in
    let is : items_at (table_view c.args.document.now) (optional key.StnUnit) ≡ map view c.in-Some-items_of.items.now = sym looked ∙ c.in-Some-items_of.ensures.items in
    omega (arith, ap length is, length-map c.in-Some-items_of.items.now view)

pub returns-in-Some-items_of-clause-ok : goal.returns-in-Some-items_of-clause-ok
returns-in-Some-items_of-clause-ok c =
    let looked = ap (λ (o : Option Data). unwrap_or (option_map items_of o) []) c.in-Some.ensures in
    let is : items_at (table_view c.args.document.now) (optional key.StnUnit) ≡ map view c.in-Some-items_of.items.now = sym looked ∙ c.in-Some-items_of.ensures.items in
    rw is c.check_lasts.ensures.ok

pub returns-in-Some-items_of-clause-err : goal.returns-in-Some-items_of-clause-err
returns-in-Some-items_of-clause-err c =
    let looked = ap (λ (o : Option Data). unwrap_or (option_map items_of o) []) c.in-Some.ensures in
    let is : items_at (table_view c.args.document.now) (optional key.StnUnit) ≡ map view c.in-Some-items_of.items.now = sym looked ∙ c.in-Some-items_of.ensures.items in
    rw is c.check_lasts.ensures.err
