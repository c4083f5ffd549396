use Rattle.std.proofs.Common.{List, [], length, map, sym, subst}
use Rattle.std.proofs.lemmas.Result.{err_from_is_err_and}
use Rattle.toml.specs.Data.{Data}
use Rattle.toml.specs.View.{view}
use Rattle.plant_text.specs.declared.tables.side.SidePart.{SidePart}
use Rattle.plant_text.specs.Tests.{Test, first_fault, Stops, Gives, rows_tests}
use Rattle.plant_text.specs.Fields.{items_of}
use Rattle.plant_text.specs.Scope.{scope_of}
use Rattle.plant_text.specs.Tables.{is_output, side_tests, side_of, share_tests, outputs_in}
use Rattle.plant_text.proofs.Faults.{stops_at, gives_after}
use Rattle.plant_text.proofs.Shares.{tables_more, sides_proper}
use Rattle.plant_text.proofs.tables.side.sides_in.Goals as goal

pub returns-in_err-sides : goal.returns-in_err-sides
returns-in_err-sides c =
    let scope = scope_of c.args.context.now in
    let made = side_of scope (is_output c.args.owner.table) in
    let front = λ (ds : List Data). rows_tests (λ (earlier : List SidePart) (d : Data). side_tests scope c.args.owner (length earlier) d) made [] ds in
    let back = λ (ds : List Data). share_tests c.args.owner c.args.quantum (map made ds) in
    let more = tables_more c.args.place c.args.name 8 front back (view c.args.value.now) in
    let p = err_from_is_err_and c.from_residual.result c.from_residual.ensures.1 in
    rw (p.1, p.2) (subst (λ (tests : List Test). Stops c.in_err-sides.field-0.0 (first_fault tests)) (sym more) (stops_at c.in_err-sides.field-0.0 _ _ c.in_err-sides.ensures.gives))

pub shares-requires-clause-proper : goal.shares-requires-clause-proper
shares-requires-clause-proper c =
    rw (c.as_slice.ensures, c.in_ok-sides.ensures.gives.1) (sides_proper (scope_of c.args.context.now) (is_output c.args.owner.table) (items_of (view c.args.value.now)))

pub returns : goal.returns
returns c =
    let scope = scope_of c.args.context.now in
    let made = side_of scope (is_output c.args.owner.table) in
    let front = λ (ds : List Data). rows_tests (λ (earlier : List SidePart) (d : Data). side_tests scope c.args.owner (length earlier) d) made [] ds in
    let back = λ (ds : List Data). share_tests c.args.owner c.args.quantum (map made ds) in
    let more = tables_more c.args.place c.args.name 8 front back (view c.args.value.now) in
    let shared = rw (c.as_slice.ensures, c.in_ok-sides.ensures.gives.1) at c.shares.ensures in
    subst (λ (tests : List Test). Gives c.shares.result tests (outputs_in scope (is_output c.args.owner.table) c.args.quantum (items_of (view c.args.value.now)))) (sym more)
    (gives_after c.shares.result _ _ _ c.in_ok-sides.ensures.gives.0 shared)
