-- Behind a head of version 3 there are no setups, and behind one of version 4 those that were read.
use Rattle.std.proofs.Common.{◌≡◌, List, length, ap, sym, ◌∙◌, subst, arith}
use Rattle.std.specs.Prelude.{IfSome}
use Rattle.std.proofs.lemmas.Bool.Decides.{nat_tests}
use Rattle.stn_edge.specs.Files.{file_of}
use Rattle.setup_lines.specs.declared.setups.SetupSize.{SetupSize}
use Rattle.setup_lines.specs.Front.{IsSetupFront, SetupsKeepLimits}
use Rattle.valid_log.specs.Heads.{setup_sizes}
use Rattle.plant_check.specs.Heads.{IsSetupsHeld}
use Rattle.plant_check.proofs.SetupsRead.{four_held, four_stand, none_held, sizes_few, three_stand}
use Rattle.plant_check.proofs.setups.read_setups.Goals as goal

pub returns-then-head-eq3-clause-stands : goal.returns-then-head-eq3-clause-stands
returns-then-head-eq3-clause-stands g c =
    let three : c.args.head.version ≡ 3 = grind (arith, nat_tests) in
    three_stand c.args.limits.now (setup_sizes c.args.plant.now) c.args.head (g.F.Shelf.files c.args.files.now) c.args.name.now c.no_setups.result three c.no_setups.ensures

pub returns-then-head-eq3-clause-held : goal.returns-then-head-eq3-clause-held
returns-then-head-eq3-clause-held g c =
    let limits = c.args.limits.now in
    let sizes = setup_sizes c.args.plant.now in
    let head = c.args.head in
    subst (IsSetupsHeld limits sizes head) (sym c.no_setups.ensures) (none_held limits sizes head c.requires.bytes)

pub read_setups-requires-clause-units : goal.read_setups-requires-clause-units
read_setups-requires-clause-units g c = omega (arith, ap length (c.as_slice.ensures ∙ c.in_ok-sizes.ensures), sizes_few c.args.plant.now c.requires.sound)

pub returns-clause-stands : goal.returns-clause-stands
returns-clause-stands g c =
    let limits = c.args.limits.now in
    let head = c.args.head in
    let files = g.F.Shelf.files c.args.files.now in
    let name = c.args.name.now in
    let front = c.in_ok-read_setups.field-0 in
    let other : head.version ≡ 3 → ⊥ = λ (e : head.version ≡ 3). grind (arith, nat_tests) in
    four_stand limits (setup_sizes c.args.plant.now) head files name front c.requires.version other
    (subst (λ (sizes : List SetupSize). IfSome files (λ m. IsSetupFront limits sizes head (file_of m name) front)) (c.as_slice.ensures ∙ c.in_ok-sizes.ensures) c.in_ok-read_setups.ensures.front)

pub returns-clause-held : goal.returns-clause-held
returns-clause-held g c =
    let limits = c.args.limits.now in
    let head = c.args.head in
    let front = c.in_ok-read_setups.field-0 in
    let other : head.version ≡ 3 → ⊥ = λ (e : head.version ≡ 3). grind (arith, nat_tests) in
    four_held limits (setup_sizes c.args.plant.now) head front other
    (subst (λ (sizes : List SetupSize). SetupsKeepLimits limits sizes head front) (c.as_slice.ensures ∙ c.in_ok-sizes.ensures) c.in_ok-read_setups.ensures.kept)
