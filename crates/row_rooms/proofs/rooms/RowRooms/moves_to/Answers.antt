-- Where every slot is turned, the rooms are those at the point.
use Rattle.std.proofs.Common.{◌≡◌, ◌+◌, ◌<◌, ◌∙◌, ℕ, List, length, set, get_or, ap, sym, subst, ⊎_elim, arith}
use Rattle.std.specs.List.{All}
use Rattle.std.proofs.lemmas.Bool.{cases_eq, eq-eqb, eqb-true}
use Rattle.std.proofs.lemmas.List.{ext_get_or, get_or-set_same, get_or-set_other}
use Rattle.row_kit.specs.declared.domain.Domain.{Domain}
use Rattle.row_kit.specs.Point.{LiesIn}
use Rattle.row_kit.specs.Row.{IsKept}
use Rattle.row_rooms.proofs.Left.{column_named, small_rooms, still_rooms, all_kept, kept_none}
use Rattle.row_rooms.proofs.rooms.RowRooms.moves_to.Goals as goal

pub turn-requires-clause-columns : goal.turn-requires-clause-columns
turn-requires-clause-columns c =
    let lies = c.lies_in.ensures.0 c.if-not-lies_in.false in
    omega (arith, lies.same_length, ap length c.as_slice.ensures, c.loop-slot.invariant.rooms.one_column)

pub turn-requires-clause-point : goal.turn-requires-clause-point
turn-requires-clause-point c =
    let lies = c.lies_in.ensures.0 c.if-not-lies_in.false in
    omega (arith, lies.same_length, ap length c.as_slice.ensures, c.loop-slot.invariant.rooms.one_value)

pub turn-requires-clause-named : goal.turn-requires-clause-named
turn-requires-clause-named c =
    let lies = c.lies_in.ensures.0 c.if-not-lies_in.false in
    let lt : c.loop-slot.slot < length c.args.program.now.root = omega (arith, lies.same_length, ap length c.as_slice.ensures) in
    column_named c.args.program.now c.loop-slot.self c.loop-slot.invariant.rooms c.loop-slot.slot lt

pub turn-requires-clause-small : goal.turn-requires-clause-small
turn-requires-clause-small c = small_rooms c.args.program.now c.loop-slot.self c.loop-slot.invariant.rooms

pub loop-slot-preserved : goal.loop-slot-preserved
loop-slot-preserved c =
    let lies = c.lies_in.ensures.0 c.if-not-lies_in.false in
    let slot = c.loop-slot.slot in
    let held = c.loop-slot.self in
    let point = c.args.point.now in
    let lt : slot < length c.args.program.now.root = omega (arith, lies.same_length, ap length c.as_slice.ensures) in
    let turn = c.turn.ensures in
    let fits = c.type_inv.point slot in
    let byte : get_or point slot 0 < 256 = omega arith in
    record {
      rooms = still_rooms c.args.program.now held c.turn.new.self slot (get_or point slot 0) c.loop-slot.invariant.rooms lt byte turn.columns turn.point turn.rooms turn.broken;
      reached = λ k below. ap (λ (xs : List ℕ). get_or xs k 0) turn.point ∙ ⊎_elim
          (λ (here : k ≡ slot). ap (λ (n : ℕ). get_or (set held.point.items slot (get_or point slot 0)) n 0) here ∙ get_or-set_same held.point.items slot (get_or point slot 0) 0 (omega (arith, c.loop-slot.invariant.rooms.one_value)) ∙ ap (λ (n : ℕ). get_or point n 0) (sym here))
          (λ (other : k ≡ slot → ⊥). get_or-set_other held.point.items slot k (get_or point slot 0) 0 other ∙ c.loop-slot.invariant.reached k (before k slot below other))
          (cases_eq k slot);
    }
  where
    before : (k n : ℕ) → k < n + 1 → (k ≡ n → ⊥) → k < n
    before k n h other = omega arith

pub returns-clause-lawful : goal.returns-clause-lawful
returns-clause-lawful c =
    let program = c.args.program.now in
    let held = c.loop-slot.self in
    let is = c.loop-slot.invariant.rooms in
    let lies = subst (λ (ds : List Domain). LiesIn ds c.args.point.now) c.as_slice.ensures (c.lies_in.ensures.0 c.if-not-lies_in.false) in
    let reached : held.point.items ≡ c.args.point.now =
    ext_get_or 0 held.point.items c.args.point.now (is.one_value ∙ sym lies.same_length)
    (λ k lt. c.loop-slot.invariant.reached k (omega (arith, is.one_value, lies.same_length))) in (
      λ none. record { lies = lies; keeps = subst (λ (p : List ℕ). All (IsKept p) program.rows) reached (all_kept program held is (eqb-true held.broken 0 none)) },
      λ lawful. eq-eqb held.broken 0 (kept_none program held is (subst (λ (p : List ℕ). All (IsKept p) program.rows) (sym reached) lawful.keeps)),
    )
