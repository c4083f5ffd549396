-- When two slots are too near for the cleaning.
use Rattle.std.proofs.Common.{◌≡◌, ℕ, ◌+◌, ◌==◌, ◌&&◌, nat_le, nat_lt, true, false, List, get_or, map, sym, ap, ap₂, ◌∙◌}
use Rattle.std.proofs.lemmas.List.{get_or-map}
use Rattle.std.proofs.lemmas.Bool.{eqb-true, eqb-false, eq-eqb, ne_eqb}
use Rattle.stn_model.specs.declared.plant.Plant.{Plant}
use Rattle.stn_model.specs.Plant.{gap_between, no_run, run_at}
use Rattle.stn_model.specs.Points.{meets_gap}
use Rattle.time_grid.specs.Slots.{IsSlotOf}
use Rattle.unit_rows.specs.Busy.{slot_end, is_on}
use Rattle.unit_rows.specs.Gaps.{is_too_soon, gap_after}

-- slots of two units are not
pub far-units : (plant : Plant) (a b : ℕ × ℕ) → is_on plant (run_at plant a.0).unit b ≡ false → is_too_soon plant a b ≡ false
unfolding meets_gap
far-units plant a b f =
    let e : ((run_at plant a.0).unit == (run_at plant b.0).unit) ≡ false = ne_eqb _ _ (λ same. eqb-false _ _ f (sym same)) in
    rw e

-- slots of one unit are where the second begins after the end of the first, and before the cleaning is over
pub near-is : (plant : Plant) (a b : ℕ × ℕ) (ending gap : ℕ) → IsSlotOf plant a → IsSlotOf plant b → is_on plant (run_at plant a.0).unit b ≡ true → ending ≡ slot_end plant a →
    gap ≡ gap_after plant (run_at plant a.0) (run_at plant b.0) → is_too_soon plant a b ≡ (nat_le ending b.1 && nat_lt b.1 (ending + gap))
unfolding meets_gap
near-is plant a b ending gap is is2 on e f =
    let one : ((run_at plant a.0).unit == (run_at plant b.0).unit) ≡ true = eq-eqb _ _ (sym (eqb-true _ _ on)) in
    let listed : gap_after plant (run_at plant a.0) (run_at plant b.0) ≡ gap_between plant (run_at plant a.0).unit (run_at plant a.0).task (run_at plant b.0).task = rw one in
    rw (one, is.has, is2.has) (ap₂ (λ m g. nat_le m b.1 && nat_lt b.1 (m + g)) (sym e) (sym (f ∙ listed)))

-- the gap to a slot is the one of its run
pub gap_at : (plant : Plant) (a b : ℕ × ℕ) (gaps : List ℕ) → IsSlotOf plant b → gaps ≡ map (gap_after plant (run_at plant a.0)) plant.runs → get_or gaps b.0 0 ≡ gap_after plant (run_at plant a.0) (run_at plant b.0)
gap_at plant a b gaps is e = ap (λ g. get_or g b.0 0) e ∙ get_or-map (gap_after plant (run_at plant a.0)) plant.runs b.0 no_run 0 is.run
