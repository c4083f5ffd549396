-- A lane that some tag has leaves one lane more below it with a tag.
use Rattle.std.proofs.Common.{◌≡◌, ℕ, ◌+◌, ◌≤◌, Bool, true, false, cond, eqb, ltb, ◌||◌, List, [], ◌∷◌, refl, sym, ◌∙◌, arith}
use Rattle.std.specs.List.{count_by, list_any}
use Rattle.std.proofs.lemmas.Bool.{false≢true}
use Rattle.std.proofs.lemmas.Bool.Decides.{nat_tests}
use Rattle.std.proofs.lemmas.List.Sums.{sum_by-cons}
use Rattle.row_kit.specs.declared.row.Tag.{Tag}
use Rattle.setup_slots.proofs.tags.free_lane.Goals as goal

-- how many tags have a lane below a number
abbrev below : ℕ → List Tag → ℕ
below lane tags = count_by (λ tag. ltb tag.lane lane) tags

below-cons : (lane : ℕ) (t : Tag) (ts : List Tag) → below lane (t ∷ ts) ≡ cond (ltb t.lane lane) 1 0 + below lane ts
below-cons lane t ts = sum_by-cons (λ tag. cond (ltb tag.lane lane) 1 0) t ts

no_fewer : (lane here : ℕ) → cond (ltb here lane) 1 0 ≤ cond (ltb here (lane + 1)) 1 0
no_fewer lane here = grind (arith, nat_tests)

one_here : (lane here : ℕ) → eqb here lane ≡ true → cond (ltb here lane) 1 0 + 1 ≤ cond (ltb here (lane + 1)) 1 0
one_here lane here e = grind (arith, nat_tests)

rises : (lane : ℕ) (ts : List Tag) → below lane ts ≤ below (lane + 1) ts
rises lane [] = omega arith
rises lane (t ∷ ts) = omega (arith, below-cons lane t ts, below-cons (lane + 1) t ts, no_fewer lane t.lane, rises lane ts)

by_first : (lane : ℕ) (t : Tag) (ts : List Tag) → (list_any (λ tag. eqb tag.lane lane) ts ≡ true → below lane ts + 1 ≤ below (lane + 1) ts) → (b : Bool) → eqb t.lane lane ≡ b → (b || list_any (λ tag. eqb tag.lane lane) ts) ≡ true → below lane (t ∷ ts) + 1 ≤ below (lane + 1) (t ∷ ts)
by_first lane t ts rest true e any = omega (arith, below-cons lane t ts, below-cons (lane + 1) t ts, one_here lane t.lane e, rises lane ts)
by_first lane t ts rest false e any = omega (arith, below-cons lane t ts, below-cons (lane + 1) t ts, no_fewer lane t.lane, rest any)

one_more : (lane : ℕ) (ts : List Tag) → list_any (λ tag. eqb tag.lane lane) ts ≡ true → below lane ts + 1 ≤ below (lane + 1) ts
one_more lane [] some = absurd (false≢true some)
one_more lane (t ∷ ts) some = by_first lane t ts (one_more lane ts) (eqb t.lane lane) refl some

pub loop-lane-preserved : goal.loop-lane-preserved
loop-lane-preserved c =
    let some = sym c.has_lane.ensures ∙ c.loop-lane-test.true in
    omega (arith, c.loop-lane.invariant, one_more c.loop-lane.lane c.args.tags.now some)
