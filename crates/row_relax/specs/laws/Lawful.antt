-- Stands in specs/ since the law that `Rows` keeps stands on it; no public clause cites it.
-- The test of lawful points.
use Rattle.std.proofs.Common.{◌≡◌, ℕ, zero, suc, ◌<◌, ◌≤◌, Bool, true, ◌&&◌, cond, eqb, leb, List, [], ◌∷◌, length, get_or, refl, arith}
use Rattle.std.specs.Prelude.{int_le}
use Rattle.std.specs.List.{list_all}
use Rattle.std.proofs.lemmas.Bool.{and_parts}
use Rattle.std.proofs.lemmas.Bool.Decides.{nat_tests}
use Rattle.std.proofs.lemmas.List.Sums.{AllPass-from_list_all, list_all-from_AllPass}
use Rattle.row_kit.specs.declared.domain.Domain.{Domain}
use Rattle.row_kit.specs.declared.program.Program.{Program}
use Rattle.row_kit.specs.declared.row.Row.{Row}
use Rattle.row_kit.specs.Domain.{Holds, domain_at}
use Rattle.row_kit.specs.Point.{IsLawful, LiesIn}
use Rattle.row_kit.specs.Row.{entries_sum}
use Rattle.range_prop.proofs.Multiples.{le_true, true_le}
use Rattle.row_relax.specs.Settle.{are_held, is_held, is_lawful}

both_true : (a b : Bool) → a ≡ true → b ≡ true → (a && b) ≡ true
both_true a b e h = cc

held_true : (d : Domain) (v : ℕ) → Holds d v → is_held d v ≡ true
held_true d zero h = h.at_zero refl
held_true d (suc v) h =
    let p : 0 < suc v = omega arith in
    let r = h.above_zero p in
    within d.lo d.hi (suc v) d.zero p r.0 r.1
  where
    within : (l u v : ℕ) (z : Bool) → 0 < v → l ≤ v → v ≤ u → cond (eqb v 0) z (leb l v && leb v u) ≡ true
    within l u v z some low high = grind (arith, nat_tests)

true_held : (d : Domain) (v : ℕ) → is_held d v ≡ true → Holds d v
true_held d zero h = record { at_zero = λ _. h; above_zero = λ p. absurd (omega arith) }
true_held d (suc v) h =
    let p : 0 < suc v = omega arith in
    record { at_zero = λ e. absurd (omega arith); above_zero = λ _. (low d.lo d.hi (suc v) d.zero p h, high d.lo d.hi (suc v) d.zero p h) }
  where
    low : (l u v : ℕ) (z : Bool) → 0 < v → cond (eqb v 0) z (leb l v && leb v u) ≡ true → l ≤ v
    low l u v z some e = grind (arith, nat_tests)

    high : (l u v : ℕ) (z : Bool) → 0 < v → cond (eqb v 0) z (leb l v && leb v u) ≡ true → v ≤ u
    high l u v z some e = grind (arith, nat_tests)

lies_true : (ds : List Domain) (p : List ℕ) → LiesIn ds p → are_held ds p ≡ true
lies_true [] [] lies = refl
lies_true [] (v ∷ vs) lies = absurd (omega (arith, lies.same_length))
lies_true (d ∷ ds) [] lies = absurd (omega (arith, lies.same_length))
lies_true (d ∷ ds) (v ∷ vs) lies =
    both_true (is_held d v) (are_held ds vs) (held_true d v (lies.held 0 (omega arith)))
    (lies_true ds vs (record { same_length = omega (arith, lies.same_length); held = λ k lt. lies.held (suc k) (omega arith) }))

true_lies : (ds : List Domain) (p : List ℕ) → are_held ds p ≡ true → LiesIn ds p
true_lies [] [] h = record { same_length = refl; held = λ k lt. absurd (omega arith) }
true_lies [] (v ∷ vs) h = absurd (cc)
true_lies (d ∷ ds) [] h = absurd (cc)
true_lies (d ∷ ds) (v ∷ vs) h =
    let parts = and_parts (is_held d v) (are_held ds vs) h in
    let rest = true_lies ds vs parts.1 in
    record { same_length = omega (arith, rest.same_length); held = at d v ds vs (true_held d v parts.0) rest.held }
  where
    at : (d : Domain) (v : ℕ) (ds : List Domain) (vs : List ℕ) → Holds d v → ((k : ℕ) → k < length ds → Holds (domain_at ds k) (get_or vs k 0)) → (k : ℕ) → k < length (d ∷ ds) → Holds (domain_at (d ∷ ds) k) (get_or (v ∷ vs) k 0)
    at d v ds vs first rest zero lt = first
    at d v ds vs first rest (suc k) lt = rest k (omega arith)

-- the test of a lawful point is true
pub lawful_true : (program : Program) (p : List ℕ) → IsLawful program p → is_lawful program p ≡ true
lawful_true program p lawful =
    both_true (are_held program.root p) (list_all (λ (row : Row). int_le (entries_sum row.entries p) row.limit) program.rows) (lies_true program.root p lawful.lies)
    (list_all-from_AllPass (λ (row : Row). int_le (entries_sum row.entries p) row.limit) program.rows (λ k d lt. le_true (entries_sum (get_or program.rows k d).entries p) (get_or program.rows k d).limit (lawful.keeps k d lt)))

-- where the test is true, the point is lawful
pub true_lawful : (program : Program) (p : List ℕ) → is_lawful program p ≡ true → IsLawful program p
true_lawful program p h =
    let parts = and_parts (are_held program.root p) (list_all (λ (row : Row). int_le (entries_sum row.entries p) row.limit) program.rows) h in
    let each = AllPass-from_list_all (λ (row : Row). int_le (entries_sum row.entries p) row.limit) program.rows parts.1 in
    record {
      lies = true_lies program.root p parts.0;
      keeps = λ k d lt. true_le (entries_sum (get_or program.rows k d).entries p) (get_or program.rows k d).limit (each k d lt);
    }
