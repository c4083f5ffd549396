-- The calls that are to fail, as the entries of a map from numbers to numbers.
use Rattle.std.proofs.Common.{◌≡◌, ℕ, cond, List, [], ◌∷◌, Some, refl, sym, ap, ◌∙◌}
use Rattle.std.specs.Ordering.{nat_cmp, is_eq, eq_by_cmp}
use Rattle.std.specs.Cmp.{eq_by_cmp_equiv, nat_cmp_total}
use Rattle.std.specs.BTreeMap as tree
use Rattle.std.specs.Map.{lookup}
use Rattle.std.specs.FinMap.{get, insert, find, from_entries, get-insert, get-from_entries, same_map, nat_cmp-IsAntisymmetric}

find-lookup : (call : ℕ) (es : List (ℕ × ℕ)) → find nat_cmp call es ≡ lookup (tree.is_at (nat_cmp call)) es
find-lookup call [] = refl
find-lookup call (e ∷ es) = ap (cond (is_eq (nat_cmp call e.0)) (Some e.1)) (find-lookup call es)

-- the entry of a call is what the map has at its number
pub get-failing : (m : tree.BTreeMap ℕ ℕ) (call : ℕ) → get (from_entries {R = nat_cmp} m.entries) call ≡ tree.get nat_cmp m call
get-failing m call = get-from_entries nat_cmp_total m.entries call ∙ find-lookup call m.entries

-- to set a call's entry is to insert it
pub failing-set : (m n : tree.BTreeMap ℕ ℕ) (call bytes : ℕ) → tree.Updates nat_cmp m n call (Some bytes)
    → from_entries {R = nat_cmp} n.entries ≡ insert (from_entries m.entries) call bytes
failing-set m n call bytes changes =
    same_map nat_cmp_total nat_cmp-IsAntisymmetric _ _
    (λ q. get-failing n q ∙ changes.0 q
    ∙ ap (λ o. cond (eq_by_cmp nat_cmp call q) (Some bytes) o) (sym (get-failing m q))
    ∙ ap (λ b. cond b (Some bytes) (get {R = nat_cmp} (from_entries m.entries) q)) ((eq_by_cmp_equiv nat_cmp_total).symm call q)
    ∙ sym (get-insert nat_cmp_total (from_entries m.entries) call bytes q))
