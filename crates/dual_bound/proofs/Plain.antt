-- A fit certificate has a total wherever no domain is empty, and so has scale 1 without multipliers.
use Rattle.std.proofs.Common.{◌≡◌, ◌∙◌, ◌≤◌, ◌≤ℤ◌, ℕ, Bool, true, ◌&&◌, leb, ltb, List, [], length, get_or, refl, ap, sym, subst, lit≤, arith}
use Rattle.std.specs.Prelude.{Option, IsSome, Some, None, ℤ, cond}
use Rattle.std.specs.List.{All, list_all}
use Rattle.std.proofs.lemmas.Bool.{lt-ltb, le-leb}
use Rattle.std.proofs.lemmas.List.Sums.{list_all-from_AllPass}
use Rattle.row_kit.specs.declared.domain.Domain.{Domain}
use Rattle.row_kit.specs.declared.program.Program.{Program}
use Rattle.row_kit.specs.Domain.{count_of, IsOpen}
use Rattle.dual_bound.specs.declared.cert.Mult.{Mult}
use Rattle.dual_bound.specs.Total.{are_fit, total_at, total_of}
use Rattle.dual_bound.specs.Cap.{scaled_cap}
use Rattle.std.proofs.lemmas.Int.{ints}
use Rattle.dual_bound.specs.Plain.{plain_cert, IsNotAbove, IsNoWorseThanPlain}

open_test : (ds : List Domain) → All IsOpen ds → list_all (λ (d : Domain). ltb 0 (count_of d)) ds ≡ true
open_test ds all = list_all-from_AllPass (λ (d : Domain). ltb 0 (count_of d)) ds (λ k d lt. lt-ltb 0 (count_of (get_or ds k d)) (all k d lt))

all_three : (a b c d : Bool) → a ≡ true → b ≡ true → c ≡ true → d ≡ true → ((a && b && c) && d) ≡ true
all_three a b c d p q r s = ap (λ (x : Bool). (x && b && c) && d) p ∙ ap (λ (x : Bool). (true && x && c) && d) q ∙ ap (λ (x : Bool). (true && true && x) && d) r ∙ s

some_when : (b : Bool) (t : ℤ) → b ≡ true → cond b (Some t) None ≡ Some t
some_when b t e = ap (λ (x : Bool). cond x (Some t) None) e

-- the total of a fit certificate
pub fit_total : (p : Program) (ds : List Domain) (scale : ℕ) (ms : List Mult) → scale ≤ 1048576 → length ms ≤ 50000 → are_fit (length p.rows) 0 ms ≡ true → All IsOpen ds
    → total_at p ds (record { scale = scale; mults = ms }) ≡ Some (total_of p ds (record { scale = scale; mults = ms }))
fit_total p ds scale ms small few fit all =
    some_when ((leb scale 1048576 && leb (length ms) 50000 && are_fit (length p.rows) 0 ms) && list_all (λ (d : Domain). ltb 0 (count_of d)) ds)
    (total_of p ds (record { scale = scale; mults = ms }))
    (all_three (leb scale 1048576) (leb (length ms) 50000) (are_fit (length p.rows) 0 ms) (list_all (λ (d : Domain). ltb 0 (count_of d)) ds)
    (le-leb scale 1048576 small) (le-leb (length ms) 50000 few) fit (open_test ds all))

is_some : (o : Option ℤ) (t : ℤ) → o ≡ Some t → IsSome o
is_some o t e = subst IsSome (sym e) refl

-- a fit certificate has a total wherever no domain is empty
pub fit_some : (p : Program) (scale : ℕ) (ms : List Mult) → scale ≤ 1048576 → length ms ≤ 50000 → are_fit (length p.rows) 0 ms ≡ true → (ds : List Domain) → All IsOpen ds → IsSome (total_at p ds (record { scale = scale; mults = ms }))
fit_some p scale ms small few fit ds all = is_some (total_at p ds (record { scale = scale; mults = ms })) (total_of p ds (record { scale = scale; mults = ms })) (fit_total p ds scale ms small few fit all)

plain_total : (p : Program) (ds : List Domain) → All IsOpen ds → total_at p ds plain_cert ≡ Some (total_of p ds plain_cert)
plain_total p ds all = fit_total p ds 1 [] (lit≤ tt) (lit≤ tt) refl all

pub plain_some : (p : Program) (ds : List Domain) → All IsOpen ds → IsSome (total_at p ds plain_cert)
plain_some p ds all = is_some (total_at p ds plain_cert) (total_of p ds plain_cert) (plain_total p ds all)

self_le : (a : ℤ) → a ≤ℤ a
self_le a = omega (arith, ints)

within_self : (o : Option ℤ) (t : ℤ) → o ≡ Some t → IsNotAbove (scaled_cap 1 o) (scaled_cap 1 o)
within_self o t e = subst (λ (x : Option ℤ). IsNotAbove (scaled_cap 1 x) (scaled_cap 1 x)) (sym e) (self_le _)

pub plain_within : (p : Program) (ds : List Domain) → All IsOpen ds → IsNoWorseThanPlain p ds plain_cert
plain_within p ds all = within_self (total_at p ds plain_cert) (total_of p ds plain_cert) (plain_total p ds all)
