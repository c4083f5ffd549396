-- What a certificate that has a total keeps.
use Rattle.std.proofs.Common.{◌≡◌, ◌∙◌, ◌≤◌, Bool, true, false, ◌&&◌, cond, leb, ltb, List, length, Option, Some, None, refl, sym, ap, subst, arith, ℤ, ◌≤ℤ◌}
use Rattle.std.specs.Option.{IsSome}
use Rattle.std.specs.List.{All, list_all}
use Rattle.std.proofs.lemmas.Bool.{and_parts, leb-true, le-leb, cond-true}
use Rattle.row_kit.specs.declared.domain.Domain.{Domain}
use Rattle.row_kit.specs.declared.program.Program.{Program}
use Rattle.row_kit.specs.Domain.{count_of, IsOpen}
use Rattle.dual_bound.specs.declared.cert.Cert.{Cert}
use Rattle.dual_bound.specs.declared.cert.Mult.{Mult}
use Rattle.dual_bound.specs.Total.{are_fit, is_fit, has_total, total_at, total_of, IsUsable}
use Rattle.dual_bound.proofs.Fit.{fit_all, open_all}
use Rattle.dual_climb.specs.Factors.{cert_of}
use Rattle.dual_climb.specs.Polished.{NeverRises}

some_test : (b : Bool) (t : ℤ) → IsSome (cond b (Some t) None) → b ≡ true
some_test true t h = refl
some_test false t h = absurd (cc)

-- what a certificate with a total keeps
pub record Keeps (p : Program) (ds : List Domain) (cert : Cert) : Type 0 where
  pub has : has_total p ds cert ≡ true
  pub scale : cert.scale ≤ 1048576
  pub fit : are_fit (length p.rows) 0 cert.mults ≡ true
  pub usable : IsUsable (length p.rows) cert
  pub open_test : list_all (λ (d : Domain). ltb 0 (count_of d)) ds ≡ true
  pub each_open : All IsOpen ds

pub keeps : (p : Program) (ds : List Domain) (cert : Cert) → IsSome (total_at p ds cert) → Keeps p ds cert
keeps p ds cert some =
    let has = some_test (has_total p ds cert) (total_of p ds cert) some in
    let rows = length p.rows in
    let q = and_parts (is_fit rows cert) (list_all (λ (d : Domain). ltb 0 (count_of d)) ds) has in
    let r = and_parts (leb cert.scale 1048576 && leb (length cert.mults) 50000) (are_fit rows 0 cert.mults) q.0 in
    let s = and_parts (leb cert.scale 1048576) (leb (length cert.mults) 50000) r.0 in
    let scale = leb-true cert.scale 1048576 s.0 in
    record {
      has = has;
      scale = scale;
      fit = r.1;
      usable = record { scale = scale; few = leb-true (length cert.mults) 50000 s.1; fit = fit_all rows 0 cert.mults r.1 };
      open_test = q.1;
      each_open = open_all ds q.1;
    }

pub total_is : (p : Program) (ds : List Domain) (cert : Cert) → has_total p ds cert ≡ true → total_at p ds cert ≡ Some (total_of p ds cert)
total_is p ds cert has = cond-true (has_total p ds cert) (Some (total_of p ds cert)) None has

all_three : (a b c d : Bool) → a ≡ true → b ≡ true → c ≡ true → d ≡ true → ((a && b && c) && d) ≡ true
all_three a b c d p q r s = ap (λ (x : Bool). (x && b && c) && d) p ∙ ap (λ (x : Bool). (true && x && c) && d) q ∙ ap (λ (x : Bool). (true && true && x) && d) r ∙ s

-- other factors that are fit have a total too
pub has_other : (p : Program) (ds : List Domain) (cert : Cert) (ms : List Mult) → Keeps p ds cert → are_fit (length p.rows) 0 ms ≡ true → length ms ≤ length p.rows → length p.rows ≤ 50000 → has_total p ds (cert_of cert.scale ms) ≡ true
has_other p ds cert ms k fit few few_rows =
    all_three (leb cert.scale 1048576) (leb (length ms) 50000) (are_fit (length p.rows) 0 ms) (list_all (λ (d : Domain). ltb 0 (count_of d)) ds)
    (le-leb cert.scale 1048576 k.scale) (le-leb (length ms) 50000 (omega (arith, few, few_rows))) fit k.open_test

pub never_rises : (before after : Option ℤ) (x y : ℤ) → before ≡ Some x → after ≡ Some y → y ≤ℤ x → NeverRises before after
never_rises before after x y e f h = subst (λ (b : Option ℤ). NeverRises b after) (sym e) (subst (NeverRises (Some x)) (sym f) h)
