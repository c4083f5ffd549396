-- What a polished certificate is of the one that was given.
use Rattle.std.proofs.Common.{◌≡◌, ◌∙◌, ℕ, ◌<◌, ◌≤◌, true, List, length, Option, Some, refl, sym, ap, subst, inl, inr, ◌⊎◌, arith, ℤ, pos, ◌+ℤ◌, ◌≤ℤ◌}
use Rattle.std.proofs.lemmas.Int.{ints}
use Rattle.std.specs.Option.{IsSome}
use Rattle.row_kit.specs.declared.domain.Domain.{Domain}
use Rattle.row_kit.specs.declared.program.Program.{Program}
use Rattle.dual_bound.specs.declared.cert.Cert.{Cert}
use Rattle.dual_bound.specs.declared.cert.Mult.{Mult}
use Rattle.dual_bound.specs.Cap.{cert_cap, scaled_cap}
use Rattle.dual_bound.specs.Total.{are_fit, total_at, total_of}
use Rattle.dual_climb.specs.Factors.{cert_of}
use Rattle.dual_climb.specs.Polished.{after, IsKeptOrLower, IsPolishedFrom, IsReached, NeverRises}
use Rattle.dual_climb.specs.RowBest.{RowBest, RowBestBy}
use Rattle.dual_climb.specs.laws.Sums.{HaveSameSums, IsLoweredBy}
use Rattle.dual_climb.proofs.Lowered.{after_same, each_same, lowered_none}
use Rattle.dual_climb.proofs.Sums.{best_same, total_same}
use Rattle.dual_climb.proofs.Told.{after_tells, fit_tells, same_factors}
use Rattle.dual_climb.proofs.Usable.{has_other, keeps, never_rises, total_is}

-- changes of factors with the same sums are changes of a certificate
polished : (p : Program) (ds : List Domain) (old : Cert) (ms new list : List Mult) → are_fit (length p.rows) 0 old.mults ≡ true → are_fit (length p.rows) 0 list ≡ true → HaveSameSums ms old.mults → HaveSameSums list new → IsLoweredBy old.scale p ds old.scale ms new → IsPolishedFrom p ds old (cert_of old.scale list)
polished p ds old ms new list fit fit_new same same_new lowered =
    let xs = lowered.changes in
    record {
      changes = xs;
      in_range = lowered.in_range;
      lowers = each_same old.scale p ds old.scale ms old.mults same xs lowered.lowers;
      gives = same_factors list (after old.scale old.mults xs) (λ worth. same_new worth ∙ lowered.gives worth ∙ after_same old.scale ms old.mults same xs worth)
          (fit_tells (length p.rows) 0 list fit_new) (after_tells old.scale old.mults xs (fit_tells (length p.rows) 0 old.mults fit));
    }

-- what the descent ended with
pub record Descended (p : Program) (ds : List Domain) (old : Cert) (stop : Option ℤ) (ms new : List Mult) (first last : ℤ) : Type 0 where
  pub same : HaveSameSums ms old.mults
  pub was : total_at p ds old ≡ Some first
  pub is_total : last ≡ total_of p ds (cert_of old.scale new)
  pub never : last ≤ℤ first
  pub lowered : IsLoweredBy old.scale p ds old.scale ms new
  pub best : RowBestBy old.scale p ds (cert_of old.scale new) ⊎ IsReached stop (scaled_cap old.scale (Some last))

-- what is promised of a polished certificate
pub record IsDone (p : Program) (ds : List Domain) (old new : Cert) (stop : Option ℤ) : Type 0 where
  pub total : NeverRises (total_at p ds old) (total_at p ds new)
  pub changes : IsPolishedFrom p ds old new
  pub kept : IsKeptOrLower p ds old new
  pub best : RowBest p ds new ⊎ IsReached stop (cert_cap p ds new)

same_some : (a b : ℤ) → Some a ≡ Some b → a ≡ b
same_some a b e = cc

fell_to : (t l f o : ℤ) (n : ℕ) → t ≡ l → f ≡ o → (l +ℤ pos n) ≤ℤ f → (t +ℤ pos n) ≤ℤ o
fell_to t l f o n p q h = omega (arith, ints)

-- where some factor changed
pub done_changed : (p : Program) (ds : List Domain) (old : Cert) (stop : Option ℤ) (ms new list : List Mult) (first last : ℤ) → Descended p ds old stop ms new first last → IsSome (total_at p ds old) → (last +ℤ pos old.scale) ≤ℤ first → are_fit (length p.rows) 0 list ≡ true → length list ≤ length p.rows → length p.rows ≤ 50000 → HaveSameSums list new → IsDone p ds old (cert_of old.scale list) stop
done_changed p ds old stop ms new list first last d some fell fit few few_rows same =
    let k = keeps p ds old some in
    let has = has_other p ds old list k fit few few_rows in
    let sum : total_of p ds (cert_of old.scale list) ≡ last = total_same p ds old.scale list new same ∙ sym d.is_total in
    let total : total_at p ds (cert_of old.scale list) ≡ Some last = total_is p ds (cert_of old.scale list) has ∙ ap (λ (x : ℤ). Some x) sum in
    record {
      total = never_rises (total_at p ds old) (total_at p ds (cert_of old.scale list)) first last d.was total d.never;
      changes = polished p ds old ms new list k.fit fit d.same same d.lowered;
      kept = inr (fell_to (total_of p ds (cert_of old.scale list)) last first (total_of p ds old) old.scale sum (same_some first (total_of p ds old) (sym d.was ∙ total_is p ds old k.has)) fell);
      best = elim d.best [
        | inl best ↦ inl (λ few row lt. best_same old.scale p ds old.scale new list (λ worth. sym (same worth)) row (best row lt))
        | inr reached ↦ inr (subst (λ (o : Option ℤ). IsReached stop (scaled_cap old.scale o)) (sym total) reached)
      ];
    }

same_le : (x : ℤ) → x ≤ℤ x
same_le x = omega (arith, ints)

-- where none did
pub done_kept : (p : Program) (ds : List Domain) (old : Cert) (stop : Option ℤ) (ms new : List Mult) (first last : ℤ) → Descended p ds old stop ms new first last → IsSome (total_at p ds old) → new ≡ ms → IsDone p ds old old stop
done_kept p ds old stop ms new first last d some e =
    let k = keeps p ds old some in
    let same : HaveSameSums new old.mults = subst (λ (xs : List Mult). HaveSameSums xs old.mults) (sym e) d.same in
    let sum : total_of p ds old ≡ last = sym (d.is_total ∙ total_same p ds old.scale new old.mults same) in
    let total : total_at p ds old ≡ Some last = total_is p ds old k.has ∙ ap (λ (x : ℤ). Some x) sum in
    record {
      total = never_rises (total_at p ds old) (total_at p ds old) last last total total (same_le last);
      changes = polished p ds old old.mults old.mults old.mults k.fit k.fit (λ worth. refl) (λ worth. refl) (lowered_none old.scale p ds old.scale old.mults old.mults refl);
      kept = inl refl;
      best = elim d.best [
        | inl best ↦ inl (λ few row lt. best_same old.scale p ds old.scale new old.mults same row (best row lt))
        | inr reached ↦ inr (subst (λ (o : Option ℤ). IsReached stop (scaled_cap old.scale o)) (sym total) reached)
      ];
    }

-- where there are too many rows, and the certificate is left as it is
pub done_untouched : (p : Program) (ds : List Domain) (old : Cert) (stop : Option ℤ) → IsSome (total_at p ds old) → 50000 < length p.rows → IsDone p ds old old stop
done_untouched p ds old stop some many =
    let k = keeps p ds old some in
    let total : total_at p ds old ≡ Some (total_of p ds old) = total_is p ds old k.has in
    record {
      total = never_rises (total_at p ds old) (total_at p ds old) (total_of p ds old) (total_of p ds old) total total (same_le (total_of p ds old));
      changes = polished p ds old old.mults old.mults old.mults k.fit k.fit (λ worth. refl) (λ worth. refl) (lowered_none old.scale p ds old.scale old.mults old.mults refl);
      kept = inl refl;
      best = inl (λ few row lt. absurd (omega (arith, few, many)));
    }
