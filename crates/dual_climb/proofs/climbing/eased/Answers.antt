-- Where nothing changed, no factor of a row lowers the total.
use Rattle.std.proofs.Common.{◌≡◌, ◌∙◌, Bool, List, Some, true, false, refl, sym, ap, subst, arith, inl, inr, ℤ, pos, ◌+ℤ◌, ◌-ℤ◌, ◌≤ℤ◌, ◌<ℤ◌}
use Rattle.std.proofs.lemmas.Int.{ints}
use Rattle.row_kit.specs.Area.{present}
use Rattle.dual_bound.specs.declared.cert.Mult.{Mult}
use Rattle.dual_bound.specs.Total.{total_of}
use Rattle.dual_climb.specs.Climbed.{raised}
use Rattle.dual_climb.specs.Factors.{cert_of, with_factor}
use Rattle.dual_climb.specs.laws.Sums.{HaveSameSums}
use Rattle.dual_climb.proofs.Sums.{best_same}
use Rattle.dual_climb.proofs.Usable.{keeps, total_is}
use Rattle.dual_climb.proofs.climbing.eased.Goals as goal

same_some : (a b : ℤ) → Some a ≡ Some b → a ≡ b
same_some a b e = cc

fallen : (c n o s : ℤ) → c ≡ n → (n +ℤ pos 1) ≤ℤ o → o ≡ s → c <ℤ s
fallen c n o s p h q = omega (arith, ints)

clash : (t x : ℤ) → (t -ℤ pos 1) <ℤ x → x <ℤ t → ⊥
clash t x h k = omega (arith, ints)

by_test : (b : Bool) (P : Type 0) → (b ≡ true → P) → (b ≡ false → P) → P
by_test true P first second = first refl
by_test false P first second = second refl

pub returns-clause-helped : goal.returns-clause-helped
returns-clause-helped c = λ row helps.
    let p = c.args.program.now in
    let ds = present c.args.area.now in
    let start = c.args.start.now in
    let new = c.pass.new.held in
    let cert = c.in_ok-cert.cert in
    let total : total_of p ds cert ≡ new.total = c.in_ok-cert.ensures.total ∙ ap (λ (ms : List Mult). total_of p ds (cert_of start.scale ms)) c.as_slice.ensures.value ∙ sym c.pass.ensures.held.is_total in
    let was : c.in_ok-held.held.total ≡ total_of p ds start = same_some _ _ (sym c.in_ok-held.ensures.total ∙ total_is p ds start (keeps p ds start c.requires.total).has) in
    by_test c.pass.result (total_of p ds cert <ℤ total_of p ds start)
    (λ done. fallen (total_of p ds cert) new.total c.in_ok-held.held.total (total_of p ds start) total (c.pass.ensures.fell done) was)
    (λ none.
    let same : HaveSameSums new.mults.items start.mults = subst (λ (ms : List Mult). HaveSameSums ms start.mults) (sym (c.pass.ensures.same none)) c.in_ok-held.ensures.same in
    elim (c.pass.ensures.best none) [
      | inl best ↦
          let here = best_same 1 p ds start.scale new.mults.items start.mults same row (best row helps.there) in
          absurd (clash (total_of p ds start) (total_of p ds (with_factor start row (raised start row))) (here (raised start row) helps.range) helps.lower)
      | inr reached ↦ absurd reached
    ])
