-- One row more has its factor.
use Rattle.std.proofs.Common.{◌≡◌, ◌∙◌, ◌+◌, ◌≤◌, ℕ, [], ◌∷◌, ◌++◌, length, drop, sym, ap, subst, true, arith, ℤ, pos, ◌+ℤ◌, ◌*ℤ◌, length-append}
use Rattle.std.specs.List.{All}
use Rattle.std.proofs.lemmas.Int.{ints}
use Rattle.std.proofs.lemmas.List.Elements.{All-push}
use Rattle.std.proofs.Math.IntN.{zero-*ℤ, +ℤ_idr}
use Rattle.dual_bound.specs.declared.cert.Mult.{Mult}
use Rattle.dual_bound.specs.Total.{are_fit, IsFitMult}
use Rattle.dual_climb.specs.laws.Sums.{weighted, factor_first, AreNumbered}
use Rattle.dual_climb.proofs.Numbering.{first_small, none_left, numbered_push, row_passed, row_taken, weighted_push}
use Rattle.dual_climb.proofs.factors.spread.Goals as goal
use Rattle.dual_climb.proofs.factors.spread.Goals.{then-factor-ne0, else-factor-ne0}

moved_on : (w s f x y m : ℤ) → w ≡ s +ℤ f → x ≡ f +ℤ y → s +ℤ x ≡ m → w +ℤ y ≡ m
moved_on w s f x y m p q r = omega (arith, ints)

pub loop-number-preserved : goal.loop-number-preserved
loop-number-preserved c =
    let rows = c.args.rows in
    let mults = c.args.mults.now in
    let number = c.loop-number.number in
    let place = c.loop-number.place in
    let old = c.loop-number.all.items in
    let inv = c.loop-number.invariant in
    let f = c.factor_of-factor.result in
    let f_is : f ≡ factor_first number (drop place mults) = c.factor_of-factor.ensures in
    let new : Mult = record { row = number; factor = f } in
    let items : c.push.new.self.items ≡ old ++ new ∷ [] = c.in_ok-push.ensures.items in
    let range : f ≤ 1099511627776 = omega (arith, f_is, first_small rows number number (drop place mults) inv.fit) in
    let pushed : length (old ++ new ∷ []) ≡ number + 1 = omega (arith, length-append old (new ∷ []), inv.length) in
    let numbered = numbered_push 0 old new inv.numbered (omega (arith, inv.length)) in
    let all = All-push (IsFitMult rows) old new inv.in_range (record { row = c.loop-number-test.true; factor = range }) in
    let long : length c.push.new.self.items ≡ number + 1 = ap length items ∙ pushed in
    let in_order = subst (AreNumbered 0) (sym items) numbered in
    let in_range = subst (All (IsFitMult rows)) (sym items) all in
    let sum : (worth : ℕ → ℤ) → weighted worth c.push.new.self.items ≡ weighted worth old +ℤ (pos f *ℤ worth number) = λ worth. ap (weighted worth) items ∙ weighted_push worth old new in
    elim c.if-factor-ne0.branch [
      | then-factor-ne0 w ↦
          let some : factor_first number (drop place mults) ≡ 0 → ⊥ = λ e. w.if-factor-ne0.true (f_is ∙ e) in
          let taken = row_taken rows number mults place inv.fit some in
          record {
            length = long;
            numbered = in_order;
            in_range = in_range;
            place = omega (arith, inv.place, w.place-is);
            fit = subst (λ (n : ℕ). are_fit rows (number + 1) (drop n mults) ≡ true) (sym w.place-is) taken.rest;
            sums = λ worth.
                subst (λ (n : ℕ). weighted worth c.push.new.self.items +ℤ weighted worth (drop n mults) ≡ weighted worth mults) (sym w.place-is)
                (moved_on (weighted worth c.push.new.self.items) (weighted worth old) (pos f *ℤ worth number) (weighted worth (drop place mults)) (weighted worth (drop (place + 1) mults)) (weighted worth mults) (sum worth)
                (taken.sums worth ∙ ap (λ (n : ℕ). (pos n *ℤ worth number) +ℤ weighted worth (drop (place + 1) mults)) (sym f_is)) (inv.sums worth));
          }
      | else-factor-ne0 w ↦
          let none : f ≡ 0 = w.if-factor-ne0.false in
          record {
            length = long;
            numbered = in_order;
            in_range = in_range;
            place = omega (arith, inv.place, w.place-is);
            fit = subst (λ (n : ℕ). are_fit rows (number + 1) (drop n mults) ≡ true) (sym w.place-is) (row_passed rows number (drop place mults) inv.fit (sym f_is ∙ none));
            sums = λ worth.
                subst (λ (n : ℕ). weighted worth c.push.new.self.items +ℤ weighted worth (drop n mults) ≡ weighted worth mults) (sym w.place-is)
                (ap (λ (x : ℤ). x +ℤ weighted worth (drop place mults)) (sum worth ∙ ap (λ (n : ℕ). weighted worth old +ℤ (pos n *ℤ worth number)) none ∙ ap (λ (x : ℤ). weighted worth old +ℤ x) (zero-*ℤ (worth number)) ∙ +ℤ_idr (weighted worth old)) ∙ inv.sums worth);
          }
    ]

pub returns-clause-same : goal.returns-clause-same
returns-clause-same c = λ worth.
    let mults = c.args.mults.now in
    let rest = drop c.loop-number.place mults in
    let all : c.loop-number.number ≡ c.args.rows = omega (arith, c.loop-number-test.false, c.loop-number.auto.number-end) in
    let none = none_left c.args.rows rest worth (subst (λ (n : ℕ). are_fit c.args.rows n rest ≡ true) all c.loop-number.invariant.fit) in
    sym (+ℤ_idr (weighted worth c.loop-number.all.items)) ∙ ap (λ (x : ℤ). weighted worth c.loop-number.all.items +ℤ x) (sym none) ∙ c.loop-number.invariant.sums worth
