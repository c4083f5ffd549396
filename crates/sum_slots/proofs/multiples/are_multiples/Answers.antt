-- Lists of two lengths are no multiples.
use Rattle.std.proofs.Common.{◌≡◌, ℕ, suc, Bool, true, false, ◌&&◌, List, [], ◌∷◌, length, map, refl, sym, ap, ◌∙◌}
use Rattle.std.proofs.lemmas.List.{length-map}
use Rattle.row_kit.specs.declared.row.Entry.{Entry}
use Rattle.sum_slots.specs.Shown.{are_multiples, is_multiple, turned}
use Rattle.sum_slots.proofs.multiples.are_multiples.Goals as goal

no_multiples : (k : ℕ) (ts es : List Entry) → (length ts ≡ length es → ⊥) → are_multiples k ts es ≡ false
no_multiples k [] [] apart = absurd (apart refl)
no_multiples k [] (e ∷ es) apart = refl
no_multiples k (t ∷ ts) [] apart = refl
no_multiples k (t ∷ ts) (e ∷ es) apart = ap (λ b. is_multiple k t e && b) (no_multiples k ts es (λ same. apart (ap suc same))) ∙ never (is_multiple k t e)
  where
    never : (b : Bool) → (b && false) ≡ false
    never true = refl
    never false = refl

pub returns-then-terms-entries : goal.returns-then-terms-entries
returns-then-terms-entries c =
    let ts = c.args.terms.now in
    sym (no_multiples c.args.factor (map (turned c.args.turn) ts) c.args.entries.now (λ same. c.if-terms-entries.true (sym (length-map ts (turned c.args.turn)) ∙ same)))
