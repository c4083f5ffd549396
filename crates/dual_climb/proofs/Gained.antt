-- What slots gain after one slot has been given another line.
use Rattle.std.proofs.Common.{◌≡◌, ◌∙◌, ℕ, ◌+◌, ◌<◌, ◌≤◌, ◌^◌, eqb, List, length, get_or, set, drop, sym, ap, ⊎_elim, arith, ℤ, pos, ◌+ℤ◌, ◌-ℤ◌, ◌*ℤ◌, to_z, of_z, unsigned_abs}
use mir.Syntax.{w128}
use Rattle.std.proofs.lemmas.Bool.{cond-true, cond-false, eq-eqb, ne_eqb, cases_eq}
use Rattle.std.proofs.lemmas.Int.{ints}
use Rattle.std.proofs.lemmas.List.{at_drop_more, get_or-set_same, get_or-set_other, length-set}
use Rattle.std.proofs.lemmas.List.Elements.{All-set}
use Rattle.std.proofs.Math.IntN.{+ℤ_idl}
use Rattle.row_kit.specs.declared.domain.Domain.{Domain}
use Rattle.row_kit.specs.declared.row.Entry.{Entry}
use Rattle.row_kit.specs.Domain.{domain_at, values_of}
use Rattle.row_kit.specs.Row.{counted, entry_at}
use Rattle.row_kit.proofs.Ascending.{no_entry}
use Rattle.dual_bound.specs.declared.line.Line.{Line}
use Rattle.dual_bound.specs.Line.{line_at, slot_line}
use Rattle.dual_bound.specs.Total.{greatest}
use Rattle.dual_bound.proofs.LineSums.{no_line}
use Rattle.dual_bound.proofs.Signed.{mul_add}
use Rattle.dual_climb.specs.laws.Held.{AreMost}

pub exact_most : (g : ℤ) → unsigned_abs g ≤ 2 ^ 103 → to_z w128 (of_z w128 g) ≡ g
exact_most g h = omega (arith, ints)

-- the most of a slot's new line is held
pub most_set : (ds : List Domain) (lines : List Line) (most : List ℤ) (k : ℕ) (line : Line) (g : ℤ) → AreMost ds lines most → k < length ds → length lines ≡ length ds → g ≡ greatest (line_at line) (values_of (domain_at ds k)) → unsigned_abs g ≤ 2 ^ 103 → AreMost ds (set lines k line) (set most k g)
most_set ds lines most k line g are lt few is small = record {
  slots = length-set most k g ∙ are.slots;
  small = All-set (λ (x : ℤ). unsigned_abs x ≤ 2 ^ 103) most k g small are.small;
  each = λ slot h.
      ⊎_elim
      (λ (here : slot ≡ k).
      ap (λ (s : ℕ). get_or (set most k g) s (pos 0)) here
      ∙ get_or-set_same most k g (pos 0) (omega (arith, are.slots))
      ∙ is
      ∙ ap (λ (l : Line). greatest (line_at l) (values_of (domain_at ds k))) (sym (get_or-set_same lines k line no_line (omega arith)))
      ∙ ap (λ (s : ℕ). greatest (line_at (slot_line (set lines k line) s)) (values_of (domain_at ds s))) (sym here))
      (λ (apart : slot ≡ k → ⊥).
      get_or-set_other most k slot g (pos 0) apart
      ∙ are.each slot h
      ∙ ap (λ (l : Line). greatest (line_at l) (values_of (domain_at ds slot))) (sym (get_or-set_other lines k slot line no_line apart)))
      (cases_eq slot k);
}

moved : (n r o l oc fc ox fx po pf : ℤ) → n ≡ r → r ≡ (o +ℤ oc) -ℤ fc → o ≡ l → po ≡ oc +ℤ ox → pf ≡ fc +ℤ fx → (n +ℤ ox) -ℤ fx ≡ (l +ℤ po) -ℤ pf
moved n r o l oc fc ox fx po pf p q s t u = omega (arith, ints)

-- one entry more is moved
pub moved_more : (lines : List Line) (es : List Entry) (own factor i : ℕ) (r : Line) → i < length es → (get_or es i no_entry).slot < length lines
    → ((v : ℕ) → line_at r v ≡ (line_at (slot_line lines (get_or es i no_entry).slot) v +ℤ (pos own *ℤ counted (get_or es i no_entry) v)) -ℤ (pos factor *ℤ counted (get_or es i no_entry) v))
    → (slot v : ℕ)
    → (line_at (slot_line (set lines (get_or es i no_entry).slot r) slot) v +ℤ (pos own *ℤ entry_at (drop (i + 1) es) slot v)) -ℤ (pos factor *ℤ entry_at (drop (i + 1) es) slot v) ≡ (line_at (slot_line lines slot) v +ℤ (pos own *ℤ entry_at (drop i es) slot v)) -ℤ (pos factor *ℤ entry_at (drop i es) slot v)
moved_more lines es own factor i r lt named is slot v =
    let e = get_or es i no_entry in
    let rest = entry_at (drop (i + 1) es) slot v in
    let more = at_drop_more (λ (xs : List Entry). entry_at xs slot v) es i no_entry lt in
    ⊎_elim
    (λ (here : e.slot ≡ slot).
    let t = more ∙ ap (λ x. x +ℤ rest) (cond-true (eqb e.slot slot) (counted e v) (pos 0) (eq-eqb e.slot slot here)) in
    let new' = ap (λ (s : ℕ). line_at (slot_line (set lines e.slot r) s) v) (sym here) ∙ ap (λ (l : Line). line_at l v) (get_or-set_same lines e.slot r no_line named) in
    let old = ap (λ (s : ℕ). line_at (slot_line lines s) v) here in
    moved (line_at (slot_line (set lines e.slot r) slot) v) (line_at r v) (line_at (slot_line lines e.slot) v) (line_at (slot_line lines slot) v) (pos own *ℤ counted e v) (pos factor *ℤ counted e v) (pos own *ℤ rest) (pos factor *ℤ rest) (pos own *ℤ entry_at (drop i es) slot v) (pos factor *ℤ entry_at (drop i es) slot v)
    new' (is v) old (ap (λ x. pos own *ℤ x) t ∙ mul_add own (counted e v) rest) (ap (λ x. pos factor *ℤ x) t ∙ mul_add factor (counted e v) rest))
    (λ (apart : e.slot ≡ slot → ⊥).
    let t = more ∙ ap (λ x. x +ℤ rest) (cond-false (eqb e.slot slot) (counted e v) (pos 0) (ne_eqb e.slot slot apart)) ∙ +ℤ_idl rest in
    let same = ap (λ (l : Line). line_at l v) (get_or-set_other lines e.slot slot r no_line (λ q. apart (sym q))) in
    ap (λ x. (x +ℤ (pos own *ℤ rest)) -ℤ (pos factor *ℤ rest)) same ∙ ap (λ x. (line_at (slot_line lines slot) v +ℤ (pos own *ℤ x)) -ℤ (pos factor *ℤ x)) (sym t))
    (cases_eq e.slot slot)
