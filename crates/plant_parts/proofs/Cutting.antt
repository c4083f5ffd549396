-- The domains of a part's slots, one and all.
use Rattle.std.proofs.Common.{◌≡◌, ◌≢◌, ℕ, suc, ◌+◌, ◌<◌, ◌≤◌, true, List, [], ◌∷◌, ◌++◌, length, get_or, map, refl, sym, ap, ◌∙◌, subst, inl, inr, arith}
use Rattle.std.specs.Prelude.{◌↔◌}
use Rattle.std.specs.List.{All, AllZip, range_with_len}
use Rattle.std.proofs.lemmas.Bool.{cases_eq, cases_lt, eq-eqb, ne_eqb, lt-ltb, le-ltb, cond-true, cond-false, false≢true}
use Rattle.std.proofs.lemmas.List.FromFn.{get_or-map-range_with_len, length-map-range_with_len, map-range_with_len_more}
use Rattle.std.proofs.lemmas.List.{get_or_default}
use Rattle.row_kit.specs.declared.domain.Domain.{Domain}
use Rattle.row_kit.specs.Domain.{Holds, IsNormal, IsOpen, domain_at, no_values}
use Rattle.row_set.specs.Parts.{IsWithin}
use Rattle.plant_parts.specs.PlantParts.{digit, kept_off, kept_on, cut_domain, cut_root}
use Rattle.plant_parts.proofs.Digits.{digit-below}

pub cut-off : (levels part place : ℕ) (own : Domain) → place < levels → digit levels part place ≡ 0 → cut_domain levels part place own ≡ kept_off
cut-off levels part place own l e = cond-true _ _ _ (lt-ltb place levels l) ∙ cond-true _ _ _ (eq-eqb (digit levels part place) 0 e)

pub cut-on : (levels part place : ℕ) (own : Domain) → place < levels → digit levels part place ≢ 0 → cut_domain levels part place own ≡ kept_on own
cut-on levels part place own l n = cond-true _ _ _ (lt-ltb place levels l) ∙ cond-false _ _ _ (ne_eqb (digit levels part place) 0 n)

pub cut-rest : (levels part place : ℕ) (own : Domain) → levels ≤ place → cut_domain levels part place own ≡ own
cut-rest levels part place own m = cond-false _ _ _ (le-ltb place levels m)

-- what holds of each domain that a slot can have in a part holds of the one that it has
by-digit : (levels part place : ℕ) (own : Domain) (P : Domain → Type 0) → (place < levels → digit levels part place ≡ 0 → P kept_off) →
    (place < levels → digit levels part place ≢ 0 → P (kept_on own)) → P own → P (cut_domain levels part place own)
by-digit levels part place own P off on rest =
    elim (cases_lt place levels) [
      | inl l ↦ elim (cases_eq (digit levels part place) 0) [
        | inl e ↦ subst P (sym (cut-off levels part place own l e)) (off l e)
        | inr n ↦ subst P (sym (cut-on levels part place own l n)) (on l n)
      ]
      | inr m ↦ subst P (sym (cut-rest levels part place own m)) rest
    ]

-- a slot may have no batch, or one of some size
pub record IsOfSlot (own : Domain) : Type 0 where
  pub none : own.zero ≡ true
  pub some : own.lo ≤ own.hi
  pub normal : IsNormal own

cut-normal : (levels part place : ℕ) (own : Domain) → IsOfSlot own → IsNormal (cut_domain levels part place own)
cut-normal levels part place own is =
    by-digit levels part place own IsNormal
    (λ l e. record { positive = omega arith; byte = omega arith; bare = λ h. (refl, refl) })
    (λ l n. record { positive = is.normal.positive; byte = is.normal.byte; bare = is.normal.bare })
    is.normal

cut-open : (levels part place : ℕ) (own : Domain) → IsOfSlot own → IsOpen (cut_domain levels part place own)
cut-open levels part place own is =
    let some = is.some in
    by-digit levels part place own IsOpen
    (λ l e. omega arith)
    (λ l n. omega (arith, some))
    (omega (arith, some))

cut-within : (levels part place : ℕ) (own : Domain) → IsOfSlot own → IsWithin (cut_domain levels part place own) own
cut-within levels part place own is =
    by-digit levels part place own (λ (domain : Domain). IsWithin domain own)
    (λ l e value holds. record { at_zero = λ z. is.none; above_zero = λ some. absurd (let size = holds.above_zero some in omega (arith, size.0, size.1)) })
    (λ l n value holds. record { at_zero = λ z. is.none; above_zero = λ some. holds.above_zero some })
    (λ value holds. holds)

-- a value of the slot is one of the part where it says of the batch what the digit says
pub cut-holds : (levels part place : ℕ) (own : Domain) (value : ℕ) → Holds own value → (place < levels → (0 < value) ↔ (digit levels part place ≡ 1)) → Holds (cut_domain levels part place own) value
cut-holds levels part place own value holds says =
    by-digit levels part place own (λ (domain : Domain). Holds domain value)
    (λ l e. record { at_zero = λ z. refl; above_zero = λ some. absurd (let one = (says l).0 some in omega (arith, one, e)) })
    (λ l n. record {
      at_zero = λ z. absurd (
          let below = digit-below levels part place in
          let one : digit levels part place ≡ 1 = omega (arith, below, n) in
          let some = (says l).1 one in omega (arith, some, z));
      above_zero = λ some. holds.above_zero some;
    })
    holds

-- a value of the part says of the batch what the digit says
pub holds-cut : (levels part place : ℕ) (own : Domain) (value : ℕ) → Holds (cut_domain levels part place own) value → place < levels → (0 < value) ↔ (digit levels part place ≡ 1)
holds-cut levels part place own value holds l =
    elim (cases_eq (digit levels part place) 0) [
      | inl e ↦
          let off : Holds kept_off value = subst (λ (domain : Domain). Holds domain value) (cut-off levels part place own l e) holds in (
            λ some. absurd (let size = off.above_zero some in omega (arith, size.0, size.1)),
            λ one. absurd (omega (arith, one, e)),
          )
      | inr n ↦
          let on : Holds (kept_on own) value = subst (λ (domain : Domain). Holds domain value) (cut-on levels part place own l n) holds in (
            λ some. (let below = digit-below levels part place in omega (arith, below, n)),
            λ one. elim (cases_lt 0 value) [
              | inl some ↦ some
              | inr none ↦ absurd (false≢true (on.at_zero (omega arith)))
            ],
          )
    ]

pub length-cut : (levels part : ℕ) (whole : List Domain) → length (cut_root levels part whole) ≡ length whole
unfolding cut_root
length-cut levels part whole = length-map-range_with_len (λ place. cut_domain levels part place (domain_at whole place)) 0 (length whole)

pub cut-at : (levels part : ℕ) (whole : List Domain) (k : ℕ) (d : Domain) → k < length whole → get_or (cut_root levels part whole) k d ≡ cut_domain levels part k (domain_at whole k)
unfolding cut_root
cut-at levels part whole k d l = get_or-map-range_with_len (λ place. cut_domain levels part place (domain_at whole place)) 0 (length whole) k k d l (omega arith)

-- the domain of each slot is that of one
abbrev pub AreOfSlots : List Domain → Type 0
AreOfSlots whole = (k : ℕ) → k < length whole → IsOfSlot (domain_at whole k)

-- the domain of each of the first slots is that of one
abbrev pub AreFirstOfSlots : ℕ → List Domain → Type 0
AreFirstOfSlots count whole = (k : ℕ) → k < count → IsOfSlot (domain_at whole k)

-- what holds of each cut domain holds of all
all-cut : (levels part : ℕ) (whole : List Domain) (P : Domain → Type 0) → ((k : ℕ) → k < length whole → P (cut_domain levels part k (domain_at whole k))) → All P (cut_root levels part whole)
all-cut levels part whole P each k d l =
    let within : k < length whole = omega (arith, l, length-cut levels part whole) in
    subst P (sym (cut-at levels part whole k d within)) (each k within)

pub root-normal : (levels part : ℕ) (whole : List Domain) → AreOfSlots whole → All IsNormal (cut_root levels part whole)
root-normal levels part whole are = all-cut levels part whole IsNormal (λ k l. cut-normal levels part k (domain_at whole k) (are k l))

pub root-open : (levels part : ℕ) (whole : List Domain) → AreOfSlots whole → All IsOpen (cut_root levels part whole)
root-open levels part whole are = all-cut levels part whole IsOpen (λ k l. cut-open levels part k (domain_at whole k) (are k l))

-- what stands at each place of two lists
zip-each : {X : Type 0} (R : X → X → Type 0) (d : X) (xs ys : List X) → length xs ≡ length ys → ((k : ℕ) → k < length xs → R (get_or xs k d) (get_or ys k d)) → AllZip R xs ys
zip-each R d [] [] same each = tt
zip-each R d [] (y ∷ ys) same each = absurd (omega (arith, same))
zip-each R d (x ∷ xs) [] same each = absurd (omega (arith, same))
zip-each R d (x ∷ xs) (y ∷ ys) same each = (each 0 (omega arith), zip-each R d xs ys (omega (arith, same)) (λ k l. each (suc k) (omega (arith, l))))

-- each domain of a part lies within the plant's own
pub root-within : (levels part : ℕ) (whole : List Domain) → AreOfSlots whole → AllZip IsWithin (cut_root levels part whole) whole
root-within levels part whole are =
    zip-each IsWithin no_values (cut_root levels part whole) whole (length-cut levels part whole)
    (λ k l. let within : k < length whole = omega (arith, l, length-cut levels part whole) in
    subst (λ (domain : Domain). IsWithin domain (domain_at whole k)) (sym (cut-at levels part whole k no_values within)) (cut-within levels part k (domain_at whole k) (are k within)))

-- the first domains, cut
abbrev pub cut_first : ℕ → ℕ → List Domain → ℕ → List Domain
cut_first levels part whole count = map (λ place. cut_domain levels part place (domain_at whole place)) (range_with_len 0 count)

-- one more domain is cut
pub cut-next : (levels part : ℕ) (whole old new : List Domain) (place : ℕ) (own made : Domain) → place < length whole → own ≡ get_or whole place own → made ≡ cut_domain levels part place own →
    new ≡ old ++ made ∷ [] → old ≡ cut_first levels part whole place → new ≡ cut_first levels part whole (place + 1)
cut-next levels part whole old new place own made there own_is made_is put before =
    let domain : own ≡ domain_at whole place = own_is ∙ get_or_default whole place own no_values there in
    put ∙ ap (λ xs. xs ++ made ∷ []) before
    ∙ ap (λ (d : Domain). cut_first levels part whole place ++ d ∷ []) (made_is ∙ ap (cut_domain levels part place) domain)
    ∙ sym (map-range_with_len_more (λ k. cut_domain levels part k (domain_at whole k)) 0 place place (omega arith))

-- all domains are cut
pub cut-all : (levels part : ℕ) (whole root : List Domain) (place : ℕ) → place ≡ length whole → root ≡ cut_first levels part whole place → root ≡ cut_root levels part whole
unfolding cut_root
cut-all levels part whole root place all before = before ∙ ap (cut_first levels part whole) all
