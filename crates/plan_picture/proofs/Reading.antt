-- Texts that are read byte by byte: a text ends at the first byte that it lacks.
use Rattle.std.proofs.Common.{◌≡◌, ◌≢◌, ℕ, suc, ◌<◌, ◌≤◌, ◌^◌, ◌==◌, not, Bool, true, false, cond, List, [], ◌∷◌, ◌++◌, length, drop, get_or, ap, ap₂, sym, subst, ◌∙◌, refl, decimal, codes, append_assoc, true≢false, inl, inr, arith}
use Rattle.std.specs.Int.{IsInRange}
use Rattle.std.specs.List.{AllByRecursion, list_all}
use Rattle.std.specs.Str.Parse.{AllDigits, digits_value}
use Rattle.std.proofs.lemmas.Bool.{and_parts, cases_eq, eq-eqb, ne_eqb}
use Rattle.std.proofs.lemmas.Fmt.{digits_decimal, decimal_injective}
use Rattle.std.proofs.lemmas.List.{append_cancel_left}
use Rattle.std.proofs.lemmas.List.Elements.{recursion_from_All, All-from_get_or}
use Rattle.std.proofs.lemmas.Str.Parse.{IsNumeralModel, numerals_by_value, tells_digits, not_in_digits}
use Rattle.plan_picture.specs.Marks.{escaped_byte, escaped}

-- no byte of a text is this one
abbrev pub Lacks : ℕ → List ℕ → Type 0
Lacks byte text = AllByRecursion (λ b. b ≢ byte) text

pub cut_at : (c : ℕ) (xs ys us vs : List ℕ) → Lacks c xs → Lacks c ys → xs ++ c ∷ us ≡ ys ++ c ∷ vs → (xs ≡ ys) × (us ≡ vs)
cut_at c [] [] us vs hx hy e = (refl, ap (drop 1) e)
cut_at c [] (y ∷ ys) us vs hx hy e = absurd (hy.0 (sym (ap (λ t. get_or t 0 0) e)))
cut_at c (x ∷ xs) [] us vs hx hy e = absurd (hx.0 (ap (λ t. get_or t 0 0) e))
cut_at c (x ∷ xs) (y ∷ ys) us vs hx hy e =
    let rest = cut_at c xs ys us vs hx.1 hy.1 (ap (drop 1) e) in
    (ap₂ (λ b bs. b ∷ bs) (ap (λ t. get_or t 0 0) e) rest.0, rest.1)

own : IsNumeralModel (AllDigits 10) (digits_value 10)
own = numerals_by_value (AllDigits 10) tells_digits

-- a number in decimals has digits alone
pub number_lacks : (c n : ℕ) → n < 2 ^ 64 → (IsInRange 48 57 c → ⊥) → Lacks c (decimal n)
number_lacks c n small other =
    recursion_from_All (λ b. b ≢ c) (decimal n)
    (All-from_get_or (λ b. b ≢ c) (decimal n) 0 (not_in_digits own (decimal n) c (digits_decimal own n small) other))

-- a number is read up to a byte that is no digit
pub read_number : (c m n : ℕ) (us vs : List ℕ) → (IsInRange 48 57 c → ⊥) → m < 2 ^ 64 → n < 2 ^ 64 → decimal m ++ c ∷ us ≡ decimal n ++ c ∷ vs → (m ≡ n) × (us ≡ vs)
read_number c m n us vs other small_m small_n e =
    let cut = cut_at c (decimal m) (decimal n) us vs (number_lacks c m small_m other) (number_lacks c n small_n other) e in
    (decimal_injective m n small_m small_n cut.0, cut.1)

-- the same where the text goes on after what follows
pub read_number_in : (c m n : ℕ) (us vs ps qs : List ℕ) → (IsInRange 48 57 c → ⊥) → m < 2 ^ 64 → n < 2 ^ 64 → decimal m ++ (c ∷ us) ++ ps ≡ decimal n ++ (c ∷ vs) ++ qs → (m ≡ n) × (us ++ ps ≡ vs ++ qs)
read_number_in c m n us vs ps qs other small_m small_n e =
    read_number c m n (us ++ ps) (vs ++ qs) other small_m small_n
    (sym (append_assoc (decimal m) (c ∷ us) ps) ∙ e ∙ append_assoc (decimal n) (c ∷ vs) qs)

-- a text that passes a test lacks each byte that does not
pub passed_lacks : (test : ℕ → Bool) (c : ℕ) → test c ≡ false → (text : List ℕ) → list_all test text ≡ true → Lacks c text
passed_lacks test c fails [] h = tt
passed_lacks test c fails (b ∷ bs) h =
    let parts = and_parts (test b) (list_all test bs) h in
    (λ same. true≢false (sym parts.0 ∙ ap test same ∙ fails), passed_lacks test c fails bs parts.1)

pub lacks_both : (c : ℕ) (xs ys : List ℕ) → Lacks c xs → Lacks c ys → Lacks c (xs ++ ys)
lacks_both c [] ys hx hy = hy
lacks_both c (x ∷ xs) ys hx hy = (hx.0, lacks_both c xs ys hx.1 hy)

-- a text before another, up to a byte that both lack
pub cut_in : (c : ℕ) (xs ys us vs ps qs : List ℕ) → Lacks c xs → Lacks c ys → xs ++ (c ∷ us) ++ ps ≡ ys ++ (c ∷ vs) ++ qs → (xs ≡ ys) × (us ++ ps ≡ vs ++ qs)
cut_in c xs ys us vs ps qs hx hy e =
    cut_at c xs ys (us ++ ps) (vs ++ qs) hx hy (sym (append_assoc xs (c ∷ us) ps) ∙ e ∙ append_assoc ys (c ∷ vs) qs)

-- how often a byte stands in a text
abbrev pub count_of : ℕ → List ℕ → ℕ
count_of c [] = 0
count_of c (b ∷ bs) = cond (b == c) (suc (count_of c bs)) (count_of c bs)

-- a text that lacks a byte adds nothing to its count
pub count_behind : (c : ℕ) (xs ys : List ℕ) → Lacks c xs → count_of c (xs ++ ys) ≡ count_of c ys
count_behind c [] ys h = refl
count_behind c (x ∷ xs) ys h = let rest = count_behind c xs ys h.1 in rw (ne_eqb x c h.0) rest

-- a byte stands in a text as often as in its end, or more often
one_more : (b : Bool) (m n : ℕ) → m ≤ n → m ≤ cond b (suc n) n
one_more true m n le = omega (arith, le)
one_more false m n le = le

count_within : (c : ℕ) (xs ys : List ℕ) → count_of c ys ≤ count_of c (xs ++ ys)
count_within c [] ys = omega arith
count_within c (x ∷ xs) ys = one_more (x == c) (count_of c ys) (count_of c (xs ++ ys)) (count_within c xs ys)

-- a byte in front of a text counts
count_own : (c : ℕ) (ys : List ℕ) → count_of c (c ∷ ys) ≡ suc (count_of c ys)
count_own c ys = rw (eq-eqb c c refl) refl

-- no end of a text behind a byte has the byte as often as the whole
count_differs : (c : ℕ) (xs us vs : List ℕ) → count_of c us ≡ count_of c vs → us ≡ xs ++ c ∷ vs → ⊥
count_differs c xs us vs same e = omega (arith, same, ap (count_of c) e, count_within c xs (c ∷ vs), count_own c vs)

-- a text is cut at a byte that stands equally often behind the cut
pub cut_counted : (c : ℕ) (xs ys us vs : List ℕ) → count_of c us ≡ count_of c vs → xs ++ c ∷ us ≡ ys ++ c ∷ vs → (xs ≡ ys) × (us ≡ vs)
cut_counted c [] [] us vs same e = (refl, ap (drop 1) e)
cut_counted c [] (y ∷ ys) us vs same e = absurd (count_differs c ys us vs same (ap (drop 1) e))
cut_counted c (x ∷ xs) [] us vs same e = absurd (count_differs c xs vs us (sym same) (sym (ap (drop 1) e)))
cut_counted c (x ∷ xs) (y ∷ ys) us vs same e =
    let rest = cut_counted c xs ys us vs same (ap (drop 1) e) in
    (ap₂ (λ b bs. b ∷ bs) (ap (λ t. get_or t 0 0) e) rest.0, rest.1)

-- what holds of the names of '&', '<' and '>', and of each other byte as it is, holds of each byte as XML writes it
by_byte : (P : ℕ → List ℕ → Type 0) → P 38 (codes "&amp;") → P 60 (codes "&lt;") → P 62 (codes "&gt;")
    → ((b : ℕ) → b ≢ 38 → b ≢ 60 → P b (b ∷ [])) → (b : ℕ) → P b (escaped_byte b)
unfolding escaped_byte
by_byte P amp less more other b = elim (cases_eq b 38) [
  | inl same ↦ subst (λ (n : ℕ). P n (escaped_byte n)) (sym same) amp
  | inr no_amp ↦ elim (cases_eq b 60) [
    | inl same ↦ subst (λ (n : ℕ). P n (escaped_byte n)) (sym same) less
    | inr no_less ↦ elim (cases_eq b 62) [
      | inl same ↦ subst (λ (n : ℕ). P n (escaped_byte n)) (sym same) more
      | inr no_more ↦ rw (ne_eqb b 38 no_amp, ne_eqb b 60 no_less, ne_eqb b 62 no_more) (other b no_amp no_less)
    ]
  ]
]

-- a text as XML writes it has no '<'
pub escaped_lacks : (text : List ℕ) → Lacks 60 (escaped text)
escaped_lacks [] = tt
escaped_lacks (b ∷ bs) =
    let lacks : (codes : List ℕ) → list_all (λ c. not (c == 60)) codes ≡ true → Lacks 60 codes = λ codes h. passed_lacks (λ c. not (c == 60)) 60 refl codes h in
    lacks_both 60 (escaped_byte b) (escaped bs)
    (by_byte (λ n t. Lacks 60 t) (lacks (codes "&amp;") refl) (lacks (codes "&lt;") refl) (lacks (codes "&gt;") refl) (λ n no_amp no_less. (no_less, tt)) b)
    (escaped_lacks bs)

-- the byte that stands at the front of a text as XML writes it
abbrev first_of : List ℕ → ℕ
first_of text =
    cond (get_or text 0 0 == 38) (cond (get_or text 1 0 == 97) 38 (cond (get_or text 1 0 == 108) 60 62)) (get_or text 0 0)

first_told : (b : ℕ) (text : List ℕ) → first_of (escaped_byte b ++ text) ≡ b
first_told b text = by_byte (λ n t. first_of (t ++ text) ≡ n) refl refl refl (λ n no_amp no_less. rw (ne_eqb n 38 no_amp) refl) b

-- a byte is written as something
never_empty : (b : ℕ) (text : List ℕ) → [] ≡ escaped_byte b ++ text → ⊥
never_empty b text e =
    let some : 1 ≤ length (escaped_byte b ++ text) =
    by_byte (λ n t. 1 ≤ length (t ++ text)) (omega arith) (omega arith) (omega arith) (λ n no_amp no_less. omega arith) b in
    omega (arith, some, ap length e)

-- two texts that XML writes alike are one
pub escaped_told : (s t : List ℕ) → escaped s ≡ escaped t → s ≡ t
escaped_told [] [] e = refl
escaped_told [] (y ∷ ys) e = absurd (never_empty y (escaped ys) e)
escaped_told (x ∷ xs) [] e = absurd (never_empty x (escaped xs) (sym e))
escaped_told (x ∷ xs) (y ∷ ys) e =
    let same : x ≡ y = sym (first_told x (escaped xs)) ∙ ap first_of e ∙ first_told y (escaped ys) in
    let rest = append_cancel_left (escaped_byte x) (escaped xs) (escaped ys) (e ∙ ap (λ (b : ℕ). escaped_byte b ++ escaped ys) (sym same)) in
    ap₂ (λ b bs. b ∷ bs) same (escaped_told xs ys rest)
