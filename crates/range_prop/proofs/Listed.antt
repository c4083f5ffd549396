-- Lists of row numbers, one entry and one row at a time.
use Rattle.std.proofs.Common.{◌≡◌, ◌⊎◌, ℕ, ◌+◌, ◌<◌, ◌≤◌, List, [], ◌∷◌, ◌++◌, length, map, get_or, set, take, replicate, sym, ap, ◌∙◌, subst, inl, inr, ⊎_elim, arith}
use Rattle.std.specs.List.{Contains}
use Rattle.std.proofs.lemmas.Bool.{cases_eq, cases_lt}
use Rattle.std.proofs.lemmas.List.{get_or-set_same, get_or-set_other, get_or-replicate, get_or_past, length-map, length-replicate, map-append, take_more}
use Rattle.std.proofs.lemmas.List.Elements.{Contains-append_left, Contains-get_or, Contains-push, Contains-push_cases}
use Rattle.row_kit.specs.declared.row.Entry.{Entry}
use Rattle.row_kit.specs.declared.row.Row.{Row}
use Rattle.row_kit.proofs.Ascending.{no_entry, slot_at}
use Rattle.row_kit.specs.Row.{row_at}
use Rattle.range_prop.specs.Index.{AreListed, HasEntry, list_of}
use Rattle.range_prop.proofs.Entries.{IsWithout}

none_in_nil : (x : ℕ) → Contains [] x → ⊥
none_in_nil x c = absurd (omega (arith, c.1))

-- empty lists list nothing
pub empty_listed : (rows : List Row) (n : ℕ) → AreListed rows 0 (replicate n [])
empty_listed rows n slot x = (
  λ c. absurd (none_in_nil x (subst (λ (xs : List ℕ). Contains xs x) (bare slot n) c)),
  λ h. absurd (omega (arith, h.0)),
)
  where
    bare : (slot n : ℕ) → list_of (replicate n []) slot ≡ []
    bare slot n =
        ⊎_elim (λ (h : slot < n). get_or-replicate n slot [] [] h)
        (λ (h : n ≤ slot). get_or_past (replicate n []) slot [] (omega (arith, h, length-replicate n (let none : List ℕ = [] in none))))
        (cases_lt slot n)

-- a number at the end of the list of a slot
pushed : (lists : List (List ℕ)) (s n slot x : ℕ) → s < length lists → (Contains (list_of (set lists s (list_of lists s ++ n ∷ [])) slot) x → Contains (list_of lists slot) x ⊎ ((x ≡ n) × (slot ≡ s))) × (Contains (list_of lists slot) x ⊎ ((x ≡ n) × (slot ≡ s)) → Contains (list_of (set lists s (list_of lists s ++ n ∷ [])) slot) x)
pushed lists s n slot x lt =
    let more = list_of lists s ++ n ∷ [] in
    ⊎_elim
    (λ (here : slot ≡ s).
    let at : list_of (set lists s more) slot ≡ more = ap (list_of (set lists s more)) here ∙ get_or-set_same lists s more [] lt in
    let old = ap (list_of lists) here in (
      λ (c : Contains (list_of (set lists s more) slot) x).
          ⊎_elim
          (λ (was : Contains (list_of lists s) x). inl (subst (λ (xs : List ℕ). Contains xs x) (sym old) was))
          (λ (is : n ≡ x). inr (sym is, here))
          (Contains-push_cases (list_of lists s) n x (subst (λ (xs : List ℕ). Contains xs x) at c)),
      λ (either : Contains (list_of lists slot) x ⊎ ((x ≡ n) × (slot ≡ s))).
          subst (λ (xs : List ℕ). Contains xs x) (sym at)
          (⊎_elim
          (λ (was : Contains (list_of lists slot) x). Contains-append_left (list_of lists s) (n ∷ []) x (subst (λ (xs : List ℕ). Contains xs x) old was))
          (λ (is : (x ≡ n) × (slot ≡ s)). subst (λ (y : ℕ). Contains more y) (sym is.0) (Contains-push (list_of lists s) n))
          either),
    ))
    (λ (apart : slot ≡ s → ⊥).
    let at : list_of (set lists s more) slot ≡ list_of lists slot = get_or-set_other lists s slot more [] apart in (
      λ (c : Contains (list_of (set lists s more) slot) x). inl (subst (λ (xs : List ℕ). Contains xs x) at c),
      λ (either : Contains (list_of lists slot) x ⊎ ((x ≡ n) × (slot ≡ s))).
          subst (λ (xs : List ℕ). Contains xs x) (sym at)
          (⊎_elim (λ (was : Contains (list_of lists slot) x). was) (λ (is : (x ≡ n) × (slot ≡ s)). absurd (apart is.1)) either),
    ))
    (cases_eq slot s)

-- one entry more
slots_more : (es : List Entry) (i : ℕ) → i < length es → map (λ e. e.slot) (take (i + 1) es) ≡ map (λ e. e.slot) (take i es) ++ (get_or es i no_entry).slot ∷ []
slots_more es i lt = ap (map (λ (e : Entry). e.slot)) (take_more es i no_entry lt) ∙ map-append (λ (e : Entry). e.slot) (take i es) (get_or es i no_entry ∷ [])

pub row_more : (start lists new : List (List ℕ)) (es : List Entry) (i n : ℕ) → i < length es → (get_or es i no_entry).slot < length lists
    → new ≡ set lists (get_or es i no_entry).slot (list_of lists (get_or es i no_entry).slot ++ n ∷ [])
    → ((slot x : ℕ) → (Contains (list_of lists slot) x → Contains (list_of start slot) x ⊎ ((x ≡ n) × HasEntry (take i es) slot)) × (Contains (list_of start slot) x ⊎ ((x ≡ n) × HasEntry (take i es) slot) → Contains (list_of lists slot) x))
    → (slot x : ℕ) → (Contains (list_of new slot) x → Contains (list_of start slot) x ⊎ ((x ≡ n) × HasEntry (take (i + 1) es) slot)) × (Contains (list_of start slot) x ⊎ ((x ≡ n) × HasEntry (take (i + 1) es) slot) → Contains (list_of new slot) x)
row_more start lists new es i n lt in' is before slot x =
    let s = (get_or es i no_entry).slot in
    let step = subst (λ (ls : List (List ℕ)). (Contains (list_of ls slot) x → Contains (list_of lists slot) x ⊎ ((x ≡ n) × (slot ≡ s))) × (Contains (list_of lists slot) x ⊎ ((x ≡ n) × (slot ≡ s)) → Contains (list_of ls slot) x)) (sym is) (pushed lists s n slot x in') in
    let was = before slot x in
    let names = slots_more es i lt in
    let front = map (λ (e : Entry). e.slot) (take i es) in (
      λ c. ⊎_elim
          (λ (old : Contains (list_of lists slot) x).
          ⊎_elim
          (λ (first : Contains (list_of start slot) x). inl first)
          (λ (second : (x ≡ n) × HasEntry (take i es) slot). inr (second.0, subst (λ (ss : List ℕ). Contains ss slot) (sym names) (Contains-append_left front (s ∷ []) slot second.1)))
          (was.0 old))
          (λ (now' : (x ≡ n) × (slot ≡ s)). inr (now'.0, subst (λ (ss : List ℕ). Contains ss slot) (sym names) (subst (λ (z : ℕ). Contains (front ++ s ∷ []) z) (sym now'.1) (Contains-push front s))))
          (step.0 c),
      λ either. step.1
          (⊎_elim
          (λ (first : Contains (list_of start slot) x). inl (was.1 (inl first)))
          (λ (second : (x ≡ n) × HasEntry (take (i + 1) es) slot).
          ⊎_elim
          (λ (earlier : Contains front slot). inl (was.1 (inr (second.0, earlier))))
          (λ (last : s ≡ slot). inr (second.0, sym last))
          (Contains-push_cases front s slot (subst (λ (ss : List ℕ). Contains ss slot) names second.1)))
          either),
    )

-- one row more
pub rows_more : (rows : List Row) (n : ℕ) (lists new : List (List ℕ)) → AreListed rows n lists
    → ((slot x : ℕ) → (Contains (list_of new slot) x → Contains (list_of lists slot) x ⊎ ((x ≡ n) × HasEntry (row_at rows n).entries slot)) × (Contains (list_of lists slot) x ⊎ ((x ≡ n) × HasEntry (row_at rows n).entries slot) → Contains (list_of new slot) x))
    → AreListed rows (n + 1) new
rows_more rows n lists new before step slot x = (
  λ c. ⊎_elim
      (λ (old : Contains (list_of lists slot) x). let h = (before slot x).0 old in (omega (arith, h.0), h.1))
      (λ (now' : (x ≡ n) × HasEntry (row_at rows n).entries slot). (omega (arith, now'.0), subst (λ (y : ℕ). HasEntry (row_at rows y).entries slot) (sym now'.0) now'.1))
      ((step slot x).0 c),
  λ h. (step slot x).1
      (⊎_elim
      (λ (earlier : x < n). inl ((before slot x).1 (earlier, h.1)))
      (λ (last : n ≤ x). let same : x ≡ n = omega (arith, last, h.0) in inr (same, subst (λ (y : ℕ). HasEntry (row_at rows y).entries slot) same h.1))
      (cases_lt x n)),
)

-- a row that is not listed for a slot has no entry of it
pub without_listed : (es : List Entry) (slot : ℕ) → (HasEntry es slot → ⊥) → IsWithout es slot
without_listed es slot none j lt same = none (subst (Contains (map (λ (e : Entry). e.slot) es)) (slot_at es j lt ∙ same) (Contains-get_or (map (λ (e : Entry). e.slot) es) j 0 (omega (arith, lt, length-map es (λ (e : Entry). e.slot)))))
