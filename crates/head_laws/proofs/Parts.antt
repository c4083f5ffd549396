-- The parts of bytes between line feeds.
use Rattle.std.proofs.Common.{◌≡◌, ◌≢◌, ℕ, ◌<◌, false, ◌==◌, All, List, [], ◌∷◌, ◌++◌, length, Option, Some, refl, sym, ap, ◌∙◌, subst, arith, inl, inr, ◌⊎◌}
use Rattle.std.specs.List.{slice_split}
use Rattle.std.proofs.lemmas.Bool.{cases_eq}
use Rattle.std.proofs.lemmas.Bool.Decides.{nat_tests}
use Rattle.std.proofs.lemmas.List.Elements.{All-cons, All-nil}
use Rattle.std.proofs.lemmas.List.Splits.{length-slice_split, slice_split_at, slice_split_none}
use Rattle.log_lines.specs.Reader.{HasNoFeed}

-- the parts of bytes between line feeds
abbrev pub parts_of : List ℕ → List (List ℕ)
parts_of bytes = slice_split (λ byte. byte == 10) bytes

-- there is a part
pub some_part : (bytes : List ℕ) → 0 < length (parts_of bytes)
some_part bytes = omega (arith, length-slice_split (λ byte. byte == 10) bytes)

-- there are parts
pub not_none : (n : ℕ) → 0 < n → (n == 0) ≡ false
not_none n some = grind (arith, nat_tests)

-- no byte is one of a line feed
no_feeds : (part : List ℕ) → HasNoFeed part → All (λ b. (b == 10) ≡ false) part
no_feeds part none = λ k d below. grind (arith, nat_tests, none k d below)

-- the parts of a line and of what is behind it
pub whole_parts : (bytes part after : List ℕ) → HasNoFeed part → bytes ≡ part ++ 10 ∷ after → parts_of bytes ≡ part ∷ parts_of after
whole_parts bytes part after none is = ap parts_of is ∙ slice_split_at (λ byte. byte == 10) part 10 after (no_feeds part none) refl

-- bytes without a line feed are one part
pub last_parts : (part : List ℕ) → HasNoFeed part → parts_of part ≡ part ∷ []
last_parts part none = slice_split_none (λ byte. byte == 10) part (no_feeds part none)

-- bytes without a line feed, or a part before the first of them
pub record First (bytes : List ℕ) : Type 0 where
  pub part : List ℕ
  pub after : List ℕ
  pub plain : HasNoFeed part
  pub is : bytes ≡ part ++ 10 ∷ after

pub first_of : (bytes : List ℕ) → HasNoFeed bytes ⊎ First bytes
first_of [] = inl (All-nil (λ (b : ℕ). b ≢ 10))
first_of (byte ∷ bytes) =
    elim (cases_eq byte 10) [
      | inl feed ↦ inr (record { part = []; after = bytes; plain = All-nil (λ (b : ℕ). b ≢ 10); is = ap (λ (b : ℕ). b ∷ bytes) feed })
      | inr other ↦ one_before byte bytes other (first_of bytes)
    ]
  where
    one_before : (byte : ℕ) (bytes : List ℕ) → (byte ≡ 10 → ⊥) → HasNoFeed bytes ⊎ First bytes → HasNoFeed (byte ∷ bytes) ⊎ First (byte ∷ bytes)
    one_before byte bytes other (inl plain) = inl (All-cons (λ (b : ℕ). b ≢ 10) byte bytes other plain)
    one_before byte bytes other (inr first) =
        inr (record { part = byte ∷ first.part; after = first.after; plain = All-cons (λ (b : ℕ). b ≢ 10) byte first.part other first.plain; is = ap (λ (bs : List ℕ). byte ∷ bs) first.is })

-- a part before a line feed, and the parts behind it
pub record Ahead (bytes part : List ℕ) (parts : List (List ℕ)) : Type 0 where
  pub after : List ℕ
  pub plain : HasNoFeed part
  pub is : bytes ≡ part ++ 10 ∷ after
  pub later : parts_of after ≡ parts

-- a part without a line feed behind it
pub record Alone (bytes part : List ℕ) (parts : List (List ℕ)) : Type 0 where
  pub plain : HasNoFeed bytes
  pub is : bytes ≡ part
  pub none : parts ≡ []

pub first_part : (bytes part : List ℕ) (parts : List (List ℕ)) → parts_of bytes ≡ part ∷ parts → Alone bytes part parts ⊎ Ahead bytes part parts
first_part bytes part parts are = at (first_of bytes)
  where
    at : HasNoFeed bytes ⊎ First bytes → Alone bytes part parts ⊎ Ahead bytes part parts
    at (inl plain) =
        let both : bytes ∷ [] ≡ part ∷ parts = sym (last_parts bytes plain) ∙ are in
        let same : bytes ≡ part = cc in
        let none : [] ≡ parts = cc in
        inl (record { plain = plain; is = same; none = sym none })
    at (inr first) =
        let both : first.part ∷ parts_of first.after ≡ part ∷ parts = sym (whole_parts bytes first.part first.after first.plain first.is) ∙ are in
        let same : first.part ≡ part = cc in
        let later : parts_of first.after ≡ parts = cc in
        inr (record { after = first.after; plain = subst HasNoFeed same first.plain; is = first.is ∙ ap (λ (w : List ℕ). w ++ 10 ∷ first.after) same; later = later })

pub ahead : (bytes part : List ℕ) (parts : List (List ℕ)) → parts_of bytes ≡ part ∷ parts → 0 < length parts → Ahead bytes part parts
ahead bytes part parts are some = at (first_part bytes part parts are)
  where
    at : Alone bytes part parts ⊎ Ahead bytes part parts → Ahead bytes part parts
    at (inl alone) = absurd (omega (arith, some, ap length alone.none))
    at (inr one) = one

-- what is found is one thing
pub pairs_same : (a b c d : ℕ) → ◌≡◌ {A = Option (ℕ × ℕ)} (Some (a, b)) (Some (c, d)) → (a ≡ c) × (b ≡ d)
pairs_same a b c d is = let same : ◌≡◌ {A = ℕ × ℕ} (a, b) (c, d) = cc in (ap (λ (p : ℕ × ℕ). p.0) same, ap (λ (p : ℕ × ℕ). p.1) same)
