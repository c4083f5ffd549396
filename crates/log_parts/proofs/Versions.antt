-- The versions of the logs of parts, and of the log that is joined of them.
use Rattle.std.proofs.Common.{◌≡◌, ◌≢◌, ◌⊎◌, ℕ, suc, ◌+◌, ◌<◌, ◌≤◌, ◌^◌, Bool, true, false, List, [], ◌∷◌, ◌++◌, length, length-append, drop, get_or, Option, None, Some, IfSome, refl, sym, ap, ◌∙◌, subst, inl, inr, arith, append_assoc, pow_pos}
use Rattle.std.specs.Prelude.{◌↔◌, nat_lt, if◌then◌else◌}
use Rattle.std.proofs.lemmas.Bool.{cases_eq, false≢true}
use Rattle.std.proofs.lemmas.Bool.Decides.{nat_tests}
use Rattle.std.proofs.lemmas.Fmt.{decimal_digit}
use Rattle.std.proofs.lemmas.List.Elements.{All-nil}
use Rattle.stn_edge.specs.Files.{FileMap}
use Rattle.stn_model.specs.declared.plant.Plant.{Plant}
use Rattle.log_lines.specs.declared.grammar.Limits.{Limits}
use Rattle.log_lines.specs.declared.line.Line.TheVariants.{Header}
use Rattle.log_lines.specs.Line.{line_text, number_text}
use Rattle.proof_log.specs.declared.claim.Claim.{Claim}
use Rattle.proof_log.specs.Log.{lines_text}
use Rattle.sum_slots.specs.declared.sum.Sum.{Sum}
use Rattle.sum_lines.specs.declared.head.Front.{Front}
use Rattle.sum_lines.specs.declared.head.Front.TheVariants as front
use Rattle.sum_lines.specs.Front.{IsFront, IsHeaded}
use Rattle.sum_lines.specs.Line.{IsShort}
use Rattle.sum_lines.specs.Head.{AreKept, IsHeadVersion, first_line, lines_of, lines_text as sum_lines_text, most_rows, most_slots}
use Rattle.sum_lines.proofs.SumLines.{none_kept}
use Rattle.setup_lines.specs.declared.setups.SetupSize.{SetupSize}
use Rattle.setup_lines.specs.Line.{setups_text}
use Rattle.setup_lines.specs.Setups.{AreSetupsKept}
use Rattle.derivation_lines.specs.Tail.{lines_text as tail_lines_text, tail_text}
use Rattle.valid_log.specs.Heads.{setup_sizes}
use Rattle.log_parts.specs.declared.fronts.PartCheck.{PartCheck}
use Rattle.log_parts.specs.declared.fronts.PartCheck.TheVariants as check
use Rattle.log_parts.specs.declared.heads.Declared.{Declared}
use Rattle.log_parts.specs.declared.heads.LogFront.TheVariants as head
use Rattle.log_parts.specs.declared.heads.LogHead.{LogHead}
use Rattle.log_parts.specs.Heads.{HasNewest, IsNewest, front_text, joined_version}
use Rattle.log_parts.specs.PartLogs.{logs_of}
use Rattle.log_parts.specs.laws.Checked.{AreNewest, HasFront, IsFoundLog, IsFrontKept, IsLogFront, IsPartCheck, MayDeclare, head_limits, limits_declared, limits_more, no_head, nothing}
use Rattle.log_parts.proofs.HeadTexts.{front_long}
use Rattle.log_parts.proofs.PartTrees.{set_up_front, set_up_version, whole_same}

-- ---- versions

-- a log of version 4 begins with that line, and others do not
newest_front : (plant : Plant) (limits : Limits) (bytes : List ℕ) (f : Front) (own : LogHead) → IsFront limits bytes f → HasFront plant limits bytes f (head.Whole own) → (own.version ≡ 4) ↔ IsNewest bytes
newest_front plant limits bytes front.Plain own stands has =
    let two : own.version ≡ 2 = (let is = whole_same own (no_head limits) has in ap (λ (h : LogHead). h.version) is) in
    (λ four. absurd (omega (arith, two, four)), λ newest. absurd (stands.1 newest))
newest_front plant limits bytes (front.Headed h) own stands has =
    by_version h.version stands.kept.version (λ (v : ℕ). own.version ≡ v) (set_up_version plant limits bytes h own (set_up_front plant limits bytes h own has)) (text stands)
  where
    text : IsHeaded limits bytes h → bytes ≡ first_line h.version ++ 10 ∷ (sum_lines_text (lines_of h.sums) ++ drop h.bytes bytes)
    text is = is.is ∙ append_assoc (first_line h.version) (10 ∷ sum_lines_text (lines_of h.sums)) (drop h.bytes bytes)

    by_version : (version : ℕ) → IsHeadVersion version → (P : ℕ → Type 0) → own.version ≡ version → bytes ≡ first_line version ++ 10 ∷ (sum_lines_text (lines_of h.sums) ++ drop h.bytes bytes) → (own.version ≡ 4) ↔ IsNewest bytes
    by_version version (inl three) P same is = (
      λ four. absurd (omega (arith, three, same, four)),
      λ newest.
          let own_three : first_line version ≡ first_line 3 = ap first_line three in
          let apart : 52 ≡ 51 = ap (λ (b : List ℕ). get_or b 8 0) (sym newest.is ∙ is ∙ ap (λ (l : List ℕ). l ++ 10 ∷ (sum_lines_text (lines_of h.sums) ++ drop h.bytes bytes)) own_three) in
          absurd (omega (arith, apart)),
    )
    by_version version (inr four) P same is = (
      λ e. record { after = sum_lines_text (lines_of h.sums) ++ drop h.bytes bytes; is = is ∙ ap (λ (v : ℕ). first_line v ++ 10 ∷ (sum_lines_text (lines_of h.sums) ++ drop h.bytes bytes)) four },
      λ newest. same ∙ four,
    )
newest_front plant limits bytes (front.Bad defect) own stands has = absurd cc

pub newest_head : (plant : Plant) (limits : Limits) (bytes : List ℕ) (own : LogHead) → IsLogFront plant limits bytes (head.Whole own) → (own.version ≡ 4) ↔ IsNewest bytes
newest_head plant limits bytes own is = newest_front plant limits bytes is.front own is.stands is.has

-- what is known of the versions of the first logs: one of them is of version 4, or the first head read was
abbrev pub AreKnown : (ℕ → List ℕ) → ℕ → ℕ → Bool → Type 0
AreKnown logs count first newest = (newest ≡ true) ↔ ((first ≡ 4) ⊎ HasNewest logs count)

-- it is newer than before where a log of this version was found
abbrev pub IsNewer : Bool → ℕ → Bool → Type 0
IsNewer old version new = (new ≡ true) ↔ ((old ≡ true) ⊎ (version ≡ 4))

has_more : (logs : ℕ → List ℕ) (count : ℕ) → HasNewest logs count → HasNewest logs (count + 1)
has_more logs count has = (has.0, (omega (arith, has.1.0), has.1.1))

has_last : (logs : ℕ → List ℕ) (count : ℕ) → HasNewest logs (count + 1) → HasNewest logs count ⊎ IsNewest (logs count)
has_last logs count has =
    elim (cases_eq has.0 count) [
      | inl here ↦ inr (subst (λ (n : ℕ). IsNewest (logs n)) here has.1.1)
      | inr before ↦ (let earlier : has.0 < count = omega (arith, has.1.0, before) in inl (has.0, (earlier, has.1.1)))
    ]

-- one more log
pub known_more : (plant : Plant) (levels part : ℕ) (stem : List ℕ) (declared : Declared) (files now : Option FileMap) (said : PartCheck) (version bytes : ℕ) (claim : Claim) (first : ℕ) (old new : Bool) → now ≡ files → said ≡ check.Valid version bytes claim
    → IfSome now (λ m. IsPartCheck plant levels part (logs_of m stem part) declared said) → IsNewer old version new → IfSome files (λ m. AreKnown (logs_of m stem) part first old) → IfSome files (λ m. AreKnown (logs_of m stem) (part + 1) first new)
known_more plant levels part stem declared None now said version bytes claim first old new same is_valid here either known = tt
known_more plant levels part stem declared (Some m) now said version bytes claim first old new same is_valid here either known =
    let told = subst (λ (files : Option FileMap). IfSome files (λ m. IsPartCheck plant levels part (logs_of m stem part) declared said)) same here in
    let own : IsFoundLog plant levels part (logs_of m stem part) declared version bytes claim = subst (IsPartCheck plant levels part (logs_of m stem part) declared) is_valid told in
    let newest = newest_head plant (head_limits plant levels) (logs_of m stem part) own.own own.stands in (
      λ yes. elim (either.0 yes) [
        | inl before ↦ elim (known.0 before) [ inl one ↦ inl one | inr has ↦ inr (has_more (logs_of m stem) part has) ]
        | inr four ↦ inr (part, (omega arith, newest.0 (sym own.version_is ∙ four)))
      ],
      λ some. elim some [
        | inl one ↦ either.1 (inl (known.1 (inl one)))
        | inr has ↦ elim (has_last (logs_of m stem) part has) [
          | inl before ↦ either.1 (inl (known.1 (inr before)))
          | inr here' ↦ either.1 (inr (own.version_is ∙ newest.1 here'))
        ]
      ],
    )

-- none yet
pub known_none : (files : Option FileMap) (stem : List ℕ) (first : ℕ) (newest : Bool) → IsNewer false first newest → IfSome files (λ m. AreKnown (logs_of m stem) 0 first newest)
known_none None stem first newest is = tt
known_none (Some m) stem first newest is = (
  λ yes. elim (is.0 yes) [ inl none ↦ absurd (false≢true none) | inr four ↦ inl four ],
  λ some. elim some [ inl four ↦ is.1 (inr four) | inr has ↦ absurd (omega (arith, has.1.0)) ],
)

-- where none is, the first is not
pub older_none : (first : ℕ) (newest : Bool) → IsNewer false first newest → newest ≡ false → first ≢ 4
older_none first newest is none four = false≢true (sym none ∙ is.1 (inr four))

-- nor was one before
pub older_more : (version : ℕ) (old new : Bool) → IsNewer old version new → new ≡ false → old ≡ false
older_more version true new is none = absurd (false≢true (sym none ∙ is.1 (inl refl)))
older_more version false new is none = refl

-- all of them: the first head read was that of the first log
pub known_all : (plant : Plant) (levels : ℕ) (stem : List ℕ) (files : Option FileMap) (own : LogHead) (newest : Bool) → IfSome files (λ m. IsLogFront plant (head_limits plant levels) (logs_of m stem 0) (head.Whole own))
    → IfSome files (λ m. AreKnown (logs_of m stem) (2 ^ levels) own.version newest) → IfSome files (λ m. AreNewest (logs_of m stem) (2 ^ levels) newest)
known_all plant levels stem None own newest front known = tt
known_all plant levels stem (Some m) own newest front known = (
  λ yes. elim (known.0 yes) [
    | inl four ↦ (0, (pow_pos levels, (newest_head plant (head_limits plant levels) (logs_of m stem 0) own front).0 four))
    | inr has ↦ has
  ],
  λ has. known.1 (inr has),
)

-- what is known of files that are told, and more
pub both_known : (files : Option FileMap) (P Q : FileMap → Type 0) → IfSome files P → IfSome files Q → IfSome files (λ m. P m × Q m)
both_known None P Q one other = tt
both_known (Some m) P Q one other = (one, other)

-- ---- what the joined log can declare

-- the head of version 3 or 4 is as long in either
same_long : (one other : ℕ) (declared : Declared) → IsHeadVersion one → IsHeadVersion other → length (front_text one declared) ≡ length (front_text other declared)
same_long one other declared known known' = omega (arith, whole_long one known, whole_long other known')
  where
    first_long : (version : ℕ) → IsHeadVersion version → length (first_line version) ≡ 9
    first_long version (inl three) = ap (λ (v : ℕ). length (first_line v)) three
    first_long version (inr four) = ap (λ (v : ℕ). length (first_line v)) four

    whole_long : (version : ℕ) → IsHeadVersion version
        → length (front_text version declared) ≡ 10 + length (sum_lines_text (lines_of declared.sums)) + length (setups_text declared.units) + length (tail_text declared.derivations)
    whole_long version is =
        let head' = length-append (first_line version) (10 ∷ sum_lines_text (lines_of declared.sums)) in
        omega (arith, front_long version declared is, head', first_long version is)

-- sums that can be declared in some version can be in version 4
sums_four : (version : ℕ) (limits : Limits) (sums : List Sum) → ((version ≡ 2) ⊎ IsHeadVersion version) → AreKept version limits sums → AreKept 4 limits sums
sums_four version limits sums known kept = record {
  declared = kept.declared;
  rows_there = kept.rows_there;
  slots = λ some. (let own = kept.slots some in omega (arith, own, (most known).0));
  rows = λ some. (let own = kept.rows some in omega (arith, own, (most known).1));
}
  where
    most : ((version ≡ 2) ⊎ IsHeadVersion version) → (most_slots version ≤ 4096) × (most_rows version ≤ 400000)
    most (inl two) = subst (λ (v : ℕ). (most_slots v ≤ 4096) × (most_rows v ≤ 400000)) (sym two) (omega arith, omega arith)
    most (inr (inl three)) = subst (λ (v : ℕ). (most_slots v ≤ 4096) × (most_rows v ≤ 400000)) (sym three) (omega arith, omega arith)
    most (inr (inr four)) = subst (λ (v : ℕ). (most_slots v ≤ 4096) × (most_rows v ≤ 400000)) (sym four) (omega arith, omega arith)

-- the version where sums are declared
abbrev with_sums : Bool → ℕ
with_sums some = if some then 3 else 2

three_then : (n : ℕ) → with_sums (nat_lt 0 (suc n)) ≡ with_sums true
three_then n = let test : nat_lt 0 (suc n) ≡ true = grind (arith, nat_tests) in ap with_sums test

-- a head that declares nothing is short
short_head : length (front_text 4 nothing) < 2 ^ 64
unfolding sum_lines_text tail_lines_text setups_text
short_head = omega arith

-- so is the first line of version 2
short_line : length (lines_text (Header 2 ∷ [])) < 2 ^ 64
unfolding lines_text line_text number_text
short_line = let e = decimal_digit 2 (omega arith) in rw e (omega arith)

-- no setups keep any limits
no_units : (limits : Limits) (sizes : List SetupSize) → AreSetupsKept limits sizes []
no_units limits sizes = record { short = All-nil IsShort; ascending = λ i within. absurd (omega (arith, within)); there = All-nil (λ (unit : ℕ). unit < length sizes); room = λ some. absurd (omega (arith, some)) }

-- what one head declares can be declared by the joined log
pub may_join : (plant : Plant) (limits : Limits) (version : ℕ) (declared : Declared) (newest : Bool) → MayDeclare plant limits version declared → (newest ≡ false → version ≢ 4) → MayDeclare plant limits (joined_version newest declared.sums) declared
may_join plant limits version declared true may older = record {
  known = inr (inr refl);
  plain = λ two. absurd (omega (arith, two));
  few_units = λ other. absurd (other refl);
  few = λ other. absurd (other refl);
  sums = sums_four version limits declared.sums may.known may.sums;
  units = may.units;
  derivations = may.derivations;
  few_bytes = few may.known;
}
  where
    few : ((version ≡ 2) ⊎ IsHeadVersion version) → length (front_text 4 declared) < 2 ^ 64
    few (inl two) =
        let other : version ≢ 4 = (λ four. omega (arith, two, four)) in
        let is : declared ≡ nothing = (λ i. record { sums = may.plain two i; units = may.few_units other i; derivations = may.few other i }) in
        subst (λ (d : Declared). length (front_text 4 d) < 2 ^ 64) (sym is) short_head
    few (inr known) = subst (λ (n : ℕ). n < 2 ^ 64) (same_long version 4 declared known (inr refl)) may.few_bytes
may_join plant limits version declared false may older = by_sums declared.sums refl
  where
    by_sums : (sums : List Sum) → declared.sums ≡ sums → MayDeclare plant limits (if nat_lt 0 (length sums) then 3 else 2) declared
    by_sums [] none = record {
      known = inl refl;
      plain = λ two. none;
      few_units = λ other. may.few_units (older refl);
      few = λ other. may.few (older refl);
      sums = subst (AreKept 2 limits) (sym none) (none_kept 2 limits);
      units = may.units;
      derivations = may.derivations;
      few_bytes = short_line;
    }
    by_sums (sum ∷ sums) some = subst (λ (v : ℕ). MayDeclare plant limits v declared) (sym (three_then (length sums))) (elim may.known [
      | inl two ↦ (let none : sum ∷ sums ≡ [] = sym some ∙ may.plain two in absurd cc)
      | inr known ↦ elim known [
        | inl three ↦ subst (λ (v : ℕ). MayDeclare plant limits v declared) three may
        | inr four ↦ absurd (older refl four)
      ]
    ])

-- a log without a head declares nothing
pub none_declared : (plant : Plant) (limits : Limits) → IsFrontKept plant limits (head.Whole (no_head limits))
none_declared plant limits = record {
  may = record {
    known = inl refl;
    plain = λ two. refl;
    few_units = λ other. refl;
    few = λ other. refl;
    sums = none_kept 2 limits;
    units = no_units (limits_more limits 0) (setup_sizes plant);
    derivations = tt;
    few_bytes = short_line;
  };
  lines = refl;
  limits_are = (λ i. record { rows = same_rows i; slots = same_slots i; points = same_points i; depth = limits.depth });
}
  where
    same_rows : limits.rows ≡ (limits_declared plant limits nothing).rows
    same_rows = omega arith

    same_slots : limits.slots ≡ (limits_declared plant limits nothing).slots
    same_slots = omega arith

    same_points : limits.points ≡ (limits_declared plant limits nothing).points
    same_points = omega arith
